-- The reasons why nothing is taken from the queues.
use Rattle.std.specs.Prelude.{◌≡◌, ℕ, ◌<◌, List, length, Option, Some, None}
use Rattle.tc_queues.specs.declared.reply.NotCopied.{NotCopied}
use Rattle.tc_queues.specs.declared.reply.NotCopied.TheVariants.{NoQueue, Empty, NoRoom}
use Rattle.tc_fixed.specs.declared.faults.NothingTaken.{NothingTaken}
use Rattle.tc_fixed.specs.declared.faults.NothingTaken.TheVariants as taking
use Rattle.tc_fixed.specs.declared.faults.NoUnitTaken.{NoUnitTaken}
use Rattle.tc_fixed.specs.declared.faults.NoUnitTaken.TheVariants as unit_taking

-- there is an item, and it has `needed` octets, which is more than there is room for
abbrev pub IsOver : ℕ → ℕ → Option (List ℕ) → Type 0
IsOver room needed None = ⊥
IsOver room needed (Some item) = (room < length item) × (needed ≡ length item)

-- the fault of a packet queue for a fault that both kinds of queues have in common
abbrev pub packet_fault_of : NotCopied → NothingTaken
packet_fault_of NoQueue = taking.NoQueue
packet_fault_of Empty = taking.Empty
packet_fault_of (NoRoom needed) = taking.NoRoom needed

abbrev pub unit_fault_of : NotCopied → NoUnitTaken
unit_fault_of NoQueue = unit_taking.NoMap
unit_fault_of Empty = unit_taking.Empty
unit_fault_of (NoRoom needed) = unit_taking.NoRoom needed
