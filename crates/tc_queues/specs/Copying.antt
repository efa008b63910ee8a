-- Copying an item out of a queue.
use Rattle.std.specs.Prelude.{◌≡◌, ℕ, List, ◌++◌, length, drop, nat_lt, slice_get, Option, Some, None, Result, Ok, Err, if◌then◌else◌}
use Rattle.tc_queues.specs.declared.reply.NotCopied.{NotCopied}
use Rattle.tc_queues.specs.declared.reply.NotCopied.TheVariants.{NoQueue, Empty, NoRoom}

-- The item, which has `count` octets, was copied over the first octets. The octets behind them are as before.
abbrev pub IsCopiedIn : Option (List ℕ) → ℕ → List ℕ → List ℕ → Type 0
IsCopiedIn None count old new = ⊥
IsCopiedIn (Some item) count old new = (count ≡ length item) × (new ≡ item ++ drop count old)

-- the length of an item that is copied into `room` octets, or the reason why it can't be copied
abbrev pub copied_in : ℕ → Option (List ℕ) → Result ℕ NotCopied
copied_in room None = Err Empty
copied_in room (Some item) = if nat_lt room (length item) then Err (NoRoom (length item)) else Ok (length item)

-- the length of the oldest of a queue's items, if it can be copied into `room` octets, or the reason why it can't be
-- copied; `None` stands for no queue
abbrev pub copied_out : ℕ → Option (List (List ℕ)) → Result ℕ NotCopied
copied_out room None = Err NoQueue
copied_out room (Some items) = copied_in room (slice_get items 0)
