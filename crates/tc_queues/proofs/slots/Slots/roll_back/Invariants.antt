use Rattle.std.proofs.Common.{◌≡◌, length, take}
use Rattle.tc_queues.proofs.Names.{AreSlots}
use Rattle.tc_queues.proofs.slots.Slots.roll_back.Given as goal

-- the items that wait stay the same
abbrev pub invariant-loop-self : goal.invariant-loop-self
invariant-loop-self g l =
    let s = l.self-inside in
    let old = l.initial.self-inside in
    record {
      slots : AreSlots (length s.ring) s.waiting s.staged s.size s.ring;
      places : length s.ring ≡ length old.ring;
      waiting : s.waiting ≡ old.waiting;
      size : s.size ≡ old.size;
      items : take s.waiting s.ring ≡ take s.waiting old.ring;
    }

abbrev pub decreases-loop-self : goal.decreases-loop-self
decreases-loop-self g l = l.self-inside.staged
