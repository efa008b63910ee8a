use Rattle.tc_c.proofs.Names.{◌≡◌, ◌≤◌, ℕ, LimitedHistory, channels_in, IsHeldAt}
use Rattle.tc_c.proofs.rack.place_of.Given as goal

-- no channel before this place has the id, and each channel is as it was
abbrev pub invariant-loop-place : goal.invariant-loop-place
invariant-loop-place l = record {
  same : channels_in l.seats ≡ channels_in l.fn.seats;
  before : (at : ℕ) (other : LimitedHistory) → IsHeldAt (channels_in l.fn.seats) l.vcid at other → l.place ≤ at;
}
