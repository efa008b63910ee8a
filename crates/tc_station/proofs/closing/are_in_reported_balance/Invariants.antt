use Rattle.tc_station.proofs.Names.{◌≡◌, ◌<◌, ℕ, Some, slice_get, History, IsNumberReported, IsInBalance}
use Rattle.tc_station.proofs.closing.are_in_reported_balance.Given as goal

abbrev pub invariant-loop-place : goal.invariant-loop-place
invariant-loop-place l = (k : ℕ) → k < l.place → (h : History) → slice_get l.channels k ≡ Some h → IsInBalance l.vcids l.operators k h × IsNumberReported h
