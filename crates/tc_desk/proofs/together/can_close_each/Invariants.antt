use Rattle.tc_desk.proofs.Names.{◌≡◌, ◌<◌, ℕ, Some, slice_get, map, AtHand, accounts_of, CanClose, column}
use Rattle.tc_desk.proofs.together.can_close_each.Given as goal

abbrev pub invariant-loop-place : goal.invariant-loop-place
invariant-loop-place g l = (k : ℕ) → k < l.place → (h : AtHand) → slice_get l.guards k ≡ Some h → CanClose h.owner.own.issued (accounts_of (column k (map g.C.OperatorList.at_desks l.operator_lists))) h.now.entries
