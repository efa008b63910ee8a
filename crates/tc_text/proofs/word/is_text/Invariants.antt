use Rattle.std.proofs.Common.{◌≡◌, ◌<◌, ◌≤◌, ℕ, length, get_or}
use Rattle.tc_text.proofs.word.is_text.Given as goal

-- all octets before this place are equal
abbrev pub invariant-loop-place : goal.invariant-loop-place
invariant-loop-place l = (place : ℕ) → place < l.place → get_or l.word place 0 ≡ get_or l.text place 0
