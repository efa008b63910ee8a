use Rattle.std.proofs.Common.{◌≡◌, ◌≤◌, length, take, vec_len, vec_capacity}
use Rattle.tc_rack.proofs.copying.copy_each.Given as goal

-- the settings that the loop has passed are copied, and there is room for the others
abbrev pub invariant-loop-settings : goal.invariant-loop-settings
invariant-loop-settings l = (l.copies.items ≡ take l.settings-index l.list) × (vec_len l.copies ≡ l.settings-index) × (length l.list ≤ vec_capacity l.copies)
