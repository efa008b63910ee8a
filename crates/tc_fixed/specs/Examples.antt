-- Limits whose faults are worked out by hand.
use Rattle.std.specs.Prelude.{ℕ, [], ◌∷◌}
use Rattle.tc_fixed.specs.declared.limits.Limits.{Limits}

-- a limit of `octets` octets for each of two MAPs, and the limit `others` for all other MAPs
abbrev pub limits_on : ℕ → ℕ → ℕ → ℕ → Limits
limits_on others one other octets = record { others = others; maps = record { map = one; octets = octets } ∷ record { map = other; octets = octets } ∷ [] }
