-- Octets and flags as text.
use Rattle.std.specs.Prelude.{ℕ, Bool, List, decimal}
use Rattle.std.specs.Int.{from_bool}
use Rattle.hex.specs.Hex.{encode_lower}

-- octets as text: two hexadecimal digits for each, in lower case
abbrev pub octets_text : List ℕ → List ℕ
octets_text octets = encode_lower octets

-- a flag as text: 1 if it is set, and 0 if it isn't
abbrev pub flag_text : Bool → List ℕ
flag_text flag = decimal (from_bool flag)
