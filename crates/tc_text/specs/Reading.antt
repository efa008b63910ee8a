-- Reading the octets of a script, and splitting them into lines.
use Rattle.std.specs.Prelude.{◌≡◌, ◌≢◌, ◌<◌, ℕ, List, [], ◌∷◌, ◌++◌, ◌⊎◌, length, All, Option, IfSome}
use Rattle.tc_text.specs.declared.fault.Reason.TheVariants.{NoMemory}
use Rattle.tc_text.specs.declared.fault.ScriptFault.{ScriptFault}
use Rattle.tc_text.specs.declared.fault.ScriptFault.TheVariants.{Line, Read, TooLong, Write, Unbalanced}

-- `line` is the first line of the octets, without its line feed, and `after` is the octets that follow it. A line ends
-- at a line feed, or at the end of the octets.
pub record IsFirstLine (octets line after : List ℕ) : Type 0 where
  pub one : All (λ octet. octet ≢ 10) line
  pub parts : (octets ≡ line ++ 10 ∷ after) ⊎ ((octets ≡ line) × (after ≡ []))
  pub shorter : length after < length octets

-- the largest number of octets that a script may have
abbrev pub script_limit : ℕ
script_limit = 1048576

-- This fault can stop the reading of a script. If the octets of the reader are known, `TooLong` means that the reader
-- has more octets than a script may have. `Line` stands for running out of memory, with the number 0.
abbrev pub IsReadFault : Option (List ℕ) → ScriptFault → Type 0
IsReadFault known Read = Unit {0}
IsReadFault known TooLong = IfSome known (λ octets. script_limit < length octets)
IsReadFault known (Line number reason) = (number ≡ 0) × (reason ≡ NoMemory)
IsReadFault known Write = ⊥
IsReadFault known Unbalanced = ⊥
