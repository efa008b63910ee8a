-- The results of reading a line.
use Rattle.std.specs.Prelude.{◌≡◌, ◌≢◌, ◌≤◌, ◌+◌, ℕ, Bool, true, false, List, [], ◌∷◌, ◌++◌, All, length, take, nat_lt, Option, OnSome}
use Rattle.std.specs.Io.KnownBytes.{Consumes, IsAtEnd}
use Rattle.tc_lines.specs.declared.reading.Front.{Front}
use Rattle.tc_lines.specs.declared.reading.LineRead.{LineRead}
use Rattle.tc_lines.specs.declared.reading.Part.{Part}

-- no octet is a line feed
abbrev pub IsOneLine : List ℕ → Type 0
IsOneLine line = All (λ octet. octet ≢ 10) line

-- the line feed of a line, if one ended it
abbrev pub feed_of : Bool → List ℕ
feed_of true = 10 ∷ []
feed_of false = []

-- A line and its line feed were taken from a reader, or all octets of the reader if there was no line feed. The first
-- `limit` octets of the line are kept.
pub record IsLineRead (limit : ℕ) (old new : Option (List ℕ)) (kept : List ℕ) (read : LineRead) : Type 0 where
  pub line : List ℕ
  pub one : IsOneLine line
  pub lost : Consumes old new (line ++ feed_of read.ended)
  pub end : read.ended ≡ false → OnSome old (IsAtEnd new)
  pub kept_is : kept ≡ take limit line
  pub too_long_is : read.too_long ≡ nat_lt limit (length line)

-- A part of a line was taken from a reader, and its octets were added to those that were kept `before`. At most `limit`
-- octets are kept in all.
pub record IsPartRead (limit : ℕ) (old new : Option (List ℕ)) (before after : List ℕ) (part : Part) : Type 0 where
  pub octets : List ℕ
  pub one : IsOneLine octets
  pub lost : Consumes old new (octets ++ feed_of part.ended)
  pub more : part.goes_on ≡ true → part.ended ≡ false
  pub end : part.goes_on ≡ false → part.ended ≡ false → OnSome old (IsAtEnd new)
  pub after_is : after ≡ take limit (before ++ octets)
  pub over_is : part.over ≡ nat_lt limit (length before + length octets)

-- the result of a read that took no octets, after which more of the line may follow
abbrev pub nothing_yet : Part
nothing_yet = record { over = false; goes_on = true; ended = false }

-- `front` is the front of the octets, up to their first line feed
pub record IsFront (octets : List ℕ) (front : Front) : Type 0 where
  pub one : IsOneLine (take front.line octets)
  pub all_is : take front.all octets ≡ take front.line octets ++ feed_of front.ended
  pub line_within : front.line ≤ length octets
  pub all_within : front.all ≤ length octets
  pub whole : front.ended ≡ false → front.all ≡ length octets
