-- The frames in the octets of a CLTU, one after the other, and the fill after them (the frame delimiting and fill
-- removal procedure of CCSDS 232.0-B, which comes before the frame validation check procedure).
use Rattle.std.specs.Prelude.{◌≡◌, ◌⊎◌, ℕ, ◌≤◌, ◌++◌, Bool, List, length, is_some, nat_lt, IsSome, if◌then◌else◌, false}
use Rattle.std.specs.List.{concat, AllByRecursion}
use Rattle.tc_link.specs.Frame.{IsWhole, fault_of}

-- the octets are a whole frame followed by this rest
pub record IsDelimited (octets frame rest : List ℕ) : Type 0 where
  pub whole : IsWhole frame
  pub parts : octets ≡ frame ++ rest

-- The octets are these whole frames, one after the other, followed by this rest. There are at most `most` frames, and
-- fewer only if the rest doesn't begin with a frame.
pub record AreDelimited (most : ℕ) (octets : List ℕ) (frames : List (List ℕ)) (rest : List ℕ) : Type 0 where
  pub each : AllByRecursion IsWhole frames
  pub parts : octets ≡ concat frames ++ rest
  pub few : length frames ≤ most
  pub ended : (length frames ≡ most) ⊎ IsSome (fault_of rest)

-- Whether octets can be the fill of the last code block. There are at most six of them, and they don't begin with a frame.
abbrev pub is_fill : List ℕ → Bool
is_fill rest = if nat_lt 6 (length rest) then false else is_some (fault_of rest)
