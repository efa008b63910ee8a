-- The unit that its segments make when they are reassembled (CCSDS 232.0-B, 4.4).
use Rattle.std.specs.Prelude.{◌≡◌, ℕ, ◌<◌, List, [], ◌∷◌, ◌++◌, length, slice_index_or, Some}
use Rattle.tc_packet.specs.Reassembly.{IsUnit}
use Rattle.tc_edges.specs.Write.Frames.{Carries}
use Rattle.tc_edges.specs.Write.Parts.{segments_needed, part_at, piece_at}

-- the data fields carry the pieces of a unit on this MAP, one after the other, each of at most `size` octets
pub record AreSegments (map size : ℕ) (unit : List ℕ) (fields : List (List ℕ)) : Type 0 where
  pub count : length fields ≡ segments_needed size (length unit)
  pub each : (k : ℕ) → k < length fields
      → Carries (Some (record { part = part_at k (segments_needed size (length unit)); map = map })) (slice_index_or fields k []) (piece_at size unit k)

-- the last of the data fields completes this unit, after the data fields before it
pub record MakeUnit (fields : List (List ℕ)) (unit : List ℕ) : Type 0 where
  pub before : List (List ℕ)
  pub last : List ℕ
  pub parts : fields ≡ before ++ last ∷ []
  pub unit_ends : IsUnit before last unit
