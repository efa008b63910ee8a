-- The segments of a unit (CCSDS 232.0-B, 4.1.3.2.2).
use Rattle.std.specs.Prelude.{ℕ, ◌+◌, ◌-◌, ◌*◌, ◌/◌, ◌==◌, List, drop, length, take, if◌then◌else◌}
use Rattle.tc_packet.specs.declared.segment.Part.{Part}
use Rattle.tc_packet.specs.declared.segment.Part.TheVariants.{First, Continuing, Last, Unsegmented}
use Rattle.tc_packet.specs.declared.segment.Segment.{Segment}

-- The number of segments of `size` octets that carry `n` octets. The last of them may be shorter.
abbrev pub segments_needed : ℕ → ℕ → ℕ
segments_needed size n = (n + size - 1) / size

-- the part of the unit that the segment at a place carries
abbrev pub part_at : ℕ → ℕ → Part
part_at place count =
    if count == 1 then Unsegmented
    else if place == 0 then First
    else if place + 1 == count then Last
    else Continuing

-- the segment header of the segment at a place
abbrev pub segment_at : ℕ → ℕ → ℕ → List ℕ → Segment
segment_at map size place unit = record { part = part_at place (segments_needed size (length unit)); map = map }

-- the octets of a unit that the segment at a place carries
abbrev pub piece_at : ℕ → List ℕ → ℕ → List ℕ
piece_at size unit place = take size (drop (place * size) unit)
