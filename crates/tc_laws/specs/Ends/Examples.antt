-- A session that was worked out by hand, to be read with the definitions: `learnt_by_9` of `Loops`, with its frames in
-- CLTUs.
use Rattle.std.specs.Prelude.{ℕ, false, true, List, [], ◌∷◌, ◌++◌}
use Rattle.tc_link.specs.declared.frame.Header.{Header}
use Rattle.tc_edges.specs.Cltu.Cltu.{start_sequence, tail_sequence}
use Rattle.tc_edges.specs.Cltu.Reception.{idle}
use Rattle.tc_edges.specs.declared.cltu.block.Mode.TheVariants.{Correct}
use Rattle.tc_channel.specs.declared.event.Event.TheVariants.{Release, Take}
use Rattle.tc_laws.specs.Ends.Arrivals.{Coming, LinkEnd, Octets, Asks}
use Rattle.tc_laws.specs.Ends.Ends.{UnitSent}

-- the packet that the first frame of the era carries, on MAP 0, as a unit in one segment
abbrev pub packet : List ℕ
packet = 0x10 ∷ 0x05 ∷ 0xc0 ∷ 0x00 ∷ 0x00 ∷ 0x00 ∷ 0xaa ∷ []

abbrev pub one_unit : List UnitSent
one_unit = record { map_id = 0; size = 249; packets = packet ∷ [] } ∷ []

-- a unit of two packets, on the last MAP and in segments of one octet
abbrev pub in_small_segments : UnitSent
in_small_segments = record { map_id = 63; size = 1; packets = packet ∷ packet ∷ [] }

abbrev pub first_header : Header
first_header = record { bypass = false; control = false; scid = 42; vcid = 1; ns = 9 }

abbrev pub first_frame : List ℕ
first_frame = 0x00 ∷ 0x2a ∷ 0x04 ∷ 0x0c ∷ 0x09 ∷ (0xc0 ∷ packet)

-- code blocks between a start sequence and a tail sequence
abbrev pub enclosing : List ℕ → List ℕ
enclosing blocks = start_sequence ++ blocks ++ tail_sequence

-- The CLTUs of the frames of `learnt_by_9`, which have frame error control fields. The parity octets were computed by a
-- long division, and the fields by Python's binascii.crc_hqx with the preset ffff.

-- the CLTU of the earlier frame, with one bit of the first octet flipped
abbrev pub of_before : List ℕ
of_before = enclosing (0x80 ∷ 0x00 ∷ 0x00 ∷ 0x07 ∷ 0x00 ∷ 0x00 ∷ 0x8b ∷ 0xde ∷ 0x80 ∷ 0x55 ∷ 0x55 ∷ 0x55 ∷ 0x55 ∷ 0x55 ∷ 0x55 ∷ 0xac ∷ [])

-- the CLTU of Set V(R) to 9, as it was sent
abbrev pub of_set_v_r : List ℕ
of_set_v_r = enclosing (0x30 ∷ 0x2a ∷ 0x04 ∷ 0x09 ∷ 0x00 ∷ 0x82 ∷ 0x00 ∷ 0xda ∷ 0x09 ∷ 0x80 ∷ 0x94 ∷ 0x55 ∷ 0x55 ∷ 0x55 ∷ 0x55 ∷ 0x26 ∷ [])

-- one CLTU of the first frame of the era and the Type-BD frame, with 2b in place of 2a in the first code block, and the
-- parity octet 44 in place of 46 in the second
abbrev pub of_both : List ℕ
of_both = enclosing (0x00 ∷ 0x2b ∷ 0x04 ∷ 0x0e ∷ 0x09 ∷ 0xc0 ∷ 0x10 ∷ 0x62 ∷ 0x05 ∷ 0xc0 ∷ 0x00 ∷ 0x00 ∷ 0x00 ∷ 0xaa ∷ 0xa9 ∷ 0x44
    ∷ 0xb2 ∷ 0x20 ∷ 0x2a ∷ 0x04 ∷ 0x08 ∷ 0x00 ∷ 0xc1 ∷ 0xca ∷ 0x00 ∷ 0x05 ∷ 0x92 ∷ 0x55 ∷ 0x55 ∷ 0x55 ∷ 0x55 ∷ 0xb2 ∷ [])

-- a start sequence, and a code block of Set V(R) with two bits of the first octet flipped, which is rejected
abbrev pub of_nothing : List ℕ
of_nothing = start_sequence ++ 0x33 ∷ 0x2a ∷ 0x04 ∷ 0x09 ∷ 0x00 ∷ 0x82 ∷ 0x00 ∷ 0xda ∷ []

-- the octets of Set V(R) with a wrong frame error control field, which the CLTU of the next definition carries
abbrev pub with_wrong_field : List ℕ
with_wrong_field = 0x30 ∷ 0x2a ∷ 0x04 ∷ 0x09 ∷ 0x00 ∷ 0x82 ∷ 0x00 ∷ 0x09 ∷ 0x80 ∷ 0x95 ∷ []

abbrev pub of_wrong : List ℕ
of_wrong = enclosing (0x30 ∷ 0x2a ∷ 0x04 ∷ 0x09 ∷ 0x00 ∷ 0x82 ∷ 0x00 ∷ 0xda ∷ 0x09 ∷ 0x80 ∷ 0x95 ∷ 0x55 ∷ 0x55 ∷ 0x55 ∷ 0x55 ∷ 0xcc ∷ [])

-- The link end of a receiver whose decoder corrects errors. The receiver takes several frames out of a CLTU, and frames
-- have a frame error control field.
abbrev pub correcting : LinkEnd
correcting = record { mode = Correct; several = true; field = true }

-- the inputs: idle octets, the frames in CLTUs, between them two CLTUs that are refused, and then two releases and a
-- take
abbrev pub in_cltus : List Coming
in_cltus =
    Octets (idle 2) ∷ Octets of_before ∷ Octets of_set_v_r ∷ Octets of_nothing ∷ Octets of_wrong ∷ Octets of_set_v_r ∷ Octets of_both
    ∷ Asks Release ∷ Asks Release ∷ Asks (Take 5) ∷ []
