-- Telemetry frames whose bits were worked out by hand, to be read beside the definitions.
use Rattle.std.specs.Prelude.{ℕ, List, [], ◌∷◌}
use Rattle.tc_edges.specs.declared.tm.frame.TmHeader.{TmHeader}
use Rattle.tc_edges.specs.declared.tm.reading.TmFields.{TmFields}

-- spacecraft 42 and virtual channel 1, with these counts of their frames
abbrev pub header : TmHeader
header = record { scid = 42; vcid = 1; master_count = 255; channel_count = 7 }

-- a CLCW: COP-1 in effect, virtual channel 1, no flag set, V(R) 1
abbrev pub control : List ℕ
control = 0x01 ∷ 0x04 ∷ 0x00 ∷ 0x01 ∷ []

-- The first 16 bits are 00 0000101010 001 1: the version, the spacecraft, the virtual channel, and a 1, since there is
-- an operational control field. The two counts follow. The next 16 bits are 0 0 0 11 11111111110: the flags for a
-- secondary header, synchronization and packet order, the segment length identifier, and the pointer for only idle data.
-- An octet of idle data and the CLCW follow.
abbrev pub frame : List ℕ
frame = 0x02 ∷ 0xa3 ∷ 0xff ∷ 0x07 ∷ 0x1f ∷ 0xfe ∷ 0x55 ∷ 0x01 ∷ 0x04 ∷ 0x00 ∷ 0x01 ∷ []

-- this frame with its frame error control field, which Python's `binascii.crc_hqx(.., 0xffff)` computes
abbrev pub frame_with_sum : List ℕ
frame_with_sum = 0x02 ∷ 0xa3 ∷ 0xff ∷ 0x07 ∷ 0x1f ∷ 0xfe ∷ 0x55 ∷ 0x01 ∷ 0x04 ∷ 0x00 ∷ 0x01 ∷ 0x73 ∷ 0xd2 ∷ []

-- the fields of both frames
abbrev pub fields : TmFields
fields = record { header = header; pointer = 2046; control = control }
