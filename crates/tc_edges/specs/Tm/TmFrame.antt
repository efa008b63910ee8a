-- Telemetry transfer frames that carry only idle data and an operational control field (CCSDS 132.0-B, 4.1).
use Rattle.std.specs.Prelude.{ℕ, ◌-◌, ◌<◌, ◌==◌, ◌||◌, List, [], ◌∷◌, ◌++◌, length, drop, take, replicate, slice_index, Option, Some, None, nat_lt, if◌then◌else◌}
use Rattle.tc_link.specs.Bits.{word_at, bits, joined}
use Rattle.tc_edges.specs.Fecf.Checksum.{checksum_of}
use Rattle.tc_edges.specs.Fecf.FrameWithField.{spelled}
use Rattle.tc_edges.specs.declared.tm.frame.ErrorControl.{ErrorControl}
use Rattle.tc_edges.specs.declared.tm.frame.ErrorControl.TheVariants.{Absent, Present}
use Rattle.tc_edges.specs.declared.tm.frame.TmHeader.{TmHeader}
use Rattle.tc_edges.specs.declared.tm.frame.TmFault.{TmFault}
use Rattle.tc_edges.specs.declared.tm.frame.TmFault.TheVariants.{BadScid, BadVcid, BadLength}
use Rattle.tc_edges.specs.declared.tm.reading.TmFields.{TmFields}
use Rattle.tc_edges.specs.declared.tm.reading.TmReadFault.{TmReadFault}
use Rattle.tc_edges.specs.declared.tm.reading.TmReadFault.TheVariants.{Short, Version, NoControl, WrongSum}

-- each identifier fits its bits
pub record IsTmHeader (header : TmHeader) : Type 0 where
  pub scid : header.scid < 1024
  pub vcid : header.vcid < 8

-- the first 16 bits: the version, the spacecraft, the virtual channel, and the flag for the presence of an operational
-- control field, each with its number of bits
abbrev pub identifiers : TmHeader → ℕ
identifiers header = joined ((2, 0) ∷ (10, header.scid) ∷ (3, header.vcid) ∷ (1, 1) ∷ [])

-- the first header pointer of a frame that has only idle data
abbrev pub only_idle : ℕ
only_idle = 2046

-- The data field status. The flags for a secondary header, synchronization and packet order are 0. The segment length
-- identifier is 3, as it must be if the synchronization flag is 0. The first header pointer follows.
abbrev pub idle_status : ℕ
idle_status = joined ((1, 0) ∷ (1, 0) ∷ (1, 0) ∷ (2, 3) ∷ (11, only_idle) ∷ [])

-- the primary header (4.1.2), with the frame counts of the master channel and of the virtual channel
abbrev pub primary_header : TmHeader → List ℕ
primary_header header = spelled (identifiers header) ++ header.master_count ∷ header.channel_count ∷ spelled idle_status

-- the `n` octets before the error control field: the header, idle data, and the operational control field (4.1.5)
abbrev pub before_sum : TmHeader → List ℕ → ℕ → List ℕ
before_sum header control n = primary_header header ++ replicate (n - 10) 0x55 ++ control

-- A frame of `n` octets. Its error control field (4.1.6), if it has one, covers all octets before it.
abbrev pub tm_frame : ErrorControl → TmHeader → List ℕ → ℕ → List ℕ
tm_frame Absent header control n = before_sum header control n
tm_frame Present header control n = before_sum header control (n - 2) ++ spelled (checksum_of (before_sum header control (n - 2)))

-- the length of the shortest frame of this crate, which has one octet of idle data
abbrev pub least_length : ErrorControl → ℕ
least_length Absent = 11
least_length Present = 13

abbrev pub most_length : ℕ
most_length = 2048

-- the first fault, in this order, of a frame that is to be written
abbrev pub tm_fault_of : ErrorControl → ℕ → ℕ → ℕ → Option TmFault
tm_fault_of error scid vcid n =
    if nat_lt 1023 scid then Some BadScid
    else if nat_lt 7 vcid then Some BadVcid
    else if nat_lt n (least_length error) || nat_lt most_length n then Some BadLength
    else None

-- the fields that the bits of a frame without an error control field spell
abbrev pub fields_before_sum : List ℕ → TmFields
fields_before_sum octets = record {
  header = record {
    scid = bits (word_at octets 0) 4 10;
    vcid = bits (word_at octets 0) 1 3;
    master_count = slice_index octets 2;
    channel_count = slice_index octets 3;
  };
  pointer = bits (word_at octets 4) 0 11;
  control = drop (length octets - 4) octets;
}

abbrev pub tm_fields_of : ErrorControl → List ℕ → TmFields
tm_fields_of Absent octets = fields_before_sum octets
tm_fields_of Present octets = fields_before_sum (take (length octets - 2) octets)

abbrev pub sum_fault_of : ErrorControl → List ℕ → Option TmReadFault
sum_fault_of Absent octets = None
sum_fault_of Present octets = if checksum_of octets == 0 then None else Some WrongSum

-- the first fault, in this order, of octets that are to be read
abbrev pub read_fault_of : ErrorControl → List ℕ → Option TmReadFault
read_fault_of error octets =
    if nat_lt (length octets) (least_length error) then Some Short
    else if nat_lt 0 (bits (word_at octets 0) 14 2) then Some Version
    else if bits (word_at octets 0) 0 1 == 0 then Some NoControl
    else sum_fault_of error octets
