-- Transfer frames (CCSDS 232.0-B, 4.1).
use Rattle.std.specs.Prelude.{◌≡◌, ℕ, ◌+◌, ◌<◌, ◌≤◌, ◌==◌, ◌||◌, List, length, drop, take, slice_index, Option, Some, None, nat_lt, if◌then◌else◌}
use Rattle.tc_link.specs.Bits.{word_at, bits}
use Rattle.tc_link.specs.declared.frame.Header.{Header}
use Rattle.tc_link.specs.declared.frame.FrameFault.{FrameFault}
use Rattle.tc_link.specs.declared.frame.FrameFault.TheVariants.{Short, Version, Spare, LengthSmall, Truncated}
use Rattle.tc_link.specs.declared.writing.WriteFault.{WriteFault}
use Rattle.tc_link.specs.declared.writing.WriteFault.TheVariants.{BadField, EmptyData, TooLong}

-- the header that the bits of the first five octets spell
abbrev pub header_of : List ℕ → Header
header_of octets = record {
  bypass = bits (word_at octets 0) 13 1 == 1;
  control = bits (word_at octets 0) 12 1 == 1;
  scid = bits (word_at octets 0) 0 10;
  vcid = bits (word_at octets 2) 10 6;
  ns = slice_index octets 4;
}

-- the number of octets of the whole frame, by the frame length field
abbrev pub named_length : List ℕ → ℕ
named_length octets = bits (word_at octets 2) 0 10 + 1

abbrev pub version_of : List ℕ → ℕ
version_of octets = bits (word_at octets 0) 14 2

abbrev pub spare_of : List ℕ → ℕ
spare_of octets = bits (word_at octets 0) 10 2

-- the numbers are octets
abbrev pub IsOctets : List ℕ → Type 0
IsOctets octets = (i : ℕ) → slice_index octets i < 256

-- the octets are one whole frame
pub record IsWhole (octets : List ℕ) : Type 0 where
  pub each : IsOctets octets
  pub least : 6 ≤ length octets
  pub most : length octets ≤ 1024
  pub version : version_of octets ≡ 0
  pub spare : spare_of octets ≡ 0
  pub named : named_length octets ≡ length octets

-- the octets are a frame with this header and this data field
pub record IsFrame (octets : List ℕ) (header : Header) (field : List ℕ) : Type 0 where
  pub whole : IsWhole octets
  pub header_bits : header ≡ header_of octets
  pub rest : field ≡ drop 5 octets

-- the octets begin with this frame, and any octets after the frame are fill
abbrev pub BeginsWith : List ℕ → List ℕ → Type 0
BeginsWith octets frame = IsWhole frame × (frame ≡ take (length frame) octets)

-- each field of the header fits its bits
pub record IsHeader (header : Header) : Type 0 where
  pub scid : header.scid < 1024
  pub vcid : header.vcid < 64
  pub ns : header.ns < 256

-- a data field has 1 to 1,019 octets
pub record IsField (field : List ℕ) : Type 0 where
  pub each : IsOctets field
  pub least : 1 ≤ length field
  pub most : length field ≤ 1019

-- the first fault, in this order, of octets that are to be read
abbrev pub fault_of : List ℕ → Option FrameFault
fault_of octets =
    if nat_lt (length octets) 5 then Some Short
    else if nat_lt 0 (version_of octets) then Some Version
    else if nat_lt 0 (spare_of octets) then Some Spare
    else if nat_lt (named_length octets) 6 then Some LengthSmall
    else if nat_lt (length octets) (named_length octets) then Some Truncated
    else None

-- the first fault, in this order, of a header and a data field that are to be written
abbrev pub write_fault_of : Header → List ℕ → Option WriteFault
write_fault_of header field =
    if nat_lt 1023 header.scid || nat_lt 63 header.vcid then Some BadField
    else if nat_lt (length field) 1 then Some EmptyData
    else if nat_lt 1019 (length field) then Some TooLong
    else None
