-- Telemetry frames that carry a CLCW, as records of numbers.
use Rattle.std.specs.Prelude.{ℕ, Bool, true, false, List, length, Result, Ok, Err, Some, None, nat_lt, if◌then◌else◌}
use Rattle.std.specs.Int.{from_be_bytes, to_be_bytes, w32}
use Rattle.tc_edges.specs.declared.tm.frame.ErrorControl.{ErrorControl}
use Rattle.tc_edges.specs.declared.tm.frame.ErrorControl.TheVariants.{Absent, Present}
use Rattle.tc_edges.specs.declared.tm.frame.TmHeader.{TmHeader}
use Rattle.tc_edges.specs.declared.tm.frame.TmFault.{TmFault}
use Rattle.tc_edges.specs.declared.tm.frame.TmFault.TheVariants as writing
use Rattle.tc_edges.specs.declared.tm.reading.TmFields.{TmFields}
use Rattle.tc_edges.specs.declared.tm.reading.TmReadFault.{TmReadFault}
use Rattle.tc_edges.specs.declared.tm.reading.TmReadFault.TheVariants as reading
use Rattle.tc_edges.specs.Tm.TmFrame.{tm_frame, most_length, tm_fault_of, tm_fields_of, read_fault_of}
use Rattle.tc_c_base.specs.declared.status.Status.{Status}
use Rattle.tc_c_base.specs.declared.status.Status.TheVariants as st
use Rattle.tc_c.specs.declared.telemetry.TmHeaderRecord.{TmHeaderRecord}
use Rattle.tc_c.specs.declared.telemetry.TmFieldsRecord.{TmFieldsRecord}
use Rattle.tc_c_base.specs.Status.{code_of}
use Rattle.tc_c.specs.Farm.{with_ok, flag_of}

-- the choice that the flag stands for: frames end with a frame error control field, or without one
abbrev pub error_of : Bool → ErrorControl
error_of true = Present
error_of false = Absent

abbrev pub error_given : ℕ → Result ErrorControl Status
error_given fecf = with_ok (flag_of fecf) (λ present. Ok (error_of present))

-- the header that a record stands for
abbrev pub tm_header_in : TmHeaderRecord → TmHeader
tm_header_in header = record {
  scid = header.scid;
  vcid = header.vcid;
  master_count = header.master_count;
  channel_count = header.channel_count;
}

abbrev pub tm_header_record : TmHeader → TmHeaderRecord
tm_header_record header = record {
  scid = header.scid;
  vcid = header.vcid;
  master_count = header.master_count;
  channel_count = header.channel_count;
}

abbrev pub tm_write_status : TmFault → Status
tm_write_status writing.BadScid = st.BadField
tm_write_status writing.BadVcid = st.BadField
tm_write_status writing.BadLength = st.BadLength
tm_write_status writing.NoMemory = st.NoMemory

abbrev pub tm_read_status : TmReadFault → Status
tm_read_status reading.Short = st.BadLength
tm_read_status reading.Version = st.Version
tm_read_status reading.NoControl = st.NoControl
tm_read_status reading.WrongSum = st.WrongFecf

-- the given choice, if a frame with this header and `size` octets can be written with it, or the first reason why no
-- such frame can be written
abbrev pub tm_allowed : TmHeaderRecord → ℕ → ErrorControl → Result ErrorControl Status
tm_allowed header size error = elim (tm_fault_of error header.scid header.vcid size) [ None ↦ Ok error | Some fault ↦ Err (tm_write_status fault) ]

abbrev pub tm_to_write : TmHeaderRecord → ℕ → ℕ → Result ErrorControl Status
tm_to_write header fecf size = with_ok (error_given fecf) (tm_allowed header size)

-- the frame that carries this CLCW
abbrev pub tm_frame_carrying : ErrorControl → TmHeaderRecord → ℕ → ℕ → List ℕ
tm_frame_carrying error header clcw size = tm_frame error (tm_header_in header) (to_be_bytes w32 clcw) size

-- The fields of the octets as a telemetry frame, or the first reason why they aren't one. No frame is longer than the
-- longest one that can be written.
abbrev pub tm_read : List ℕ → ErrorControl → Result TmFields Status
tm_read octets error =
    if nat_lt most_length (length octets) then Err st.BadLength
    else elim (read_fault_of error octets) [ None ↦ Ok (tm_fields_of error octets) | Some fault ↦ Err (tm_read_status fault) ]

abbrev pub tm_to_read : ℕ → List ℕ → Result TmFields Status
tm_to_read fecf octets = with_ok (error_given fecf) (tm_read octets)

abbrev pub tm_record : TmFields → TmFieldsRecord
tm_record fields = record {
  status = code_of st.Done;
  clcw = from_be_bytes w32 fields.control;
  header = tm_header_record fields.header;
  pointer = fields.pointer;
}

abbrev pub no_tm : Status → TmFieldsRecord
no_tm fault = record {
  status = code_of fault;
  clcw = 0;
  header = record { scid = 0; vcid = 0; master_count = 0; channel_count = 0 };
  pointer = 0;
}
