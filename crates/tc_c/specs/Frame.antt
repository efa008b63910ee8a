-- Frames as records of numbers.
use Rattle.std.specs.Prelude.{ℕ, List, length, Some, None, Result, Ok, Err}
use Rattle.tc_link.specs.Bits.{bit}
use Rattle.tc_link.specs.declared.frame.Header.{Header}
use Rattle.tc_link.specs.declared.command.Command.TheVariants.{Unlock, SetVr}
use Rattle.tc_link.specs.declared.command.Kind.{Kind}
use Rattle.tc_link.specs.declared.command.Kind.TheVariants.{Ad, Bd, Bc, Invalid}
use Rattle.tc_link.specs.Frame.{header_of, write_fault_of}
use Rattle.tc_c_base.specs.declared.status.Status.{Status}
use Rattle.tc_c_base.specs.declared.status.Status.TheVariants.{Done}
use Rattle.tc_c.specs.declared.frames.HeaderRecord.{HeaderRecord}
use Rattle.tc_c.specs.declared.frames.FrameRecord.{FrameRecord}
use Rattle.tc_c.specs.declared.frames.KindRecord.{KindRecord}
use Rattle.tc_c_base.specs.Status.{code_of}
use Rattle.tc_c.specs.Status.{write_status}
use Rattle.tc_c.specs.Farm.{with_ok, flag_of}

abbrev pub header_record : Header → HeaderRecord
header_record header = record { scid = header.scid; vcid = header.vcid; ns = header.ns; bypass = bit header.bypass; control = bit header.control }

abbrev pub frame_record : List ℕ → FrameRecord
frame_record frame = record { status = code_of Done; header = header_record (header_of frame); length = length frame }

abbrev pub no_frame : Status → FrameRecord
no_frame fault = record { status = code_of fault; header = record { scid = 0; vcid = 0; ns = 0; bypass = 0; control = 0 }; length = 0 }

-- the numbers of kinds, which are also the numbers of their arrivals at FARM-1
abbrev pub kind_number : Kind → ℕ
kind_number (Ad ns) = 1
kind_number Bd = 2
kind_number (Bc Unlock) = 3
kind_number (Bc (SetVr vr)) = 4
kind_number Invalid = 5

abbrev pub kind_value : Kind → ℕ
kind_value (Ad ns) = ns
kind_value Bd = 0
kind_value (Bc Unlock) = 0
kind_value (Bc (SetVr vr)) = vr
kind_value Invalid = 0

abbrev pub kind_record : Kind → KindRecord
kind_record kind = record { status = code_of Done; kind = kind_number kind; number = kind_value kind }

abbrev pub no_kind : Status → KindRecord
no_kind fault = record { status = code_of fault; kind = 0; number = 0 }

-- the header that a record stands for, or `BadFlag` if one of the record's flags is neither 0 nor 1
abbrev pub header_in : HeaderRecord → Result Header Status
header_in header =
    with_ok (flag_of header.bypass) (λ bypass.
    with_ok (flag_of header.control) (λ control.
    Ok (record { bypass = bypass; control = control; scid = header.scid; vcid = header.vcid; ns = header.ns })))

-- the header of the frame to write, or the first reason why this frame can't be written, in the order below
abbrev pub header_to_write : HeaderRecord → List ℕ → Result Header Status
header_to_write header field =
    with_ok (header_in header) (λ read. elim (write_fault_of read field) [ None ↦ Ok read | Some fault ↦ Err (write_status fault) ])
