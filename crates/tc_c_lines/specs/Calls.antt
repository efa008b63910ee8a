-- The results of the calls on a session.
use Rattle.std.specs.Prelude.{◌≡◌, ◌⊎◌, ◌<◌, ◌≤◌, ◌==◌, if◌then◌else◌, nat_lt, ℕ, List, length, Option, Some, None, Result, Ok, Err}
use Rattle.tc_c_base.specs.Status.{code_of}
use Rattle.tc_c_base.specs.Written.{IsCopied, too_short}
use Rattle.tc_c_base.specs.declared.buffer.WrittenRecord.{WrittenRecord}
use Rattle.tc_c_base.specs.declared.status.Status.{Status}
use Rattle.tc_c_base.specs.declared.status.Status.TheVariants as st
use Rattle.tc_live.specs.Receiver.{new_receiver}
use Rattle.tc_live.specs.declared.check.FrameCheck.{FrameCheck}
use Rattle.tc_live.specs.declared.check.FrameCheck.TheVariants.{Nothing, ErrorControl}
use Rattle.tc_live.specs.declared.ends.FrameEnds.{FrameEnds}
use Rattle.tc_live.specs.declared.ends.FrameEnds.TheVariants.{NoFrame, EachWithField, OneWithout}
use Rattle.tc_make.specs.Making.{new_maker}
use Rattle.tc_make.specs.declared.ending.Ending.{Ending}
use Rattle.tc_make.specs.declared.ending.Ending.TheVariants as endings
use Rattle.tc_session.specs.Session.{IsEnded, IsSaid}
use Rattle.tc_session.specs.declared.engine.Engine.{Engine}
use Rattle.tc_session.specs.declared.engine.Engine.TheVariants.{Live, Script, Make}
use Rattle.tc_session.specs.declared.session.Said.{Said}
use Rattle.tc_session.specs.declared.session.Said.TheVariants.{Done, Bad, NoMemory, Lost, Over}
use Rattle.tc_session.specs.declared.session.Session.{Session as SessionValue}

-- the check that frames must pass, given the flag for their frame error control field
abbrev pub check_of : ℕ → Result FrameCheck Status
check_of fecf = if fecf == 0 then Ok Nothing else if fecf == 1 then Ok ErrorControl else Err st.BadFlag

-- the ending that frames get, given the flag for their frame error control field
abbrev pub ending_of : ℕ → Result Ending Status
ending_of fecf = if fecf == 0 then Ok endings.DataField else if fecf == 1 then Ok endings.ErrorControl else Err st.BadFlag

-- The engine with which a session starts, or the first fault of the arguments, for each of the three kinds of sessions.
-- These definitions leave out the case in which memory runs out.
abbrev pub live_with : ℕ → Result FrameCheck Status → Result Engine Status
live_with scid (Ok check) = Ok (Live (new_receiver check scid))
live_with scid (Err fault) = Err fault

abbrev pub live_start : ℕ → ℕ → Result Engine Status
live_start scid fecf = if nat_lt 1023 scid then Err st.BadScid else live_with scid (check_of fecf)

abbrev pub script_start : ℕ → Result Engine Status
script_start scid = if nat_lt 1023 scid then Err st.BadScid else Ok (Script (new_receiver Nothing scid) 0)

abbrev pub maker_with : Result Ending Status → Result Engine Status
maker_with (Ok ending) = Ok (Make (new_maker ending))
maker_with (Err fault) = Err fault

abbrev pub maker_start : ℕ → Result Engine Status
maker_start fecf = maker_with (ending_of fecf)

-- the engine was created, or there was no memory for it, or the status is the fault of the arguments
abbrev pub IsMade : Result Engine Status → Result Engine Status → Type 0
IsMade (Ok engine) result = (result ≡ Ok engine) ⊎ (result ≡ Err st.NoMemory)
IsMade (Err fault) result = result ≡ Err fault

-- a session with this engine is held, and none of its texts waits
abbrev pub IsFresh : Engine → Option SessionValue → Type 0
IsFresh engine held = (session : SessionValue) × (held ≡ Some session) × (session.engine ≡ engine) × (session.waits ≡ None)

-- a session started in a seat that held none, or the seat is as it was and the status is the reason
abbrev pub IsStarted : Result Engine Status → Option SessionValue → Option SessionValue → ℕ → Type 0
IsStarted start (Some held) new result = (result ≡ code_of st.SessionInUse) × (new ≡ Some held)
IsStarted (Err fault) None new result = (result ≡ code_of fault) × (new ≡ None)
IsStarted (Ok engine) None new result =
    ((result ≡ code_of st.Done) × IsFresh engine new) ⊎ ((result ≡ code_of st.NoMemory) × (new ≡ None))

-- the status of an outcome
abbrev pub outcome_status : Said → Status
outcome_status Done = st.Done
outcome_status Bad = st.BadLine
outcome_status NoMemory = st.NoMemory
outcome_status Lost = st.Lost
outcome_status Over = st.Over

-- Either the whole text is at the front of the buffer. Or the buffer is too short and stays as it was, and the text
-- waits.
abbrev pub IsGiven : Said → List ℕ → List ℕ → List ℕ → Option Said → WrittenRecord → Type 0
IsGiven said text old new waits result =
    ((length text ≤ length old) × (result ≡ record { status = code_of (outcome_status said); length = length text }) × IsCopied text old new
    × (waits ≡ None))
    ⊎ ((length old < length text) × (result ≡ too_short (length text)) × (new ≡ old) × (waits ≡ Some said))

-- a line is carried out, and the text of its answer is written to the buffer or waits
abbrev pub IsAnswerGiven : SessionValue → List ℕ → SessionValue → List ℕ → List ℕ → WrittenRecord → Type 0
IsAnswerGiven old line new buffer filled result =
    (said : Said) × IsSaid said old.engine line new.engine new.text.items × IsGiven said new.text.items buffer filled new.waits result

-- the lines end, and the text of the final report is written to the buffer or waits
abbrev pub IsReportGiven : SessionValue → SessionValue → List ℕ → List ℕ → WrittenRecord → Type 0
IsReportGiven old new buffer filled result =
    (said : Said) × IsEnded said old.engine new.engine new.text.items × IsGiven said new.text.items buffer filled new.waits result

-- 1 if frames came and each of them ended with its frame error control field, otherwise 0
abbrev pub flag_of : FrameEnds → ℕ
flag_of NoFrame = 0
flag_of EachWithField = 1
flag_of OneWithout = 0
