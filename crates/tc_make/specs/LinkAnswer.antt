-- The answers to lines about the link: CLTUs and telemetry frames.
use Rattle.std.specs.Prelude.{◌≡◌, ◌⊎◌, ℕ, ◌==◌, ◌||◌, if◌then◌else◌, List, length, codes, nat_lt, Option, Some, None, unwrap_or}
use Rattle.tc_edges.specs.Cltu.Cltu.{cltu, most_octets}
use Rattle.tc_edges.specs.Cltu.Randomiser.{randomised}
use Rattle.tc_edges.specs.Tm.Counting.{Counted, next_header, frame_counted}
use Rattle.tc_edges.specs.Tm.TmFrame.{tm_frame, least_length, most_length, tm_fields_of, read_fault_of}
use Rattle.tc_edges.specs.declared.tm.frame.ErrorControl.{ErrorControl}
use Rattle.tc_edges.specs.declared.tm.frame.ErrorControl.TheVariants.{Absent, Present}
use Rattle.tc_edges.specs.declared.tm.reading.TmReadFault.{TmReadFault}
use Rattle.tc_make.specs.Printed.{Unless, bad_text, named_text, refused_text, tm_fault_text, tm_text}
use Rattle.tc_make.specs.declared.ending.Ending.{Ending}
use Rattle.tc_make.specs.declared.ending.Ending.TheVariants as endings
use Rattle.tc_make.specs.declared.fault.Reason.{Reason}
use Rattle.tc_make.specs.declared.fault.Reason.TheVariants.{BadScid, BadVcid, BadSize, NoData, TooMuchData, NoMemory}
use Rattle.tc_make.specs.declared.line.TmOrder.{TmOrder}

-- the first of the reasons below why there is no CLTU for the octets, or `None` if none of them applies
abbrev pub cltu_reason_of : List ℕ → Option Reason
cltu_reason_of octets =
    if length octets == 0 then Some NoData
    else if nat_lt most_octets (length octets) then Some TooMuchData
    else None

abbrev pub IsCltuSaid : List ℕ → List ℕ → Type 0
IsCltuSaid octets = Unless (cltu_reason_of octets) (λ text. text ≡ named_text (codes "cltu") (cltu octets))

abbrev pub IsRandomSaid : List ℕ → List ℕ → Type 0
IsRandomSaid octets text = text ≡ named_text (codes "random") (randomised octets)

-- the ending of telemetry frames, which have a frame error control field if and only if telecommand frames have one
abbrev pub telemetry_ending : Ending → ErrorControl
telemetry_ending endings.DataField = Absent
telemetry_ending endings.ErrorControl = Present

-- the text explains octets as a telemetry frame, or gives the reason why they aren't one
abbrev pub IsTelemetrySaid : Ending → List ℕ → List ℕ → Type 0
IsTelemetrySaid ending octets text =
    ((read_fault_of (telemetry_ending ending) octets ≡ None) × (text ≡ tm_text (tm_fields_of (telemetry_ending ending) octets)))
    ⊎ ((fault : TmReadFault) × (read_fault_of (telemetry_ending ending) octets ≡ Some fault) × (text ≡ refused_text (tm_fault_text fault)))

-- the first of the reasons below why a telemetry frame isn't made, or `None` if none applies
abbrev pub tm_reason_of : Ending → TmOrder → Option Reason
tm_reason_of ending order =
    if nat_lt 1023 order.scid then Some BadScid
    else if nat_lt 7 order.vcid then Some BadVcid
    else if nat_lt order.size (least_length (telemetry_ending ending)) || nat_lt most_length order.size then Some BadSize
    else None

-- Either the next frame of a virtual channel is counted and the text is the frame's line, or the counts stay the same
-- and the text gives the reason why the frame isn't made.
abbrev pub IsTmSaid : Ending → Counted → TmOrder → Counted → List ℕ → Type 0
IsTmSaid ending old order new text =
    ((tm_reason_of ending order ≡ None) × (new ≡ frame_counted old order.scid order.vcid)
    × (text ≡ named_text (codes "tm") (tm_frame (telemetry_ending ending) (next_header old order.scid order.vcid) order.control order.size)))
    ⊎ ((new ≡ old) × (text ≡ bad_text (unwrap_or (tm_reason_of ending order) NoMemory)))
