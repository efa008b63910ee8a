-- The check that frames must pass before they are brought to a channel.
use Rattle.std.specs.Prelude.{◌≡◌, ◌≢◌, ◌⊎◌, ℕ, false, List, None}
use Rattle.tc_link.specs.Frame.{IsWhole, fault_of}
use Rattle.tc_edges.specs.Fecf.Candidate.{IsDelimited, is_fill}
use Rattle.tc_edges.specs.Fecf.FrameWithField.{frame_with_field, taking_fault_of}
use Rattle.tc_text.specs.declared.line.Line.{Line}
use Rattle.tc_text.specs.declared.line.Line.TheVariants.{Frame}
use Rattle.tc_live.specs.declared.check.FrameCheck.{FrameCheck}
use Rattle.tc_live.specs.declared.check.FrameCheck.TheVariants.{Nothing, ErrorControl}

-- `octets` are a frame with its frame error control field, and `passed` is the line of the frame without the field
abbrev pub IsFieldOff : List ℕ → Line → Type 0
IsFieldOff octets passed = (plain : List ℕ) × IsWhole plain × (octets ≡ frame_with_field plain) × (passed ≡ Frame plain)

-- the octets aren't one frame with the right field at its end
abbrev pub HasWrongField : List ℕ → Type 0
HasWrongField octets = taking_fault_of octets ≢ None

-- This is the line that is carried out if a line passes the check. If frames have a field, the line of a frame is
-- carried out without the field. Any other line is carried out as it is.
abbrev pub IsPassed : FrameCheck → Line → Line → Type 0
IsPassed Nothing line passed = passed ≡ line
IsPassed ErrorControl (Frame octets) passed = IsFieldOff octets passed
IsPassed ErrorControl line passed = passed ≡ line

abbrev pub FailsCheck : FrameCheck → Line → Type 0
FailsCheck ErrorControl (Frame octets) = HasWrongField octets
FailsCheck _ line = ⊥

-- the octets that a CLTU carried begin with a frame, and more than fill follows it
abbrev pub CarriesMore : List ℕ → Type 0
CarriesMore octets = (frame : List ℕ) × (rest : List ℕ) × IsDelimited octets frame rest × (is_fill rest ≡ false)

-- This is the line that is carried out if a candidate passes the check. If frames have a field, the line has the frame
-- at the front of the octets, without its frame error control field. The length field of the frame says how long it is.
-- If frames have no field, the line has all octets, since a channel ignores the octets after a frame.
abbrev pub IsCandidatePassed : FrameCheck → List ℕ → Line → Type 0
IsCandidatePassed Nothing octets passed = passed ≡ Frame octets
IsCandidatePassed ErrorControl octets passed = (frame : List ℕ) × (rest : List ℕ) × IsDelimited octets frame rest × IsFieldOff frame passed

abbrev pub FailsCandidate : FrameCheck → List ℕ → Type 0
FailsCandidate Nothing octets = ⊥
FailsCandidate ErrorControl octets =
    (fault_of octets ≢ None) ⊎ ((frame : List ℕ) × (rest : List ℕ) × IsDelimited octets frame rest × HasWrongField frame)
