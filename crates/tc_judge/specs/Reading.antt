-- The item of an account that octets stand for.
use Rattle.std.specs.Prelude.{◌≡◌, ◌<◌, ℕ, Bool, true, false, ◌==◌, ◌||◌, List, [], ◌∷◌, drop, if◌then◌else◌}
use Rattle.tc_link.specs.Command.{kind_of}
use Rattle.tc_link.specs.Frame.{header_of, BeginsWith}
use Rattle.tc_link.specs.declared.command.Kind.TheVariants.{Invalid}
use Rattle.tc_link.specs.declared.clcw.ClcwFields.{ClcwFields}
use Rattle.tc_link.specs.declared.frame.Header.{Header}
use Rattle.tc_link.specs.declared.farm.Report.{Report}
use Rattle.tc_link.specs.declared.farm.State.{State}
use Rattle.tc_link.specs.declared.farm.State.TheVariants.{S1, S2, S3}
use Rattle.tc_judge.specs.declared.account.SentFrame.{SentFrame}
use Rattle.tc_judge.specs.declared.account.SentFrame.TheVariants.{Known, OtherCommand}

-- The flag that is set if a data field has a first octet, and this octet begins neither an Unlock nor a Set V(R) (CCSDS
-- 232.0-B, 4.1.3.3).
abbrev pub is_other_command : List ℕ → Bool
is_other_command [] = false
is_other_command (a ∷ rest) = if a == 0 || a == 0x82 then false else true

-- a frame with a right check sum, as a unit takes it, by the frame's two flags and its data field
abbrev pub taken_by : Bool → Bool → Header → List ℕ → SentFrame
taken_by true true header field = if is_other_command field then OtherCommand else Known (kind_of header field)
taken_by _ _ header field = Known (kind_of header field)

-- a frame as a unit takes it, given the flag that is set if the frame's check sum is right
abbrev pub as_taken : Bool → List ℕ → SentFrame
as_taken false frame = Known Invalid
as_taken true frame = taken_by (header_of frame).bypass (header_of frame).control (header_of frame) (drop 5 frame)

-- octets begin with this frame, which is for this spacecraft and virtual channel
pub record IsFor (octets frame : List ℕ) (scid vcid : ℕ) : Type 0 where
  pub front : BeginsWith octets frame
  pub spacecraft : (header_of frame).scid ≡ scid
  pub channel : (header_of frame).vcid ≡ vcid

-- the state that the flags of a CLCW show
abbrev pub shown_state : Bool → Bool → State
shown_state true wait = S3
shown_state false true = S2
shown_state false false = S1

-- the components that a CLCW shows
abbrev pub shown : ClcwFields → Report
shown fields = record {
  state = shown_state fields.lockout fields.wait;
  vr = fields.vr;
  lockout = fields.lockout;
  wait = fields.wait;
  retransmit = fields.retransmit;
  farm_b = fields.farm_b;
}

-- components that a unit can have: the counter is below 4, and the flags show the state
pub record IsShown (r : Report) : Type 0 where
  pub counter : r.farm_b < 4
  pub state : r.state ≡ shown_state r.lockout r.wait
