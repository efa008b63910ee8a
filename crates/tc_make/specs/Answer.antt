-- The answers to lines.
use Rattle.std.specs.Prelude.{◌≡◌, ◌⊎◌, ℕ, suc, ◌<◌, ◌==◌, if◌then◌else◌, Bool, true, false, List, [], ◌∷◌, ◌++◌, length, codes, Option, Some, None, Result, Ok, Err}
use Rattle.std.specs.Int.{from_be_bytes, w32}
use Rattle.std.specs.List.{flat_map}
use Rattle.tc_link.specs.Frame.{fault_of}
use Rattle.tc_link.specs.Clcw.{IsClcw, fields_of}
use Rattle.tc_link.specs.declared.command.Command.{Command}
use Rattle.tc_link.specs.declared.frame.FrameFault.{FrameFault}
use Rattle.tc_link.specs.declared.frame.Header.{Header}
use Rattle.tc_packet.specs.declared.segment.Segment.{Segment}
use Rattle.tc_edges.specs.Fecf.Candidate.{IsDelimited, AreDelimited}
use Rattle.tc_edges.specs.Fecf.FrameWithField.{frame_with_field, taking_fault_of}
use Rattle.tc_edges.specs.declared.fecf.frames.FieldFault.{FieldFault}
use Rattle.tc_edges.specs.declared.fecf.frames.FieldFault.TheVariants as fields
use Rattle.tc_make.specs.Ending.{ended, ending_reason_of}
use Rattle.tc_make.specs.Explanation.{Explains}
use Rattle.tc_make.specs.Frames.{IsMadeFrame, IsCommandFrame, frame_reason_of, command_reason_of}
use Rattle.tc_make.specs.Packets.{IsMadePacket, packet_reason_of}
use Rattle.tc_make.specs.Parting.{IsFrameAt, parting_reason_of}
use Rattle.tc_edges.specs.Write.Parts.{segments_needed}
use Rattle.tc_make.specs.Decoders.{IsDecoderSaid, IsPieceSaid, IsSearchSaid}
use Rattle.tc_make.specs.LinkAnswer.{IsCltuSaid, IsRandomSaid, IsTelemetrySaid, IsTmSaid}
pub use Rattle.tc_make.specs.Printed.{OrNoMemory, Unless, frames_text}
use Rattle.tc_make.specs.Printed.{bad_text, named_text, refused_text, frame_fault_text, explanation_text, rest_text, clcw_text}
use Rattle.tc_make.specs.declared.ending.Ending.{Ending}
use Rattle.tc_make.specs.declared.ending.Ending.TheVariants.{DataField, ErrorControl}
use Rattle.tc_make.specs.declared.explaining.Explanation.{Explanation}
use Rattle.tc_make.specs.declared.fault.Reason.{Reason}
use Rattle.tc_make.specs.declared.fault.Reason.TheVariants.{NoMemory, BadClcw}
use Rattle.tc_make.specs.declared.line.Line.{Line}
use Rattle.tc_make.specs.declared.line.Line.TheVariants.{Blank, Packet, Frame, Command as CommandLine, Segments, Explain, Clcw, Cltu, Random, Tm, Telemetry, Decoder, Piece, Search, Frames}
use Rattle.tc_make.specs.declared.line.Sizing.{Sizing}
use Rattle.tc_make.specs.declared.line.Stream.{Stream}
use Rattle.tc_make.specs.declared.maker.Maker.{Maker}
use Rattle.tc_make.specs.declared.parting.Parting.{Parting}

abbrev pub IsMadePacketSaid : ℕ → ℕ → List ℕ → List ℕ → Type 0
IsMadePacketSaid apid count octets =
    Unless (packet_reason_of apid count octets) (λ text. (packet : List ℕ) × IsMadePacket packet apid count octets × (text ≡ named_text (codes "packet") packet))

-- the text is the line of the frame after its ending is added, or gives the reason why the frame can't have this ending
abbrev pub IsEnded : Ending → List ℕ → List ℕ → Type 0
IsEnded ending frame = Unless (ending_reason_of ending frame) (λ text. text ≡ named_text (codes "frame") (ended ending frame))

abbrev pub IsMadeFrameSaid : Ending → Header → Option Segment → List ℕ → List ℕ → Type 0
IsMadeFrameSaid ending header segment octets =
    Unless (frame_reason_of header segment octets) (λ text. (frame : List ℕ) × IsMadeFrame frame header segment octets × IsEnded ending frame text)

abbrev pub IsCommandSaid : Ending → ℕ → ℕ → Command → List ℕ → Type 0
IsCommandSaid ending scid vcid command =
    Unless (command_reason_of scid vcid) (λ text. (frame : List ℕ) × IsCommandFrame frame scid vcid command × IsEnded ending frame text)

-- `sent` is the frame at a place of a unit, counted from 0, with this ending
abbrev pub IsSentAt : Ending → Parting → ℕ → List ℕ → Type 0
IsSentAt ending p place sent = (frame : List ℕ) × IsFrameAt p place frame × (ending_reason_of ending frame ≡ None) × (sent ≡ ended ending frame)

-- this is a reason why the frame at a place isn't made: memory ran out, or the frame can't have this ending
abbrev pub IsStopAt : Ending → Parting → ℕ → Reason → Type 0
IsStopAt ending p place reason = (reason ≡ NoMemory) ⊎ ((frame : List ℕ) × IsFrameAt p place frame × (ending_reason_of ending frame ≡ Some reason))

-- these are frames of a unit with this ending: one for each place from `place` on, in order, up to some place
abbrev pub AreSent : Ending → Parting → ℕ → List (List ℕ) → Type 0
AreSent ending p place [] = Unit {0}
AreSent ending p place (sent ∷ later) = IsSentAt ending p place sent × AreSent ending p (suc place) later

-- If the flag is set, the text is the line of one frame. Otherwise it gives the reason why the frame isn't made.
abbrev pub IsPartSaid : Bool → Ending → Parting → ℕ → List ℕ → Type 0
IsPartSaid true ending p place text = (sent : List ℕ) × IsSentAt ending p place sent × (text ≡ named_text (codes "frame") sent)
IsPartSaid false ending p place text = (reason : Reason) × IsStopAt ending p place reason × (text ≡ bad_text reason)

abbrev pub parts_of : Parting → ℕ
parts_of p = segments_needed p.size (length p.unit.now)

-- The text has the lines of all frames of a unit. If a frame isn't made, the text has the lines of the frames before
-- it, and then the reason why it isn't made.
abbrev pub IsFramesSaid : Ending → Parting → List ℕ → Type 0
IsFramesSaid ending p text =
    (frames : List (List ℕ)) × AreSent ending p 0 frames
    × (((length frames ≡ parts_of p) × (text ≡ frames_text frames))
    ⊎ ((length frames < parts_of p) × ((reason : Reason) × IsStopAt ending p (length frames) reason × (text ≡ frames_text frames ++ bad_text reason))))

-- the fields of the parting have the values of the line's stream, sizing and unit
pub record IsPartingOf (stream : Stream) (sizing : Sizing) (unit : List ℕ) (p : Parting) : Type 0 where
  pub scid : p.scid ≡ stream.scid
  pub vcid : p.vcid ≡ stream.vcid
  pub ns : p.ns ≡ stream.ns
  pub map : p.map ≡ sizing.map
  pub size : p.size ≡ sizing.size
  pub octets : p.unit.now ≡ unit

abbrev pub IsUnitSaid : Ending → Stream → Sizing → List ℕ → List ℕ → Type 0
IsUnitSaid ending stream sizing unit text = (p : Parting) × IsPartingOf stream sizing unit p × Unless (parting_reason_of p) (IsFramesSaid ending p) text

-- the text explains a whole frame, and the octets that follow it
abbrev pub IsWholeSaid : List ℕ → List ℕ → List ℕ → Type 0
IsWholeSaid frame rest text = (e : Explanation) × Explains frame rest e × (text ≡ explanation_text e)

-- the text that is written if no frame error control field can be removed
abbrev pub field_fault_text : FieldFault → List ℕ
field_fault_text (fields.NoFrame fault) = refused_text (frame_fault_text fault)
field_fault_text fields.Fill = refused_text (codes "fill")
field_fault_text fields.TooLong = refused_text (codes "check")
field_fault_text fields.TooShort = refused_text (codes "check")
field_fault_text fields.WrongSum = refused_text (codes "check")
field_fault_text fields.NoMemory = bad_text NoMemory

-- The text explains a frame with this ending. A frame error control field is removed first. If it can't be removed, the
-- text gives the reason instead.
abbrev pub IsEndedSaid : Ending → List ℕ → List ℕ → List ℕ → Type 0
IsEndedSaid DataField frame rest text = IsWholeSaid frame rest text
IsEndedSaid ErrorControl frame rest text =
    ((plain : List ℕ) × (frame ≡ frame_with_field plain) × (taking_fault_of frame ≡ None) × IsWholeSaid plain rest text)
    ⊎ ((fault : FieldFault) × (taking_fault_of frame ≡ Some fault) × (text ≡ field_fault_text fault))

-- the text explains the frame at the front of the octets, or gives the reason why there is no frame or no explanation
abbrev pub IsExplained : Ending → List ℕ → List ℕ → Type 0
IsExplained ending octets text =
    ((frame : List ℕ) × (rest : List ℕ) × IsDelimited octets frame rest × IsEndedSaid ending frame rest text)
    ⊎ ((fault : FrameFault) × (fault_of octets ≡ Some fault) × (text ≡ refused_text (frame_fault_text fault)))

-- the text has the lines of the frames that a CLTU carried, at most `most`, and the line of the octets that follow them
abbrev pub AreFramesSaid : ℕ → List ℕ → List ℕ → Type 0
AreFramesSaid most octets text =
    (frames : List (List ℕ)) × (rest : List ℕ) × AreDelimited most octets frames rest × (text ≡ frames_text frames ++ rest_text rest)

-- the text explains a word as a CLCW, or reports that the word isn't a CLCW
abbrev pub IsWordSaid : ℕ → List ℕ → Type 0
IsWordSaid word text = (IsClcw word × (text ≡ clcw_text (fields_of word))) ⊎ ((IsClcw word → ⊥) × (text ≡ refused_text (codes "clcw")))

-- The text explains four octets, the most significant one first, as a CLCW, or reports that they aren't a CLCW. If
-- there aren't exactly four octets, the text gives this reason instead.
abbrev pub IsClcwSaid : List ℕ → List ℕ → Type 0
IsClcwSaid octets = Unless (if length octets == 4 then None else Some BadClcw) (IsWordSaid (from_be_bytes w32 octets))

-- this parsed line has this answer, with these counts and decoders afterwards
abbrev pub IsSaid : Maker → Line → Maker → List ℕ → Type 0
IsSaid old Blank new = OrNoMemory (λ text. text ≡ [])
IsSaid old (Packet apid count octets) new = OrNoMemory (IsMadePacketSaid apid count octets)
IsSaid old (Frame header segment octets) new = OrNoMemory (IsMadeFrameSaid old.ending header segment octets)
IsSaid old (CommandLine scid vcid command) new = OrNoMemory (IsCommandSaid old.ending scid vcid command)
IsSaid old (Segments stream sizing unit) new = OrNoMemory (IsUnitSaid old.ending stream sizing unit)
IsSaid old (Explain octets) new = OrNoMemory (IsExplained old.ending octets)
IsSaid old (Clcw octets) new = OrNoMemory (IsClcwSaid octets)
IsSaid old (Cltu octets) new = OrNoMemory (IsCltuSaid octets)
IsSaid old (Random octets) new = OrNoMemory (IsRandomSaid octets)
IsSaid old (Telemetry octets) new = OrNoMemory (IsTelemetrySaid old.ending octets)
IsSaid old (Tm order) new = IsTmSaid old.ending old.counts order new.counts
IsSaid old (Decoder id mode) new = IsDecoderSaid old.decoders id mode new.decoders
IsSaid old (Piece id octets) new = IsPieceSaid old.decoders id octets new.decoders
IsSaid old (Search id) new = IsSearchSaid old.decoders id new.decoders
IsSaid old (Frames most octets) new = OrNoMemory (AreFramesSaid most octets)

-- Only a line for a telemetry frame changes the counts, and only a line for the decoder of a stream changes the
-- decoders. No line changes any other part of the state.
abbrev pub IsKept : Maker → Line → Maker → Type 0
IsKept old (Tm order) new = new ≡ record old { counts = new.counts }
IsKept old (Decoder id mode) new = new ≡ record old { decoders = new.decoders }
IsKept old (Piece id octets) new = new ≡ record old { decoders = new.decoders }
IsKept old (Search id) new = new ≡ record old { decoders = new.decoders }
IsKept old line new = new ≡ old

-- This is the answer to a line. If the line can't be parsed, the answer is the reason.
abbrev pub IsReadingSaid : Maker → Result Line Reason → Maker → List ℕ → Type 0
IsReadingSaid old (Ok line) new text = IsSaid old line new text × IsKept old line new
IsReadingSaid old (Err reason) new text = (text ≡ bad_text reason) × (new ≡ old)

abbrev pub IsAnswer : Maker → Result Line Reason → Maker → List ℕ → Type 0
IsAnswer old said new text = IsReadingSaid old said new text ⊎ ((text ≡ bad_text NoMemory) × (new ≡ old))
