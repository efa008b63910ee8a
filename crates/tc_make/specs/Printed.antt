-- The texts of answers, which docs/reference/tcmake.md shows.
use Rattle.std.specs.Prelude.{◌≡◌, ◌⊎◌, ℕ, Bool, true, false, ◌==◌, if◌then◌else◌, List, [], ◌∷◌, ◌++◌, length, codes, decimal, slice_index, nat_lt, Option, Some, None}
use Rattle.std.specs.List.{flat_map}
use Rattle.tc_edges.specs.Fecf.Candidate.{is_fill}
use Rattle.tc_link.specs.declared.clcw.ClcwFields.{ClcwFields}
use Rattle.tc_link.specs.declared.command.Command.TheVariants.{Unlock, SetVr}
use Rattle.tc_link.specs.declared.command.Kind.{Kind}
use Rattle.tc_link.specs.declared.command.Kind.TheVariants.{Ad, Bd, Bc, Invalid}
use Rattle.tc_link.specs.declared.frame.FrameFault.{FrameFault}
use Rattle.tc_link.specs.declared.frame.FrameFault.TheVariants.{Short, Version, Spare, LengthSmall, Truncated}
use Rattle.tc_link.specs.declared.frame.Header.{Header}
use Rattle.tc_packet.specs.Bits.{word_at, bits}
use Rattle.tc_packet.specs.Segment.{segment_of}
use Rattle.tc_packet.specs.SpacePacket.{apid_of, is_telecommand, packets_of, rest_of}
use Rattle.tc_packet.specs.declared.packet.Packet.{Packet}
use Rattle.tc_packet.specs.declared.segment.Part.{Part}
use Rattle.tc_packet.specs.declared.segment.Part.TheVariants.{First, Continuing, Last, Unsegmented}
use Rattle.tc_packet.specs.declared.segment.Segment.{Segment}
pub use Rattle.tc_lines.specs.Printed.{octets_text, flag_text}
use Rattle.tc_edges.specs.declared.tm.reading.TmFields.{TmFields}
use Rattle.tc_edges.specs.declared.tm.reading.TmReadFault.{TmReadFault}
use Rattle.tc_edges.specs.declared.tm.reading.TmReadFault.TheVariants as telemetry
use Rattle.tc_make.specs.declared.explaining.Explanation.{Explanation}
use Rattle.tc_make.specs.declared.fault.Reason.{Reason}
use Rattle.tc_make.specs.declared.fault.Reason.TheVariants.{UnknownCommand, Marked, WordCount, BadNumber, BadHex, BadMode, BadClcw, BadScid, BadVcid, BadMap, BadApid, BadCount, BadSize, NoData, TooMuchData, NoDecoder, NoMemory}
use Rattle.tc_make.specs.declared.form.Form.{Form}
use Rattle.tc_make.specs.declared.form.Form.TheVariants as forms
use Rattle.tc_make.specs.declared.form.Number.{Number}
use Rattle.tc_make.specs.declared.form.Number.TheVariants as numbers

-- the words of a reason, with which the answer to a bad line begins
abbrev pub unmade_text : Reason → List ℕ
unmade_text UnknownCommand = codes "bad unknown command"
unmade_text Marked = codes "bad unknown command"
unmade_text (WordCount form) = codes "bad wrong number of words"
unmade_text (BadNumber number) = codes "bad number"
unmade_text BadHex = codes "bad hex"
unmade_text BadMode = codes "bad mode"
unmade_text BadClcw = codes "bad clcw"
unmade_text BadScid = codes "bad spacecraft"
unmade_text BadVcid = codes "bad channel"
unmade_text BadMap = codes "bad map"
unmade_text BadApid = codes "bad application"
unmade_text BadCount = codes "bad count"
unmade_text BadSize = codes "bad size"
unmade_text NoData = codes "bad no data"
unmade_text TooMuchData = codes "bad too much data"
unmade_text NoDecoder = codes "bad no decoder"
unmade_text NoMemory = codes "bad no memory"

-- the name of a command and the names of its words
abbrev pub form_text : Form → List ℕ
form_text forms.Packet = codes "packet APID COUNT HEX"
form_text forms.Ad = codes "ad SCID VC NS MAP HEX"
form_text forms.Bd = codes "bd SCID VC MAP HEX"
form_text forms.Unlock = codes "unlock SCID VC"
form_text forms.SetVr = codes "setvr SCID VC X"
form_text forms.Segments = codes "segments SCID VC NS MAP SIZE HEX"
form_text forms.Explain = codes "explain HEX"
form_text forms.Clcw = codes "clcw HEX"
form_text forms.Cltu = codes "cltu HEX"
form_text forms.Random = codes "random HEX"
form_text forms.Tm = codes "tm SCID VC SIZE HEX"
form_text forms.Telemetry = codes "telemetry HEX"
form_text forms.Decoder = codes "decoder ID MODE"
form_text forms.Octets = codes "octets ID HEX"
form_text forms.Search = codes "search ID"
form_text forms.Frames = codes "frames MOST HEX"

-- The note on the octets that the last word of a form spells. It is empty for the four forms whose last word spells
-- none.
abbrev pub note_text : Form → List ℕ
note_text forms.Unlock = []
note_text forms.SetVr = []
note_text forms.Decoder = []
note_text forms.Search = []
note_text form = codes ", octets without spaces"

-- the name that forms use for a number, and the bounds of the number
abbrev pub bounds_text : Number → List ℕ
bounds_text numbers.Scid = codes "SCID is 0 to 1023"
bounds_text numbers.Vcid = codes "VC is 0 to 63, for tm 0 to 7"
bounds_text numbers.Ns = codes "NS is 0 to 255"
bounds_text numbers.Map = codes "MAP is 0 to 63"
bounds_text numbers.Size = codes "SIZE is 1 to 1018, for tm 11 to 2048"
bounds_text numbers.Apid = codes "APID is 0 to 2047"
bounds_text numbers.Count = codes "COUNT is 0 to 16383"
bounds_text numbers.Vr = codes "X is 0 to 255"
bounds_text numbers.Id = codes "ID is 0 to 255"
bounds_text numbers.Most = codes "MOST is 0 to 255"

-- the text that follows the reason why a number is bad
abbrev pub within_text : Number → List ℕ
within_text number = codes ": " ++ bounds_text number ++ codes "\n"

-- the text that follows a reason: a hint on how to mend the line, if one is known, and the end of the line
abbrev pub hint_text : Reason → List ℕ
hint_text UnknownCommand = codes ": use packet, ad, bd, unlock, setvr, segments, explain, clcw, cltu, random, tm, telemetry, decoder, octets, search or frames\n"
hint_text Marked = codes ": the line begins with a byte order mark; save the file without it\n"
hint_text (WordCount form) = codes ": write " ++ form_text form ++ note_text form ++ codes "\n"
hint_text (BadNumber number) = within_text number
hint_text BadHex = codes ": HEX is two hexadecimal digits for each octet\n"
hint_text BadMode = codes ": MODE is detect or correct\n"
hint_text BadClcw = codes ": HEX is four octets\n"
hint_text BadScid = within_text numbers.Scid
hint_text BadVcid = within_text numbers.Vcid
hint_text BadMap = within_text numbers.Map
hint_text BadApid = within_text numbers.Apid
hint_text BadCount = within_text numbers.Count
hint_text BadSize = within_text numbers.Size
hint_text reason = codes "\n"

-- the line `bad ..`, with the reason and a hint
abbrev pub bad_text : Reason → List ℕ
bad_text reason = unmade_text reason ++ hint_text reason

-- a line of a word and octets
abbrev pub named_text : List ℕ → List ℕ → List ℕ
named_text word octets = word ++ codes " " ++ octets_text octets ++ codes "\n"

-- a line of a word and octets, or nothing if there are no octets
abbrev pub some_text : List ℕ → List ℕ → List ℕ
some_text word octets = if length octets == 0 then [] else named_text word octets

-- the line `refused ..`, with the reason why octets can't be explained
abbrev pub refused_text : List ℕ → List ℕ
refused_text why = codes "refused " ++ why ++ codes "\n"

-- the word for the reason why octets don't begin with a frame
abbrev pub frame_fault_text : FrameFault → List ℕ
frame_fault_text Short = codes "short"
frame_fault_text Version = codes "version"
frame_fault_text Spare = codes "spare"
frame_fault_text LengthSmall = codes "length"
frame_fault_text Truncated = codes "truncated"

-- the kind of a frame, as a function of its bypass flag and its control command flag
abbrev pub kind_text : Bool → Bool → List ℕ
kind_text false false = codes "AD"
kind_text true false = codes "BD"
kind_text true true = codes "BC"
kind_text false true = codes "AC"

-- the beginning of the line `header ..`: the fields of the header
abbrev pub fields_text : Header → List ℕ
fields_text header =
    codes "header " ++ kind_text header.bypass header.control ++ codes " scid " ++ decimal header.scid ++ codes " vc " ++ decimal header.vcid
    ++ codes " ns " ++ decimal header.ns

-- the end of the line `header ..`: the number of octets of the frame, and the number of octets that follow it
abbrev pub lengths_text : ℕ → ℕ → List ℕ
lengths_text n fill = codes " octets " ++ decimal n ++ codes " fill " ++ decimal fill ++ codes "\n"

abbrev pub header_text : Header → ℕ → ℕ → List ℕ
header_text header n fill = fields_text header ++ lengths_text n fill

abbrev pub part_text : Part → List ℕ
part_text First = codes "first"
part_text Continuing = codes "continuing"
part_text Last = codes "last"
part_text Unsegmented = codes "unsegmented"

-- the line `segment ..`: a segment header, and the number of octets that follow it
abbrev pub segment_text : Segment → ℕ → List ℕ
segment_text segment n =
    codes "segment " ++ part_text segment.part ++ codes " map " ++ decimal segment.map ++ codes " octets " ++ decimal n ++ codes "\n"

abbrev pub type_text : Bool → List ℕ
type_text true = codes "TC"
type_text false = codes "TM"

-- the beginning of the line `holds ..`: the packet type, the APID, the sequence count and the sequence flags
abbrev pub holds_text : Bool → ℕ → ℕ → ℕ → List ℕ
holds_text telecommand apid count flags =
    codes "holds " ++ type_text telecommand ++ codes " apid " ++ decimal apid ++ codes " count " ++ decimal count ++ codes " flags " ++ decimal flags

-- the end of the line `holds ..`: the secondary header flag, and the whole packet
abbrev pub whole_text : Bool → List ℕ → List ℕ
whole_text secondary octets = codes " secondary " ++ flag_text secondary ++ codes " " ++ octets_text octets ++ codes "\n"

-- the line of a packet that was read
abbrev pub printed_text : Packet → List ℕ
printed_text p = holds_text p.telecommand p.apid p.count p.flags ++ whole_text p.secondary p.octets.now

-- the line of the packet that consists of these octets
abbrev pub packet_text : List ℕ → List ℕ
packet_text octets =
    holds_text (is_telecommand octets) (apid_of octets) (bits (word_at octets 2) 0 14) (bits (word_at octets 2) 14 2)
    ++ whole_text (bits (word_at octets 0) 11 1 == 1) octets

-- the lines of the packets of a unit in order, and then the line of the octets that are left
abbrev pub unit_packets_text : List ℕ → List ℕ
unit_packets_text unit = flat_map packet_text (packets_of unit) ++ some_text (codes "rest") (rest_of unit)

-- the lines of the octets after a segment header, which are a whole unit or a part of one
abbrev pub body_text : Part → List ℕ → List ℕ
body_text First body = some_text (codes "body") body
body_text Continuing body = some_text (codes "body") body
body_text Last body = some_text (codes "body") body
body_text Unsegmented body = unit_packets_text body

-- the lines of a data field that begins with a segment header
abbrev pub carried_text : List ℕ → List ℕ
carried_text [] = []
carried_text (octet ∷ body) = segment_text (segment_of octet) (length body) ++ body_text (segment_of octet).part body

-- the lines of a data field, which depend on the kind of its frame
abbrev pub field_text : Kind → List ℕ → List ℕ
field_text (Ad ns) field = carried_text field
field_text Bd field = carried_text field
field_text (Bc Unlock) field = codes "command unlock\n"
field_text (Bc (SetVr vr)) field = codes "command setvr " ++ decimal vr ++ codes "\n"
field_text Invalid field = named_text (codes "invalid") field

-- the explanation of a frame's header, and of its data field
unfoldable pub frame_text : Explanation → List ℕ
frame_text e = header_text e.header e.length (length e.rest.now) ++ field_text e.kind e.field.now

-- the line of the octets that follow a frame, unless they are fill
unfoldable pub more_text : List ℕ → List ℕ
more_text rest = if is_fill rest then [] else named_text (codes "more") rest

abbrev pub explanation_text : Explanation → List ℕ
explanation_text e = frame_text e ++ more_text e.rest.now

-- a line for each of the frames
abbrev pub frames_text : List (List ℕ) → List ℕ
frames_text frames = flat_map (named_text (codes "frame")) frames

abbrev pub fill_text : ℕ → List ℕ
fill_text n = codes "fill " ++ decimal n ++ codes "\n"

-- the line of the octets that follow the frames of a CLTU: their number if they are fill, and otherwise the octets
unfoldable pub rest_text : List ℕ → List ℕ
rest_text rest = if is_fill rest then fill_text (length rest) else named_text (codes "more") rest

-- the beginning of the line `clcw ..`: the channel, the status and the flags of the link
abbrev pub clcw_front_text : ClcwFields → List ℕ
clcw_front_text f =
    codes "clcw vc " ++ decimal f.vcid ++ codes " status " ++ decimal f.status ++ codes " norf " ++ flag_text f.link.no_rf
    ++ codes " nobitlock " ++ flag_text f.link.no_bit_lock

-- the flags that FARM-1 reports
abbrev pub flags_text : ClcwFields → List ℕ
flags_text f = codes " lockout " ++ flag_text f.lockout ++ codes " wait " ++ flag_text f.wait ++ codes " retransmit " ++ flag_text f.retransmit

-- the numbers that FARM-1 reports
abbrev pub numbers_text : ClcwFields → List ℕ
numbers_text f = codes " farmb " ++ decimal f.farm_b ++ codes " vr " ++ decimal f.vr ++ codes "\n"

abbrev pub clcw_text : ClcwFields → List ℕ
clcw_text f = clcw_front_text f ++ (flags_text f ++ numbers_text f)

-- the reason why octets aren't a telemetry frame
abbrev pub tm_fault_text : TmReadFault → List ℕ
tm_fault_text telemetry.Short = codes "short"
tm_fault_text telemetry.Version = codes "version"
tm_fault_text telemetry.NoControl = codes "control"
tm_fault_text telemetry.WrongSum = codes "check"

-- the beginning of the line `tm ..`: the spacecraft and the virtual channel of the frame, and its counts
abbrev pub tm_front_text : TmFields → List ℕ
tm_front_text f =
    codes "tm scid " ++ decimal f.header.scid ++ codes " vc " ++ decimal f.header.vcid ++ codes " master " ++ decimal f.header.master_count
    ++ codes " channel " ++ decimal f.header.channel_count

-- The kind of an operational control field. If its first bit is 0 it is a Type-1 report, the CLCW, and otherwise a
-- Type-2 report (CCSDS 132.0-B, 4.1.5).
abbrev pub control_text : List ℕ → List ℕ
control_text control = if nat_lt 127 (slice_index control 0) then codes "report" else codes "clcw"

-- the end of the line `tm ..`: the first header pointer and the operational control field
abbrev pub tm_end_text : TmFields → List ℕ
tm_end_text f = codes " pointer " ++ decimal f.pointer ++ codes " " ++ control_text f.control ++ codes " " ++ octets_text f.control ++ codes "\n"

abbrev pub tm_text : TmFields → List ℕ
tm_text f = tm_front_text f ++ tm_end_text f

-- the text satisfies `Is`, or is the answer that memory ran out
abbrev pub OrNoMemory : (List ℕ → Type 0) → List ℕ → Type 0
OrNoMemory Is text = Is text ⊎ (text ≡ bad_text NoMemory)

-- If there is a reason why nothing is made, the text gives this reason. Otherwise the text satisfies `Is`.
abbrev pub Unless : Option Reason → (List ℕ → Type 0) → List ℕ → Type 0
Unless (Some reason) Is text = text ≡ bad_text reason
Unless None Is text = Is text
