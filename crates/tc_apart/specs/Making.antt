-- Lines that order the frames of a sender's units from tcmake, and the text that tcmake writes for these lines.
use Rattle.std.specs.Prelude.{◌≡◌, ◌⊎◌, ℕ, ◌+◌, ◌%◌, Bool, true, false, List, [], ◌∷◌, ◌++◌, length, map, None, Ok}
use Rattle.tc_packet.specs.SpacePacket.{joined}
use Rattle.tc_lines.specs.Answering.{too_long_text}
use Rattle.tc_lines.specs.Word.{words}
use Rattle.tc_make.specs.Ending.{ended}
use Rattle.tc_make.specs.Line.{ad_header, maker_line_of}
use Rattle.tc_make.specs.Printed.{bad_text, frames_text}
use Rattle.tc_make.specs.declared.ending.Ending.{Ending}
use Rattle.tc_make.specs.declared.fault.Reason.{Reason}
use Rattle.tc_make.specs.declared.line.Line.{Line}
use Rattle.tc_make.specs.declared.line.Line.TheVariants.{Frame, Segments}
use Rattle.tc_make.specs.declared.line.Stream.{Stream}
use Rattle.tc_edges.specs.Write.Parts.{segments_needed}
use Rattle.tc_laws.specs.Ends.Ends.{AreNumbered, UnitSent}

-- the line that orders a unit: its segments in Type-AD frames, or one Type-AD frame whose data field is the unit
abbrev pub order_for : Bool → Stream → UnitSent → Line
order_for true stream u = Segments stream (record { map = u.map_id; size = u.size }) (joined u.packets)
order_for false stream u = Frame (ad_header stream) None (joined u.packets)

-- the number of frames in which a unit is sent
abbrev pub frames_needed : Bool → UnitSent → ℕ
frames_needed true u = segments_needed u.size (length (joined u.packets))
frames_needed false u = 1

-- the lines order these units, one after the other, and count N(S) on over all of them
abbrev pub AskFor : Bool → Stream → List UnitSent → List (List ℕ) → Type 0
AskFor segmented stream [] lines = lines ≡ []
AskFor segmented stream (u ∷ units) lines =
    (line : List ℕ) × (later : List (List ℕ)) × (lines ≡ line ∷ later) × (maker_line_of (words line) ≡ Ok (order_for segmented stream u))
    × AskFor segmented (record stream { ns = (stream.ns + frames_needed segmented u) % 256 }) units later

-- after the lines of some frames, or of none, the text has a line with `bad` and the reason
pub record HasBadLine (text : List ℕ) : Type 0 where
  pub frames : List (List ℕ)
  pub bad : List ℕ
  pub rest : List ℕ
  pub parts : text ≡ frames_text frames ++ (bad ++ rest)
  pub reason : ((reason : Reason) × (bad ≡ bad_text reason)) ⊎ (bad ≡ too_long_text)

-- the text has the frames of these units, each with its frame error control field if frames have one, in hexadecimal
-- digits on a line of its own
abbrev pub AreSpelled : Ending → Bool → Stream → List UnitSent → List ℕ → Type 0
AreSpelled ending segmented stream units text =
    (frames : List (List ℕ)) × AreNumbered segmented (ad_header stream) units frames × (text ≡ frames_text (map (ended ending) frames))
