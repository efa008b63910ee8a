-- A CLTU on its way, some of whose bits are flipped (CCSDS 231.0-B), and the events that a stream of octets brings
-- about at a receiver.
use Rattle.std.specs.Prelude.{◌≡◌, ℕ, ◌≤◌, ◌⊎◌, Bool, true, false, List, [], ◌∷◌, ◌++◌, length, map, None}
use Rattle.std.specs.List.{AllByRecursion, concat, flat_map}
use Rattle.tc_link.specs.Frame.{IsWhole}
use Rattle.tc_edges.specs.Fecf.Candidate.{AreDelimited, IsDelimited, is_fill}
use Rattle.tc_edges.specs.Fecf.FrameWithField.{frame_with_field}
use Rattle.tc_edges.specs.Cltu.Cltu.{filled, most_octets}
use Rattle.tc_edges.specs.Cltu.CodeBlock.{IsInformation, decoded, errors, most_errors}
use Rattle.tc_edges.specs.Cltu.Reception.{Reception, Searching, frames_of, is_start, state_after}
use Rattle.tc_edges.specs.declared.cltu.block.Mode.{Mode}
use Rattle.tc_channel.specs.declared.event.Event.{Event}
use Rattle.tc_channel.specs.declared.event.Event.TheVariants.{Frame}
use Rattle.tc_laws.specs.Loops.Loop.{Action, events_at}

-- These code blocks are received when these octets are sent, seven octets to a block. No block has more wrong bits than
-- the mode tolerates.
abbrev pub AreNearBlocks : Mode → List ℕ → List ℕ → Type 0
AreNearBlocks mode [] blocks = blocks ≡ []
AreNearBlocks mode (a ∷ b ∷ c ∷ d ∷ e ∷ f ∷ g ∷ rest) blocks =
    (own : List ℕ) × (last : ℕ) × (later : List ℕ) × IsInformation own × (blocks ≡ (own ++ last ∷ []) ++ later)
    × IsInformation (a ∷ b ∷ c ∷ d ∷ e ∷ f ∷ g ∷ []) × (errors (own ++ last ∷ []) (a ∷ b ∷ c ∷ d ∷ e ∷ f ∷ g ∷ []) ≤ most_errors mode) × AreNearBlocks mode rest later
AreNearBlocks mode _ blocks = ⊥

-- These octets are received when the CLTU of a frame is sent: two octets that count as its start sequence, code blocks
-- with few wrong bits, and eight octets that are rejected as a code block.
pub record IsNearCltu (mode : Mode) (last : ℕ) (frame octets : List ℕ) : Type 0 where
  pub one : ℕ
  pub two : ℕ
  pub blocks : List ℕ
  pub tail : List ℕ
  pub end : ℕ
  pub parts : octets ≡ one ∷ two ∷ (blocks ++ (tail ++ end ∷ []))
  pub no_start_yet : is_start mode last one ≡ false
  pub start : is_start mode one two ≡ true
  pub near : AreNearBlocks mode (filled frame) blocks
  pub long : length tail ≡ 7
  pub rejected : decoded mode (tail ++ end ∷ []) ≡ None

-- the octets that a CLTU carries for a frame: the frame, with its frame error control field if frames have one
abbrev pub enclosed : Bool → List ℕ → List ℕ
enclosed true frame = frame_with_field frame
enclosed false frame = frame

-- These are the whole frames that a receiver takes out of the octets that a CLTU carried, with their frame error
-- control fields if frames have one. A receiver of several frames takes one after the other, like a program that calls
-- tcrx_rack_candidate() again while frames may follow. Any other receiver takes one frame if at most fill follows it,
-- and otherwise none, as tclive does with `candidate`.
abbrev pub AreTakenOut : Bool → List ℕ → List (List ℕ) → Type 0
AreTakenOut true carried taken = (rest : List ℕ) × AreDelimited (length carried) carried taken rest
AreTakenOut false carried taken =
    ((frame rest : List ℕ) × IsDelimited carried frame rest × (is_fill rest ≡ true) × (taken ≡ frame ∷ []))
    ⊎ (((frame rest : List ℕ) → IsDelimited carried frame rest → is_fill rest ≡ true → ⊥) × (taken ≡ []))

-- These are the frames that pass the check, without their frame error control fields. A frame with a wrong field is
-- refused.
abbrev pub ArePassed : Bool → List (List ℕ) → List (List ℕ) → Type 0
ArePassed field [] frames = frames ≡ []
ArePassed field (one ∷ taken) frames =
    ((frame : List ℕ) × (later : List (List ℕ)) × IsWhole frame × (one ≡ enclosed field frame) × (frames ≡ frame ∷ later) × ArePassed field taken later)
    ⊎ (((frame : List ℕ) → IsWhole frame → one ≡ enclosed field frame → ⊥) × ArePassed field taken frames)

-- These are the frames that the candidate frames bring. A candidate frame that brings no frame is refused.
abbrev pub AreBrought : Bool → Bool → List (List ℕ) → List (List ℕ) → Type 0
AreBrought several field [] frames = frames ≡ []
AreBrought several field (carried ∷ candidates) frames =
    (taken : List (List ℕ)) × (own : List (List ℕ)) × (later : List (List ℕ)) × AreTakenOut several carried taken × ArePassed field taken own × (frames ≡ own ++ later)
    × AreBrought several field candidates later

-- an input of a receiver at a moment: octets of its link, or another event, such as a release or a take
pub data Coming : Type 0 where
  Octets : List ℕ → Coming
  Asks : Event → Coming

-- A receiver's end of the link. `mode` is the mode of its decoder, `several` is set if it takes several frames out of a
-- CLTU, and `field` is set if frames have a frame error control field.
pub record LinkEnd : Type 0 where
  pub mode : Mode
  pub several : Bool
  pub field : Bool

-- this input brings about these events at the receiver, whose decoder is in this state
abbrev pub AreEventsAt : LinkEnd → Reception → Coming → List Event → Type 0
AreEventsAt end state (Octets octets) events =
    (frames : List (List ℕ)) × AreBrought end.several end.field (frames_of end.mode most_octets state octets) frames × (events ≡ map Frame frames)
AreEventsAt end state (Asks e) events = events ≡ e ∷ []

-- the state of the decoder after this input
abbrev pub state_behind : LinkEnd → Reception → Coming → Reception
state_behind end state (Octets octets) = state_after end.mode most_octets state octets
state_behind end state (Asks e) = state

-- all these inputs, one after the other, bring about these events at the receiver
abbrev pub AreEventsOf : LinkEnd → Reception → List Coming → List Event → Type 0
AreEventsOf end state [] events = events ≡ []
AreEventsOf end state (c ∷ coming) events =
    (now : List Event) × (later : List Event) × AreEventsAt end state c now × (events ≡ now ++ later) × AreEventsOf end (state_behind end state c) coming later

-- the events of the receiver at these actions
abbrev pub events_of : (ℕ → List ℕ) → List Action → List Event
events_of frames session = flat_map (events_at frames) session

-- Detection lets nothing through that was altered. The inputs come one after the other during these actions, and each
-- brings about exactly the events of the actions during which it comes. A CLTU that is refused is a loss. Octets that
-- bring nothing may come at any time. The frames of one CLTU arrive one directly after the other.
abbrev pub AltersNothing : LinkEnd → (ℕ → List ℕ) → Reception → List Action → List Coming → Type 0
AltersNothing end frames state session [] = events_of frames session ≡ []
AltersNothing end frames state session (c ∷ coming) =
    (now : List Action) × (later : List Action) × (session ≡ now ++ later) × ((es : List Event) → AreEventsAt end state c es → es ≡ events_of frames now)
    × AltersNothing end frames (state_behind end state c) later coming

-- the octets of these frames one after the other, each with its frame error control field if frames have one
abbrev pub all_enclosed : Bool → List (List ℕ) → List ℕ
all_enclosed field frames = concat (map (enclosed field) frames)

-- The octets carry these frames well. They are a CLTU with few wrong bits, in which the frames stand one after the
-- other. There is only one frame if the receiver takes only one out of a CLTU.
pub record CarriesWell (end : LinkEnd) (last : ℕ) (frames : List (List ℕ)) (octets : List ℕ) : Type 0 where
  pub whole : AllByRecursion IsWhole frames
  pub fitting : AllByRecursion IsWhole (map (enclosed end.field) frames)
  pub some : 1 ≤ length frames
  pub one : end.several ≡ false → length frames ≡ 1
  pub few : length (all_enclosed end.field frames) ≤ most_octets
  pub near : IsNearCltu end.mode last (all_enclosed end.field frames) octets

-- These octets bring nothing to a receiver that searches, and it searches again after them. Examples are idle octets,
-- and a CLTU that is refused. The search remembers the last octet that came, which is `last` before these octets and
-- `later` after them.
abbrev pub IsLost : LinkEnd → ℕ → List ℕ → ℕ → Type 0
IsLost end last octets later = AreEventsAt end (Searching last) (Octets octets) [] × (state_after end.mode most_octets (Searching last) octets ≡ Searching later)

-- The input carries these events. Octets carry frames well, and the events are these frames. Or octets are lost, and
-- there are no events. An input that isn't octets is the only event itself.
abbrev pub IsCarriedOrLost : LinkEnd → ℕ → List Event → Coming → ℕ → Type 0
IsCarriedOrLost end last events (Octets octets) later =
    ((events ≡ []) × IsLost end last octets later) ⊎ ((frames : List (List ℕ)) × (events ≡ map Frame frames) × CarriesWell end last frames octets × (later ≡ 0))
IsCarriedOrLost end last events (Asks e) later = (events ≡ e ∷ []) × (later ≡ last)

-- the inputs come one after the other during these actions, and carry the events of the actions, or are lost
abbrev pub AreCarriedOrLost : LinkEnd → (ℕ → List ℕ) → ℕ → List Action → List Coming → Type 0
AreCarriedOrLost end frames last session [] = events_of frames session ≡ []
AreCarriedOrLost end frames last session (c ∷ coming) =
    (now : List Action) × (behind : List Action) × (later : ℕ) × (session ≡ now ++ behind) × IsCarriedOrLost end last (events_of frames now) c later
    × AreCarriedOrLost end frames later behind coming
