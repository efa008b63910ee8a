-- Texts that were written one after the other.
use Rattle.std.proofs.Common.{◌≡◌, Bool, ◌⊎◌, inl, inr, ℕ, suc, ◌+◌, ◌<◌, ◌≤◌, List, [], ◌∷◌, ◌++◌, length, Option, Some, None, refl, sym, ap, subst, ◌∙◌, append_assoc, append-nil, arith, length-append}
use Rattle.std.specs.Prelude.{unwrap_or, codes, IsSome}
use Rattle.tc_make.proofs.Names.{Appends, Parting, Reason, Writes, flat_map-append}
use Rattle.std.specs.List.{flat_map, concat, AllByRecursion}
use Rattle.std.proofs.lemmas.List.Folds.{concat-append}
use Rattle.tc_link.specs.Frame.{IsWhole, fault_of}
use Rattle.tc_link.specs.declared.frame.FrameFault.{FrameFault}
use Rattle.tc_edges.specs.Fecf.Candidate.{IsDelimited}
use Rattle.std.proofs.KnownBytes.{Appends-trans, Appends-nil}
use Rattle.tc_packet.specs.PacketFields.{HasFields}
use Rattle.tc_packet.specs.Bits.{word_at, bits}
use Rattle.tc_packet.specs.SpacePacket.{apid_of, is_telecommand, packets_of, rest_of}
use Rattle.tc_packet.specs.declared.packet.Packet.{Packet}
use Rattle.tc_edges.specs.Fecf.FrameWithField.{taking_fault_of}
use Rattle.tc_edges.specs.declared.fecf.frames.FieldFault.{FieldFault}
use Rattle.tc_edges.specs.declared.fecf.frames.FieldFault.TheVariants as fields
use Rattle.tc_make.specs.Answer.{OrNoMemory, Unless, IsSentAt, IsStopAt, AreSent, IsPartSaid, IsFramesSaid, IsPartingOf, IsUnitSaid, IsEndedSaid, IsExplained, AreFramesSaid, frames_text, parts_of, field_fault_text}
use Rattle.tc_make.specs.Printed.{bad_text, named_text, some_text, refused_text, frame_fault_text, rest_text, unit_packets_text, packet_text, printed_text, holds_text, whole_text}
use Rattle.tc_make.specs.declared.ending.Ending.{Ending}
use Rattle.tc_make.specs.declared.ending.Ending.TheVariants.{ErrorControl}
use Rattle.tc_make.specs.Parting.{parting_reason_of}
use Rattle.tc_make.specs.declared.line.Sizing.{Sizing}
use Rattle.tc_make.specs.declared.line.Stream.{Stream}
use Rattle.std.specs.Prelude.{true, false}

pub joined : (a b c : Option (List ℕ)) (xs ys : List ℕ) → Appends a b xs → Appends b c ys → Appends a c (xs ++ ys)
joined a b c xs ys p q = Appends-trans a b c xs ys p q

-- if something can be made, and the text for it is written, this text is the answer
pub made-on : (a b : Option (List ℕ)) (o : Option Reason) (Is : List ℕ → Type 0) (Then : List ℕ → List ℕ → Type 0) (made : List ℕ)
    → o ≡ None → Is made → Writes a b (OrNoMemory (Then made)) → Writes a b (OrNoMemory (Unless o (λ text. (x : List ℕ) × Is x × Then x text)))
made-on a b o Is Then made none is (text, inl p, w) =
    (text, inl (subst (λ v. Unless v (λ t. (x : List ℕ) × Is x × Then x t) text) (sym none) (made, is, p)), w)
made-on a b o Is Then made none is (text, inr p, w) = (text, inr p, w)

-- ---- the packets of a unit

carried-packet : (p : Packet) → HasFields p → printed_text p ≡ packet_text p.octets.now
carried-packet p f =
    let o = p.octets.now in
    let t = is_telecommand o in
    let a = apid_of o in
    let n = bits (word_at o 2) 0 14 in
    let g = bits (word_at o 2) 14 2 in
    ap (λ (x : Bool). holds_text x p.apid p.count p.flags ++ whole_text p.secondary o) f.telecommand
    ∙ ap (λ (x : ℕ). holds_text t x p.count p.flags ++ whole_text p.secondary o) f.apid
    ∙ ap (λ (x : ℕ). holds_text t a x p.flags ++ whole_text p.secondary o) f.count
    ∙ ap (λ (x : ℕ). holds_text t a n x ++ whole_text p.secondary o) f.flags
    ∙ ap (λ (x : Bool). holds_text t a n g ++ whole_text x o) f.secondary

unit-next : (unit packet after : List ℕ) → packets_of unit ≡ packet ∷ packets_of after → rest_of unit ≡ rest_of after
    → unit_packets_text unit ≡ packet_text packet ++ unit_packets_text after
unit-next unit packet after e f =
    ap (λ ps. flat_map packet_text ps ++ some_text (codes "rest") (rest_of unit)) e
    ∙ ap (λ r. (packet_text packet ++ flat_map packet_text (packets_of after)) ++ some_text (codes "rest") r) f
    ∙ append_assoc (packet_text packet) (flat_map packet_text (packets_of after)) (some_text (codes "rest") (rest_of after))

unit-end : (unit : List ℕ) → packets_of unit ≡ [] → rest_of unit ≡ unit → unit_packets_text unit ≡ some_text (codes "rest") unit
unit-end unit e f =
    ap (λ ps. flat_map packet_text ps ++ some_text (codes "rest") (rest_of unit)) e ∙ ap (λ r. some_text (codes "rest") r) f

-- once one more packet is written, the text so far, followed by the text of the octets that are left, is the text of
-- the unit
pub packet-on : (a b c : Option (List ℕ)) (p : Packet) (unit rest after done : List ℕ) → HasFields p
    → packets_of rest ≡ p.octets.now ∷ packets_of after → rest_of rest ≡ rest_of after
    → Appends a b done → done ++ unit_packets_text rest ≡ unit_packets_text unit → Appends b c (printed_text p)
    → (more : List ℕ) × Appends a c more × (more ++ unit_packets_text after ≡ unit_packets_text unit)
packet-on a b c p unit rest after done has e f was so_far now = (
  done ++ packet_text p.octets.now,
  joined a b c done (packet_text p.octets.now) was (subst (Appends b c) (carried-packet p has) now),
  append_assoc done (packet_text p.octets.now) (unit_packets_text after)
      ∙ ap (λ t. done ++ t) (sym (unit-next rest p.octets.now after e f))
      ∙ so_far,
)

-- if no packet is left, and the octets that are left are written, the text of the whole unit is written
pub packets-end : (a b c : Option (List ℕ)) (unit rest done : List ℕ) → packets_of rest ≡ [] → rest_of rest ≡ rest
    → Appends a b done → done ++ unit_packets_text rest ≡ unit_packets_text unit → Appends b c (some_text (codes "rest") rest) → Appends a c (unit_packets_text unit)
packets-end a b c unit rest done e f was so_far now =
    subst (Appends a c) (ap (λ t. done ++ t) (sym (unit-end rest e f)) ∙ so_far) (joined a b c done _ was now)

-- ---- the frames of a unit

sent-more : (ending : Ending) (p : Parting) (place next : ℕ) (frames : List (List ℕ)) (sent : List ℕ) → AreSent ending p place frames
    → place + length frames ≡ next → IsSentAt ending p next sent → AreSent ending p place (frames ++ sent ∷ [])
sent-more ending p place next [] sent all e is = (subst (λ n. IsSentAt ending p n sent) (sym e ∙ omega arith) is, tt)
sent-more ending p place next (frame ∷ frames) sent all e is = (all.0, sent-more ending p (suc place) next frames sent all.1 (omega (arith, e)) is)

frames-more : (frames : List (List ℕ)) (sent : List ℕ) → frames_text (frames ++ sent ∷ []) ≡ frames_text frames ++ named_text (codes "frame") sent
frames-more frames sent =
    flat_map-append (named_text (codes "frame")) frames (sent ∷ []) ∙ ap (λ t. frames_text frames ++ t) (append-nil (named_text (codes "frame") sent))

-- the lines of all frames before this place were written, and no more
abbrev pub Before : Ending → Parting → ℕ → Option (List ℕ) → Option (List ℕ) → Type 0
Before ending p place a b = (frames : List (List ℕ)) × AreSent ending p 0 frames × (length frames ≡ place) × Appends a b (frames_text frames)

pub none-before : (ending : Ending) (p : Parting) (a : Option (List ℕ)) → Before ending p 0 a a
none-before ending p a = ([], tt, refl, Appends-nil a)

-- once the frame at a place is written, all frames before the next place are written
frame-sent : (ending : Ending) (p : Parting) (place : ℕ) (a b c : Option (List ℕ)) → Before ending p place a b
    → Writes b c (IsPartSaid true ending p place) → Before ending p (place + 1) a c
frame-sent ending p place a b c (frames, all, count, was) (text, (sent, is, spelled), now) = (
  frames ++ sent ∷ [],
  sent-more ending p 0 place frames sent all (omega (arith, count)) is,
  length-append frames (sent ∷ []) ∙ ap (λ n. n + 1) count,
  subst (Appends a c) (sym (frames-more frames sent)) (joined a b c (frames_text frames) _ was (subst (Appends b c) spelled now)),
)

-- if the frame at a place isn't made, the answer ends with the reason
frames-stopped : (ending : Ending) (p : Parting) (place : ℕ) (a b c : Option (List ℕ)) → place < parts_of p → Before ending p place a b
    → Writes b c (IsPartSaid false ending p place) → Writes a c (IsFramesSaid ending p)
frames-stopped ending p place a b c below (frames, all, count, was) (text, (reason, stops, spelled), now) = (
  frames_text frames ++ bad_text reason,
  (frames, all, inr (omega (arith, count, below), (reason, subst (λ n. IsStopAt ending p n reason) (sym count) stops, refl))),
  joined a b c (frames_text frames) (bad_text reason) was (subst (Appends b c) spelled now),
)

pub frame-on : (made : Bool) (ending : Ending) (p : Parting) (place : ℕ) (a b c : Option (List ℕ)) → made ≡ true → Before ending p place a b
    → Writes b c (IsPartSaid made ending p place) → Before ending p (place + 1) a c
frame-on made ending p place a b c e before now = frame-sent ending p place a b c before (subst (λ m. Writes b c (IsPartSaid m ending p place)) e now)

pub frames-stop : (made : Bool) (ending : Ending) (p : Parting) (place : ℕ) (a b c : Option (List ℕ)) → made ≡ false → place < parts_of p
    → Before ending p place a b → Writes b c (IsPartSaid made ending p place) → Writes a c (IsFramesSaid ending p)
frames-stop made ending p place a b c e below before now =
    frames-stopped ending p place a b c below before (subst (λ m. Writes b c (IsPartSaid m ending p place)) e now)

-- if a unit is divided into segments and its frames are written, they are the answer to the line
pub unit-parted : (ending : Ending) (stream : Stream) (sizing : Sizing) (unit : List ℕ) (p : Parting) (a b : Option (List ℕ)) → IsPartingOf stream sizing unit p
    → parting_reason_of p ≡ None → Writes a b (IsFramesSaid ending p) → Writes a b (OrNoMemory (IsUnitSaid ending stream sizing unit))
unit-parted ending stream sizing unit p a b is none (text, said, w) =
    (text, inl (p, is, subst (λ o. Unless o (IsFramesSaid ending p) text) (sym none) said), w)

pub unit-refused : (ending : Ending) (stream : Stream) (sizing : Sizing) (unit : List ℕ) (p : Parting) (reason : Reason) (a b : Option (List ℕ))
    → IsPartingOf stream sizing unit p → parting_reason_of p ≡ Some reason → Appends a b (bad_text reason)
    → Writes a b (OrNoMemory (IsUnitSaid ending stream sizing unit))
unit-refused ending stream sizing unit p reason a b is e w =
    (bad_text reason, inl (p, is, subst (λ o. Unless o (IsFramesSaid ending p) (bad_text reason)) (sym e) refl), w)

-- ---- explanations of octets

field-fault : (o : Option FieldFault) (fault : FieldFault) → fault ≡ unwrap_or o fields.NoMemory → (o ≡ Some fault) ⊎ (fault ≡ fields.NoMemory)
field-fault None fault e = inr e
field-fault (Some f) fault e = inl (ap Some (sym e))

pub field-refused : (octets rest : List ℕ) (fault : FieldFault) (a b : Option (List ℕ)) → fault ≡ unwrap_or (taking_fault_of octets) fields.NoMemory
    → Appends a b (field_fault_text fault) → Writes a b (OrNoMemory (IsEndedSaid ErrorControl octets rest))
field-refused octets rest fault a b e w =
    elim (field-fault (taking_fault_of octets) fault e) [
      | inl reported ↦ (field_fault_text fault, inl (inr (fault, reported, refl)), w)
      | inr none ↦ (field_fault_text fault, inr (ap field_fault_text none), w)
    ]

pub explained : (ending : Ending) (octets frame rest : List ℕ) (a b : Option (List ℕ)) → IsDelimited octets frame rest
    → Writes a b (OrNoMemory (IsEndedSaid ending frame rest)) → Writes a b (OrNoMemory (IsExplained ending octets))
explained ending octets frame rest a b found (text, inl said, w) = (text, inl (inl (frame, rest, found, said)), w)
explained ending octets frame rest a b found (text, inr none, w) = (text, inr none, w)

pub unexplained : (ending : Ending) (octets shown : List ℕ) (fault : FrameFault) (a b : Option (List ℕ)) → fault_of octets ≡ Some fault → shown ≡ frame_fault_text fault
    → Appends a b (refused_text shown) → Writes a b (OrNoMemory (IsExplained ending octets))
unexplained ending octets shown fault a b is e w =
    (refused_text (frame_fault_text fault), inl (inr (fault, is, refl)), subst (λ (x : List ℕ). Appends a b (refused_text x)) e w)

-- ---- the frames that a CLTU carried

pub is-fault : (rest : List ℕ) (fault : FrameFault) → fault_of rest ≡ Some fault → IsSome (fault_of rest)
is-fault rest fault e = subst IsSome (sym e) refl

-- `count` whole frames were found at the front of the octets and written, and `rest` is the octets after them
abbrev pub Found : List ℕ → ℕ → List ℕ → Option (List ℕ) → Option (List ℕ) → Type 0
Found octets count rest a b =
    (frames : List (List ℕ)) × AllByRecursion IsWhole frames × (octets ≡ concat frames ++ rest) × (length frames ≡ count) × Appends a b (frames_text frames)

pub none-found : (octets : List ℕ) (a : Option (List ℕ)) → Found octets 0 octets a a
none-found octets a = ([], tt, refl, refl, Appends-nil a)

all-more : (frames : List (List ℕ)) (frame : List ℕ) → AllByRecursion IsWhole frames → IsWhole frame → AllByRecursion IsWhole (frames ++ frame ∷ [])
all-more [] frame w v = (v, tt)
all-more (f ∷ fs) frame w v = (w.0, all-more fs frame w.1 v)

pub frame-found : (octets rest frame behind : List ℕ) (count : ℕ) (a b c : Option (List ℕ)) → Found octets count rest a b → IsDelimited rest frame behind
    → Appends b c (named_text (codes "frame") frame) → Found octets (count + 1) behind a c
frame-found octets rest frame behind count a b c (frames, whole, parts, many, was) found now = (
  frames ++ frame ∷ [],
  all-more frames frame whole found.whole,
  parts ∙ ap (λ (x : List ℕ). concat frames ++ x) found.parts ∙ sym (append_assoc (concat frames) frame behind)
      ∙ ap (λ (x : List ℕ). concat frames ++ x ++ behind) (sym (append-nil frame)) ∙ ap (λ (x : List ℕ). x ++ behind) (sym (concat-append frames (frame ∷ []))),
  length-append frames (frame ∷ []) ∙ ap (λ n. n + 1) many,
  subst (Appends a c) (sym (flat_map-append (named_text (codes "frame")) frames (frame ∷ []))) (joined a b c (frames_text frames) _ was
      (subst (Appends b c) (sym (append-nil (named_text (codes "frame") frame))) now)),
)

pub all-found : (octets rest : List ℕ) (most count : ℕ) (a b c : Option (List ℕ)) → Found octets count rest a b → count ≤ most → (count ≡ most) ⊎ IsSome (fault_of rest)
    → Appends b c (rest_text rest) → Writes a c (AreFramesSaid most octets)
all-found octets rest most count a b c (frames, whole, parts, many, was) few ended now = (
  frames_text frames ++ rest_text rest,
  (frames, rest, record { each = whole; parts = parts; few = omega (arith, many, few); ended = counted ended }, refl),
  joined a b c (frames_text frames) (rest_text rest) was now,
) where
  counted : (count ≡ most) ⊎ IsSome (fault_of rest) → (length frames ≡ most) ⊎ IsSome (fault_of rest)
  counted (inl full) = inl (many ∙ full)
  counted (inr fault) = inr fault
