-- The text that tcmake writes when lines order a sender's units.
use Rattle.tc_apart.proofs.Names.{List, Bool, true, false, [], ap, append-nil, append_assoc, arith, get_or, inl, inr, length, map, refl, subst, suc, sym, zero, ℕ, ◌++◌, ◌+◌, ◌<◌, ◌∙◌, ◌∷◌, ◌≡◌, ◌⊎◌, Option, Some, None, flat_map-append, map-append, codes, length-append, length-map}
use Rattle.std.specs.Prelude.{◌%◌, Result, Ok}
use Rattle.tc_packet.specs.SpacePacket.{joined}
use Rattle.tc_lines.specs.Answering.{AreAnswered, IsAnswered, too_long_text}
use Rattle.tc_lines.specs.Word.{words}
use Rattle.tc_make.specs.Answer.{AreSent, IsEnded, IsFramesSaid, IsKept, IsPartingOf, IsReadingSaid, IsSaid}
use Rattle.tc_make.specs.Ending.{ended, ending_reason_of}
use Rattle.tc_make.specs.Frames.{frame_reason_of}
use Rattle.tc_make.specs.Line.{ad_header, maker_line_of}
use Rattle.tc_make.specs.Parting.{IsFrameAt, parting_reason_of}
use Rattle.tc_make.specs.Printed.{Unless, bad_text, frames_text, hint_text, named_text, unmade_text}
use Rattle.tc_make.specs.Serving.{IsMakerAnswered, limit}
use Rattle.tc_make.specs.declared.ending.Ending.{Ending}
use Rattle.tc_make.specs.declared.fault.Reason.{Reason}
use Rattle.tc_make.specs.declared.fault.Reason.TheVariants.{BadHex, NoMemory}
use Rattle.tc_make.specs.declared.line.Line.{Line}
use Rattle.tc_make.specs.declared.line.Stream.{Stream}
use Rattle.tc_make.specs.declared.maker.Maker.{Maker}
use Rattle.tc_make.specs.declared.parting.Parting.{Parting}
use Rattle.tc_edges.specs.Write.Frames.{IsMadeFrame}
use Rattle.tc_laws.specs.Ends.Ends.{AreFramesOf, AreNumbered, UnitSent}
use Rattle.tc_apart.specs.Making.{AreSpelled, AskFor, HasBadLine, frames_needed, order_for}

-- a text that consists of the lines of some frames and then one line `bad` has a bad line
only-bad : (text : List ℕ) (frames : List (List ℕ)) (reason : Reason) → text ≡ frames_text frames ++ bad_text reason → HasBadLine text
only-bad text frames reason is = record { frames = frames; bad = bad_text reason; rest = []; parts = is ∙ ap (λ (x : List ℕ). frames_text frames ++ x) (sym (append-nil (bad_text reason))); reason = inl (reason, refl) }

-- the words of a reason aren't empty, so an empty text has no bad line
bad-some : (reason : Reason) → (n : ℕ) × (length (unmade_text reason) ≡ suc n)
bad-some BadHex = (_, refl)
bad-some _ = (_, refl)

pub empty-not-bad : HasBadLine [] → ⊥
empty-not-bad b =
    let all = ap (λ (x : List ℕ). length x) b.parts in
    let none : length b.bad ≡ 0 = omega (arith, all, length-append (frames_text b.frames) (b.bad ++ b.rest), length-append b.bad b.rest) in
    elim b.reason [
      | inl said ↦
          let some = bad-some said.0 in
          absurd (omega (arith, none, ap (λ (x : List ℕ). length x) said.1, length-append (unmade_text said.0) (hint_text said.0), some.1))
      | inr long ↦ absurd (omega (arith, none, ap (λ (x : List ℕ). length x) long))
    ]

bad-more : (text more : List ℕ) → HasBadLine text → HasBadLine (text ++ more)
bad-more text more b = record {
  frames = b.frames;
  bad = b.bad;
  rest = b.rest ++ more;
  parts = ap (λ (x : List ℕ). x ++ more) b.parts ∙ append_assoc (frames_text b.frames) (b.bad ++ b.rest) more ∙ ap (λ (x : List ℕ). frames_text b.frames ++ x) (append_assoc b.bad b.rest more);
  reason = b.reason;
}

both-frames : (xs ys : List (List ℕ)) → frames_text xs ++ frames_text ys ≡ frames_text (xs ++ ys)
both-frames xs ys = sym (flat_map-append (named_text (codes "frame")) xs ys)

bad-behind : (frames : List (List ℕ)) (text : List ℕ) → HasBadLine text → HasBadLine (frames_text frames ++ text)
bad-behind frames text b = record {
  frames = frames ++ b.frames;
  bad = b.bad;
  rest = b.rest;
  parts = ap (λ (x : List ℕ). frames_text frames ++ x) b.parts ∙ sym (append_assoc (frames_text frames) (frames_text b.frames) (b.bad ++ b.rest)) ∙ ap (λ (x : List ℕ). x ++ (b.bad ++ b.rest)) (both-frames frames b.frames);
  reason = b.reason;
}

-- these are the frames of a unit, from a place on, without their frame error control fields
abbrev AreFramesAt : Parting → ℕ → List (List ℕ) → Type 0
AreFramesAt p place frames = (k : ℕ) → k < length frames → IsFrameAt p (place + k) (get_or frames k [])

one-before : (p : Parting) (place : ℕ) (frame : List ℕ) (frames : List (List ℕ)) → IsFrameAt p place frame → AreFramesAt p (suc place) frames → AreFramesAt p place (frame ∷ frames)
one-before p place frame frames is are zero low = subst (λ n. IsFrameAt p n frame) (omega arith) is
one-before p place frame frames is are (suc k) low = subst (λ n. IsFrameAt p n (get_or frames k [])) (omega arith) (are k (omega arith))

plain : (ending : Ending) (p : Parting) (place : ℕ) (sent : List (List ℕ)) → AreSent ending p place sent → (frames : List (List ℕ)) × (sent ≡ map (ended ending) frames) × AreFramesAt p place frames
plain ending p place [] are = ([], refl, λ k low. absurd (omega arith))
plain ending p place (f ∷ fs) ((frame, is, fits, end), later) =
    let (frames, all, each) = plain ending p (suc place) fs later in
    (frame ∷ frames, (λ i. end i ∷ all i), one-before p place frame frames is each)

-- this is the text that is written for one unit: its frames, or a bad line
abbrev IsSpelled : Ending → Bool → Stream → UnitSent → List ℕ → Type 0
IsSpelled ending b stream u text = ((frames : List (List ℕ)) × AreFramesOf b (ad_header stream) u frames × (text ≡ frames_text (map (ended ending) frames))) ⊎ HasBadLine text

abbrev IsPartingFor : Stream → UnitSent → Parting → Type 0
IsPartingFor stream u p = IsPartingOf stream (record { map = u.map_id; size = u.size }) (joined u.packets) p

parted : (ending : Ending) (stream : Stream) (u : UnitSent) (p : Parting) (text : List ℕ) (o : Option Reason) → IsPartingFor stream u p → Unless o (IsFramesSaid ending p) text → IsSpelled ending true stream u text
parted ending stream u p text (Some reason) is said = inr (only-bad text [] reason said)
parted ending stream u p text None is (sent, are, inr cut) = inr (only-bad text sent cut.1.0 cut.1.2)
parted ending stream u p text None is (sent, are, inl all) =
    let found = plain ending p 0 sent are in
    let many : length sent ≡ length found.0 = ap (λ (x : List (List ℕ)). length x) found.1 ∙ length-map found.0 (ended ending) in
    inl (found.0, record { count = sym many ∙ all.0 ∙ rw (is.size, is.octets) refl; each = λ k low. rw (← is.scid, ← is.vcid, ← is.ns, ← is.map, ← is.size, ← is.octets) (let at : 0 + k ≡ k = omega arith in subst (λ n. IsFrameAt p n (get_or found.0 k [])) at (found.2 k low)) }, all.1 ∙ ap frames_text found.1)

whole : (ending : Ending) (stream : Stream) (u : UnitSent) (text : List ℕ) (o : Option Reason) → stream.ns < 256
    → Unless o (λ t. (frame : List ℕ) × IsMadeFrame frame (ad_header stream) None (joined u.packets) × IsEnded ending frame t) text → IsSpelled ending false stream u text
whole ending stream u text (Some reason) low said = inr (only-bad text [] reason said)
whole ending stream u text None low (frame, made, said) = by (ending_reason_of ending frame) said where
  by : (o : Option Reason) → Unless o (λ t. t ≡ named_text (codes "frame") (ended ending frame)) text → IsSpelled ending false stream u text
  by (Some reason) said = inr (only-bad text [] reason said)
  by None said = inl (
    frame ∷ [],
    (frame, refl, subst (λ n. IsMadeFrame frame (record (ad_header stream) { ns = n }) None (joined u.packets)) (omega arith) made),
    said ∙ sym (append-nil (named_text (codes "frame") (ended ending frame))),
  )

order-said : (m new : Maker) (b : Bool) (stream : Stream) (u : UnitSent) (text : List ℕ) → stream.ns < 256 → IsSaid m (order_for b stream u) new text × IsKept m (order_for b stream u) new
    → (new ≡ m) × IsSpelled m.ending b stream u text
order-said m new true stream u text low (inl said, kept) = (kept, parted m.ending stream u said.0 text (parting_reason_of said.0) said.1 said.2)
order-said m new false stream u text low (inl said, kept) = (kept, whole m.ending stream u text (frame_reason_of (ad_header stream) None (joined u.packets)) low said)
order-said m new true stream u text low (inr none, kept) = (kept, inr (only-bad text [] NoMemory none))
order-said m new false stream u text low (inr none, kept) = (kept, inr (only-bad text [] NoMemory none))

line-said : (m new : Maker) (b : Bool) (stream : Stream) (u : UnitSent) (line text : List ℕ) → stream.ns < 256 → maker_line_of (words line) ≡ Ok (order_for b stream u)
    → IsAnswered limit IsMakerAnswered m line new text → (new ≡ m) × IsSpelled m.ending b stream u text
line-said m new b stream u line text low asks (inl long) = (long.1, inr (record { frames = []; bad = too_long_text; rest = []; parts = long.2 ∙ sym (append-nil too_long_text); reason = inr refl }))
line-said m new b stream u line text low asks (inr (short, inl read)) = order-said m new b stream u text low (subst (λ (v : Result Line Reason). IsReadingSaid m v new text) asks read)
line-said m new b stream u line text low asks (inr (short, inr none)) = (none.1, inr (only-bad text [] NoMemory none.0))

many : (b : Bool) (stream : Stream) (u : UnitSent) (frames : List (List ℕ)) → AreFramesOf b (ad_header stream) u frames → length frames ≡ frames_needed b u
many true stream u frames are = are.count
many false stream u frames are = ap (λ (x : List (List ℕ)). length x) are.1

pub all-said : (m new : Maker) (b : Bool) (stream : Stream) (units : List UnitSent) (lines : List (List ℕ)) (text : List ℕ) → stream.ns < 256 → AskFor b stream units lines
    → AreAnswered limit IsMakerAnswered m lines new text → AreSpelled m.ending b stream units text ⊎ HasBadLine text
all-said m new b stream [] lines text low asks are = let none = subst (λ (ls : List (List ℕ)). AreAnswered limit IsMakerAnswered m ls new text) asks are in inl ([], refl, none.1)
all-said m new b stream (u ∷ units) lines text low asks are =
    let a = subst (λ (ls : List (List ℕ)). AreAnswered limit IsMakerAnswered m ls new text) asks.2 are in
    let one = line-said m a.0 b stream u asks.0 a.1 low asks.3 a.3 in
    let later = all-said m new b (record stream { ns = (stream.ns + frames_needed b u) % 256 }) units asks.1 a.2 (omega arith) asks.4 (subst (λ (x : Maker). AreAnswered limit IsMakerAnswered x asks.1 new a.2) one.0 a.4) in
    subst (λ (t : List ℕ). AreSpelled m.ending b stream (u ∷ units) t ⊎ HasBadLine t) (sym a.5) (elim one.1 [
      | inr bad ↦ inr (bad-more a.1 a.2 bad)
      | inl own ↦ elim later [
        | inr bad ↦ inr (subst (λ (x : List ℕ). HasBadLine (x ++ a.2)) (sym own.2) (bad-behind (map (ended m.ending) own.0) a.2 bad))
        | inl more ↦ inl (
          own.0 ++ more.0,
          (own.0, more.0, refl, own.1, subst (λ n. AreNumbered b (record (ad_header stream) { ns = (stream.ns + n) % 256 }) units more.0) (sym (many b stream u own.0 own.1)) more.1),
          (λ i. own.2 i ++ more.2 i) ∙ both-frames (map (ended m.ending) own.0) (map (ended m.ending) more.0) ∙ ap frames_text (sym (map-append (ended m.ending) own.0 more.0)),
        )
      ]
    ])
