-- The frames of a CLTU with few wrong bits arrive. Octets in CLTUs bring about the events of the session at a receiver.
use Rattle.tc_laws.proofs.EndsLemmas.Names.{if◌then◌else◌, Action, AllByRecursion, AltersNothing, AreBrought, AreCarriedOrLost, AreEventsAt, AreEventsOf, AreNearBlocks, ArePassed, AreTakenOut, Asks, Bool, CarriesWell, Coming, Decoding, Event, Frame, HasNoStart, IsCarriedOrLost, IsLost, IsNearCltu, IsWhole, LinkEnd, List, Loop, Mode, None, Octets, Option, Reception, Searching, Step, [], after-fits, after_block, ap, append-nil, append_assoc, arith, cltu_fault_of, concat, decoded, enclosed, events, events_at, events_of, false, fault_of, fill, filled, filled-fits, filled-front, flat_map-append, frame_with_field-alike, frames_of, inl, inr, is_fill, is_some, is_start, length, length-append, length-map, map, most_octets, nat_lt, nat_tests, one-frame, only-frames, reception_step, refl, some-octets, state_after, state_behind, subst, suc, sym, take, taken, true, ℕ, ◌++◌, ◌+◌, ◌<◌, ◌∙◌, ◌∷◌, ◌≡◌, ◌≤◌}

-- the state after octets, and the candidate frames that they end
abbrev Both : Mode → ℕ → Reception → List ℕ → Step
Both mode room state octets = (state_after mode room state octets, frames_of mode room state octets)

-- the state after octets, and the candidate frames of an earlier step, followed by those that the octets end
abbrev behind : Mode → ℕ → Step → List ℕ → Step
behind mode room step octets = (state_after mode room step.0 octets, step.1 ++ frames_of mode room step.0 octets)

-- the decoder takes eight octets as a code block
block : (mode : Mode) (room : ℕ) (frame own : List ℕ) (last : ℕ) (rest : List ℕ) → length own ≡ 7
    → Both mode room (Decoding frame []) ((own ++ last ∷ []) ++ rest) ≡ behind mode room (after_block room frame (decoded mode (own ++ last ∷ []))) rest
block mode room frame (a ∷ b ∷ c ∷ d ∷ e ∷ f ∷ g ∷ []) last rest seven = refl
block mode room frame _ last rest seven = absurd (omega arith)

-- code blocks with few wrong bits are decoded to the octets that were sent
near-taken : (mode : Mode) (room : ℕ) (os frame blocks more : List ℕ) → AreNearBlocks mode os blocks → length frame + length os ≤ room
    → Both mode room (Decoding frame []) (blocks ++ more) ≡ Both mode room (Decoding (frame ++ os) []) more
near-taken mode room [] frame blocks more near fits =
    ap (λ (x : List ℕ). Both mode room (Decoding frame []) (x ++ more)) near ∙ ap (λ (x : List ℕ). Both mode room (Decoding x []) more) (sym (append-nil frame))
near-taken mode room (a ∷ b ∷ c ∷ d ∷ e ∷ f ∷ g ∷ os) frame blocks more near fits =
    let information = a ∷ b ∷ c ∷ d ∷ e ∷ f ∷ g ∷ [] in
    let own = near.0 in
    let last = near.1 in
    let later = near.2 in
    let long : length (frame ++ information) ≡ length frame + 7 = length-append frame information in
    ap (λ (x : List ℕ). Both mode room (Decoding frame []) (x ++ more)) near.4
    ∙ ap (Both mode room (Decoding frame [])) (append_assoc (own ++ last ∷ []) later more)
    ∙ block mode room frame own last (later ++ more) near.3.seven
    ∙ ap (λ (o : Option (List ℕ)). behind mode room (after_block room frame o) (later ++ more)) (taken mode own last information near.3 near.5 near.6)
    ∙ ap (λ (s : Step). behind mode room s (later ++ more)) (after-fits room frame information (omega arith))
    ∙ near-taken mode room os (frame ++ information) later more near.7 (omega arith)
    ∙ ap (λ (x : List ℕ). Both mode room (Decoding x []) more) (append_assoc frame information os)
near-taken mode room _ frame blocks more near fits = absurd near

tail-ends : (mode : Mode) (room : ℕ) (frame tail : List ℕ) (end : ℕ) (rest : List ℕ) → 0 < length frame → length tail ≡ 7 → decoded mode (tail ++ end ∷ []) ≡ None
    → Both mode room (Decoding frame []) ((tail ++ end ∷ []) ++ rest) ≡ behind mode room (Searching 0, frame ∷ []) rest
tail-ends mode room [] tail end rest some seven none = absurd (omega arith)
tail-ends mode room (f ∷ fs) tail end rest some seven none =
    block mode room (f ∷ fs) tail end rest seven
    ∙ ap (λ (o : Option (List ℕ)). behind mode room (after_block room (f ∷ fs) o) rest) none

filled-some : (frame : List ℕ) → 0 < length frame → 0 < length (filled frame)
filled-some frame some =
    let f = filled-front frame in
    omega (arith, ap length f.2 ∙ length-append frame (take f.0 fill))

no-start : (mode : Mode) (last octet : ℕ) → is_start mode last octet ≡ false → reception_step mode most_octets (Searching last) octet ≡ (Searching octet, [])
no-start mode last octet e = rw e refl

a-start : (mode : Mode) (last octet : ℕ) → is_start mode last octet ≡ true → reception_step mode most_octets (Searching last) octet ≡ (Decoding [] [], [])
a-start mode last octet e = rw e refl

near-both : (mode : Mode) (last : ℕ) (frame octets rest : List ℕ) → cltu_fault_of frame ≡ None → IsNearCltu mode last frame octets
    → Both mode most_octets (Searching last) (octets ++ rest) ≡ behind mode most_octets (Searching 0, filled frame ∷ []) rest
near-both mode last frame octets rest fault n =
    let end = n.tail ++ n.end ∷ [] in
    let some = some-octets frame fault in
    ap (λ (x : List ℕ). Both mode most_octets (Searching last) (x ++ rest)) n.parts
    ∙ ap (λ (s : Step). behind mode most_octets s (n.two ∷ (n.blocks ++ end) ++ rest)) (no-start mode last n.one n.no_start_yet)
    ∙ ap (λ (s : Step). behind mode most_octets s ((n.blocks ++ end) ++ rest)) (a-start mode n.one n.two n.start)
    ∙ ap (Both mode most_octets (Decoding [] [])) (append_assoc n.blocks end rest)
    ∙ near-taken mode most_octets (filled frame) [] n.blocks (end ++ rest) n.near (let fits = filled-fits frame fault in omega arith)
    ∙ tail-ends mode most_octets (filled frame) n.tail n.end rest (filled-some frame some) n.long n.rejected

-- a CLTU can carry 1 to 1,029 octets
no-fault : (octets : List ℕ) → 1 ≤ length octets → length octets ≤ most_octets → cltu_fault_of octets ≡ None
no-fault octets least most = grind (arith, nat_tests)

fills : (k : ℕ) → k < 7 → is_fill (take k fill) ≡ true
fills (suc (suc (suc (suc (suc (suc (suc k))))))) low = absurd (omega arith)
fills _ low = refl

enclosed-alike : (field : Bool) (one other : List ℕ) → IsWhole one → IsWhole other → enclosed field one ≡ enclosed field other → one ≡ other
enclosed-alike true one other w v same = frame_with_field-alike one other w v same
enclosed-alike false one other w v same = same

-- Each part of the receiver's work on an input has only one result, so one input brings about only one list of events.
taken-alike : (several : Bool) (carried : List ℕ) (one other : List (List ℕ)) → AreTakenOut several carried one → AreTakenOut several carried other → one ≡ other
taken-alike true carried one other a b = (only-frames (length carried) carried a.0 b.0 one other a.1 b.1).0
taken-alike false carried one other (inl a) (inl b) =
    let same = one-frame a.0 b.0 a.1 b.1 a.2.whole b.2.whole (sym a.2.parts ∙ b.2.parts) in
    a.4 ∙ ap (λ (x : List ℕ). x ∷ []) same.0 ∙ sym b.4
taken-alike false carried one other (inl a) (inr b) = absurd (b.0 a.0 a.1 a.2 a.3)
taken-alike false carried one other (inr a) (inl b) = absurd (a.0 b.0 b.1 b.2 b.3)
taken-alike false carried one other (inr a) (inr b) = a.1 ∙ sym b.1

passed-alike : (field : Bool) (taken one other : List (List ℕ)) → ArePassed field taken one → ArePassed field taken other → one ≡ other
passed-alike field [] one other a b = a ∙ sym b
passed-alike field (t ∷ ts) one other (inl a) (inl b) =
    a.4 ∙ ap (λ (x : List ℕ). x ∷ a.1) (enclosed-alike field a.0 b.0 a.2 b.2 (sym a.3 ∙ b.3))
    ∙ ap (λ (xs : List (List ℕ)). b.0 ∷ xs) (passed-alike field ts a.1 b.1 a.5 b.5) ∙ sym b.4
passed-alike field (t ∷ ts) one other (inl a) (inr b) = absurd (b.0 a.0 a.2 a.3)
passed-alike field (t ∷ ts) one other (inr a) (inl b) = absurd (a.0 b.0 b.2 b.3)
passed-alike field (t ∷ ts) one other (inr a) (inr b) = passed-alike field ts one other a.1 b.1

brought-alike : (several field : Bool) (candidates one other : List (List ℕ)) → AreBrought several field candidates one → AreBrought several field candidates other → one ≡ other
brought-alike several field [] one other a b = a ∙ sym b
brought-alike several field (c ∷ cs) one other a b =
    let taken = taken-alike several c a.0 b.0 a.3 b.3 in
    let own = passed-alike field b.0 a.1 b.1 (subst (λ ts. ArePassed field ts a.1) taken a.4) b.4 in
    a.5 ∙ ap (λ (xs : List (List ℕ)). xs ++ a.2) own ∙ ap (λ (xs : List (List ℕ)). b.1 ++ xs) (brought-alike several field cs a.2 b.2 a.6 b.6) ∙ sym b.5

pub events-alike : (end : LinkEnd) (state : Reception) (c : Coming) (one other : List Event) → AreEventsAt end state c one → AreEventsAt end state c other → one ≡ other
events-alike end state (Octets octets) one other a b =
    a.2 ∙ ap (map Frame) (brought-alike end.several end.field (frames_of end.mode most_octets state octets) a.0 b.0 a.1 b.1) ∙ sym b.2
events-alike end state (Asks e) one other a b = a ∙ sym b

-- frames with their frame error control fields pass the check
all-passed : (field : Bool) (frames : List (List ℕ)) → AllByRecursion IsWhole frames → ArePassed field (map (enclosed field) frames) frames
all-passed field [] all = refl
all-passed field (f ∷ fs) all = inl (f, fs, all.0, refl, refl, all-passed field fs all.1)

as-long : (xs : List (List ℕ)) → AllByRecursion IsWhole xs → length xs ≤ length (concat xs)
as-long [] all = omega arith
as-long (x ∷ xs) all = let least = all.0.least in let more = as-long xs all.1 in omega (arith, length-append x (concat xs))

unless : (b o : Bool) → (if b then false else o) ≡ true → o ≡ true
unless true o e = absurd cc
unless false o e = e

taken-out : (several : Bool) (xs : List (List ℕ)) (rest : List ℕ) → AllByRecursion IsWhole xs → (several ≡ false → length xs ≡ 1) → is_fill rest ≡ true → AreTakenOut several (concat xs ++ rest) xs
taken-out true xs rest all one filling = (
  rest,
  record { each = all; parts = refl; few = omega (arith, as-long xs all, length-append (concat xs) rest); ended = inr (unless (nat_lt 6 (length rest)) (is_some (fault_of rest)) filling) },
)
taken-out false (x ∷ []) rest all one filling = inl (x, rest, record { whole = all.0; parts = ap (λ (l : List ℕ). l ++ rest) (append-nil x) }, filling, refl)
taken-out false _ rest all one filling = let many = one refl in absurd (omega arith)

near-now : (mode : Mode) (last : ℕ) (carried octets : List ℕ) → cltu_fault_of carried ≡ None → IsNearCltu mode last carried octets
    → Both mode most_octets (Searching last) octets ≡ (Searching 0, filled carried ∷ [])
near-now mode last carried octets fault near =
    ap (Both mode most_octets (Searching last)) (sym (append-nil octets)) ∙ near-both mode last carried octets [] fault near

-- if octets carry frames well, these frames arrive, and the receiver searches again
pub well-come : (end : LinkEnd) (last : ℕ) (frames : List (List ℕ)) (octets : List ℕ) → CarriesWell end last frames octets
    → (state_behind end (Searching last) (Octets octets) ≡ Searching 0) × AreEventsAt end (Searching last) (Octets octets) (map Frame frames)
well-come end last frames octets w =
    let xs = map (enclosed end.field) frames in
    let all = concat xs in
    let many = length-map frames (enclosed end.field) in
    let some = w.some in
    let now = near-now end.mode last all octets (no-fault all (omega (arith, many, as-long xs w.fitting, some)) w.few) w.near in
    let f = filled-front all in
    let taken = subst (λ c. AreTakenOut end.several c xs) (sym f.2) (taken-out end.several xs (take f.0 fill) w.fitting (λ e. many ∙ w.one e) (fills f.0 f.1)) in
    let one : AreBrought end.several end.field (filled all ∷ []) frames = (xs, frames, [], taken, all-passed end.field frames w.whole, sym (append-nil frames), refl) in
    (ap (λ (s : Step). s.0) now, (frames, subst (λ cs. AreBrought end.several end.field cs frames) (sym (ap (λ (s : Step). s.1) now)) one, refl))

-- octets are lost if their effect on the decoder is the same as the effect of other octets that are lost
lost-alike : (end : LinkEnd) (last o : ℕ) (octets os : List ℕ) (later : ℕ) → Both end.mode most_octets (Searching last) octets ≡ Both end.mode most_octets (Searching o) os → IsLost end o os later → IsLost end last octets later
lost-alike end last o octets os later same is = (
  (is.0.0, subst (λ cs. AreBrought end.several end.field cs is.0.0) (sym (ap (λ (s : Step). s.1) same)) is.0.1, is.0.2),
  ap (λ (s : Step). s.0) same ∙ is.1,
)

-- octets are lost if nothing in them counts as a start sequence, if they are a start sequence and a code block that is
-- rejected, or if they are a CLTU with few wrong bits whose octets bring no frame
pub idle-lost : (end : LinkEnd) (last : ℕ) (octets : List ℕ) → HasNoStart end.mode last octets → (later : ℕ) × IsLost end last octets later
idle-lost end last [] none = (last, (([], refl, refl), refl))
idle-lost end last (o ∷ os) none =
    let more = idle-lost end o os none.1 in
    (more.0, lost-alike end last o (o ∷ os) os more.0 (ap (λ (s : Step). behind end.mode most_octets s os) (no-start end.mode last o none.0)) more.1)

none-lost : (end : LinkEnd) (last : ℕ) (octets : List ℕ) (candidates : List (List ℕ)) → Both end.mode most_octets (Searching last) octets ≡ (Searching 0, candidates) → AreBrought end.several end.field candidates [] → IsLost end last octets 0
none-lost end last octets candidates now none =
    (([], subst (λ cs. AreBrought end.several end.field cs []) (sym (ap (λ (s : Step). s.1) now)) none, refl), ap (λ (s : Step). s.0) now)

pub cut-lost : (end : LinkEnd) (last one two : ℕ) (block : List ℕ) (parity : ℕ) → is_start end.mode last one ≡ false → is_start end.mode one two ≡ true → length block ≡ 7
    → decoded end.mode (block ++ parity ∷ []) ≡ None → IsLost end last (one ∷ two ∷ (block ++ parity ∷ [])) 0
cut-lost end last one two bs parity yet start seven rejected =
    let now : Both end.mode most_octets (Searching last) (one ∷ two ∷ (bs ++ parity ∷ [])) ≡ (Searching 0, []) =
    ap (λ (s : Step). behind end.mode most_octets s (two ∷ (bs ++ parity ∷ []))) (no-start end.mode last one yet)
    ∙ ap (λ (s : Step). behind end.mode most_octets s (bs ++ parity ∷ [])) (a-start end.mode one two start)
    ∙ ap (Both end.mode most_octets (Decoding [] [])) (sym (append-nil (bs ++ parity ∷ [])))
    ∙ block end.mode most_octets [] bs parity [] seven
    ∙ ap (λ (o : Option (List ℕ)). behind end.mode most_octets (after_block most_octets [] o) []) rejected in
    none-lost end last (one ∷ two ∷ (bs ++ parity ∷ [])) [] now refl

pub refused-lost : (end : LinkEnd) (last : ℕ) (carried octets : List ℕ) → cltu_fault_of carried ≡ None → IsNearCltu end.mode last carried octets
    → AreBrought end.several end.field (filled carried ∷ []) [] → IsLost end last octets 0
refused-lost end last carried octets fault near none = none-lost end last octets (filled carried ∷ []) (near-now end.mode last carried octets fault near) none

-- an input that carries events brings about exactly these events, and the receiver searches again
step : (end : LinkEnd) (last later : ℕ) (es : List Event) (c : Coming) → IsCarriedOrLost end last es c later → (state_behind end (Searching last) c ≡ Searching later) × AreEventsAt end (Searching last) c es
step end last later es (Asks e) is = (ap Searching (sym is.1), is.0)
step end last later es (Octets octets) (inl is) = (is.1.1, subst (AreEventsAt end (Searching last) (Octets octets)) (sym is.0) is.1.0)
step end last later es (Octets octets) (inr is) =
    let w = well-come end last is.0 octets is.2 in
    (w.0 ∙ ap Searching (sym is.3), subst (AreEventsAt end (Searching last) (Octets octets)) (sym is.1) w.1)

pub carried-unaltered : (end : LinkEnd) (frames : ℕ → List ℕ) (last : ℕ) (session : List Action) (coming : List Coming) → AreCarriedOrLost end frames last session coming
    → AltersNothing end frames (Searching last) session coming
carried-unaltered end frames last session [] are = are
carried-unaltered end frames last session (c ∷ coming) are =
    let s = step end last are.2 (events_of frames are.0) c are.4 in (
      are.0,
      are.1,
      are.3,
      λ es at. events-alike end (Searching last) c es (events_of frames are.0) at s.1,
      subst (λ state. AltersNothing end frames state are.1 coming) (sym s.0) (carried-unaltered end frames are.2 are.1 coming are.5),
    )

pub carried-whole : (end : LinkEnd) (frames : ℕ → List ℕ) (last : ℕ) (session : List Action) (coming : List Coming) → AreCarriedOrLost end frames last session coming
    → AreEventsOf end (Searching last) coming (events_of frames session)
carried-whole end frames last session [] are = are
carried-whole end frames last session (c ∷ coming) are =
    let s = step end last are.2 (events_of frames are.0) c are.4 in (
      events_of frames are.0,
      events_of frames are.1,
      s.1,
      ap (events_of frames) are.3 ∙ flat_map-append (events_at frames) are.0 are.1,
      subst (λ state. AreEventsOf end state coming (events_of frames are.1)) (sym s.0) (carried-whole end frames are.2 are.1 coming are.5),
    )

-- if detection lets nothing through that was altered, the events of the receiver are those of the session
pub events-came : (end : LinkEnd) (l : Loop) (state : Reception) (session : List Action) (coming : List Coming) (came : List Event)
    → AltersNothing end l.frames state session coming → AreEventsOf end state coming came → came ≡ events l session
events-came end l state session [] came so are = are ∙ sym so
events-came end l state session (c ∷ coming) came so are =
    are.3 ∙ ap (λ (x : List Event). x ++ are.1) (so.3 are.0 are.2)
    ∙ ap (λ (x : List Event). events_of l.frames so.0 ++ x) (events-came end l (state_behind end state c) so.1 coming are.1 so.4 are.4)
    ∙ sym (ap (events l) so.2 ∙ flat_map-append (events_at l.frames) so.0 so.1)
