-- The way from a sender's packets to the packets that are taken, across the start of an era.
use Rattle.tc_laws.proofs.EndsLemmas.Names.{Action, AllByRecursion, AltersNothing, AreEventsOf, AreFrom, AreGivenOf, AreNumbered, CanBeSent, Coming, Event, Header, IsLoop, IsStart, LinkEnd, List, Loop, Queue, Reception, SendsOnly, Some, Start, UnitSent, [], accepted, ap, arith, begins, begun, comes, era, era_session, field_of, inl, inr, is-loop, journal, journal-whole, known-so, length, length-drop, map, queue_of, receiver, refl, released-within, released_since, run_within, sent, sent_from, subst, suc, sym, units_on, whole, zero, ℕ, ◌++◌, ◌∙◌, ◌∷◌, ◌≡◌, ◌≤◌}
use Rattle.tc_laws.proofs.EndsLemmas.Arrived.{events-came}
use Rattle.tc_laws.proofs.EndsLemmas.Numbered.{numbered-sends}
use Rattle.tc_laws.proofs.EndsLemmas.Segmented.{Makes}
use Rattle.tc_laws.proofs.EndsLemmas.Whole.{given-of-sent}

shift : (sent : ℕ → List ℕ) (k n : ℕ) → sent_from sent (suc k) n ≡ sent_from (λ i. sent (suc i)) k n
shift sent k zero = refl
shift sent k (suc n) = ap (λ (x : List (List ℕ)). sent (suc k) ∷ x) (shift sent (suc k) n)

-- the data fields of a sender's first frames are those of the frames in the list
fields-of : (frames : ℕ → List ℕ) (list : List (List ℕ)) → AreFrom frames list → sent_from (λ i. field_of (frames i)) 0 (length list) ≡ map field_of list
fields-of frames [] are = refl
fields-of frames (f ∷ fs) are =
    rw (are 0 f refl) (ap (λ (x : List (List ℕ)). field_of f ∷ x) (shift (λ i. field_of (frames i)) 0 (length fs) ∙ fields-of (λ i. frames (suc i)) fs (λ i frame e. are (suc i) frame e)))

-- if a sender sends only its first n frames, it begins no more than n frames
begun-within : (session : List Action) (n : ℕ) → SendsOnly n session → (t : ℕ) → begun session t ≤ n
begun-within session n only zero = omega arith
begun-within session n only (suc t) = let before = begun-within session n only t in elim (begins session t) [
  | inl same ↦ omega arith
  | inr one ↦ let low = only t one.0 one.1 in let e = one.2 in omega arith
]

-- if a sender sends only its first n frames, no more than n data fields are released
released-few : (l : Loop) (session : List Action) (n : ℕ) → IsLoop l session → SendsOnly n session → released_since l.limits l.settings l.before (journal l session) ≤ n
released-few l session n k only =
    let so = subst (λ xs. accepted l xs ≤ begun session (length session)) (whole session) (known-so l session (length session) k).among in
    let most = begun-within session n only (length session) in
    let all = released-within l.limits l.settings (journal l session) k.lawful in
    let since = length-drop (length (run_within l.limits l.settings l.before).accepted) (receiver l session).accepted in
    omega arith

pub packets-of-loop : Makes → (l : Loop) (session : List Action) (header : Header) (units : List UnitSent) (frames : List (List ℕ)) (apid : ℕ) (q : Queue) → IsLoop l session
    → AllByRecursion (CanBeSent l.limits l.settings.segmented) units → AreNumbered l.settings.segmented header units frames → AreFrom l.frames frames → SendsOnly (length frames) session
    → queue_of apid (receiver l session).queues ≡ Some q → AreGivenOf l.limits l.settings apid l.before (journal l session) (length frames) (units_on units)
packets-of-loop make l session header units frames apid q k can numbered are only has =
    let sends = numbered-sends l.limits l.settings.segmented header units frames (sent l) can numbered (fields-of l.frames frames are) in
    given-of-sent l.limits l.settings (journal l session) l.before (sent l) (length frames) make _ l.first apid (units_on units) q k.lawful k.era (comes l session k) k.allowed.by_headers sends
    (released-few l session (length frames) k only) has

pub packets-of-start : Makes → (s : Start) (header : Header) (units : List UnitSent) (frames : List (List ℕ)) (apid : ℕ) (q : Queue) → IsStart s
    → AllByRecursion (CanBeSent s.loop.limits s.loop.settings.segmented) units → AreNumbered s.loop.settings.segmented header units frames → AreFrom (era s).frames frames → SendsOnly (length frames) (era_session s)
    → queue_of apid (receiver s.loop s.session).queues ≡ Some q
    → AreGivenOf s.loop.limits s.loop.settings apid (era s).before (journal s.loop s.session) (length frames) (units_on units)
packets-of-start make s header units frames apid q k can numbered are only has =
    let same = journal-whole s k in
    subst (λ es. AreGivenOf s.loop.limits s.loop.settings apid (era s).before es (length frames) (units_on units)) same
    (packets-of-loop make (era s) (era_session s) header units frames apid q (is-loop s k) can numbered are only
    (subst (λ es. queue_of apid (run_within s.loop.limits s.loop.settings es).queues ≡ Some q) (sym same) has))

-- the law also holds for frames in CLTUs, because the receiver's journal is that of the session
pub packets-in-cltus : Makes → (s : Start) (header : Header) (units : List UnitSent) (frames : List (List ℕ)) (apid : ℕ) (q : Queue) (end : LinkEnd) (state : Reception) (coming : List Coming) (came : List Event)
    → IsStart s → AllByRecursion (CanBeSent s.loop.limits s.loop.settings.segmented) units → AreNumbered s.loop.settings.segmented header units frames → AreFrom (era s).frames frames → SendsOnly (length frames) (era_session s)
    → AltersNothing end s.loop.frames state s.session coming → AreEventsOf end state coming came
    → queue_of apid (run_within s.loop.limits s.loop.settings (s.loop.before ++ came)).queues ≡ Some q
    → AreGivenOf s.loop.limits s.loop.settings apid (era s).before (s.loop.before ++ came) (length frames) (units_on units)
packets-in-cltus make s header units frames apid q end state coming came k can numbered are only so events has =
    let same : journal s.loop s.session ≡ s.loop.before ++ came = ap (λ (x : List Event). s.loop.before ++ x) (sym (events-came end s.loop state s.session coming came so events)) in
    subst (λ es. AreGivenOf s.loop.limits s.loop.settings apid (era s).before es (length frames) (units_on units)) same
    (packets-of-start make s header units frames apid q k can numbered are only (subst (λ es. queue_of apid (run_within s.loop.limits s.loop.settings es).queues ≡ Some q) (sym same) has))
