-- Properties of the queues of each state.
use Rattle.tc_channel.proofs.Names.{◌≡◌, ◌≢◌, ℕ, suc, ◌+◌, ◌<◌, Bool, true, false, cond, eqb, ◌&&◌, List, [], ◌∷◌, ◌++◌, length, map, drop, filter, get_or, refl, ap, ◌∙◌, arith, nat_lt, AllPairs, AllByRecursion, nat_tests, length-append, length-take, header_of, Row, E1, E6, accepts, Bd, QueueSetting, MapSetting, Settings, Event, Frame, Release, Take, TakeUnit, IsAllowed, ChannelState, Queue, empty_queue, empty_unit_queue, buffer, map_of, is_chosen, packets_offered, units_offered, share_of, with_share, with_shares, room_of, is_for, is_of_map, step, row_of, kept, taken_from, unit_of, first_of, AreDistinct, Ad, passed_on, run_within, map-map}
use Rattle.tc_channel.specs.Laws.{KeepsToItsCapacity}
use Rattle.tc_channel.proofs.Runs.{always}
use Rattle.tc_queues.proofs.Lists.{all-map, all-mapped}

-- A property holds for the state after a frame if it holds for three states: the state before the frame, that state
-- with one more accepted frame, and that state with one more field passed on.
pub kept-either : (P : ChannelState → Type 0) (row : Row) (accepted : Bool) (octets : List ℕ) (b : ChannelState) → P b
    → P (record b { accepted = b.accepted ++ record { ns = (header_of octets).ns; field = drop 5 octets } ∷ [] }) → P (passed_on Bd (drop 5 octets) b) → P (kept row accepted octets b)
kept-either P E1 true octets b same one passed = one
kept-either P E6 true octets b same one passed = passed
kept-either P _ _ octets b same one passed = same

-- the property is kept when items are offered to the queues, and when an item is taken
pub record GoesOn (P : List Queue → Type 0) : Type 0 where
  pub offered : (wanted : ℕ → List ℕ → Bool) (items : List (List ℕ)) (qs : List Queue) → P qs → P (with_shares wanted items qs)
  pub taken : (key : ℕ) (qs : List Queue) → P qs → P (map (taken_from key) qs)

step-both : (P Q : List Queue → Type 0) → GoesOn P → GoesOn Q → (c : Settings) (b : ChannelState) (e : Event) → P b.queues × Q b.units → P (step c b e).queues × Q (step c b e).units
unfolding passed_on
step-both P Q p q c b (Frame octets) h =
    let f = drop 5 octets in
    let row = row_of c b octets in
    let accepted = accepts row b.report in (
      kept-either (λ x. P x.queues) row accepted octets b h.0 h.0 (p.offered is_for (packets_offered (unit_of b Bd f) (is_chosen b f)) b.queues h.0),
      kept-either (λ x. Q x.units) row accepted octets b h.1 h.1 (q.offered (is_of_map (map_of f)) (units_offered (unit_of b Bd f) (is_chosen b f)) b.units h.1),
    )
step-both P Q p q c b Release h =
    let f = first_of (buffer b) in (
      p.offered is_for (packets_offered (unit_of b Ad f) (is_chosen b f)) b.queues h.0,
      q.offered (is_of_map (map_of f)) (units_offered (unit_of b Ad f) (is_chosen b f)) b.units h.1,
    )
step-both P Q p q c b (Take apid) h = (p.taken apid b.queues h.0, h.1)
step-both P Q p q c b (TakeUnit map_id) h = (h.0, q.taken map_id b.units h.1)

-- If two properties are kept, and hold for empty packet queues and for empty unit queues, they hold for the queues of
-- each state.
pub run-both : (limits : ℕ → ℕ) (P Q : List Queue → Type 0) → GoesOn P → GoesOn Q → (c : Settings) (journal : List Event) → P (map empty_queue c.queues) → Q (map empty_unit_queue c.maps) → P (run_within limits c journal).queues × Q (run_within limits c journal).units
run-both limits P Q p q c journal h u = always (λ b. P b.queues × Q b.units) limits c journal (step-both P Q p q c) (h, u)

abbrev pub keys : List Queue → List ℕ
keys qs = map (λ (q : Queue). q.key) qs

-- a function that doesn't depend on the number of taken items has the same value after a take
pub taken-same : {A : Type 0} (f : Queue → A) → ((q : Queue) (n : ℕ) → f (record q { taken = n }) ≡ f q) → (key : ℕ) (q : Queue) → f (taken_from key q) ≡ f q
taken-same f same key q = by (eqb q.key key && nat_lt q.taken (length q.admitted)) where
  by : (t : Bool) → f (cond t (record q { taken = q.taken + 1 }) q) ≡ f q
  by true = same q (q.taken + 1)
  by false = refl

pub taken-key : (key : ℕ) (q : Queue) → (taken_from key q).key ≡ q.key
taken-key = taken-same (λ q. q.key) (λ q n. refl)

keys-taken : (key : ℕ) (qs : List Queue) → keys (map (taken_from key) qs) ≡ keys qs
keys-taken key [] = refl
keys-taken key (q ∷ qs) = rw (taken-key key q) (ap (λ (x : List ℕ). q.key ∷ x) (keys-taken key qs))

keys-go-on : (first : List ℕ) → GoesOn (λ qs. keys qs ≡ first)
keys-go-on first = record {
  offered = λ wanted items qs h. map-map (λ (q : Queue). q.key) (with_share wanted items) qs ∙ h;
  taken = λ key qs h. keys-taken key qs ∙ h;
}

keys-stay-both : (limits : ℕ → ℕ) (c : Settings) (journal : List Event) → (keys (run_within limits c journal).queues ≡ map (λ (q : QueueSetting). q.apid) c.queues) × (keys (run_within limits c journal).units ≡ map (λ (m : MapSetting). m.map) c.maps)
keys-stay-both limits c journal =
    let apids = map (λ (q : QueueSetting). q.apid) c.queues in
    let maps = map (λ (m : MapSetting). m.map) c.maps in
    run-both limits (λ qs. keys qs ≡ apids) (λ qs. keys qs ≡ maps) (keys-go-on apids) (keys-go-on maps) c journal (map-map (λ (q : Queue). q.key) empty_queue c.queues) (map-map (λ (q : Queue). q.key) empty_unit_queue c.maps)

pub unit-keys-stay : (limits : ℕ → ℕ) (c : Settings) (journal : List Event) → keys (run_within limits c journal).units ≡ map (λ (m : MapSetting). m.map) c.maps
unit-keys-stay limits c journal = (keys-stay-both limits c journal).1

others-apart : {A : Type 0} (key : A → ℕ) (a : ℕ) (qs : List A) → ((j : ℕ) (d : A) → j < length qs → a ≢ key (get_or qs j d)) → AllByRecursion (λ b. a ≢ b) (map key qs)
others-apart key a [] h = tt
others-apart key a (q ∷ qs) h = (h 0 q (omega arith), others-apart key a qs (λ j d lt. h (suc j) d (omega arith)))

settings-apart : {A : Type 0} (key : A → ℕ) (qs : List A) → AllPairs (λ p q. key p ≢ key q) qs → AreDistinct (map key qs)
settings-apart key [] h = tt
settings-apart key (q ∷ qs) h = (others-apart key (key q) qs (λ j d lt. h 0 (suc j) d (omega arith) (omega arith)), settings-apart key qs (λ i j d lt l. h (suc i) (suc j) d (omega arith) (omega arith)))

pub queues-apart : (limits : ℕ → ℕ) (c : Settings) (journal : List Event) → IsAllowed c → AreDistinct (keys (run_within limits c journal).queues)
queues-apart limits c journal allowed = rw (keys-stay-both limits c journal).0 (settings-apart (λ (q : QueueSetting). q.apid) c.queues allowed.apart)

pub units-apart : (limits : ℕ → ℕ) (c : Settings) (journal : List Event) → IsAllowed c → AreDistinct (keys (run_within limits c journal).units)
units-apart limits c journal allowed = rw (unit-keys-stay limits c journal) (settings-apart (λ (m : MapSetting). m.map) c.maps allowed.maps_apart)

abbrev pub AreKept : List Queue → Type 0
AreKept qs = AllByRecursion KeepsToItsCapacity qs

kept-share : (wanted : ℕ → List ℕ → Bool) (ps : List (List ℕ)) (q : Queue) → KeepsToItsCapacity q → KeepsToItsCapacity (with_share wanted ps q)
kept-share wanted ps q h =
    let taken = h.taken in
    let capacity = h.capacity in
    let l = length-append q.admitted (share_of wanted ps q) in
    let n = length-take (room_of q) (filter (wanted q.key) ps) in
    record { taken = omega arith; capacity = omega arith }

kept-one : (key : ℕ) (q : Queue) → KeepsToItsCapacity q → KeepsToItsCapacity (taken_from key q)
kept-one key q h = by (eqb q.key key) (nat_lt q.taken (length q.admitted)) refl where
  by : (s t : Bool) → nat_lt q.taken (length q.admitted) ≡ t → KeepsToItsCapacity (cond (s && t) (record q { taken = q.taken + 1 }) q)
  by true true e = let capacity = h.capacity in let some : q.taken < length q.admitted = grind (arith, nat_tests) in record { taken = omega arith; capacity = omega arith }
  by true false e = h
  by false t e = h

kept-go-on : GoesOn AreKept
kept-go-on = record {
  offered = λ wanted ps qs. all-mapped KeepsToItsCapacity KeepsToItsCapacity (with_share wanted ps) qs (kept-share wanted ps);
  taken = λ key qs. all-mapped KeepsToItsCapacity KeepsToItsCapacity (taken_from key) qs (kept-one key);
}

kept-both : (limits : ℕ → ℕ) (c : Settings) (journal : List Event) → AreKept (run_within limits c journal).queues × AreKept (run_within limits c journal).units
kept-both limits c journal =
    run-both limits AreKept AreKept kept-go-on kept-go-on c journal
    (all-map KeepsToItsCapacity empty_queue c.queues (λ q. record { taken = omega arith; capacity = omega arith })) (all-map KeepsToItsCapacity empty_unit_queue c.maps (λ m. record { taken = omega arith; capacity = omega arith }))

pub queues-kept : (limits : ℕ → ℕ) (c : Settings) (journal : List Event) → AreKept (run_within limits c journal).queues
queues-kept limits c journal = (kept-both limits c journal).0

pub units-kept : (limits : ℕ → ℕ) (c : Settings) (journal : List Event) → AreKept (run_within limits c journal).units
units-kept limits c journal = (kept-both limits c journal).1
