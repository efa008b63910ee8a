-- The numbers of items and octets that wait in the queues and in the buffer, and the bound of memory. No more items
-- wait than the bound counts.
use Rattle.tc_channel.proofs.Names.{ℕ, zero, suc, ◌+◌, ◌*◌, ◌≤◌, Bool, true, false, cond, List, [], ◌∷◌, length, take, map, drop, filter, Option, Some, refl, arith, ◌≡◌, AllByRecursion, length-drop, length-map, length-take, sum_by-cons, accepts, Service, Bd, IsWithinLimit, unit_ended, largest_unit, stream, Settings, Event, Frame, Release, Take, TakeUnit, ChannelState, Accepted, Queue, empty_queue, empty_unit_queue, buffer, waiting, map_of, is_chosen, packets_offered, units_offered, share_of, with_shares, room_of, is_for, is_of_map, step, row_of, taken_from, unit_of, first_of, IsLawfulWithin, run_within, Ad, passed_on, sym, ap, ◌∙◌, sum_by, QueueSetting, MapSetting, with_share}
use Rattle.tc_queues.specs.Memory.{packets_stored, units_stored, waiting_in_all, largest_item, largest_field, octets_in, octets_waiting, room_words, queue_words, runs_memory, tables_memory, segment_memory, memory_waiting, memory_bound}
use Rattle.tc_packet.specs.SpacePacket.{begins, named_length, packets_within}
use Rattle.tc_channel.proofs.BufferSize.{buffer-fits}
use Rattle.tc_channel.proofs.Limits.{within-unit, within-both}
use Rattle.tc_channel.proofs.StateQueues.{kept-either, taken-same, GoesOn, AreKept, run-both, queues-kept, units-kept}
use Rattle.tc_channel.proofs.Filled.{each-accepted}
use Rattle.tc_channel.proofs.Runs.{always}
use Rattle.tc_queues.proofs.Lists.{all-append, all-take, all-drop, all-map, all-mapped}

abbrev room : List Queue → ℕ
room qs = sum_by (λ (q : Queue). q.capacity) qs

room-cons : (q : Queue) (qs : List Queue) → room (q ∷ qs) ≡ q.capacity + room qs
room-cons q qs = sum_by-cons (λ (x : Queue). x.capacity) q qs

room-with_shares : (wanted : ℕ → List ℕ → Bool) (items : List (List ℕ)) (qs : List Queue) → room (with_shares wanted items qs) ≡ room qs
room-with_shares wanted items [] = refl
room-with_shares wanted items (q ∷ qs) = room-cons (with_share wanted items q) (with_shares wanted items qs) ∙ ap (λ x. q.capacity + x) (room-with_shares wanted items qs) ∙ sym (room-cons q qs)

room-taken : (key : ℕ) (qs : List Queue) → room (map (taken_from key) qs) ≡ room qs
room-taken key [] = refl
room-taken key (q ∷ qs) = omega (arith, room-cons (taken_from key q) (map (taken_from key) qs), taken-same {A = ℕ} (λ x. x.capacity) (λ x n. refl) key q, room-taken key qs, room-cons q qs)

room-goes-on : (first : ℕ) → GoesOn (λ qs. room qs ≡ first)
room-goes-on first = record {
  offered = λ wanted items qs h. room-with_shares wanted items qs ∙ h;
  taken = λ key qs h. room-taken key qs ∙ h;
}

room-new : {A : Type 0} (f : A → Queue) (capacity : A → ℕ) (xs : List A) → ((x : A) → (f x).capacity ≡ capacity x) → room (map f xs) ≡ sum_by capacity xs
room-new f capacity [] same = refl
room-new f capacity (x ∷ xs) same = omega (arith, room-cons (f x) (map f xs), same x, room-new f capacity xs same, sum_by-cons capacity x xs)

room-stays : (limits : ℕ → ℕ) (s : Settings) (journal : List Event) → (room (run_within limits s journal).queues ≡ packets_stored s) × (room (run_within limits s journal).units ≡ units_stored s)
room-stays limits s journal = run-both limits (λ qs. room qs ≡ packets_stored s) (λ qs. room qs ≡ units_stored s) (room-goes-on (packets_stored s)) (room-goes-on (units_stored s)) s journal (room-new empty_queue (λ (q : QueueSetting). q.capacity) s.queues (λ q. refl)) (room-new empty_unit_queue (λ (m : MapSetting). m.capacity) s.maps (λ m. refl))

waiting-within : (qs : List Queue) → AreKept qs → waiting_in_all qs ≤ room qs
waiting-within [] h = omega arith
waiting-within (q ∷ qs) h =
    let capacity = h.0.capacity in
    omega (arith, sum_by-cons (λ (x : Queue). length (waiting x)) q qs, length-drop q.taken q.admitted, room-cons q qs, waiting-within qs h.1)

pub packets-within : (limits : ℕ → ℕ) (s : Settings) (journal : List Event) → waiting_in_all (run_within limits s journal).queues ≤ packets_stored s
packets-within limits s journal = omega (arith, waiting-within (run_within limits s journal).queues (queues-kept limits s journal), (room-stays limits s journal).0)

pub units-within : (limits : ℕ → ℕ) (s : Settings) (journal : List Event) → waiting_in_all (run_within limits s journal).units ≤ units_stored s
units-within limits s journal = omega (arith, waiting-within (run_within limits s journal).units (units-kept limits s journal), (room-stays limits s journal).1)

abbrev IsShort : List ℕ → Type 0
IsShort item = length item ≤ largest_unit

abbrev AreShort : List (List ℕ) → Type 0
AreShort items = AllByRecursion IsShort items

short-filter : (p : List ℕ → Bool) (xs : List (List ℕ)) → AreShort xs → AreShort (filter p xs)
short-filter p [] h = tt
short-filter p (x ∷ xs) h = by (p x) (short-filter p xs h.1) where
  by : (t : Bool) → AreShort (filter p xs) → AreShort (cond t (x ∷ filter p xs) (filter p xs))
  by true rest = (h.0, rest)
  by false rest = rest

short-cut : (n : ℕ) (octets : List ℕ) → length octets ≤ largest_unit → AreShort (packets_within n octets)
short-cut zero octets h = tt
short-cut (suc n) octets h =
    let k = named_length octets in
    by (begins octets) (omega (arith, h, length-take k octets)) (short-cut n (drop k octets) (omega (arith, h, length-drop k octets))) where
      by : (t : Bool) → length (take (named_length octets) octets) ≤ largest_unit → AreShort (packets_within n (drop (named_length octets) octets)) → AreShort (cond t (take (named_length octets) octets ∷ packets_within n (drop (named_length octets) octets)) [])
      by true one rest = (one, rest)
      by false one rest = tt

short-packets : (unit : Option (List ℕ)) (chosen : Bool) → IsWithinLimit unit → AreShort (packets_offered unit chosen)
short-packets (Some unit) false h = short-cut (length unit) unit h
short-packets _ _ h = tt

short-units : (unit : Option (List ℕ)) (chosen : Bool) → IsWithinLimit unit → AreShort (units_offered unit chosen)
short-units (Some unit) true h = (h, tt)
short-units _ _ h = tt

-- each queue has admitted only items that are no longer than the largest unit
abbrev HoldShort : List Queue → Type 0
HoldShort qs = AllByRecursion (λ (q : Queue). AreShort q.admitted) qs

hold-offered : (wanted : ℕ → List ℕ → Bool) (items : List (List ℕ)) (qs : List Queue) → AreShort items → HoldShort qs → HoldShort (with_shares wanted items qs)
hold-offered wanted items [] i h = tt
hold-offered wanted items (q ∷ qs) i h = (all-append IsShort q.admitted (share_of wanted items q) h.0 (all-take IsShort (room_of q) (filter (wanted q.key) items) (short-filter (wanted q.key) items i)), hold-offered wanted items qs i h.1)

hold-one : (key : ℕ) (q : Queue) → AreShort q.admitted → AreShort (taken_from key q).admitted
hold-one key q h = rw (taken-same {A = List (List ℕ)} (λ q. q.admitted) (λ q n. refl) key q) h

hold-taken : (key : ℕ) (qs : List Queue) → HoldShort qs → HoldShort (map (taken_from key) qs)
hold-taken key qs = all-mapped (λ (q : Queue). AreShort q.admitted) (λ (q : Queue). AreShort q.admitted) (taken_from key) qs (hold-one key)

abbrev Hold : ChannelState → Type 0
Hold b = HoldShort b.queues × HoldShort b.units

hold-passed : (b : ChannelState) (service : Service) (field : List ℕ) → Hold b → Hold (passed_on service field b)
unfolding passed_on
hold-passed b service field h =
    let w = within-both (b.limit (map_of field)) (unit_ended b.segmented (stream service (map_of field) b.passed) field) (within-unit b.segmented (stream service (map_of field) b.passed) field) in
    (hold-offered is_for (packets_offered (unit_of b service field) (is_chosen b field)) b.queues (short-packets (unit_of b service field) (is_chosen b field) w) h.0, hold-offered (is_of_map (map_of field)) (units_offered (unit_of b service field) (is_chosen b field)) b.units (short-units (unit_of b service field) (is_chosen b field) w) h.1)

step-hold : (c : Settings) (b : ChannelState) (e : Event) → Hold b → Hold (step c b e)
step-hold c b (Frame octets) h = kept-either Hold (row_of c b octets) (accepts (row_of c b octets) b.report) octets b h h (hold-passed b Bd (drop 5 octets) h)
step-hold c b Release h = hold-passed b Ad (first_of (buffer b)) h
step-hold c b (Take apid) h = (hold-taken apid b.queues h.0, h.1)
step-hold c b (TakeUnit map_id) h = (h.0, hold-taken map_id b.units h.1)

run-hold : (limits : ℕ → ℕ) (c : Settings) (journal : List Event) → Hold (run_within limits c journal)
run-hold limits c journal = always Hold limits c journal (step-hold c) (all-map (λ q. AreShort q.admitted) empty_queue c.queues (λ q. tt), all-map (λ q. AreShort q.admitted) empty_unit_queue c.maps (λ m. tt))

octets-within : (items : List (List ℕ)) → AreShort items → octets_in items ≤ length items * 65542
octets-within [] h = omega arith
octets-within (x ∷ xs) h =
    let short : length x ≤ 65542 = h.0 in
    omega (arith, short, sum_by-cons (λ (i : List ℕ). length i) x xs, octets-within xs h.1)

all-within : (qs : List Queue) → HoldShort qs → octets_waiting qs ≤ waiting_in_all qs * 65542
all-within [] h = omega arith
all-within (q ∷ qs) h =
    let short = octets-within (drop q.taken q.admitted) (all-drop IsShort q.taken q.admitted h.0) in
    omega (arith, sum_by-cons (λ (x : Queue). octets_in (waiting x)) q qs, sum_by-cons (λ (x : Queue). length (waiting x)) q qs, short, all-within qs h.1)

pub packets-fit : (limits : ℕ → ℕ) (s : Settings) (journal : List Event) → octets_waiting (run_within limits s journal).queues ≤ packets_stored s * largest_unit
packets-fit limits s journal = omega (arith, all-within (run_within limits s journal).queues (run-hold limits s journal).0, packets-within limits s journal)

pub units-fit : (limits : ℕ → ℕ) (s : Settings) (journal : List Event) → octets_waiting (run_within limits s journal).units ≤ units_stored s * largest_unit
units-fit limits s journal = omega (arith, all-within (run_within limits s journal).units (run-hold limits s journal).1, units-within limits s journal)

-- the accepted frame has a data field that is no longer than the largest one
abbrev HasField : Accepted → Type 0
HasField a = length a.field ≤ 1019

abbrev HaveFields : List Accepted → Type 0
HaveFields xs = AllByRecursion HasField xs

state-fields : (limits : ℕ → ℕ) (c : Settings) (journal : List Event) → IsLawfulWithin limits c journal → HaveFields (run_within limits c journal).accepted
state-fields = each-accepted HasField (λ octets whole. let most = whole.most in omega (arith, length-drop 5 octets))

fields-within : (xs : List Accepted) → HaveFields xs → octets_in (map (λ (a : Accepted). a.field) xs) ≤ length xs * 1019
fields-within [] h = omega arith
fields-within (x ∷ xs) h =
    let short : length x.field ≤ 1019 = h.0 in
    omega (arith, short, sum_by-cons (λ (i : List ℕ). length i) x.field (map (λ (a : Accepted). a.field) xs), fields-within xs h.1)

pub fields-fit : (limits : ℕ → ℕ) (s : Settings) (journal : List Event) → IsLawfulWithin limits s journal → octets_in (buffer (run_within limits s journal)) ≤ s.buffer * largest_field
fields-fit limits s journal lawful =
    let b = run_within limits s journal in
    let fields = fields-within (drop b.released b.accepted) (all-drop HasField b.released b.accepted (state-fields limits s journal lawful)) in
    omega (arith, fields, length-map (drop b.released b.accepted) (λ (a : Accepted). a.field), buffer-fits limits s journal)

-- ---- the items that wait in a channel are within the bound of its memory
--
-- The lemma is about plain numbers, for a channel with segment headers: the numbers of queues and MAPs, the numbers of
-- packets, units and data fields that they may hold, and the numbers of those that wait, with their octets.
fits : (segmented : Bool) (queues maps stored stored_units fields packets octets units unit_octets field_octets runs tables segment : ℕ) → segmented ≡ true
    → packets ≤ stored → octets ≤ stored * largest_unit → units ≤ stored_units → unit_octets ≤ stored_units * largest_unit → field_octets ≤ fields * largest_field
    → (queues + maps) * queue_words + (packets * room_words + octets) + (units * room_words + unit_octets) + field_octets
    ≤ fields * (room_words + largest_field) + runs + ((queues + maps) * queue_words + stored * (room_words + largest_item segmented) + stored_units * (room_words + largest_unit)) + tables + segment
fits true queues maps stored stored_units fields packets octets units unit_octets field_octets runs tables segment e a b c d f = omega arith
fits false queues maps stored stored_units fields packets octets units unit_octets field_octets runs tables segment e a b c d f = absurd cc

pub waits-within : (limits : ℕ → ℕ) (s : Settings) (journal : List Event) → s.segmented ≡ true → IsLawfulWithin limits s journal → memory_waiting s (run_within limits s journal) ≤ memory_bound s
unfolding memory_bound
waits-within limits s journal segmented lawful =
    let state = run_within limits s journal in
    fits s.segmented (length s.queues) (length s.maps) (packets_stored s) (units_stored s) s.buffer (waiting_in_all state.queues) (octets_waiting state.queues) (waiting_in_all state.units) (octets_waiting state.units) (octets_in (buffer state)) (runs_memory s) (tables_memory s) (segment_memory s)
    segmented (packets-within limits s journal) (packets-fit limits s journal) (units-within limits s journal) (units-fit limits s journal) (fields-fit limits s journal lawful)
