-- The state of a longer journal continues the state of its beginning.
use Rattle.tc_channel.proofs.Names.{◌≡◌, ℕ, ◌+◌, Bool, true, false, cond, eqb, ◌&&◌, List, [], ◌∷◌, ◌++◌, length, map, drop, refl, sym, ◌∙◌, append_assoc, arith, nat_lt, append-nil, map-map, Report, E10, accepts, after, Service, Bd, Settings, Event, Frame, Release, Take, TakeUnit, ChannelState, Accepted, Queue, buffer, first_state_within, empty_queue, empty_unit_queue, QueueSetting, MapSetting, is_for, is_of_map, map_of, is_chosen, packets_offered, units_offered, share_of, with_shares, step, row_of, unit_of, taken_from, first_of, run_from, header_of, Ad, passed_on, run_within}
use Rattle.tc_channel.specs.Laws.{QueueGrows, QueuesGrow, Grows}
use Rattle.tc_channel.proofs.Runs.{run-append}
use Rattle.tc_channel.proofs.StateQueues.{kept-either}

same-queue : (q : Queue) → QueueGrows q q
same-queue q = record { key = refl; capacity = refl; admitted = ([], sym (append-nil q.admitted)); taken = omega arith }

queue-then : (a b c : Queue) → QueueGrows a b → QueueGrows b c → QueueGrows a c
queue-then a b c g h = record {
  key = h.key ∙ g.key;
  capacity = h.capacity ∙ g.capacity;
  admitted = (g.admitted.0 ++ h.admitted.0, h.admitted.1 ∙ rw g.admitted.1 (append_assoc a.admitted g.admitted.0 h.admitted.0));
  taken = let t = g.taken in let u = h.taken in omega arith;
}

same-queues : (qs : List Queue) → QueuesGrow qs qs
same-queues [] = tt
same-queues (q ∷ qs) = (same-queue q, same-queues qs)

queues-then : (xs ys zs : List Queue) → QueuesGrow xs ys → QueuesGrow ys zs → QueuesGrow xs zs
queues-then [] [] [] g h = tt
queues-then [] [] (c ∷ zs) g h = h
queues-then (a ∷ xs) (b ∷ ys) [] g h = absurd h
queues-then (a ∷ xs) (b ∷ ys) (c ∷ zs) g h = (queue-then a b c g.0 h.0, queues-then xs ys zs g.1 h.1)
queues-then _ _ zs g h = absurd g

shares-grow : (wanted : ℕ → List ℕ → Bool) (items : List (List ℕ)) (qs : List Queue) → QueuesGrow qs (with_shares wanted items qs)
shares-grow wanted items [] = tt
shares-grow wanted items (q ∷ qs) = (record { key = refl; capacity = refl; admitted = (share_of wanted items q, refl); taken = omega arith }, shares-grow wanted items qs)

taken-grows : (key : ℕ) (q : Queue) → QueueGrows q (taken_from key q)
taken-grows key q = by (eqb q.key key && nat_lt q.taken (length q.admitted)) where
  by : (t : Bool) → QueueGrows q (cond t (record q { taken = q.taken + 1 }) q)
  by true = record { key = refl; capacity = refl; admitted = ([], sym (append-nil q.admitted)); taken = omega arith }
  by false = same-queue q

takes-grow : (key : ℕ) (qs : List Queue) → QueuesGrow qs (map (taken_from key) qs)
takes-grow key [] = tt
takes-grow key (q ∷ qs) = (taken-grows key q, takes-grow key qs)

same : (b : ChannelState) → Grows b b
same b = record { accepted = ([], sym (append-nil b.accepted)); released = omega arith; passed = ([], sym (append-nil b.passed)); queues = same-queues b.queues; units = same-queues b.units }

then : (a b c : ChannelState) → Grows a b → Grows b c → Grows a c
then a b c g h = record {
  accepted = (g.accepted.0 ++ h.accepted.0, h.accepted.1 ∙ rw g.accepted.1 (append_assoc a.accepted g.accepted.0 h.accepted.0));
  released = let t = g.released in let u = h.released in omega arith;
  passed = (g.passed.0 ++ h.passed.0, h.passed.1 ∙ rw g.passed.1 (append_assoc a.passed g.passed.0 h.passed.0));
  queues = queues-then a.queues b.queues c.queues g.queues h.queues;
  units = queues-then a.units b.units c.units g.units h.units;
}

passed-grows : (service : Service) (field : List ℕ) (b : ChannelState) → Grows b (passed_on service field b)
unfolding passed_on
passed-grows service field b = record {
  accepted = ([], sym (append-nil b.accepted));
  released = omega arith;
  passed = (record { service = service; field = field } ∷ [], refl);
  queues = shares-grow is_for (packets_offered (unit_of b service field) (is_chosen b field)) b.queues;
  units = shares-grow (is_of_map (map_of field)) (units_offered (unit_of b service field) (is_chosen b field)) b.units;
}

accepted-grows : (a : Accepted) (b : ChannelState) → Grows b (record b { accepted = b.accepted ++ a ∷ [] })
accepted-grows a b = record { accepted = (a ∷ [], refl); released = omega arith; passed = ([], sym (append-nil b.passed)); queues = same-queues b.queues; units = same-queues b.units }

with-report : (b later : ChannelState) (r : Report) → Grows b later → Grows b (record later { report = r })
with-report b later r g = record { accepted = g.accepted; released = g.released; passed = g.passed; queues = g.queues; units = g.units }

released-grows : (b later : ChannelState) (r : Report) → later.released ≡ b.released → Grows b later → Grows b (record later { released = b.released + 1; report = r })
released-grows b later r e g = record { accepted = g.accepted; released = omega arith; passed = g.passed; queues = g.queues; units = g.units }

step-grows : (c : Settings) (b : ChannelState) (e : Event) → Grows b (step c b e)
unfolding passed_on
step-grows c b (Frame octets) =
    let row = row_of c b octets in
    with-report b _ (after row b.report)
    (kept-either (λ x. Grows b x) row (accepts row b.report) octets b (same b) (accepted-grows (record { ns = (header_of octets).ns; field = drop 5 octets }) b) (passed-grows Bd (drop 5 octets) b))
step-grows c b Release = released-grows b (passed_on Ad (first_of (buffer b)) b) (after E10 b.report) refl (passed-grows Ad (first_of (buffer b)) b)
step-grows c b (Take apid) = record { accepted = ([], sym (append-nil b.accepted)); released = omega arith; passed = ([], sym (append-nil b.passed)); queues = takes-grow apid b.queues; units = same-queues b.units }
step-grows c b (TakeUnit map_id) = record { accepted = ([], sym (append-nil b.accepted)); released = omega arith; passed = ([], sym (append-nil b.passed)); queues = same-queues b.queues; units = takes-grow map_id b.units }

run_from-grows : (c : Settings) (b : ChannelState) (es : List Event) → Grows b (run_from c b es)
run_from-grows c b [] = same b
run_from-grows c b (e ∷ es) = then b (step c b e) (run_from c (step c b e) es) (step-grows c b e) (run_from-grows c (step c b e) es)

pub run-grows : (limits : ℕ → ℕ) (c : Settings) (past future : List Event) → Grows (run_within limits c past) (run_within limits c (past ++ future))
run-grows limits c past future = rw (run-append limits c past future) (run_from-grows c (run_within limits c past) future)

abbrev pub key_and_capacity : Queue → ℕ × ℕ
key_and_capacity q = (q.key, q.capacity)

keys-and-capacities-kept : (olds news : List Queue) → QueuesGrow olds news → map key_and_capacity news ≡ map key_and_capacity olds
keys-and-capacities-kept [] [] g = refl
keys-and-capacities-kept (old ∷ olds) (new ∷ news) g = rw (g.0.key, g.0.capacity, keys-and-capacities-kept olds news g.1) refl
keys-and-capacities-kept _ _ g = absurd g

pub queues-are : (limits : ℕ → ℕ) (c : Settings) (journal : List Event) → map key_and_capacity (run_within limits c journal).queues ≡ map {B = ℕ × ℕ} (λ (q : QueueSetting). (q.apid, q.capacity)) c.queues
unfolding run_within
queues-are limits c journal = keys-and-capacities-kept (map empty_queue c.queues) (run_within limits c journal).queues (run_from-grows c (first_state_within limits c) journal).queues ∙ map-map key_and_capacity empty_queue c.queues

pub units-are : (limits : ℕ → ℕ) (c : Settings) (journal : List Event) → map key_and_capacity (run_within limits c journal).units ≡ map {B = ℕ × ℕ} (λ (m : MapSetting). (m.map, m.capacity)) c.maps
unfolding run_within
units-are limits c journal = keys-and-capacities-kept (map empty_unit_queue c.maps) (run_within limits c journal).units (run_from-grows c (first_state_within limits c) journal).units ∙ map-map key_and_capacity empty_unit_queue c.maps
