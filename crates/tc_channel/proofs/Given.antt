-- Everything that leaves a channel came in, in order. Packets and units are taken in the order in which they were
-- admitted, and Type-AD fields are passed on in the order in which they were accepted.
use Rattle.tc_channel.proofs.Names.{◌≡◌, ◌≢◌, ℕ, ◌+◌, ◌<◌, ◌≤◌, Bool, true, false, cond, eqb, List, [], ◌∷◌, ◌++◌, length, map, filter, take, drop, get_or, Some, None, refl, sym, ap, subst, ◌∙◌, inl, inr, append_assoc, arith, nat_lt, slice_get, eqb_tells, nat_tests, append-nil, map-append, length-append, take_more, filter-append, header_of, accepts, Bd, Passed, same_service, Settings, Event, Frame, Release, Take, TakeUnit, ChannelState, Accepted, Queue, first_state_within, empty_queue, empty_unit_queue, buffer, queue_of, is_for, is_of_map, map_of, is_chosen, packets_offered, units_offered, share_of, with_share, with_shares, step, row_of, unit_of, taken_from, first_of, HasStep, run_from, as_list, packets_given, units_given, Ad, passed_on, run_within, IsLawfulWithin}
use Rattle.std.proofs.lemmas.List.{take-append-le, drop_more, drop_all}
use Rattle.tc_channel.specs.Given.{oldest_in, packet_given, unit_given, fields_passed}
use Rattle.tc_channel.proofs.StateQueues.{kept-either, taken-key}
use Rattle.tc_channel.proofs.Runs.{keeps}

-- the queue that is found by a key

pub found-key : (key : ℕ) (qs : List Queue) (q : Queue) → queue_of key qs ≡ Some q → q.key ≡ key
found-key key [] q e = absurd cc
found-key key (p ∷ qs) q e = elim (eqb_tells p.key key) [
  | inl h ↦ let is : p ≡ q = (let t = h.0 in cc) in ap (λ (x : Queue). x.key) (sym is) ∙ h.1
  | inr h ↦ found-key key qs q (let t = h.0 in cc)
]

-- if queues are changed but keep their keys, the queue that is found for a key is the changed form of one found before
pub found-changed : (key : ℕ) (f : Queue → Queue) → ((q : Queue) → (f q).key ≡ q.key) → (qs : List Queue) (new : Queue) → queue_of key (map f qs) ≡ Some new → (old : Queue) × (queue_of key qs ≡ Some old) × (new ≡ f old)
found-changed key f same [] new e = absurd cc
found-changed key f same (p ∷ qs) new e = by (eqb p.key key) (found-changed key f same qs new) (subst (λ k. cond (eqb k key) (Some (f p)) (queue_of key (map f qs)) ≡ Some new) (same p) e) where
  by : (t : Bool) → (queue_of key (map f qs) ≡ Some new → (old : Queue) × (queue_of key qs ≡ Some old) × (new ≡ f old))
      → cond t (Some (f p)) (queue_of key (map f qs)) ≡ Some new → (old : Queue) × (cond t (Some p) (queue_of key qs) ≡ Some old) × (new ≡ f old)
  by true later e = (p, refl, cc)
  by false later e = later e

-- the queue with this key, if there is one, gave exactly these items: the first ones that it admitted
record Gave (key : ℕ) (gave : List (List ℕ)) (qs : List Queue) : Type 0 where
  each : (q : Queue) → queue_of key qs ≡ Some q → (gave ≡ take q.taken q.admitted) × (q.taken ≤ length q.admitted)

gave-shared : (key : ℕ) (gave : List (List ℕ)) (wanted : ℕ → List ℕ → Bool) (items : List (List ℕ)) (qs : List Queue) → Gave key gave qs → Gave key gave (with_shares wanted items qs)
gave-shared key gave wanted items qs g = record {
  each = λ new e.
      let found = found-changed key (with_share wanted items) (λ q. refl) qs new e in
      let old = found.0 in
      let was = g.each old found.1 in
      let longer = length-append old.admitted (share_of wanted items old) in
      rw found.2 (was.0 ∙ sym (take-append-le old.taken old.admitted (share_of wanted items old) was.1), let at_most = was.1 in omega arith);
}

one-more : (key : ℕ) (gave : List (List ℕ)) (old : Queue) → gave ≡ take old.taken old.admitted → old.taken ≤ length old.admitted → eqb old.key key ≡ true
    → (gave ++ as_list (slice_get (drop old.taken old.admitted) 0) ≡ take (taken_from key old).taken (taken_from key old).admitted) × ((taken_from key old).taken ≤ length (taken_from key old).admitted)
one-more key gave old is at_most same = rw same (by (nat_lt old.taken (length old.admitted)) refl) where
  by : (t : Bool) → nat_lt old.taken (length old.admitted) ≡ t
      → (gave ++ as_list (slice_get (drop old.taken old.admitted) 0) ≡ take (cond t (record old { taken = old.taken + 1 }) old).taken (cond t (record old { taken = old.taken + 1 }) old).admitted)
      × ((cond t (record old { taken = old.taken + 1 }) old).taken ≤ length (cond t (record old { taken = old.taken + 1 }) old).admitted)
  by true less =
      let some : old.taken < length old.admitted = grind (arith, nat_tests) in
      (rw (drop_more old.admitted old.taken [] some, is) (sym (take_more old.admitted old.taken [] some)), omega arith)
  by false most =
      let none : length old.admitted ≤ old.taken = grind (arith, nat_tests) in
      (rw (drop_all old.taken old.admitted none, append-nil gave) is, at_most)

gave-taken : (key : ℕ) (gave : List (List ℕ)) (qs : List Queue) → Gave key gave qs → Gave key (gave ++ as_list (oldest_in key qs)) (map (taken_from key) qs)
gave-taken key gave qs g = record {
  each = λ new e.
      let found = found-changed key (taken_from key) (taken-key key) qs new e in
      let old = found.0 in
      let was = g.each old found.1 in
      let same : eqb old.key key ≡ true = (let k = found-key key qs old found.1 in grind (arith, nat_tests)) in
      rw (found.2, found.1) (one-more key gave old was.0 was.1 same);
}

gave-other : (key other : ℕ) (gave : List (List ℕ)) (qs : List Queue) → other ≢ key → Gave key gave qs → Gave key gave (map (taken_from other) qs)
gave-other key other gave qs apart g = record {
  each = λ new e.
      let found = found-changed key (taken_from other) (taken-key other) qs new e in
      let old = found.0 in
      let differs : eqb old.key other ≡ false = (let k = found-key key qs old found.1 in grind (arith, nat_tests)) in
      let stays : new ≡ old = found.2 ∙ rw differs refl in
      rw stays (g.each old found.1);
}

gave-take : (key other : ℕ) (gave : List (List ℕ)) (qs : List Queue) → Gave key gave qs → Gave key (gave ++ as_list (cond (eqb other key) (oldest_in key qs) None)) (map (taken_from other) qs)
gave-take key other gave qs g = elim (eqb_tells other key) [
  | inl h ↦ rw (h.0, h.1) (gave-taken key gave qs g)
  | inr h ↦ rw (h.0, append-nil gave) (gave-other key other gave qs h.1 g)
]

step-packets : (c : Settings) (apid : ℕ) (gave : List (List ℕ)) (b : ChannelState) (e : Event) → Gave apid gave b.queues → Gave apid (gave ++ as_list (packet_given apid b e)) (step c b e).queues
unfolding passed_on
step-packets c apid gave b (Frame octets) g =
    let f = drop 5 octets in
    rw (append-nil gave) (kept-either (λ x. Gave apid gave x.queues) (row_of c b octets) (accepts (row_of c b octets) b.report) octets b g g
    (gave-shared apid gave is_for (packets_offered (unit_of b Bd f) (is_chosen b f)) b.queues g))
step-packets c apid gave b Release g =
    let f = first_of (buffer b) in
    rw (append-nil gave) (gave-shared apid gave is_for (packets_offered (unit_of b Ad f) (is_chosen b f)) b.queues g)
step-packets c apid gave b (Take other) g = gave-take apid other gave b.queues g
step-packets c apid gave b (TakeUnit map_id) g = rw (append-nil gave) g

step-units : (c : Settings) (map_id : ℕ) (gave : List (List ℕ)) (b : ChannelState) (e : Event) → Gave map_id gave b.units → Gave map_id (gave ++ as_list (unit_given map_id b e)) (step c b e).units
unfolding passed_on
step-units c map_id gave b (Frame octets) g =
    let f = drop 5 octets in
    rw (append-nil gave) (kept-either (λ x. Gave map_id gave x.units) (row_of c b octets) (accepts (row_of c b octets) b.report) octets b g g
    (gave-shared map_id gave (is_of_map (map_of f)) (units_offered (unit_of b Bd f) (is_chosen b f)) b.units g))
step-units c map_id gave b Release g =
    let f = first_of (buffer b) in
    rw (append-nil gave) (gave-shared map_id gave (is_of_map (map_of f)) (units_offered (unit_of b Ad f) (is_chosen b f)) b.units g)
step-units c map_id gave b (Take apid) g = rw (append-nil gave) g
step-units c map_id gave b (TakeUnit other) g = gave-take map_id other gave b.units g

packets-from : (c : Settings) (apid : ℕ) (gave : List (List ℕ)) (b : ChannelState) (es : List Event) → Gave apid gave b.queues → Gave apid (gave ++ packets_given c apid b es) (run_from c b es).queues
packets-from c apid gave b [] g = rw (append-nil gave) g
packets-from c apid gave b (e ∷ es) g =
    subst (λ (all : List (List ℕ)). Gave apid all (run_from c (step c b e) es).queues) (append_assoc gave (as_list (packet_given apid b e)) (packets_given c apid (step c b e) es))
    (packets-from c apid (gave ++ as_list (packet_given apid b e)) (step c b e) es (step-packets c apid gave b e g))

units-from : (c : Settings) (map_id : ℕ) (gave : List (List ℕ)) (b : ChannelState) (es : List Event) → Gave map_id gave b.units → Gave map_id (gave ++ units_given c map_id b es) (run_from c b es).units
units-from c map_id gave b [] g = rw (append-nil gave) g
units-from c map_id gave b (e ∷ es) g =
    subst (λ (all : List (List ℕ)). Gave map_id all (run_from c (step c b e) es).units) (append_assoc gave (as_list (unit_given map_id b e)) (units_given c map_id (step c b e) es))
    (units-from c map_id (gave ++ as_list (unit_given map_id b e)) (step c b e) es (step-units c map_id gave b e g))

-- a queue that was set up has admitted nothing yet, and has given nothing
pub set-up : {A : Type 0} (f : A → Queue) (key : ℕ) (xs : List A) → ((x : A) → ((f x).taken ≡ 0) × ((f x).admitted ≡ [])) → (q : Queue) → queue_of key (map f xs) ≡ Some q → (q.taken ≡ 0) × (q.admitted ≡ [])
set-up f key [] each q e = absurd cc
set-up f key (x ∷ xs) each q e = by (eqb (f x).key key) (set-up f key xs each q) e where
  by : (t : Bool) → (queue_of key (map f xs) ≡ Some q → (q.taken ≡ 0) × (q.admitted ≡ [])) → cond t (Some (f x)) (queue_of key (map f xs)) ≡ Some q → (q.taken ≡ 0) × (q.admitted ≡ [])
  by true later e = let is : f x ≡ q = cc in rw (← is) (each x)
  by false later e = later e

none-yet : {A : Type 0} (f : A → Queue) (key : ℕ) (xs : List A) → ((x : A) → ((f x).taken ≡ 0) × ((f x).admitted ≡ [])) → Gave key [] (map f xs)
none-yet f key xs each = record { each = λ q e. let h = set-up f key xs each q e in rw (h.0, h.1) (refl, omega arith) }

pub packets-in-order : (limits : ℕ → ℕ) (c : Settings) (journal : List Event) (apid : ℕ) (q : Queue) → queue_of apid (run_within limits c journal).queues ≡ Some q → packets_given c apid (first_state_within limits c) journal ≡ take q.taken q.admitted
unfolding run_within
packets-in-order limits c journal apid q e = let g = packets-from c apid [] (first_state_within limits c) journal (none-yet empty_queue apid c.queues (λ s. (refl, refl))) in (g.each q e).0

pub units-in-order : (limits : ℕ → ℕ) (c : Settings) (journal : List Event) (map_id : ℕ) (q : Queue) → queue_of map_id (run_within limits c journal).units ≡ Some q → units_given c map_id (first_state_within limits c) journal ≡ take q.taken q.admitted
unfolding run_within
units-in-order limits c journal map_id q e = let g = units-from c map_id [] (first_state_within limits c) journal (none-yet empty_unit_queue map_id c.maps (λ m. (refl, refl))) in (g.each q e).0

-- the Type-AD fields that were passed on are the accepted fields that were released, and no others
record ArePassed (b : ChannelState) : Type 0 where
  fields : fields_passed Ad b.passed ≡ map (λ (a : Accepted). a.field) (take b.released b.accepted)
  released : b.released ≤ length b.accepted

bypass-passed : (passed : List Passed) (field : List ℕ) → fields_passed Ad (passed ++ record { service = Bd; field = field } ∷ []) ≡ fields_passed Ad passed
bypass-passed passed field =
    ap (map (λ (p : Passed). p.field)) (filter-append (λ (p : Passed). same_service Ad p.service) passed (record { service = Bd; field = field } ∷ []) ∙ append-nil (filter (λ (p : Passed). same_service Ad p.service) passed))

field-passed : (passed : List Passed) (field : List ℕ) → fields_passed Ad (passed ++ record { service = Ad; field = field } ∷ []) ≡ fields_passed Ad passed ++ field ∷ []
field-passed passed field =
    ap (map (λ (p : Passed). p.field)) (filter-append (λ (p : Passed). same_service Ad p.service) passed (record { service = Ad; field = field } ∷ []))
    ∙ map-append (λ (p : Passed). p.field) (filter (λ (p : Passed). same_service Ad p.service) passed) (record { service = Ad; field = field } ∷ [])

one-accepted : (a : Accepted) (b : ChannelState) → ArePassed b → ArePassed (record b { accepted = b.accepted ++ a ∷ [] })
one-accepted a b h = record {
  fields = h.fields ∙ ap (map (λ (x : Accepted). x.field)) (sym (take-append-le b.released b.accepted (a ∷ []) h.released));
  released = let l = length-append b.accepted (a ∷ []) in let r = h.released in omega arith;
}

one-released : (b : ChannelState) → b.released < length b.accepted
    → map (λ (a : Accepted). a.field) (take b.released b.accepted) ++ first_of (buffer b) ∷ [] ≡ map (λ (a : Accepted). a.field) (take (b.released + 1) b.accepted)
one-released b less =
    let a : Accepted = record { ns = 0; field = [] } in
    rw (drop_more b.accepted b.released a less, take_more b.accepted b.released a less)
    (sym (map-append (λ (x : Accepted). x.field) (take b.released b.accepted) (get_or b.accepted b.released a ∷ [])))

step-passed : (c : Settings) (b : ChannelState) (e : Event) → HasStep c b e → ArePassed b → ArePassed (step c b e)
unfolding passed_on
step-passed c b (Frame octets) has h =
    let left = kept-either (λ x. ArePassed x) (row_of c b octets) (accepts (row_of c b octets) b.report) octets b h (one-accepted (record { ns = (header_of octets).ns; field = drop 5 octets }) b h)
    (record { fields = bypass-passed b.passed (drop 5 octets) ∙ h.fields; released = h.released }) in
    record { fields = left.fields; released = left.released }
step-passed c b Release has h = record {
  fields = field-passed b.passed (first_of (buffer b)) ∙ ap (λ (l : List (List ℕ)). l ++ first_of (buffer b) ∷ []) h.fields ∙ one-released b has;
  released = omega arith;
}
step-passed c b (Take apid) has h = record { fields = h.fields; released = h.released }
step-passed c b (TakeUnit map_id) has h = record { fields = h.fields; released = h.released }

run-passed : (limits : ℕ → ℕ) (c : Settings) (journal : List Event) → IsLawfulWithin limits c journal → ArePassed (run_within limits c journal)
run-passed limits c journal lawful = keeps ArePassed limits c journal lawful (step-passed c) (record { fields = refl; released = omega arith })

pub fields-in-order : (limits : ℕ → ℕ) (c : Settings) (journal : List Event) → IsLawfulWithin limits c journal → fields_passed Ad (run_within limits c journal).passed ≡ map (λ (a : Accepted). a.field) (take (run_within limits c journal).released (run_within limits c journal).accepted)
fields-in-order limits c journal lawful = (run-passed limits c journal lawful).fields

pub released-within : (limits : ℕ → ℕ) (c : Settings) (journal : List Event) → IsLawfulWithin limits c journal → (run_within limits c journal).released ≤ length (run_within limits c journal).accepted
released-within limits c journal lawful = (run-passed limits c journal lawful).released
