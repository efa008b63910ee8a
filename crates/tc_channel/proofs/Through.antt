-- The items that queues admit are, in order, items that the passed data fields make. Some may be left out.
use Rattle.tc_channel.proofs.Names.{◌≡◌, ℕ, zero, suc, ◌+◌, ◌-◌, ◌≤◌, Bool, true, false, cond, eqb, List, [], ◌∷◌, ◌++◌, length, map, filter, take, drop, Some, refl, sym, ap, subst, ◌∙◌, inl, inr, append_assoc, arith, is_some, slice_get, append-nil, length-drop, take-nil, accepts, Service, Bd, Passed, Settings, MapSetting, Event, Frame, Release, Take, TakeUnit, ChannelState, Accepted, Queue, first_state_within, empty_queue, empty_unit_queue, buffer, queue_of, is_for, is_of_map, map_of, is_chosen, packets_offered, units_offered, room_of, with_share, with_shares, step, row_of, unit_of, taken_from, first_of, IsLawfulWithin, packets_given, units_given, Ad, passed_on, run_within}
use Rattle.tc_channel.specs.Era.{IsEraWithin, ComesFromWithin}
use Rattle.tc_channel.specs.Through.{unit_made, all_made, IsPartOf, is_chosen_by, packets_ended, units_ended, packets_made, units_made, passed_since, released_since, sent_from}
use Rattle.tc_channel.proofs.Runs.{run-push, from-first}
use Rattle.tc_channel.proofs.Plain.{run-segmented, run-limit}
use Rattle.tc_channel.proofs.StateQueues.{keys, taken-key, taken-same, kept-either, unit-keys-stay}
use Rattle.tc_channel.proofs.Given.{found-key, set-up, found-changed, packets-in-order, units-in-order, fields-in-order, released-within}
use Rattle.tc_channel.proofs.Eras.{all-sent}

-- parts of lists

part-skip : (xs : List (List ℕ)) (y : List ℕ) (ys : List (List ℕ)) → IsPartOf xs ys → IsPartOf xs (y ∷ ys)
part-skip [] y ys h = tt
part-skip (x ∷ xs) y ys h = inr h

part-append : (xs ys us vs : List (List ℕ)) → IsPartOf xs ys → IsPartOf us vs → IsPartOf (xs ++ us) (ys ++ vs)
part-append [] [] us vs h k = k
part-append [] (y ∷ ys) us vs h k = part-skip us y (ys ++ vs) (part-append [] ys us vs tt k)
part-append (x ∷ xs) [] us vs h k = absurd h
part-append (x ∷ xs) (y ∷ ys) us vs (inl p) k = inl (p.0, part-append xs ys us vs p.1 k)
part-append (x ∷ xs) (y ∷ ys) us vs (inr p) k = inr (part-append (x ∷ xs) ys us vs p k)

part-first : (n : ℕ) (xs : List (List ℕ)) → IsPartOf (take n xs) xs
part-first (suc n) (x ∷ xs) = inl (refl, part-first n xs)
part-first _ _ = tt

part-take : (n : ℕ) (xs ys : List (List ℕ)) → IsPartOf xs ys → IsPartOf (take n xs) ys
part-take (suc n) (x ∷ xs) [] h = absurd h
part-take (suc n) (x ∷ xs) (y ∷ ys) (inl p) = inl (p.0, part-take n xs ys p.1)
part-take (suc n) (x ∷ xs) (y ∷ ys) (inr p) = inr (part-take (suc n) (x ∷ xs) ys p)
part-take _ _ ys h = tt

part-length : (xs ys : List (List ℕ)) → IsPartOf xs ys → length xs ≤ length ys
part-length [] ys h = omega arith
part-length (x ∷ xs) [] h = absurd h
part-length (x ∷ xs) (y ∷ ys) (inl p) = omega (arith, part-length xs ys p.1)
part-length (x ∷ xs) (y ∷ ys) (inr p) = omega (arith, part-length (x ∷ xs) ys p)

-- a part of a list that is no shorter than the list is the list itself
pub part-whole : (xs ys : List (List ℕ)) → IsPartOf xs ys → length ys ≤ length xs → xs ≡ ys
part-whole [] [] h le = refl
part-whole [] (y ∷ ys) h le = absurd (omega arith)
part-whole (x ∷ xs) [] h le = absurd h
part-whole (x ∷ xs) (y ∷ ys) (inl p) le = rw (p.0, part-whole xs ys p.1 (omega arith)) refl
part-whole (x ∷ xs) (y ∷ ys) (inr p) le = absurd (let n = part-length (x ∷ xs) ys p in omega arith)

-- one more data field

pub made-push : (Ended : List Passed → Passed → List (List ℕ)) (before ps : List Passed) (p : Passed) → all_made Ended before (ps ++ p ∷ []) ≡ all_made Ended before ps ++ Ended (before ++ ps) p
made-push Ended before [] p = append-nil (Ended before p) ∙ ap (λ (l : List Passed). Ended l p) (sym (append-nil before))
made-push Ended before (r ∷ ps) p =
    ap (λ (l : List (List ℕ)). Ended before r ++ l) (made-push Ended (before ++ r ∷ []) ps p ∙ ap (λ (l : List Passed). all_made Ended (before ++ r ∷ []) ps ++ Ended l p) (append_assoc before (r ∷ []) ps))
    ∙ sym (append_assoc (Ended before r) (all_made Ended (before ++ r ∷ []) ps) (Ended (before ++ r ∷ ps) p))

-- the chosen MAPs are those of the settings

some-by-keys : (key : ℕ) (ps qs : List Queue) → keys ps ≡ keys qs → is_some (queue_of key ps) ≡ is_some (queue_of key qs)
some-by-keys key [] [] e = refl
some-by-keys key (p ∷ ps) (q ∷ qs) e =
    let head : p.key ≡ q.key = cc in
    let tail : keys ps ≡ keys qs = cc in
    subst (λ (k : ℕ). is_some (cond (eqb k key) (Some p) (queue_of key ps)) ≡ is_some (cond (eqb q.key key) (Some q) (queue_of key qs))) (sym head) (by (eqb q.key key) (some-by-keys key ps qs tail))
  where
    by : (t : Bool) → is_some (queue_of key ps) ≡ is_some (queue_of key qs) → is_some (cond t (Some p) (queue_of key ps)) ≡ is_some (cond t (Some q) (queue_of key qs))
    by true ih = refl
    by false ih = ih
some-by-keys key _ _ e = absurd cc

keys-at-first : (limits : ℕ → ℕ) (c : Settings) → keys (map empty_unit_queue c.maps) ≡ map (λ (m : MapSetting). m.map) c.maps
unfolding run_within
keys-at-first limits c = unit-keys-stay limits c []

run-chosen : (limits : ℕ → ℕ) (c : Settings) (journal : List Event) (field : List ℕ) → is_chosen (run_within limits c journal) field ≡ is_chosen_by c field
run-chosen limits c journal field = some-by-keys (map_of field) (run_within limits c journal).units (map empty_unit_queue c.maps) (unit-keys-stay limits c journal ∙ sym (keys-at-first limits c))

-- the parts of a state that never change are those of the settings and of the limits
pub record IsOf (limits : ℕ → ℕ) (c : Settings) (b : ChannelState) : Type 0 where
  pub segmented : b.segmented ≡ c.segmented
  pub limit : b.limit ≡ limits
  pub chosen : (field : List ℕ) → is_chosen b field ≡ is_chosen_by c field

pub run-is-of : (limits : ℕ → ℕ) (c : Settings) (journal : List Event) → IsOf limits c (run_within limits c journal)
run-is-of limits c journal = record { segmented = run-segmented limits c journal; limit = run-limit limits c journal; chosen = run-chosen limits c journal }

pub unit-is : (limits : ℕ → ℕ) (c : Settings) (b : ChannelState) (service : Service) (field : List ℕ) → IsOf limits c b → unit_of b service field ≡ unit_made limits c b.passed (record { service = service; field = field })
unit-is limits c b service field is = rw (is.segmented, is.limit) refl

-- the queue with this key admitted part of the items that the passed fields make
record Admits (key : ℕ) (Ended : List Passed → Passed → List (List ℕ)) (qs : List Queue) (passed : List Passed) : Type 0 where
  each : (q : Queue) → queue_of key qs ≡ Some q → IsPartOf q.admitted (all_made Ended [] passed)

admits-shared : (key : ℕ) (Ended : List Passed → Passed → List (List ℕ)) (wanted : ℕ → List ℕ → Bool) (items : List (List ℕ)) (qs : List Queue) (passed : List Passed) (p : Passed)
    → filter (wanted key) items ≡ Ended passed p → Admits key Ended qs passed → Admits key Ended (with_shares wanted items qs) (passed ++ p ∷ [])
admits-shared key Ended wanted items qs passed p same h = record {
  each = λ new e.
      let found = found-changed key (with_share wanted items) (λ q. refl) qs new e in
      let old = found.0 in
      let its : old.key ≡ key = found-key key qs old found.1 in
      let was : IsPartOf old.admitted (all_made Ended [] passed) = h.each old found.1 in
      let more : IsPartOf (take (room_of old) (filter (wanted old.key) items)) (Ended passed p) =
      subst (λ (l : List (List ℕ)). IsPartOf (take (room_of old) l) (Ended passed p)) (sym (ap (λ (k : ℕ). filter (wanted k) items) its ∙ same)) (part-first (room_of old) (Ended passed p)) in
      rw (found.2, made-push Ended [] passed p) (part-append old.admitted (all_made Ended [] passed) (take (room_of old) (filter (wanted old.key) items)) (Ended passed p) was more);
}

admits-taken : (key other : ℕ) (Ended : List Passed → Passed → List (List ℕ)) (qs : List Queue) (passed : List Passed) → Admits key Ended qs passed → Admits key Ended (map (taken_from other) qs) passed
admits-taken key other Ended qs passed h = record {
  each = λ new e.
      let found = found-changed key (taken_from other) (taken-key other) qs new e in
      rw (found.2, taken-same {A = List (List ℕ)} (λ q. q.admitted) (λ q n. refl) other found.0) (h.each found.0 found.1);
}

-- the queue with this APID, and the unit queue of this MAP, admitted part of the items that the passed fields make
record Carries (limits : ℕ → ℕ) (c : Settings) (apid map_id : ℕ) (b : ChannelState) : Type 0 where
  packets : Admits apid (packets_ended limits c apid) b.queues b.passed
  units : Admits map_id (units_ended limits c map_id) b.units b.passed

passed-carries : (limits : ℕ → ℕ) (c : Settings) (apid map_id : ℕ) (b : ChannelState) (service : Service) (field : List ℕ) → IsOf limits c b → Carries limits c apid map_id b → Carries limits c apid map_id (passed_on service field b)
unfolding passed_on
passed-carries limits c apid map_id b service field is h =
    let p : Passed = record { service = service; field = field } in
    let unit = unit-is limits c b service field is in
    record {
      packets = admits-shared apid (packets_ended limits c apid) is_for (packets_offered (unit_of b service field) (is_chosen b field)) b.queues b.passed p (rw (unit, is.chosen field) refl) h.packets;
      units = admits-shared map_id (units_ended limits c map_id) (is_of_map (map_of field)) (units_offered (unit_of b service field) (is_chosen b field)) b.units b.passed p (rw (unit, is.chosen field) refl) h.units;
    }

step-carries : (limits : ℕ → ℕ) (c : Settings) (apid map_id : ℕ) (b : ChannelState) (e : Event) → IsOf limits c b → Carries limits c apid map_id b → Carries limits c apid map_id (step c b e)
unfolding passed_on
step-carries limits c apid map_id b (Frame octets) is h =
    let left = kept-either (λ x. Carries limits c apid map_id x) (row_of c b octets) (accepts (row_of c b octets) b.report) octets b h (record { packets = h.packets; units = h.units }) (passed-carries limits c apid map_id b Bd (drop 5 octets) is h) in
    record { packets = left.packets; units = left.units }
step-carries limits c apid map_id b Release is h = let left = passed-carries limits c apid map_id b Ad (first_of (buffer b)) is h in record { packets = left.packets; units = left.units }
step-carries limits c apid map_id b (Take other) is h = record { packets = admits-taken apid other (packets_ended limits c apid) b.queues b.passed h.packets; units = h.units }
step-carries limits c apid map_id b (TakeUnit other) is h = record { packets = h.packets; units = admits-taken map_id other (units_ended limits c map_id) b.units b.passed h.units }

none-admitted : (key : ℕ) (Ended : List Passed → Passed → List (List ℕ)) (qs : List Queue) → ((q : Queue) → queue_of key qs ≡ Some q → q.admitted ≡ []) → Admits key Ended qs []
none-admitted key Ended qs none = record { each = λ q e. rw (none q e) tt }

-- at first nothing was admitted
first-carries : (limits : ℕ → ℕ) (c : Settings) (apid map_id : ℕ) → Carries limits c apid map_id (run_within limits c [])
unfolding run_within
first-carries limits c apid map_id = record {
  packets = none-admitted apid (packets_ended limits c apid) (map empty_queue c.queues) (λ q e. (set-up empty_queue apid c.queues (λ s. (refl, refl)) q e).1);
  units = none-admitted map_id (units_ended limits c map_id) (map empty_unit_queue c.maps) (λ q e. (set-up empty_unit_queue map_id c.maps (λ m. (refl, refl)) q e).1);
}

run-carries : (limits : ℕ → ℕ) (c : Settings) (apid map_id : ℕ) (journal : List Event) → Carries limits c apid map_id (run_within limits c journal)
run-carries limits c apid map_id journal =
    from-first (λ (j : List Event). Carries limits c apid map_id (run_within limits c j)) (λ j e h. rw (run-push limits c j e) (step-carries limits c apid map_id (run_within limits c j) e (run-is-of limits c j) h)) [] journal (first-carries limits c apid map_id)

pub packets-are-made : (limits : ℕ → ℕ) (c : Settings) (journal : List Event) (apid : ℕ) (q : Queue) → queue_of apid (run_within limits c journal).queues ≡ Some q → IsPartOf q.admitted (packets_made limits c apid (run_within limits c journal).passed)
packets-are-made limits c journal apid q e = let h = run-carries limits c apid 0 journal in h.packets.each q e

pub units-are-made : (limits : ℕ → ℕ) (c : Settings) (journal : List Event) (map_id : ℕ) (q : Queue) → queue_of map_id (run_within limits c journal).units ≡ Some q → IsPartOf q.admitted (units_made limits c map_id (run_within limits c journal).passed)
units-are-made limits c journal map_id q e = let h = run-carries limits c 0 map_id journal in h.units.each q e

-- the fields that were sent, up to those that were released

sent-fields : (sent : ℕ → List ℕ) (k n : ℕ) (xs : List Accepted) → ((i : ℕ) (a : Accepted) → slice_get xs i ≡ Some a → a.field ≡ sent (k + i)) → n ≤ length xs
    → map (λ (a : Accepted). a.field) (take n xs) ≡ sent_from sent k n
sent-fields sent k zero xs each le = refl
sent-fields sent k (suc n) [] each le = absurd (omega arith)
sent-fields sent k (suc n) (x ∷ xs) each le =
    let here : x.field ≡ sent k = each 0 x refl ∙ ap sent (omega arith) in
    let later = sent-fields sent (suc k) n xs (λ i a is. each (suc i) a is ∙ ap sent (omega arith)) (omega arith) in
    rw (here, later) refl

-- the first `r` items without the first `n` are the first `r - n` of the items after those `n`
rest-released : (n r : ℕ) (xs : List Accepted) → drop n (map (λ (a : Accepted). a.field) (take r xs)) ≡ map (λ (a : Accepted). a.field) (take (r - n) (drop n xs))
rest-released zero r xs =
    let all : r - 0 ≡ r = omega arith in
    ap (λ (k : ℕ). map (λ (a : Accepted). a.field) (take k xs)) (sym all)
rest-released (suc n) zero xs =
    let none : 0 - suc n ≡ 0 = omega arith in
    ap (λ (k : ℕ). map (λ (a : Accepted). a.field) (take k (drop (suc n) xs))) (sym none)
rest-released (suc n) (suc r) [] = sym (ap (map (λ (a : Accepted). a.field)) (take-nil {A = Accepted} (suc r - suc n)))
rest-released (suc n) (suc r) (x ∷ xs) =
    let less : suc r - suc n ≡ r - n = omega arith in
    rest-released n r xs ∙ ap (λ (k : ℕ). map (λ (a : Accepted). a.field) (take k (drop n xs))) (sym less)

pub passed-as-sent : (limits : ℕ → ℕ) (c : Settings) (journal before later : List Event) (x : ℕ) (sent : ℕ → List ℕ) → IsLawfulWithin limits c journal → IsEraWithin limits c journal before later x
    → ComesFromWithin limits c before later x sent → passed_since limits c before (run_within limits c journal).passed ≡ sent_from sent 0 (released_since limits c before journal)
passed-as-sent limits c journal before later x sent lawful era comes =
    let all = all-sent limits c journal before later x sent era comes in
    let n = length (run_within limits c before).accepted in
    let r = (run_within limits c journal).released in
    let accepted = (run_within limits c journal).accepted in
    let within = released-within limits c journal lawful in
    let inside : r - n ≤ length (drop n accepted) = omega (arith, within, length-drop n accepted) in
    ap (λ (l : List (List ℕ)). drop n l) (fields-in-order limits c journal lawful)
    ∙ (rest-released n r accepted ∙ sent-fields sent 0 (r - n) (drop n accepted) (λ i a is. all i a is ∙ ap sent (omega arith)) inside)

-- the items that were taken are, in order, items that the passed data fields make

pub packets-given-of-made : (limits : ℕ → ℕ) (c : Settings) (journal : List Event) (apid : ℕ) (q : Queue) → queue_of apid (run_within limits c journal).queues ≡ Some q
    → IsPartOf (packets_given c apid (first_state_within limits c) journal) (packets_made limits c apid (run_within limits c journal).passed)
packets-given-of-made limits c journal apid q has =
    rw (packets-in-order limits c journal apid q has) (part-take q.taken q.admitted (packets_made limits c apid (run_within limits c journal).passed) (packets-are-made limits c journal apid q has))

pub units-given-of-made : (limits : ℕ → ℕ) (c : Settings) (journal : List Event) (map_id : ℕ) (q : Queue) → queue_of map_id (run_within limits c journal).units ≡ Some q
    → IsPartOf (units_given c map_id (first_state_within limits c) journal) (units_made limits c map_id (run_within limits c journal).passed)
units-given-of-made limits c journal map_id q has =
    rw (units-in-order limits c journal map_id q has) (part-take q.taken q.admitted (units_made limits c map_id (run_within limits c journal).passed) (units-are-made limits c journal map_id q has))
