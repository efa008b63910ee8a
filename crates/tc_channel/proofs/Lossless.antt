-- If no reply of a journal reports a drop, each queue admits all that the passed data fields make for it.
use Rattle.tc_channel.proofs.Names.{◌≡◌, ℕ, zero, suc, ◌+◌, ◌≤◌, Bool, true, false, cond, eqb, List, [], ◌∷◌, ◌++◌, length, map, filter, take, drop, Option, None, Some, refl, sym, ap, subst, ◌∙◌, append_assoc, arith, append-nil, take-nil, length-take, accepts, Service, Bd, Passed, Settings, Event, Frame, Release, Take, TakeUnit, ChannelState, Queue, first_state_within, empty_queue, empty_unit_queue, buffer, queue_of, waiting, is_for, is_of_map, map_of, is_chosen, packets_offered, units_offered, room_of, share_of, queued_of, with_share, with_shares, kept, step, row_of, unit_of, taken_from, first_of, packets_given, units_given, Ad, passed_on, run_within, IsAllowed, keys_of, stored, AreDistinct, delivered, delivery_of, packets_of, sum_by-cons, ne_eqb}
use Rattle.std.specs.Prelude.{not}
use Rattle.std.proofs.lemmas.Bool.{eqb-true}
use Rattle.std.proofs.lemmas.Simd.{map-map}
use Rattle.std.proofs.lemmas.List.Filters.{length-filter_both}
use Rattle.tc_link.specs.Farm.{Row, E1, E6}
use Rattle.tc_channel.specs.Reply.{frame_delivery}
use Rattle.tc_channel.specs.Through.{all_made, packets_ended, units_ended, packets_made, units_made}
use Rattle.tc_channel.specs.Lossless.{DropsNone, dropped_by}
use Rattle.tc_queues.proofs.Counted.{IsForOneKey, for-one, queued-within}
use Rattle.tc_channel.proofs.Shares.{queued-is}
use Rattle.tc_channel.proofs.Takes.{same-keys}
use Rattle.tc_channel.proofs.Runs.{run-push}
use Rattle.tc_channel.proofs.StateQueues.{keys, taken-key, taken-same, queues-apart, units-apart}
use Rattle.tc_channel.proofs.Given.{found-key, set-up, found-changed, packets-in-order, units-in-order}
use Rattle.tc_channel.proofs.Through.{made-push, run-is-of, unit-is}

-- If as many items are queued as were offered, each queue has admitted all that it wants, because with more room no
-- more items could be queued.

queued-few : (wanted : ℕ → List ℕ → Bool) → IsForOneKey wanted → (items : List (List ℕ)) (qs : List Queue) → AreDistinct (keys qs) → queued_of wanted items qs ≤ length items
queued-few wanted alone items qs apart =
    let distinct : AreDistinct (keys_of (map stored qs)) = rw (same-keys qs) apart in
    omega (arith, queued-within wanted alone items (map stored qs) distinct, queued-is wanted items qs)

filter-few : (p : List ℕ → Bool) (xs : List (List ℕ)) → length (filter p xs) ≤ length xs
filter-few p xs = let both = length-filter_both p (λ (x : List ℕ). not (p x)) (λ x. refl) xs in omega arith

-- the queue with room for at least n more items
abbrev wide : ℕ → Queue → Queue
wide n q = record q { capacity = length q.admitted + n }

module _ (wanted : ℕ → List ℕ → Bool) (items : List (List ℕ)) where
  abbrev widened : List Queue → List Queue
  widened qs = map (wide (length items)) qs

  all-wide : (q : Queue) → length (share_of wanted items (wide (length items) q)) ≡ length (filter (wanted q.key) items)
  all-wide q =
      let few = filter-few (wanted q.key) items in
      let long = length-take (room_of (wide (length items) q)) (filter (wanted q.key) items) in
      long ∙ omega arith

  less : (q : Queue) → length (share_of wanted items q) ≤ length (filter (wanted q.key) items)
  less q = let long = length-take (room_of q) (filter (wanted q.key) items) in omega arith

  more : (qs : List Queue) → queued_of wanted items qs ≤ queued_of wanted items (widened qs)
  more [] = omega arith
  more (p ∷ qs) =
      let rest = more qs in
      let a = sum_by-cons (λ (x : Queue). length (share_of wanted items x)) p qs in
      let b = sum_by-cons (λ (x : Queue). length (share_of wanted items x)) (wide (length items) p) (widened qs) in
      omega (arith, less p, all-wide p)

  at : (key : ℕ) (qs : List Queue) → queued_of wanted items (widened qs) ≤ queued_of wanted items qs → (q : Queue) → queue_of key qs ≡ Some q
      → length (filter (wanted q.key) items) ≤ length (share_of wanted items q)
  at key [] enough q e = absurd cc
  at key (p ∷ qs) enough q e =
      let rest = more qs in
      let a = sum_by-cons (λ (x : Queue). length (share_of wanted items x)) p qs in
      let b = sum_by-cons (λ (x : Queue). length (share_of wanted items x)) (wide (length items) p) (widened qs) in
      let here : length (filter (wanted p.key) items) ≤ length (share_of wanted items p) = omega (arith, all-wide p) in
      let there : queued_of wanted items (widened qs) ≤ queued_of wanted items qs = omega (arith, less p, all-wide p) in
      by (eqb p.key key) here (at key qs there q) e
    where
      by : (t : Bool) → length (filter (wanted p.key) items) ≤ length (share_of wanted items p)
          → (queue_of key qs ≡ Some q → length (filter (wanted q.key) items) ≤ length (share_of wanted items q))
          → cond t (Some p) (queue_of key qs) ≡ Some q → length (filter (wanted q.key) items) ≤ length (share_of wanted items q)
      by true here later is = let same : p ≡ q = cc in subst (λ (x : Queue). length (filter (wanted x.key) items) ≤ length (share_of wanted items x)) same here
      by false here later is = later is

  keys-wide : (qs : List Queue) → keys (widened qs) ≡ keys qs
  keys-wide qs = map-map (λ (q : Queue). q.key) (wide (length items)) qs

  take-all : (n : ℕ) (xs : List (List ℕ)) → length xs ≤ length (take n xs) → take n xs ≡ xs
  take-all n [] le = take-nil {A = List ℕ} n
  take-all zero (x ∷ xs) le = absurd (omega arith)
  take-all (suc n) (x ∷ xs) le = ap (λ (l : List (List ℕ)). x ∷ l) (take-all n xs (omega arith))

  whole-share : IsForOneKey wanted → (key : ℕ) (qs : List Queue) → AreDistinct (keys qs) → length items ≤ queued_of wanted items qs → (q : Queue) → queue_of key qs ≡ Some q
      → share_of wanted items q ≡ filter (wanted q.key) items
  whole-share alone key qs apart enough q e =
      let most = queued-few wanted alone items (widened qs) (rw (keys-wide qs) apart) in
      take-all (room_of q) (filter (wanted q.key) items) (at key qs (omega arith) q e)

no-share : (wanted : ℕ → List ℕ → Bool) (q : Queue) → share_of wanted [] q ≡ filter (wanted q.key) []
no-share wanted q = take-nil {A = List ℕ} (room_of q)

for-one-map : (map_id : ℕ) → IsForOneKey (is_of_map map_id)
for-one-map map_id a b unit h apart = ne_eqb b map_id (λ e. apart (eqb-true a map_id h ∙ sym e))

-- If the delivery of a data field reports no drop, each packet queue, and each unit queue, has all that it wants.

module _ (field : List ℕ) (b : ChannelState) (apart : AreDistinct (keys b.queues)) (units_apart : AreDistinct (keys b.units)) where
  abbrev none_dropped : Option (List ℕ) → Bool → Type 0
  none_dropped unit chosen = (delivered unit chosen (queued_of is_for (packets_offered unit chosen) b.queues + queued_of (is_of_map (map_of field)) (units_offered unit chosen) b.units)).dropped ≡ 0

  packets-whole : (unit : Option (List ℕ)) (chosen : Bool) → none_dropped unit chosen → (apid : ℕ) (q : Queue) → queue_of apid b.queues ≡ Some q
      → share_of is_for (packets_offered unit chosen) q ≡ filter (is_for q.key) (packets_offered unit chosen)
  packets-whole (Some unit) false none apid q e =
      let no_units = queued-few (is_of_map (map_of field)) (for-one-map (map_of field)) [] b.units units_apart in
      whole-share is_for (packets_of unit) for-one apid b.queues apart (omega arith) q e
  packets-whole (Some unit) true none apid q e = no-share is_for q
  packets-whole None chosen none apid q e = no-share is_for q

  units-whole : (unit : Option (List ℕ)) (chosen : Bool) → none_dropped unit chosen → (map_id : ℕ) (q : Queue) → queue_of map_id b.units ≡ Some q
      → share_of (is_of_map (map_of field)) (units_offered unit chosen) q ≡ filter (is_of_map (map_of field) q.key) (units_offered unit chosen)
  units-whole (Some unit) true none map_id q e =
      let no_packets = queued-few is_for for-one [] b.queues apart in
      whole-share (is_of_map (map_of field)) (unit ∷ []) (for-one-map (map_of field)) map_id b.units units_apart (omega arith) q e
  units-whole (Some unit) false none map_id q e = no-share (is_of_map (map_of field)) q
  units-whole None chosen none map_id q e = no-share (is_of_map (map_of field)) q

-- the queue with this key admitted all that the passed fields make
record AdmitsAll (key : ℕ) (Ended : List Passed → Passed → List (List ℕ)) (qs : List Queue) (passed : List Passed) : Type 0 where
  each : (q : Queue) → queue_of key qs ≡ Some q → q.admitted ≡ all_made Ended [] passed

all-shared : (key : ℕ) (Ended : List Passed → Passed → List (List ℕ)) (wanted : ℕ → List ℕ → Bool) (items : List (List ℕ)) (qs : List Queue) (passed : List Passed) (p : Passed)
    → filter (wanted key) items ≡ Ended passed p → ((q : Queue) → queue_of key qs ≡ Some q → share_of wanted items q ≡ filter (wanted q.key) items)
    → AdmitsAll key Ended qs passed → AdmitsAll key Ended (with_shares wanted items qs) (passed ++ p ∷ [])
all-shared key Ended wanted items qs passed p same whole h = record {
  each = λ new e.
      let found = found-changed key (with_share wanted items) (λ q. refl) qs new e in
      let old = found.0 in
      let its : old.key ≡ key = found-key key qs old found.1 in
      let all : share_of wanted items old ≡ Ended passed p = whole old found.1 ∙ (ap (λ (k : ℕ). filter (wanted k) items) its ∙ same) in
      rw (found.2, made-push Ended [] passed p) (λ i. h.each old found.1 i ++ all i);
}

all-taken : (key other : ℕ) (Ended : List Passed → Passed → List (List ℕ)) (qs : List Queue) (passed : List Passed) → AdmitsAll key Ended qs passed → AdmitsAll key Ended (map (taken_from other) qs) passed
all-taken key other Ended qs passed h = record {
  each = λ new e.
      let found = found-changed key (taken_from other) (taken-key other) qs new e in
      rw (found.2, taken-same {A = List (List ℕ)} (λ q. q.admitted) (λ q n. refl) other found.0) (h.each found.0 found.1);
}

module _ (limits : ℕ → ℕ) (c : Settings) (allowed : IsAllowed c) (apid map_id : ℕ) where
  record CarriesAll (b : ChannelState) : Type 0 where
    packets : AdmitsAll apid (packets_ended limits c apid) b.queues b.passed
    units : AdmitsAll map_id (units_ended limits c map_id) b.units b.passed

  passed-all : (j : List Event) (service : Service) (field : List ℕ) → (delivery_of field (unit_of (run_within limits c j) service field) (run_within limits c j)).dropped ≡ 0
      → CarriesAll (run_within limits c j) → CarriesAll (passed_on service field (run_within limits c j))
  unfolding passed_on
  passed-all j service field none h =
      let b = run_within limits c j in
      let p : Passed = record { service = service; field = field } in
      let is = run-is-of limits c j in
      let unit = unit-is limits c b service field is in
      let apart = queues-apart limits c j allowed in
      let units_apart = units-apart limits c j allowed in
      let made = unit_of b service field in
      record {
        packets = all-shared apid (packets_ended limits c apid) is_for (packets_offered made (is_chosen b field)) b.queues b.passed p (rw (unit, is.chosen field) refl)
            (packets-whole field b apart units_apart made (is_chosen b field) none apid) h.packets;
        units = all-shared map_id (units_ended limits c map_id) (is_of_map (map_of field)) (units_offered made (is_chosen b field)) b.units b.passed p (rw (unit, is.chosen field) refl)
            (units-whole field b apart units_apart made (is_chosen b field) none map_id) h.units;
      }

  frame-all : (j : List Event) (octets : List ℕ) (row : Row) (accepted : Bool) → (row ≡ E6 → accepted ≡ true → (delivery_of (drop 5 octets) (unit_of (run_within limits c j) Bd (drop 5 octets)) (run_within limits c j)).dropped ≡ 0)
      → CarriesAll (run_within limits c j) → CarriesAll (kept row accepted octets (run_within limits c j))
  frame-all j octets E1 true none h = record { packets = h.packets; units = h.units }
  frame-all j octets E6 true none h = passed-all j Bd (drop 5 octets) (none refl refl) h
  frame-all j octets E1 false none h = h
  frame-all j octets E6 false none h = h
  frame-all j octets _ accepted none h = h

  step-all : (j : List Event) (e : Event) → dropped_by c (run_within limits c j) e ≡ 0 → CarriesAll (run_within limits c j) → CarriesAll (step c (run_within limits c j) e)
  unfolding passed_on
  step-all j (Frame octets) none h =
      let b = run_within limits c j in
      let left = frame-all j octets (row_of c b octets) (accepts (row_of c b octets) b.report) (λ is yes. by-row (row_of c b octets) is none) h in
      record { packets = left.packets; units = left.units }
    where
      by-row : (row : Row) → row ≡ E6 → (frame_delivery row octets (run_within limits c j)).dropped ≡ 0 → (delivery_of (drop 5 octets) (unit_of (run_within limits c j) Bd (drop 5 octets)) (run_within limits c j)).dropped ≡ 0
      by-row row is zero_is = subst (λ (r : Row). (frame_delivery r octets (run_within limits c j)).dropped ≡ 0) is zero_is
  step-all j Release none h = let left = passed-all j Ad (first_of (buffer (run_within limits c j))) none h in record { packets = left.packets; units = left.units }
  step-all j (Take other) none h = record { packets = all-taken apid other (packets_ended limits c apid) (run_within limits c j).queues (run_within limits c j).passed h.packets; units = h.units }
  step-all j (TakeUnit other) none h = record { packets = h.packets; units = all-taken map_id other (units_ended limits c map_id) (run_within limits c j).units (run_within limits c j).passed h.units }

  first-all : CarriesAll (run_within limits c [])
  unfolding run_within
  first-all = record {
    packets = record { each = λ q e. (set-up empty_queue apid c.queues (λ s. (refl, refl)) q e).1 };
    units = record { each = λ q e. (set-up empty_unit_queue map_id c.maps (λ m. (refl, refl)) q e).1 };
  }

  from : (j es : List Event) → DropsNone c (run_within limits c j) es → CarriesAll (run_within limits c j) → CarriesAll (run_within limits c (j ++ es))
  from j [] none h = rw (append-nil j) h
  from j (e ∷ es) none h =
      let one = subst CarriesAll (sym (run-push limits c j e)) (step-all j e none.0 h) in
      let later = subst (λ (b : ChannelState). DropsNone c b es) (sym (run-push limits c j e)) none.1 in
      subst (λ (x : List Event). CarriesAll (run_within limits c x)) (append_assoc j (e ∷ []) es) (from (j ++ e ∷ []) es later one)

  at-first : run_within limits c [] ≡ first_state_within limits c
  unfolding run_within
  at-first = refl

  carries-all : (journal : List Event) → DropsNone c (first_state_within limits c) journal → CarriesAll (run_within limits c journal)
  carries-all journal none = from [] journal (subst (λ (b : ChannelState). DropsNone c b journal) (sym at-first) none) first-all

all-gone : (n : ℕ) (xs : List (List ℕ)) → drop n xs ≡ [] → take n xs ≡ xs
all-gone zero xs none = sym none
all-gone (suc n) [] none = refl
all-gone (suc n) (x ∷ xs) none = ap (λ (l : List (List ℕ)). x ∷ l) (all-gone n xs none)

pub packets-admitted : (limits : ℕ → ℕ) (s : Settings) (journal : List Event) (apid : ℕ) (q : Queue) → IsAllowed s → DropsNone s (first_state_within limits s) journal
    → queue_of apid (run_within limits s journal).queues ≡ Some q → q.admitted ≡ packets_made limits s apid (run_within limits s journal).passed
packets-admitted limits s journal apid q allowed none has = let h = carries-all limits s allowed apid 0 journal none in h.packets.each q has

pub units-admitted : (limits : ℕ → ℕ) (s : Settings) (journal : List Event) (map_id : ℕ) (q : Queue) → IsAllowed s → DropsNone s (first_state_within limits s) journal
    → queue_of map_id (run_within limits s journal).units ≡ Some q → q.admitted ≡ units_made limits s map_id (run_within limits s journal).passed
units-admitted limits s journal map_id q allowed none has = let h = carries-all limits s allowed 0 map_id journal none in h.units.each q has

pub packets-all-given : (limits : ℕ → ℕ) (s : Settings) (journal : List Event) (apid : ℕ) (q : Queue) → IsAllowed s → DropsNone s (first_state_within limits s) journal
    → queue_of apid (run_within limits s journal).queues ≡ Some q → waiting q ≡ []
    → packets_given s apid (first_state_within limits s) journal ≡ packets_made limits s apid (run_within limits s journal).passed
packets-all-given limits s journal apid q allowed none has empty =
    packets-in-order limits s journal apid q has ∙ (all-gone q.taken q.admitted empty ∙ packets-admitted limits s journal apid q allowed none has)

pub units-all-given : (limits : ℕ → ℕ) (s : Settings) (journal : List Event) (map_id : ℕ) (q : Queue) → IsAllowed s → DropsNone s (first_state_within limits s) journal
    → queue_of map_id (run_within limits s journal).units ≡ Some q → waiting q ≡ []
    → units_given s map_id (first_state_within limits s) journal ≡ units_made limits s map_id (run_within limits s journal).passed
units-all-given limits s journal map_id q allowed none has empty =
    units-in-order limits s journal map_id q has ∙ (all-gone q.taken q.admitted empty ∙ units-admitted limits s journal map_id q allowed none has)
