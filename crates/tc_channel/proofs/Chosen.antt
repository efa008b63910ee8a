-- Lemmas about chosen MAPs, and about the units that are delivered whole.
use Rattle.tc_channel.proofs.Names.{◌≡◌, ◌≢◌, ◌<◌, ℕ, cond, take, ◌++◌, zero, suc, Bool, true, false, List, [], ◌∷◌, length, map, get_or, Option, Some, refl, sym, ap, ◌∙◌, inl, inr, arith, is_some, Any, ◌↔◌, IsTrue, eqb_tells, nat_tests, eq-eqb, ne_eqb, append-nil, take_all, Service, Settings, MapSetting, Event, ChannelState, Queue, queue_of, map_of, is_for, is_of_map, is_chosen, packets_offered, units_offered, with_share, room_of, run_within, unit_of, passed_on, take-nil}
use Rattle.tc_channel.specs.Laws.{IsOfChosenMap, has_room_for_one}
use Rattle.tc_channel.proofs.StateQueues.{keys, unit-keys-stay}
use Rattle.tc_channel.proofs.Shares.{shares-none}

no-packets : (unit : Option (List ℕ)) (chosen : Bool) → chosen ≡ true → packets_offered unit chosen ≡ []
no-packets (Some unit) false is = absurd cc
no-packets _ _ is = refl

no-units : (unit : Option (List ℕ)) (chosen : Bool) → (chosen ≡ true → ⊥) → units_offered unit chosen ≡ []
no-units (Some unit) true is = absurd (is refl)
no-units _ _ is = refl

pub whole-only : (b : ChannelState) (service : Service) (field : List ℕ) → is_chosen b field ≡ true → (passed_on service field b).queues ≡ b.queues
unfolding passed_on
whole-only b service field chosen = rw (no-packets (unit_of b service field) (is_chosen b field) chosen) (shares-none is_for b.queues)

pub packets-only : (b : ChannelState) (service : Service) (field : List ℕ) → (is_chosen b field ≡ true → ⊥) → (passed_on service field b).units ≡ b.units
unfolding passed_on
packets-only b service field other = rw (no-units (unit_of b service field) (is_chosen b field) other) (shares-none (is_of_map (map_of field)) b.units)

-- there is a queue with a key exactly when a setting has the key
by-settings : (key : ℕ) (qs : List Queue) (ms : List MapSetting) → keys qs ≡ map (λ (m : MapSetting). m.map) ms → (is_some (queue_of key qs) ≡ true → Any (λ (m : MapSetting). m.map ≡ key) ms) × (Any (λ (m : MapSetting). m.map ≡ key) ms → is_some (queue_of key qs) ≡ true)
by-settings key [] [] e = (λ is. absurd cc, λ any. absurd (let lt = any.2 in omega arith))
by-settings key (q ∷ qs) (m ∷ ms) e =
    let head : q.key ≡ m.map = cc in
    let tail : keys qs ≡ map (λ (m : MapSetting). m.map) ms = cc in
    let ih = by-settings key qs ms tail in
    elim (eqb_tells q.key key) [
      | inl same ↦ (λ is. (0, m, omega arith, refl, sym head ∙ same.1), λ any. rw same.0 refl)
      | inr other ↦ (
        λ is. (let any = ih.0 (rw other.0 at is) in (suc any.0, any.1, (let lt = any.2 in omega arith), any.3, any.4)),
        λ any. rw other.0 (ih.1 (later m ms any.0 any.1 any.2 any.3 any.4 (λ here. other.1 (head ∙ here)))),
      )
    ]
  where
    later : (m : MapSetting) (ms : List MapSetting) (i : ℕ) (x : MapSetting) → i < length (m ∷ ms) → get_or (m ∷ ms) i x ≡ x → x.map ≡ key → (m.map ≡ key → ⊥) → Any (λ (m : MapSetting). m.map ≡ key) ms
    later m ms zero x lt at is other = absurd (other (ap (λ (y : MapSetting). y.map) at ∙ is))
    later m ms (suc i) x lt at is other = (i, x, omega arith, at, is)
by-settings key _ _ e = absurd cc

pub chosen-by-settings : (limits : ℕ → ℕ) (c : Settings) (journal : List Event) (field : List ℕ) → IsTrue (is_chosen (run_within limits c journal) field) ↔ IsOfChosenMap c field
chosen-by-settings limits c journal field = by-settings (map_of field) (run_within limits c journal).units c.maps (unit-keys-stay limits c journal)

-- the queue of a unit's MAP admits the unit exactly when it has room
pub one-kept : (q : Queue) (unit : List ℕ) → with_share (is_of_map q.key) (unit ∷ []) q ≡ cond (has_room_for_one q) (record q { admitted = q.admitted ++ unit ∷ [] }) q
one-kept q unit = rw (eq-eqb q.key q.key refl) (by (has_room_for_one q) refl) where
  by : (t : Bool) → has_room_for_one q ≡ t → record q { admitted = q.admitted ++ take (room_of q) (unit ∷ []) } ≡ cond t (record q { admitted = q.admitted ++ unit ∷ [] }) q
  by true e = let some : 0 < room_of q = grind (arith, nat_tests) in rw (take_all (room_of q) (unit ∷ []) (omega arith)) refl
  by false e = let none : room_of q ≡ 0 = grind (arith, nat_tests) in rw (none, append-nil q.admitted) refl

pub others-stay : (q : Queue) (map_id : ℕ) (unit : List ℕ) → q.key ≢ map_id → with_share (is_of_map map_id) (unit ∷ []) q ≡ q
others-stay q map_id unit other = rw (ne_eqb q.key map_id other, take-nil {A = List ℕ} (room_of q), append-nil q.admitted) refl
