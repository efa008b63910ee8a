-- The items of a unit are its packets, or the whole unit. The numbers of queued and of dropped items add up to the
-- number of all its items. Queues that are given the same packet have the same APID.
use Rattle.tc_channel.proofs.Names.{◌≡◌, ℕ, ◌+◌, ◌≤◌, Bool, true, false, eqb, List, [], ◌∷◌, length, map, filter, Option, Some, None, refl, sym, subst, ◌∙◌, arith, All, ne_eqb, Settings, Event, Delivery, ChannelState, Queue, map_of, is_chosen, is_for, is_of_map, packets_offered, units_offered, queued_of, room_of, share_of, apid_of, is_telecommand, packets_of, delivered, delivery_of, run_within, IsAllowed, keys_of, stored, AreDistinct}
use Rattle.std.specs.List.{Contains}
use Rattle.std.proofs.lemmas.Bool.{and_parts, eqb-true}
use Rattle.std.proofs.lemmas.List.Elements.{All-take, filter_passes}
use Rattle.tc_queues.proofs.Counted.{IsForOneKey, for-one, queued-within}
use Rattle.tc_channel.proofs.Shares.{queued-is}
use Rattle.tc_channel.proofs.StateQueues.{keys, queues-apart, units-apart}
use Rattle.tc_channel.proofs.Takes.{same-keys}

queued-few : (wanted : ℕ → List ℕ → Bool) → IsForOneKey wanted → (items : List (List ℕ)) (qs : List Queue) → AreDistinct (keys qs) → queued_of wanted items qs ≤ length items
queued-few wanted alone items qs apart =
    let distinct : AreDistinct (keys_of (map stored qs)) = rw (same-keys qs) apart in
    omega (arith, queued-within wanted alone items (map stored qs) distinct, queued-is wanted items qs)

-- a unit has one MAP, so it is wanted by one key alone
for-one-map : (map_id : ℕ) → IsForOneKey (is_of_map map_id)
for-one-map map_id a b unit h apart = ne_eqb b map_id (λ e. apart (eqb-true a map_id h ∙ sym e))

pub all-reported : (limits : ℕ → ℕ) (s : Settings) (journal : List Event) (field : List ℕ) (unit : Option (List ℕ)) → IsAllowed s
    → (delivery_of field unit (run_within limits s journal)).queued + (delivery_of field unit (run_within limits s journal)).dropped
    ≡ length (packets_offered unit (is_chosen (run_within limits s journal) field)) + length (units_offered unit (is_chosen (run_within limits s journal) field))
all-reported limits s journal field None allowed = refl
all-reported limits s journal field (Some unit) allowed = by (is_chosen b field) where
  b : ChannelState
  b = run_within limits s journal

  reported : Bool → Delivery
  reported t = delivered (Some unit) t (queued_of is_for (packets_offered (Some unit) t) b.queues + queued_of (is_of_map (map_of field)) (units_offered (Some unit) t) b.units)

  by : (t : Bool) → (reported t).queued + (reported t).dropped ≡ length (packets_offered (Some unit) t) + length (units_offered (Some unit) t)
  by true = omega (arith, queued-few is_for for-one [] b.queues (queues-apart limits s journal allowed), queued-few (is_of_map (map_of field)) (for-one-map (map_of field)) (unit ∷ []) b.units (units-apart limits s journal allowed))
  by false = omega (arith, queued-few is_for for-one (packets_of unit) b.queues (queues-apart limits s journal allowed), queued-few (is_of_map (map_of field)) (for-one-map (map_of field)) [] b.units (units-apart limits s journal allowed))

-- a packet that a queue is given has the queue's APID
share-apid : (packets : List (List ℕ)) (q : Queue) (packet : List ℕ) → Contains (share_of is_for packets q) packet → apid_of packet ≡ q.key
share-apid packets q packet given =
    let each : All (λ (p : List ℕ). is_for q.key p ≡ true) (share_of is_for packets q) =
    All-take (λ (p : List ℕ). is_for q.key p ≡ true) (room_of q) (filter (is_for q.key) packets) (filter_passes (is_for q.key) packets) in
    let passes : is_for q.key packet ≡ true = subst (λ (p : List ℕ). is_for q.key p ≡ true) given.2 (each given.0 packet given.1) in
    eqb-true (apid_of packet) q.key (and_parts (is_telecommand packet) (eqb (apid_of packet) q.key) passes).1

pub same-apid : (packets : List (List ℕ)) (one other : Queue) (packet : List ℕ) → Contains (share_of is_for packets one) packet → Contains (share_of is_for packets other) packet → one.key ≡ other.key
same-apid packets one other packet given also = sym (share-apid packets one packet given) ∙ share-apid packets other packet also
