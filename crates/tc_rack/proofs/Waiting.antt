-- The effect of a take from one of the queues of a channel: one item fewer waits in this queue, and empty queues stay
-- empty.
use Rattle.tc_rack.proofs.Names.{◌≡◌, ◌≢◌, ℕ, ◌+◌, ◌<◌, Bool, true, false, cond, eqb, eq-eqb, ◌&&◌, List, [], ◌∷◌, ◌++◌, length, map, drop, Option, Some, None, refl, sym, ap, ◌∙◌, subst, inl, inr, arith, nat_lt, option_map, slice_get, drop-drop, length-drop, Settings, Answer, QueueId, Packets, Units, IsTakenFrom, none_or, waiting_in, Linked, IsPacketTaken, IsTakeAnswered, IsUnitAnswered, IsUnitTaken}
use Rattle.std.specs.Option.{option_and_then}
use Rattle.std.proofs.lemmas.Bool.Decides.{nat_tests}
use Rattle.tc_channel.specs.declared.event.Event.{Event}
use Rattle.tc_channel.specs.declared.event.Event.TheVariants as events
use Rattle.tc_queues.specs.ChannelState.{ChannelState, Queue, no_limits, queue_of, waiting}
use Rattle.tc_channel.specs.Reply.{waiting_packets, waiting_packets_within, waiting_units, waiting_units_within}
use Rattle.tc_channel.specs.Run.{run, taken_from}
use Rattle.tc_channel.proofs.Given.{found-key}
use Rattle.tc_channel.proofs.Runs.{run-push}
use Rattle.tc_channel.proofs.StateQueues.{taken-key}

-- looking a queue up after a take has the same result as looking it up first and then taking from it
queue-taken : (key other : ℕ) (qs : List Queue) → queue_of key (map (taken_from other) qs) ≡ option_map (taken_from other) (queue_of key qs)
queue-taken key other [] = refl
queue-taken key other (p ∷ qs) =
    subst (λ k. cond (eqb k key) (Some (taken_from other p)) (queue_of key (map (taken_from other) qs)) ≡ option_map (taken_from other) (cond (eqb p.key key) (Some p) (queue_of key qs)))
    (sym (taken-key other p)) (by (eqb p.key key) (queue-taken key other qs)) where
      by : (t : Bool) → queue_of key (map (taken_from other) qs) ≡ option_map (taken_from other) (queue_of key qs)
          → cond t (Some (taken_from other p)) (queue_of key (map (taken_from other) qs)) ≡ option_map (taken_from other) (cond t (Some p) (queue_of key qs))
      by true later = refl
      by false later = later

one-taken : (key : ℕ) (q : Queue) → eqb q.key key ≡ true → q.taken < length q.admitted → taken_from key q ≡ record q { taken = q.taken + 1 }
one-taken key q same some = let t : nat_lt q.taken (length q.admitted) ≡ true = grind (arith, nat_tests) in rw (same, t) refl

some-length : (xs : List (List ℕ)) (item : List ℕ) → slice_get xs 0 ≡ Some item → 0 < length xs
some-length [] item e = absurd cc
some-length (x ∷ xs) item e = omega arith

-- if an item is taken from the queue with this key, one item fewer waits in it
gives-one : (key : ℕ) (found : Option Queue) (item : List ℕ) → ((q : Queue) → found ≡ Some q → q.key ≡ key)
    → option_and_then (λ items. slice_get items 0) (option_map waiting found) ≡ Some item
    → length (none_or (option_map waiting (option_map (taken_from key) found))) + 1 ≡ length (none_or (option_map waiting found))
gives-one key None item keyed e = absurd cc
gives-one key (Some q) item keyed e =
    let some : q.taken < length q.admitted = omega (arith, some-length (waiting q) item e, length-drop q.taken q.admitted) in
    subst (λ (x : Queue). length (waiting x) + 1 ≡ length (waiting q)) (sym (one-taken key q (eq-eqb q.key key (keyed q refl)) some))
    (omega (arith, length-drop (q.taken + 1) q.admitted, length-drop q.taken q.admitted))

-- an empty queue is still empty after a take
still-empty : (key : ℕ) (found : Option Queue) → none_or (option_map waiting found) ≡ [] → none_or (option_map waiting (option_map (taken_from key) found)) ≡ []
still-empty key None e = refl
still-empty key (Some q) e = by (eqb q.key key && nat_lt q.taken (length q.admitted)) where
  by : (t : Bool) → waiting (cond t (record q { taken = q.taken + 1 }) q) ≡ []
  by true = sym (drop-drop 1 q.taken q.admitted) ∙ ap (λ (items : List (List ℕ)). drop 1 items) e
  by false = e

-- ---- the packets and the units that wait, computed from the channel's state, before and after a take

packets-now : (s : Settings) (journal : List Event) (apid : ℕ) → waiting_packets s journal apid ≡ option_map waiting (queue_of apid (run s journal).queues)
unfolding waiting_packets_within
packets-now s journal apid = refl

units-now : (s : Settings) (journal : List Event) (map_id : ℕ) → waiting_units s journal map_id ≡ option_map waiting (queue_of map_id (run s journal).units)
unfolding waiting_units_within
units-now s journal map_id = refl

packets-taken : (s : Settings) (journal : List Event) (taken apid : ℕ)
    → waiting_packets s (journal ++ events.Take taken ∷ []) apid ≡ option_map waiting (option_map (taken_from taken) (queue_of apid (run s journal).queues))
packets-taken s journal taken apid =
    packets-now s (journal ++ events.Take taken ∷ []) apid
    ∙ ap (λ (state : ChannelState). option_map waiting (queue_of apid state.queues)) (run-push no_limits s journal (events.Take taken))
    ∙ ap (option_map waiting) (queue-taken apid taken (run s journal).queues)

units-taken : (s : Settings) (journal : List Event) (taken map_id : ℕ)
    → waiting_units s (journal ++ events.TakeUnit taken ∷ []) map_id ≡ option_map waiting (option_map (taken_from taken) (queue_of map_id (run s journal).units))
units-taken s journal taken map_id =
    units-now s (journal ++ events.TakeUnit taken ∷ []) map_id
    ∙ ap (λ (state : ChannelState). option_map waiting (queue_of map_id state.units)) (run-push no_limits s journal (events.TakeUnit taken))
    ∙ ap (option_map waiting) (queue-taken map_id taken (run s journal).units)

packets-beside : (s : Settings) (journal : List Event) (taken apid : ℕ) → waiting_packets s (journal ++ events.TakeUnit taken ∷ []) apid ≡ waiting_packets s journal apid
packets-beside s journal taken apid =
    packets-now s (journal ++ events.TakeUnit taken ∷ []) apid
    ∙ ap (λ (state : ChannelState). option_map waiting (queue_of apid state.queues)) (run-push no_limits s journal (events.TakeUnit taken))
    ∙ sym (packets-now s journal apid)

units-beside : (s : Settings) (journal : List Event) (taken map_id : ℕ) → waiting_units s (journal ++ events.Take taken ∷ []) map_id ≡ waiting_units s journal map_id
units-beside s journal taken map_id =
    units-now s (journal ++ events.Take taken ∷ []) map_id
    ∙ ap (λ (state : ChannelState). option_map waiting (queue_of map_id state.units)) (run-push no_limits s journal (events.Take taken))
    ∙ sym (units-now s journal map_id)

-- a take leaves one item fewer in the queue that it takes from
pub one-less : (queue : QueueId) (old : Linked) (answer : Answer) (new : Linked) → IsTakenFrom queue old answer new → length (waiting_in queue new) + 1 ≡ length (waiting_in queue old)
one-less (Packets apid) old answer new (packet, is, reported, becomes) =
    let s = old.history.settings in
    let journal = old.history.journal in
    subst (λ (x : Linked). length (waiting_in (Packets apid) x) + 1 ≡ length (waiting_in (Packets apid) old)) (sym becomes)
    (rw (packets-taken s journal apid apid, packets-now s journal apid)
    (gives-one apid (queue_of apid (run s journal).queues) packet (found-key apid (run s journal).queues)
    (subst (λ o. option_and_then (λ items. slice_get items 0) o ≡ Some packet) (packets-now s journal apid) is)))
one-less (Units map_id) old answer new (unit, is, reported, becomes) =
    let s = old.history.settings in
    let journal = old.history.journal in
    subst (λ (x : Linked). length (waiting_in (Units map_id) x) + 1 ≡ length (waiting_in (Units map_id) old)) (sym becomes)
    (rw (units-taken s journal map_id map_id, units-now s journal map_id)
    (gives-one map_id (queue_of map_id (run s journal).units) unit (found-key map_id (run s journal).units)
    (subst (λ o. option_and_then (λ items. slice_get items 0) o ≡ Some unit) (units-now s journal map_id) is)))

-- a queue that is empty before a take is empty after it
pub stays-empty : (queue other : QueueId) (old : Linked) (answer : Answer) (new : Linked) → IsTakenFrom queue old answer new → waiting_in other old ≡ [] → waiting_in other new ≡ []
stays-empty (Packets taken) (Packets apid) old answer new (packet, is, reported, becomes) empty =
    let s = old.history.settings in
    let journal = old.history.journal in
    subst (λ (x : Linked). waiting_in (Packets apid) x ≡ []) (sym becomes)
    (ap none_or (packets-taken s journal taken apid) ∙ still-empty taken (queue_of apid (run s journal).queues) (sym (ap none_or (packets-now s journal apid)) ∙ empty))
stays-empty (Units taken) (Packets apid) old answer new (unit, is, reported, becomes) empty =
    subst (λ (x : Linked). waiting_in (Packets apid) x ≡ []) (sym becomes) (ap none_or (packets-beside old.history.settings old.history.journal taken apid) ∙ empty)
stays-empty (Packets taken) (Units map_id) old answer new (packet, is, reported, becomes) empty =
    subst (λ (x : Linked). waiting_in (Units map_id) x ≡ []) (sym becomes) (ap none_or (units-beside old.history.settings old.history.journal taken map_id) ∙ empty)
stays-empty (Units taken) (Units map_id) old answer new (unit, is, reported, becomes) empty =
    let s = old.history.settings in
    let journal = old.history.journal in
    subst (λ (x : Linked). waiting_in (Units map_id) x ≡ []) (sym becomes)
    (ap none_or (units-taken s journal taken map_id) ∙ still-empty taken (queue_of map_id (run s journal).units) (sym (ap none_or (units-now s journal map_id)) ∙ empty))

-- ---- a take from a queue with a waiting item isn't refused

pub packet-given : (apid : ℕ) (old : Linked) (answer : Answer) (new : Linked) → waiting_in (Packets apid) old ≢ [] → IsTakeAnswered apid old answer new → IsPacketTaken apid old answer new
packet-given apid old answer new some (inl taken) = taken
packet-given apid old answer new some (inr (inl (none, reported), same)) = absurd (some (ap none_or none))
packet-given apid old answer new some (inr (inr (none, reported), same)) = absurd (some (ap none_or none))

pub unit-given : (map_id : ℕ) (old : Linked) (answer : Answer) (new : Linked) → waiting_in (Units map_id) old ≢ [] → IsUnitAnswered map_id old answer new → IsUnitTaken map_id old answer new
unit-given map_id old answer new some (inl taken) = taken
unit-given map_id old answer new some (inr (inl (none, reported), same)) = absurd (some (ap none_or none))
unit-given map_id old answer new some (inr (inr (none, reported), same)) = absurd (some (ap none_or none))

-- the count is the number of items that wait
pub counted : (found : Option (List (List ℕ))) (count : ℕ) → option_map length found ≡ Some count → count ≡ length (none_or found)
counted None count e = absurd cc
counted (Some items) count e = cc
