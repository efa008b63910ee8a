-- Lemmas about the core of a channel with its rooms.
use Rattle.tc_channel.proofs.Names.{◌≡◌, ℕ, ◌<◌, Bool, true, false, cond, eqb, nat_lt, List, [], ◌∷◌, ◌++◌, length, drop, Option, Some, None, refl, sym, ap, subst, ◌∙◌, arith, slice_get, IsSome, option_map, HoldsWithin, at_most, run_left, run_at, Settings, Event, Take, TakeUnit, AreRuns, first_of, Service, Bd, Store, open_runs, limit_at, StoredQueue, queue_for, oldest_for, popped, shorter, Keyed, rings_in, room_sizes, AreCommitted, Ad, no_limits, stored, ring_in, run_within, length-map, QueueSetting, MapSetting}
use Rattle.tc_channel.specs.ChannelCore.{HaveLimits, inside_of, CanPassOn, GoOn, KeepRooms, Parts, HoldsInRooms, AreChannelCore}
use Rattle.tc_queues.specs.Copying.{copied_out}
use Rattle.tc_queues.specs.StoredQueues.{items_for}
use Rattle.tc_queues.specs.declared.reply.NotCopied.{NotCopied}
use Rattle.tc_queues.specs.declared.reply.NotCopied.TheVariants.{NoRoom}
use Rattle.std.specs.Prelude.{OnErr, OnOk, Result, Ok, Err}
use Rattle.tc_channel.specs.Reply.{take_reply_within, unit_reply_within}
use Rattle.tc_packet.specs.Reassembly.{place_of}
use Rattle.circular_buffer.specs.Buffer.{buffer}
use Rattle.tc_channel.proofs.Growth.{key_and_capacity, queues-are, units-are}
use Rattle.tc_channel.proofs.Takes.{oldest, packets-wait, units-wait, queues-distinct, units-distinct, take-keeps, take-unit-keeps}

nothing-left : (segmented : Bool) → run_left segmented [] ≡ None
nothing-left true = refl
nothing-left false = refl

pub none-open : (limits : ℕ → ℕ) (store : Store) (segmented : Bool) → store.segmented ≡ segmented → ((place : ℕ) → run_at (open_runs store).runs place ≡ None) → AreRuns limits (open_runs store) segmented []
none-open limits store segmented is none = record { segmented = is; runs = λ service map_id small. ap (at_most (limits map_id)) (nothing-left store.segmented) ∙ sym (none (place_of service map_id)) }

-- if the limit of each stream is the size of the largest unit, these are the limits of a channel without limits by MAP
pub without-limits : (store : Store) → ((place : ℕ) → place < 128 → limit_at store place ≡ 65542) → HaveLimits no_limits store
unfolding no_limits
without-limits store are = λ service map_id inside. are (place_of service map_id) (below service map_id inside) where
  below : (service : Service) (map_id : ℕ) → map_id < 64 → place_of service map_id < 128
  below Ad map_id inside = omega arith
  below Bd map_id inside = omega arith

-- an item at place 0 of a list is the first of the list, which isn't empty
pub first-is : (xs : List (List ℕ)) (x : List ℕ) → Some x ≡ slice_get xs 0 → (x ≡ first_of xs) × (0 < length xs)
first-is [] x is = absurd cc
first-is (y ∷ ys) x is = (let e : x ≡ y = cc in e, omega arith)

some-item : (o : Option (List ℕ)) → IsSome o → (item : List ℕ) × (o ≡ Some item)
some-item None some = absurd cc
some-item (Some item) some = (item, refl)

pub some-mapped : {A B : Type 0} (f : A → B) (o : Option A) (p : Option B) → option_map f o ≡ p → IsSome o → IsSome p
some-mapped f None p is some = absurd cc
some-mapped f (Some x) p is some = subst IsSome is refl

pub on-err : {T E : Type 0} (r : Result T E) (P : Type 0) → P → OnErr r P
on-err (Ok x) P p = tt
on-err (Err e) P p = p

-- the reply to a take is the oldest packet in the stored queue with this APID, if there is one
pub packet-is : {limits : ℕ → ℕ} {s : Settings} {journal : List Event} {parts : Parts} (apid : ℕ) → HoldsInRooms limits s journal parts → take_reply_within limits s journal apid ≡ oldest_for apid (rings_in parts.queues)
packet-is apid k = ap oldest (packets-wait apid k.holds)

pub unit-is : {limits : ℕ → ℕ} {s : Settings} {journal : List Event} {parts : Parts} (map_id : ℕ) → HoldsInRooms limits s journal parts → unit_reply_within limits s journal map_id ≡ oldest_for map_id (rings_in parts.units)
unit-is map_id k = ap oldest (units-wait map_id k.holds)

pub queue-count : {limits : ℕ → ℕ} {s : Settings} {journal : List Event} {parts : Parts} → HoldsInRooms limits s journal parts → length parts.queues ≡ length s.queues
queue-count {limits} {s} {journal} {parts} k =
    sym (length-map parts.queues ring_in) ∙ ap length k.holds.queues ∙ length-map (run_within limits s journal).queues stored
    ∙ sym (length-map (run_within limits s journal).queues key_and_capacity) ∙ ap length (queues-are limits s journal) ∙ length-map s.queues (λ (q : QueueSetting). (q.apid, q.capacity))

pub unit-count : {limits : ℕ → ℕ} {s : Settings} {journal : List Event} {parts : Parts} → HoldsInRooms limits s journal parts → length parts.units ≡ length s.maps
unit-count {limits} {s} {journal} {parts} k =
    sym (length-map parts.units ring_in) ∙ ap length k.holds.units ∙ length-map (run_within limits s journal).units stored
    ∙ sym (length-map (run_within limits s journal).units key_and_capacity) ∙ ap length (units-are limits s journal) ∙ length-map s.maps (λ (m : MapSetting). (m.map, m.capacity))

-- a core that belongs to a run can pass on a data field
pub can-pass : {limits : ℕ → ℕ} {s : Settings} {journal : List Event} {parts : Parts} → HoldsInRooms limits s journal parts → CanPassOn parts.store parts.queues parts.units
can-pass k = record {
  small = k.small;
  distinct = queues-distinct k.holds;
  units_distinct = units-distinct k.holds;
  sizes = k.sizes;
  unit_sizes = k.unit_sizes;
  committed = k.committed;
  units_committed = k.units_committed;
}

pub none-touched : (store : Store) (queues units : List Keyed) → CanPassOn store queues units → KeepRooms store queues units store queues units
none-touched store queues units k = record { limits_are = λ _. refl; segmented = refl; sizes = refl; unit_sizes = refl; committed = k.committed; units_committed = k.units_committed }

-- Let the parts `later`, without their rooms, belong to the journal `next`. If the limits and the sizes of the rooms
-- are as before, and nothing is left staged, these parts with their rooms belong to `next`, too.
pub holds-on : {limits : ℕ → ℕ} {s : Settings} {journal : List Event} {parts : Parts} (next : List Event) (later : Parts) → HoldsInRooms limits s journal parts → HoldsWithin limits s next (inside_of later)
    → later.fields.size ≡ parts.fields.size → later.fields.staged ≡ [] → KeepRooms parts.store parts.queues parts.units later.store later.queues later.units → HoldsInRooms limits s next later
holds-on next later k holds size fields rooms = record {
  holds = holds;
  field_size = size ∙ k.field_size;
  fields_committed = fields;
  committed = rooms.committed;
  units_committed = rooms.units_committed;
  limits_are = λ service map_id inside. rooms.limits_are _ ∙ k.limits_are service map_id inside;
  small = λ place inside. rw (rooms.limits_are place) (k.small place inside);
  sizes = λ place inside. rw (rooms.sizes, rooms.limits_are place, rooms.segmented) (k.sizes place inside);
  unit_sizes = λ place inside. rw (rooms.unit_sizes, rooms.limits_are place, rooms.segmented) (k.unit_sizes place inside);
}

-- `holds-on` for parts in which only the packet queues and the unit queues have changed
with-queues : {limits : ℕ → ℕ} {s : Settings} {journal : List Event} {parts : Parts} (next : List Event) (queues units : List Keyed) → HoldsInRooms limits s journal parts → HoldsWithin limits s next (inside_of (record parts { queues = queues; units = units }))
    → room_sizes queues ≡ room_sizes parts.queues → room_sizes units ≡ room_sizes parts.units → AreCommitted queues → AreCommitted units → HoldsInRooms limits s next (record parts { queues = queues; units = units })
with-queues {parts = parts} next queues units k holds sizes unit_sizes committed units_committed = holds-on next (record parts { queues = queues; units = units }) k holds refl k.fields_committed
    (record { limits_are = λ _. refl; segmented = refl; sizes = sizes; unit_sizes = unit_sizes; committed = committed; units_committed = units_committed })

-- Let the oldest packet have left its queue. If the rooms are as large as before, and nothing is left staged, the core
-- belongs to the journal with this take.
pub packet-taken : {limits : ℕ → ℕ} {s : Settings} {journal : List Event} {parts : Parts} (later : List Keyed) (apid : ℕ)
    → HoldsInRooms limits s journal parts → IsSome (oldest_for apid (rings_in parts.queues)) → rings_in later ≡ popped apid (rings_in parts.queues)
    → room_sizes later ≡ room_sizes parts.queues → (AreCommitted parts.queues → AreCommitted later) → HoldsInRooms limits s (journal ++ Take apid ∷ []) (record parts { queues = later })
packet-taken {journal = journal} {parts = parts} later apid k has is same still =
    let item = some-item (oldest_for apid (rings_in parts.queues)) has in
    with-queues (journal ++ Take apid ∷ []) later parts.units k (take-keeps (rings_in later) apid item.0 k.holds item.1 is) same refl (still k.committed) k.units_committed

-- Let the oldest unit have left its queue. If the rooms are as large as before, and nothing is left staged, the core
-- belongs to the journal with this take.
pub unit-taken : {limits : ℕ → ℕ} {s : Settings} {journal : List Event} {parts : Parts} (later : List Keyed) (map_id : ℕ)
    → HoldsInRooms limits s journal parts → IsSome (oldest_for map_id (rings_in parts.units)) → rings_in later ≡ popped map_id (rings_in parts.units)
    → room_sizes later ≡ room_sizes parts.units → (AreCommitted parts.units → AreCommitted later) → HoldsInRooms limits s (journal ++ TakeUnit map_id ∷ []) (record parts { units = later })
unit-taken {journal = journal} {parts = parts} later map_id k has is same still =
    let item = some-item (oldest_for map_id (rings_in parts.units)) has in
    with-queues (journal ++ TakeUnit map_id ∷ []) parts.queues later k (take-unit-keeps (rings_in later) map_id item.0 k.holds item.1 is) refl same k.committed (still k.units_committed)

-- if no item waits in a queue, the queue without its oldest item is the queue itself
nothing-shorter : (w : StoredQueue) → slice_get w.ring.items 0 ≡ None → shorter w ≡ w
nothing-shorter w none = by w.ring.items refl none where
  by : (items : List (List ℕ)) → w.ring.items ≡ items → slice_get items 0 ≡ None → shorter w ≡ w
  by [] is none = (let e : drop 1 w.ring.items ≡ w.ring.items = rw is refl in ap (λ (x : List (List ℕ)). record w { ring = buffer x w.ring.capacity }) e)
  by (x ∷ xs) is none = absurd cc

popped-none : (key : ℕ) (ws : List StoredQueue) → oldest_for key ws ≡ None → popped key ws ≡ ws
popped-none key [] none = refl
popped-none key (w ∷ ws) none = by (eqb w.key key) (λ e. popped-none key ws e) none where
  by : (t : Bool) → (oldest_for key ws ≡ None → popped key ws ≡ ws) → oldest (option_map (λ (q : StoredQueue). q.ring.items) (cond t (Some w) (queue_for key ws))) ≡ None → cond t (shorter w ∷ ws) (w ∷ popped key ws) ≡ w ∷ ws
  by true rest e = ap (λ (x : StoredQueue). x ∷ ws) (nothing-shorter w e)
  by false rest e = ap (λ (x : List StoredQueue). w ∷ x) (rest e)

-- whether or not an oldest packet was taken, the core is still the core of some channel
pub queues-work : (parts : Parts) (later : List Keyed) (apid : ℕ) → AreChannelCore parts → rings_in later ≡ popped apid (rings_in parts.queues)
    → room_sizes later ≡ room_sizes parts.queues → (AreCommitted parts.queues → AreCommitted later) → AreChannelCore (record parts { queues = later })
queues-work parts later apid w is same still = by (oldest_for apid (rings_in parts.queues)) refl where
  by : (o : Option (List ℕ)) → oldest_for apid (rings_in parts.queues) ≡ o → AreChannelCore (record parts { queues = later })
  by None none = (w.0, w.1, w.2, with-queues w.2 later parts.units w.3 (rw (is ∙ popped-none apid (rings_in parts.queues) none) w.3.holds) same refl (still w.3.committed) w.3.units_committed)
  by (Some item) some = (w.0, w.1, w.2 ++ Take apid ∷ [], packet-taken later apid w.3 (rw some refl) is same still)

-- whether or not an oldest unit was taken, the core is still the core of some channel
pub units-work : (parts : Parts) (later : List Keyed) (map_id : ℕ) → AreChannelCore parts → rings_in later ≡ popped map_id (rings_in parts.units)
    → room_sizes later ≡ room_sizes parts.units → (AreCommitted parts.units → AreCommitted later) → AreChannelCore (record parts { units = later })
units-work parts later map_id w is same still = by (oldest_for map_id (rings_in parts.units)) refl where
  by : (o : Option (List ℕ)) → oldest_for map_id (rings_in parts.units) ≡ o → AreChannelCore (record parts { units = later })
  by None none = (w.0, w.1, w.2, with-queues w.2 parts.queues later w.3 (rw (is ∙ popped-none map_id (rings_in parts.units) none) w.3.holds) refl same w.3.committed (still w.3.units_committed))
  by (Some item) some = (w.0, w.1, w.2 ++ TakeUnit map_id ∷ [], unit-taken later map_id w.3 (rw some refl) is same still)

-- If the open runs, the queued items, the limits and the sizes of the rooms are unchanged, and nothing is left staged,
-- the core still belongs to its journal. This is so after a call that was refused.
pub still-holds : {limits : ℕ → ℕ} {s : Settings} {journal : List Event} {parts : Parts} (store : Store) (queues units : List Keyed)
    → HoldsInRooms limits s journal parts → open_runs store ≡ open_runs parts.store → rings_in queues ≡ rings_in parts.queues → rings_in units ≡ rings_in parts.units
    → KeepRooms parts.store parts.queues parts.units store queues units → HoldsInRooms limits s journal (record parts { store = store; queues = queues; units = units })
still-holds {journal = journal} {parts = parts} store queues units k runs_are queues_are units_are rooms =
    holds-on journal (record parts { store = store; queues = queues; units = units }) k (rw (runs_are, queues_are, units_are) k.holds) refl k.fields_committed rooms

copied-waits : (room key : ℕ) (ws : List StoredQueue) → OnOk (copied_out room (items_for key ws)) (IsSome (oldest_for key ws))
copied-waits room key ws = by (items_for key ws) where
  over : (item : List ℕ) (t : Bool) → OnOk (cond t (Err (NoRoom (length item))) (Ok (length item))) (IsSome (Some item))
  over item true = tt
  over item false = refl

  by : (waiting : Option (List (List ℕ))) → OnOk (copied_out room waiting) (IsSome (oldest waiting))
  by None = tt
  by (Some []) = tt
  by (Some (item ∷ items)) = over item (nat_lt room (length item))

-- if the oldest packet was copied out, the core belongs to the journal with this take
pub packet-copied : (parts : Parts) (later : List Keyed) (room apid : ℕ) (answer : Result ℕ NotCopied) → answer ≡ copied_out room (items_for apid (rings_in parts.queues)) → OnOk answer (rings_in later ≡ popped apid (rings_in parts.queues))
    → room_sizes later ≡ room_sizes parts.queues → (AreCommitted parts.queues → AreCommitted later) → OnOk answer (GoOn (Take apid) parts (record parts { queues = later }))
packet-copied parts later room apid (Err fault) reply is same still = tt
packet-copied parts later room apid (Ok count) reply is same still = λ limits s journal k. packet-taken later apid k (rw (← reply) at (copied-waits room apid (rings_in parts.queues))) is same still

pub unit-copied : (parts : Parts) (later : List Keyed) (room map_id : ℕ) (answer : Result ℕ NotCopied) → answer ≡ copied_out room (items_for map_id (rings_in parts.units)) → OnOk answer (rings_in later ≡ popped map_id (rings_in parts.units))
    → room_sizes later ≡ room_sizes parts.units → (AreCommitted parts.units → AreCommitted later) → OnOk answer (GoOn (TakeUnit map_id) parts (record parts { units = later }))
unit-copied parts later room map_id (Err fault) reply is same still = tt
unit-copied parts later room map_id (Ok count) reply is same still = λ limits s journal k. unit-taken later map_id k (rw (← reply) at (copied-waits room map_id (rings_in parts.units))) is same still

-- whether or not the oldest packet was copied out, the core is still the core of some channel
pub queues-copied : (P : Type 0) (parts : Parts) (later : List Keyed) (apid : ℕ) (answer : Result ℕ NotCopied) → AreChannelCore parts → OnOk answer (rings_in later ≡ popped apid (rings_in parts.queues))
    → room_sizes later ≡ room_sizes parts.queues → (AreCommitted parts.queues → AreCommitted later) → OnErr answer ((later ≡ parts.queues) × P) → AreChannelCore (record parts { queues = later })
queues-copied P parts later apid (Ok count) w is same still kept = queues-work parts later apid w is same still
queues-copied P parts later apid (Err fault) w is same still kept = rw kept.0 w

pub units-copied : (P : Type 0) (parts : Parts) (later : List Keyed) (map_id : ℕ) (answer : Result ℕ NotCopied) → AreChannelCore parts → OnOk answer (rings_in later ≡ popped map_id (rings_in parts.units))
    → room_sizes later ≡ room_sizes parts.units → (AreCommitted parts.units → AreCommitted later) → OnErr answer ((later ≡ parts.units) × P) → AreChannelCore (record parts { units = later })
units-copied P parts later map_id (Ok count) w is same still kept = units-work parts later map_id w is same still
units-copied P parts later map_id (Err fault) w is same still kept = rw kept.0 w
