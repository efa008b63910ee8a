-- One pass over the packets of a unit. Each packet goes to the one queue that wants it, if that queue has room.
use Rattle.tc_queues.proofs.Names.{◌≡◌, ◌≢◌, ℕ, zero, suc, ◌+◌, ◌-◌, ◌<◌, List, [], ◌∷◌, ◌++◌, length, map, filter, take, get_or, true, false, ◌⊎◌, inl, inr, refl, sym, ap, ◌∙◌, append_assoc, arith, eq-eqb, ne_eqb, AllByRecursion, apid_of, is_telecommand, is_for, keys_of, AreDistinct, room_in, share, with_items, shared, shares_in, copied_to, longer, put, put_all, StoredQueue, Placed, AreShares, set, take-nil, append-nil, length-append, length-map, sum_by-cons}
use Rattle.std.proofs.Math.Bool.{and-false}
use Rattle.tc_packet.specs.declared.Packet.{Packet}
use Rattle.tc_queues.specs.StoredQueues.{IsUnderWay}
use Rattle.tc_packet.specs.PacketFields.{HasFields}
use Rattle.circular_buffer.specs.Buffer.{buffer as ring_of}
use Rattle.tc_queues.proofs.Copies.{length-put_all, put_all-push, places-append, longer-fits}
use Rattle.tc_queues.proofs.Counted.{for-one}

pub is-for : (p : Packet) (apid : ℕ) → HasFields p → p.telecommand ≡ true → p.apid ≡ apid → is_for apid p.octets.now ≡ true
is-for p apid fields telecommand same = rw (sym fields.telecommand ∙ telecommand) (eq-eqb (apid_of p.octets.now) apid (sym fields.apid ∙ same))

is-not-for : (p : Packet) (apid : ℕ) → HasFields p → (p.telecommand ≡ false) ⊎ (p.apid ≢ apid) → is_for apid p.octets.now ≡ false
is-not-for p apid fields (inl other) = rw (sym fields.telecommand ∙ other) refl
is-not-for p apid fields (inr other) = rw (ne_eqb (apid_of p.octets.now) apid (λ e. other (fields.apid ∙ e))) (and-false (is_telecommand p.octets.now))

keys-put : (ws : List StoredQueue) (i : ℕ) (p : List ℕ) → keys_of (put ws i p) ≡ keys_of ws
keys-put (w ∷ ws) (suc i) p = ap (λ (x : List ℕ). w.key ∷ x) (keys-put ws i p)
keys-put _ _ p = refl

-- the packet is for none of these APIDs
abbrev pub NoneFor : List ℕ → List ℕ → Type 0
NoneFor p apids = AllByRecursion (λ (a : ℕ). is_for a p ≡ false) apids

-- The packet `p` turned the queues `before` into the queues `after`, and `n` items were queued. Sharing the packets `ps`
-- among `after` yields the same queues as sharing `p` and `ps` among `before`.
record Goes (p : List ℕ) (ps : List (List ℕ)) (before after : List StoredQueue) (n : ℕ) : Type 0 where
  put : shared is_for (p ∷ ps) before ≡ shared is_for ps after
  count : shares_in is_for (p ∷ ps) before ≡ n + shares_in is_for ps after

goes-cons : (p : List ℕ) (ps : List (List ℕ)) (w : StoredQueue) (before after : List StoredQueue) (n : ℕ) → share is_for (p ∷ ps) w ≡ share is_for ps w → Goes p ps before after n → Goes p ps (w ∷ before) (w ∷ after) n
goes-cons p ps w before after n same g =
    let count = g.count in
    let one : length (share is_for (p ∷ ps) w) ≡ length (share is_for ps w) = ap length same in
    record {
      put = ap (λ (x : List (List ℕ)). with_items w x ∷ shared is_for (p ∷ ps) before) same ∙ ap (λ (x : List StoredQueue). with_items w (share is_for ps w) ∷ x) g.put;
      count = omega (arith, sum_by-cons length (share is_for (p ∷ ps) w) (map (share is_for (p ∷ ps)) before), sum_by-cons length (share is_for ps w) (map (share is_for ps) after));
    }

goes-none : (p : List ℕ) (ps : List (List ℕ)) (ws : List StoredQueue) → NoneFor p (keys_of ws) → Goes p ps ws ws 0
goes-none p ps [] h = record { put = refl; count = refl }
goes-none p ps (w ∷ ws) h = goes-cons p ps w ws ws 0 (rw h.0 refl) (goes-none p ps ws h.1)

pub none-others : (a : ℕ) (p : List ℕ) (apids : List ℕ) → is_for a p ≡ true → AllByRecursion (λ (b : ℕ). a ≢ b) apids → NoneFor p apids
none-others a p [] h apart = tt
none-others a p (b ∷ apids) h apart = (for-one a b p h apart.0, none-others a p apids h apart.1)

pub apart-at : (b : ℕ) (xs : List ℕ) (i m : ℕ) → AllByRecursion (λ (x : ℕ). b ≢ x) xs → i < length xs → m ≡ get_or xs i m → b ≢ m
apart-at b [] i m h inside is = absurd (omega arith)
apart-at b (x ∷ xs) zero m h inside is = λ e. h.0 (e ∙ is)
apart-at b (x ∷ xs) (suc i) m h inside is = apart-at b xs i m h.1 (omega arith) is

not-head : (v : StoredQueue) (ws : List StoredQueue) (i a : ℕ) (p : List ℕ) → AreDistinct (keys_of (v ∷ ws)) → i < length ws → a ≡ get_or (keys_of ws) i a → is_for a p ≡ true → is_for v.key p ≡ false
not-head v ws i a p distinct lt is for_it =
    for-one a v.key p for_it (λ e. apart-at v.key (keys_of ws) i a distinct.0 (let l = length-map ws (λ (q : StoredQueue). q.key) in omega arith) is (sym e))

-- if the packet's queue is full, the queues stay as they are and share the other packets
goes-full : (p : List ℕ) (ps : List (List ℕ)) (ws : List StoredQueue) (i a n : ℕ) → AreDistinct (keys_of ws) → i < length ws → a ≡ get_or (keys_of ws) i a → is_for a p ≡ true
    → n ≡ get_or (map room_in ws) i n → n ≡ 0 → Goes p ps ws ws 0
goes-full p ps [] i a n distinct lt is for_it room none = absurd (omega arith)
goes-full p ps (w ∷ ws) zero a n distinct lt is for_it room none =
    let full : room_in w ≡ 0 = sym room ∙ none in
    goes-cons p ps w ws ws 0 (rw full refl) (goes-none p ps ws (none-others w.key p (keys_of ws) (rw is at for_it) distinct.0))
goes-full p ps (w ∷ ws) (suc i) a n distinct lt is for_it room none =
    goes-cons p ps w ws ws 0 (rw (not-head w ws i a p distinct (omega arith) is for_it) refl) (goes-full p ps ws i a n distinct.1 (omega arith) is for_it room none)

-- The packet `p` goes into the queue `w`, which becomes `later`. Then `later` with its share of `ps` is equal to `w` with
-- its share of `p` and `ps`.
record GoesIn (p : List ℕ) (ps : List (List ℕ)) (w later : StoredQueue) : Type 0 where
  put : with_items w (share is_for (p ∷ ps) w) ≡ with_items later (share is_for ps later)
  count : length (share is_for (p ∷ ps) w) ≡ suc (length (share is_for ps later))
  room : room_in later ≡ room_in w - 1

goes-in : (p : List ℕ) (ps : List (List ℕ)) (w : StoredQueue) → is_for w.key p ≡ true → 0 < room_in w → GoesIn p ps w (longer w p)
goes-in p ps w for_it some =
    let l = length-append w.ring.items (p ∷ []) in
    let r = w.ring.capacity - length (w.ring.items ++ p ∷ []) in
    let room : room_in w ≡ suc r = omega arith in
    let share_is : share is_for (p ∷ ps) w ≡ p ∷ take r (filter (is_for w.key) ps) = rw (room, for_it) refl in
    rw (longer-fits w p (omega arith)) (record {
      put = ap (with_items w) share_is ∙ ap (λ (x : List (List ℕ)). record w { ring = ring_of x w.ring.capacity }) (sym (append_assoc w.ring.items (p ∷ []) (take r (filter (is_for w.key) ps))));
      count = ap length share_is;
      room = omega arith;
    })

goes-put : (p : List ℕ) (ps : List (List ℕ)) (ws : List StoredQueue) (i a n : ℕ) → AreDistinct (keys_of ws) → i < length ws → a ≡ get_or (keys_of ws) i a → is_for a p ≡ true
    → n ≡ get_or (map room_in ws) i n → 0 < n → Goes p ps ws (put ws i p) 1
goes-put p ps [] i a n distinct lt is for_it room some = absurd (omega arith)
goes-put p ps (w ∷ ws) zero a n distinct lt is for_it room some =
    let it = goes-in p ps w (rw is at for_it) (rw room at some) in
    let others = goes-none p ps ws (none-others w.key p (keys_of ws) (rw is at for_it) distinct.0) in
    let one = it.count in
    let count = others.count in
    record {
      put = ap (λ (x : StoredQueue). x ∷ shared is_for (p ∷ ps) ws) it.put ∙ ap (λ (x : List StoredQueue). with_items (longer w p) (share is_for ps (longer w p)) ∷ x) others.put;
      count = omega (arith, sum_by-cons length (share is_for (p ∷ ps) w) (map (share is_for (p ∷ ps)) ws), sum_by-cons length (share is_for ps (longer w p)) (map (share is_for ps) ws));
    }
goes-put p ps (w ∷ ws) (suc i) a n distinct lt is for_it room some =
    goes-cons p ps w ws (put ws i p) 1 (rw (not-head w ws i a p distinct (omega arith) is for_it) refl) (goes-put p ps ws i a n distinct.1 (omega arith) is for_it room some)

rooms-put : (p : List ℕ) (ws : List StoredQueue) (i a n : ℕ) → i < length ws → a ≡ get_or (keys_of ws) i a → is_for a p ≡ true → n ≡ get_or (map room_in ws) i n → 0 < n → set (map room_in ws) i (n - 1) ≡ map room_in (put ws i p)
rooms-put p [] i a n lt is for_it room some = absurd (omega arith)
rooms-put p (w ∷ ws) zero a n lt is for_it room some =
    let it = goes-in p [] w (rw is at for_it) (rw room at some) in
    ap (λ (x : ℕ). x ∷ map room_in ws) (ap (λ (x : ℕ). x - 1) room ∙ sym it.room)
rooms-put p (w ∷ ws) (suc i) a n lt is for_it room some = ap (λ (x : List ℕ). room_in w ∷ x) (rooms-put p ws i a n (omega arith) is for_it room some)

-- if no queue takes the packet, the pass goes on with the remaining packets
pass-on : (qs : List StoredQueue) (p : List ℕ) (ps all : List (List ℕ)) (cs : List Placed) (rooms : List ℕ) → Goes p ps (put_all qs cs) (put_all qs cs) 0 → IsUnderWay qs (p ∷ ps) all cs rooms → IsUnderWay qs ps all cs rooms
pass-on qs p ps all cs rooms g k =
    let count = g.count in
    let before = k.count in
    record { places = k.places; keys = k.keys; rooms = k.rooms; put = sym g.put ∙ k.put; count = omega arith }

pub none-on : (qs : List StoredQueue) (p : List ℕ) (ps all : List (List ℕ)) (cs : List Placed) (rooms : List ℕ) → NoneFor p (keys_of qs) → IsUnderWay qs (p ∷ ps) all cs rooms → IsUnderWay qs ps all cs rooms
none-on qs p ps all cs rooms none k = pass-on qs p ps all cs rooms (goes-none p ps (put_all qs cs) (rw k.keys none)) k

pub full-on : (qs : List StoredQueue) (p : List ℕ) (ps all : List (List ℕ)) (cs : List Placed) (rooms : List ℕ) (i a n : ℕ) → AreDistinct (keys_of qs) → i < length qs → a ≡ get_or (keys_of qs) i a → is_for a p ≡ true
    → n ≡ get_or rooms i n → n ≡ 0 → IsUnderWay qs (p ∷ ps) all cs rooms → IsUnderWay qs ps all cs rooms
full-on qs p ps all cs rooms i a n distinct lt is for_it room none k =
    let l = length-put_all qs cs in
    pass-on qs p ps all cs rooms (goes-full p ps (put_all qs cs) i a n (rw k.keys distinct) (omega arith) (rw k.keys is) for_it (rw k.rooms at room) none) k

-- if the packet is copied to its queue, the pass goes on with the remaining packets
pub copy-on : (qs : List StoredQueue) (p : List ℕ) (ps all : List (List ℕ)) (cs : List Placed) (rooms : List ℕ) (i a n : ℕ) → AreDistinct (keys_of qs) → i < length qs → a ≡ get_or (keys_of qs) i a → is_for a p ≡ true
    → n ≡ get_or rooms i n → 0 < n → IsUnderWay qs (p ∷ ps) all cs rooms → IsUnderWay qs ps all (cs ++ copied_to i p ∷ []) (set rooms i (n - 1))
copy-on qs p ps all cs rooms i a n distinct lt is for_it room some k =
    let l = length-put_all qs cs in
    let ws = put_all qs cs in
    let here : i < length ws = omega arith in
    let is' : a ≡ get_or (keys_of ws) i a = rw k.keys is in
    let room' : n ≡ get_or (map room_in ws) i n = rw k.rooms at room in
    let g = goes-put p ps ws i a n (rw k.keys distinct) here is' for_it room' some in
    let count = g.count in
    let before = k.count in
    let more = length-append cs (copied_to i p ∷ []) in
    let pushed : put_all qs (cs ++ copied_to i p ∷ []) ≡ put ws i p = put_all-push qs cs (copied_to i p) in
    let same = ap (shares_in is_for ps) pushed in
    record {
      places = places-append (length qs) cs (copied_to i p ∷ []) k.places (lt, tt);
      keys = ap keys_of pushed ∙ keys-put ws i p ∙ k.keys;
      rooms = ap (λ (x : List ℕ). set x i (n - 1)) k.rooms ∙ rooms-put p ws i a n here is' for_it room' some ∙ ap (map room_in) (sym pushed);
      put = ap (shared is_for ps) pushed ∙ sym g.put ∙ k.put;
      count = omega arith;
    }

-- before the first packet, a pass is under way, and all packets remain
pub under-way : (qs : List StoredQueue) (all : List (List ℕ)) (cs : List Placed) (rooms : List ℕ) → cs ≡ [] → rooms ≡ map room_in qs → IsUnderWay qs all all cs rooms
under-way qs all cs rooms none is = rw none (record { places = tt; keys = refl; rooms = is; put = refl; count = omega arith })

none-shared : (ws : List StoredQueue) → (shared is_for [] ws ≡ ws) × (shares_in is_for [] ws ≡ 0)
none-shared [] = (refl, refl)
none-shared (w ∷ ws) =
    let none : share is_for [] w ≡ [] = take-nil {A = List ℕ} (room_in w) in
    let ih = none-shared ws in
    let same : with_items w (share is_for [] w) ≡ w = rw (none, append-nil w.ring.items) refl in
    let one : length (share is_for [] w) ≡ 0 = ap length none in
    let count = ih.1 in
    (ap (λ (x : StoredQueue). x ∷ shared is_for [] ws) same ∙ ap (λ (x : List StoredQueue). w ∷ x) ih.0, omega (arith, sum_by-cons length (share is_for [] w) (map (share is_for []) ws)))

-- after the last packet of a pass, each queue has its share of all packets
pub all-shared : (qs : List StoredQueue) (left all : List (List ℕ)) (cs : List Placed) (rooms : List ℕ) → left ≡ [] → IsUnderWay qs left all cs rooms → AreShares is_for all qs cs
all-shared qs left all cs rooms none k =
    let k' : IsUnderWay qs [] all cs rooms = rw none at k in
    let n = none-shared (put_all qs cs) in
    let none' = n.1 in
    let count = k'.count in
    record { places = k.places; put = sym n.0 ∙ k'.put; count = omega arith }

pub none-shares : (qs : List StoredQueue) (cs : List Placed) → cs ≡ [] → AreShares is_for [] qs cs
none-shares qs cs none = all-shared qs [] [] cs (map room_in qs) refl (under-way qs [] cs (map room_in qs) none refl)

pub not-telecommand : (p : Packet) (apids : List ℕ) → HasFields p → p.telecommand ≡ false → NoneFor p.octets.now apids
not-telecommand p [] fields other = tt
not-telecommand p (a ∷ apids) fields other = (is-not-for p a fields (inl other), not-telecommand p apids fields other)

pub no-queue : (p : Packet) (apids : List ℕ) → HasFields p → AllByRecursion (λ (a : ℕ). p.apid ≢ a) apids → NoneFor p.octets.now apids
no-queue p [] fields others = tt
no-queue p (a ∷ apids) fields others = (is-not-for p a fields (inr others.0), no-queue p apids fields others.1)

pub as-many : (qs : List StoredQueue) (left all : List (List ℕ)) (cs : List Placed) (rooms : List ℕ) → IsUnderWay qs left all cs rooms → length rooms ≡ length qs
as-many qs left all cs rooms k = ap length k.rooms ∙ length-map (put_all qs cs) room_in ∙ length-put_all qs cs
