-- Packets that go into their queues one after the other, and the one queue that takes a unit of a MAP.
use Rattle.tc_queues.proofs.Names.{◌≡◌, ◌≢◌, ℕ, zero, suc, ◌+◌, ◌-◌, ◌<◌, ◌≤◌, Bool, true, false, cond, eqb, List, [], ◌∷◌, ◌++◌, length, map, drop, get_or, Option, Some, None, refl, sym, ap, subst, ◌∙◌, arith, is_some, AllByRecursion, set, eq-eqb, ne_eqb, length-append, length-map, get_or-map, get_or_default, packets_of, joined, is_for, is_of_map, delivered, Delivery, keys_of, AreDistinct, room_in, share, put, copied_to, copies_from, queue_for, placed, StoredQueue, room_at, IsOnItsWay, IsDelivered, take-nil, append-nil, take_all}
use Rattle.tc_queues.specs.Delivering.{ArePut, IsPutWhole}
use Rattle.tc_queues.proofs.Copies.{copies-none, put_all-push, length-put_all}
use Rattle.tc_queues.proofs.Passes.{NoneFor, apart-at, under-way, none-on, full-on, copy-on, as-many, all-shared, none-shares}
use Rattle.tc_queues.proofs.Found.{not-found}

share-room : (m : ℕ) (u : List ℕ) (q : StoredQueue) → q.key ≡ m → length q.ring.items < q.ring.capacity → share (is_of_map m) (u ∷ []) q ≡ u ∷ []
share-room m u q same room = rw (eq-eqb q.key m same) (take_all (q.ring.capacity - length q.ring.items) (u ∷ []) (omega arith))

share-full : (m : ℕ) (u : List ℕ) (q : StoredQueue) → q.ring.capacity ≤ length q.ring.items → share (is_of_map m) (u ∷ []) q ≡ []
share-full m u q full = let none : q.ring.capacity - length q.ring.items ≡ 0 = omega arith in rw none refl

share-other : (m : ℕ) (u : List ℕ) (q : StoredQueue) → q.key ≢ m → share (is_of_map m) (u ∷ []) q ≡ []
share-other m u q other = rw (ne_eqb q.key m other) (take-nil {A = List ℕ} (q.ring.capacity - length q.ring.items))

others-take-none : (m place : ℕ) (u : List ℕ) (ws : List StoredQueue) → AllByRecursion (λ b. m ≢ b) (keys_of ws) → copies_from (is_of_map m) place (u ∷ []) ws ≡ []
others-take-none m place u [] h = refl
others-take-none m place u (w ∷ ws) h = rw (share-other m u w (λ e. h.0 (sym e)), others-take-none m (place + 1) u ws h.1) refl

-- if queue `i` is the queue of the MAP, it alone takes copies of the unit, among the queues from place `i` on
one-takes : (m place i : ℕ) (u : List ℕ) (ws : List StoredQueue) (q : StoredQueue) → AreDistinct (keys_of ws) → i < length ws → q ≡ get_or ws i q → q.key ≡ m
    → copies_from (is_of_map m) place (u ∷ []) (drop i ws) ≡ map (copied_to place) (share (is_of_map m) (u ∷ []) q)
one-takes m place i u [] q apart lt is same = absurd (omega arith)
one-takes m place zero u (w ∷ ws) q apart lt is same =
    let e : w.key ≡ m = ap (λ (x : StoredQueue). x.key) (sym is) ∙ same in
    let others : AllByRecursion (λ b. m ≢ b) (keys_of ws) = subst (λ k. AllByRecursion (λ b. k ≢ b) (keys_of ws)) e apart.0 in
    rw (others-take-none m (place + 1) u ws others, append-nil (map (copied_to place) (share (is_of_map m) (u ∷ []) w)), ← is) refl
one-takes m place (suc i) u (w ∷ ws) q apart lt is same = one-takes m place i u ws q apart.1 (omega arith) is same

-- before the first packet, all packets remain
pub at-start : (base now : List StoredQueue) (all : List (List ℕ)) → now ≡ base → IsOnItsWay base all all 0 now
at-start base now all is = record { made = []; free = map room_in base; way = under-way base all [] (map room_in base) refl refl; now_is = is; count = refl }

-- if no queue wants the packet, the packets after it remain
pub way-none : (base now : List StoredQueue) (p : List ℕ) (left all : List (List ℕ)) (n : ℕ) → NoneFor p (keys_of now) → IsOnItsWay base (p ∷ left) all n now → IsOnItsWay base left all (n + 0) now
way-none base now p left all n none k =
    let keys : keys_of now ≡ keys_of base = ap keys_of k.now_is ∙ k.way.keys in
    let count = k.count in
    record { made = k.made; free = k.free; way = none-on base p left all k.made k.free (subst (λ (x : List ℕ). NoneFor p x) keys none) k.way; now_is = k.now_is; count = omega arith }

-- if the packet's queue is full, the packets after it remain
pub way-full : (base now : List StoredQueue) (p : List ℕ) (left all : List (List ℕ)) (n i a : ℕ) → AreDistinct (keys_of now) → i < length now → a ≡ get_or (keys_of now) i a → is_for a p ≡ true → room_at i now ≡ 0
    → IsOnItsWay base (p ∷ left) all n now → IsOnItsWay base left all (n + 0) now
way-full base now p left all n i a distinct inside is for_it none k =
    let keys : keys_of now ≡ keys_of base = ap keys_of k.now_is ∙ k.way.keys in
    let long : length now ≡ length base = ap length k.now_is ∙ length-put_all base k.made in
    let rooms : map room_in now ≡ k.free = ap (map room_in) k.now_is ∙ sym k.way.rooms in
    let count = k.count in
    let is_base : a ≡ get_or (keys_of base) i a = subst (λ (x : List ℕ). a ≡ get_or x i a) keys is in
    let free_is : 0 ≡ get_or k.free i 0 = sym none ∙ ap (λ (x : List ℕ). get_or x i 0) rooms in
    record { made = k.made; free = k.free; way = full-on base p left all k.made k.free i a 0 (subst AreDistinct keys distinct) (omega arith) is_base for_it free_is refl k.way; now_is = k.now_is; count = omega arith }

-- if the packet goes into its queue, the packets after it remain
pub way-put : (base now later : List StoredQueue) (p : List ℕ) (left all : List (List ℕ)) (n i a : ℕ) → AreDistinct (keys_of now) → i < length now → a ≡ get_or (keys_of now) i a → is_for a p ≡ true → 0 < room_at i now
    → later ≡ put now i p → IsOnItsWay base (p ∷ left) all n now → IsOnItsWay base left all (n + 1) later
way-put base now later p left all n i a distinct inside is for_it some put_is k =
    let keys : keys_of now ≡ keys_of base = ap keys_of k.now_is ∙ k.way.keys in
    let long : length now ≡ length base = ap length k.now_is ∙ length-put_all base k.made in
    let rooms : map room_in now ≡ k.free = ap (map room_in) k.now_is ∙ sym k.way.rooms in
    let count = k.count in
    let is_base : a ≡ get_or (keys_of base) i a = subst (λ (x : List ℕ). a ≡ get_or x i a) keys is in
    let many : length k.free ≡ length base = as-many base (p ∷ left) all k.made k.free k.way in
    let r : ℕ = room_at i now in
    let free_is : r ≡ get_or k.free i r = ap (λ (x : List ℕ). get_or x i 0) rooms ∙ get_or_default k.free i 0 r (omega arith) in
    let more = length-append k.made (copied_to i p ∷ []) in
    record {
      made = k.made ++ copied_to i p ∷ [];
      free = set k.free i (r - 1);
      way = copy-on base p left all k.made k.free i a r (subst AreDistinct keys distinct) (omega arith) is_base for_it free_is some k.way;
      now_is = put_is ∙ ap (λ (x : List StoredQueue). put x i p) k.now_is ∙ sym (put_all-push base k.made (copied_to i p));
      count = omega arith;
    }

key-at : (ws : List StoredQueue) (i : ℕ) (m : ℕ) (q : StoredQueue) → i < length ws → m ≡ get_or (keys_of ws) i m → q ≡ get_or ws i q → q.key ≡ m
key-at ws i m q inside is q_is = ap (λ (x : StoredQueue). x.key) q_is ∙ sym (get_or-map (λ (x : StoredQueue). x.key) ws i q m inside) ∙ sym is

-- the queues before the queue of a unit's MAP take no copy of the unit
skip : (m p i : ℕ) (u : List ℕ) (ws : List StoredQueue) → AreDistinct (keys_of ws) → i < length ws → m ≡ get_or (keys_of ws) i m
    → copies_from (is_of_map m) p (u ∷ []) ws ≡ copies_from (is_of_map m) (p + i) (u ∷ []) (drop i ws)
skip m p i u [] distinct inside is = absurd (omega arith)
skip m p zero u (w ∷ ws) distinct inside is = ap (λ (n : ℕ). copies_from (is_of_map m) n (u ∷ []) (w ∷ ws)) (let e : p ≡ p + 0 = omega arith in e)
skip m p (suc i) u (w ∷ ws) distinct inside is =
    let other : w.key ≢ m = apart-at w.key (keys_of ws) i m distinct.0 (omega (arith, length-map ws (λ (q : StoredQueue). q.key))) is in
    rw (share-other m u w other) (skip m (p + 1) i u ws distinct.1 (omega arith) is ∙ ap (λ (n : ℕ). copies_from (is_of_map m) n (u ∷ []) (drop i ws)) (let e : p + 1 + i ≡ p + suc i = omega arith in e))

at : (ws : List StoredQueue) (i : ℕ) → i < length ws → (q : StoredQueue) × (q ≡ get_or ws i q)
at [] i inside = absurd (omega arith)
at (w ∷ ws) zero inside = (w, refl)
at (w ∷ ws) (suc i) inside = at ws i (omega arith)

pub put-whole : (m i : ℕ) (u : List ℕ) (ws new : List StoredQueue) (d : Delivery) → AreDistinct (keys_of ws) → i < length ws → m ≡ get_or (keys_of ws) i m
    → new ≡ put ws i u → 0 < room_at i ws → d ≡ delivered (Some u) true 1 → IsPutWhole m u ws new d
put-whole m i u ws new d distinct inside is new_is room d_is =
    let q : StoredQueue = (at ws i inside).0 in
    let q_is : q ≡ get_or ws i q = (at ws i inside).1 in
    let r : room_at i ws ≡ room_in q = get_or-map room_in ws i q 0 inside ∙ ap room_in (sym q_is) in
    let some : 0 < q.ring.capacity - length q.ring.items = omega arith in
    let key = key-at ws i m q inside is q_is in
    record {
      made = Some (copied_to i u);
      whole = sym (skip m 0 i u ws distinct inside is ∙ one-takes m (0 + i) i u ws q distinct inside q_is key ∙ ap (map (copied_to (0 + i))) (share-room m u q key (omega arith)) ∙ ap (λ (n : ℕ). copied_to n u ∷ []) (let e : 0 + i ≡ i = omega arith in e));
      new_is = new_is;
      delivery_is = d_is;
    }

pub put-none : (m i : ℕ) (u : List ℕ) (ws new : List StoredQueue) (d : Delivery) → AreDistinct (keys_of ws) → i < length ws → m ≡ get_or (keys_of ws) i m
    → new ≡ ws → room_at i ws ≡ 0 → d ≡ delivered (Some u) true 0 → IsPutWhole m u ws new d
put-none m i u ws new d distinct inside is new_is room d_is =
    let q : StoredQueue = (at ws i inside).0 in
    let q_is : q ≡ get_or ws i q = (at ws i inside).1 in
    let r : room_at i ws ≡ room_in q = get_or-map room_in ws i q 0 inside ∙ ap room_in (sym q_is) in
    let none : q.ring.capacity - length q.ring.items ≡ 0 = sym r ∙ room in
    record {
      made = None;
      whole = sym (skip m 0 i u ws distinct inside is ∙ one-takes m (0 + i) i u ws q distinct inside q_is (key-at ws i m q inside is q_is) ∙ ap (map (copied_to (0 + i))) (share-full m u q (omega arith)));
      new_is = new_is;
      delivery_is = d_is;
    }

-- a MAP with a unit queue is chosen
there : (m i : ℕ) (ws : List StoredQueue) → i < length ws → m ≡ get_or (keys_of ws) i m → is_some (queue_for m ws) ≡ true
there m i [] inside is = absurd (omega arith)
there m zero (w ∷ ws) inside is = rw (eq-eqb w.key m (sym is)) refl
there m (suc i) (w ∷ ws) inside is = by (eqb w.key m) (there m i ws (omega arith) is) where
  by : (t : Bool) → is_some (queue_for m ws) ≡ true → is_some (cond t (Some w) (queue_for m ws)) ≡ true
  by true h = refl
  by false h = h

pub by-packets : (m : ℕ) (u : List ℕ) (queues later units : List StoredQueue) (d : Delivery) → AllByRecursion (λ (other : ℕ). m ≢ other) (keys_of units) → ArePut u queues later d → IsDelivered m (Some u) queues later units units d
by-packets m u queues later units d none put =
    let other = ap (λ (q : Option StoredQueue). is_some q) (not-found m units none) in
    let e : length put.made + 0 ≡ length put.made = omega arith in
    record {
      made = put.made;
      whole = None;
      shares = rw other put.shares;
      whole_is = rw other (sym (copies-none (is_of_map m) 0 units));
      delivery_is = rw (other, e) put.delivery_is;
      queues_are = put.new_is;
      units_are = refl;
    }

pub by-unit : (m i : ℕ) (u : List ℕ) (queues units later : List StoredQueue) (d : Delivery) → i < length units → m ≡ get_or (keys_of units) i m → IsPutWhole m u units later d → IsDelivered m (Some u) queues queues units later d
by-unit m i u queues units later d inside is put =
    let chosen = there m i units inside is in
    let e : 0 + length (placed put.made) ≡ length (placed put.made) = omega arith in
    record {
      made = [];
      whole = put.made;
      shares = rw chosen (none-shares queues [] refl);
      whole_is = rw chosen put.whole;
      delivery_is = rw (chosen, e) put.delivery_is;
      queues_are = refl;
      units_are = put.new_is;
    }

pub by-nothing : (m : ℕ) (queues units : List StoredQueue) → IsDelivered m None queues queues units units (record { queued = 0; dropped = 0; rest = false })
by-nothing m queues units = record {
  made = [];
  whole = None;
  shares = none-shares queues [] refl;
  whole_is = sym (copies-none (is_of_map m) 0 units);
  delivery_is = refl;
  queues_are = refl;
  units_are = refl;
}

-- after the last packet, the packets of the unit are in their queues
pub at-end : (unit : List ℕ) (base now : List StoredQueue) (left : List (List ℕ)) (n : ℕ) (d : Delivery) → left ≡ [] → IsOnItsWay base left (packets_of unit) n now → d ≡ delivered (Some unit) false n → ArePut unit base now d
at-end unit base now left n d none k d_is = record {
  made = k.made;
  shares = all-shared base left (packets_of unit) k.made k.free none k.way;
  new_is = k.now_is;
  delivery_is = d_is ∙ ap (λ (m : ℕ). delivered (Some unit) false m) k.count;
}

pub first-short : (unit p rest : List ℕ) (ps : List (List ℕ)) → unit ≡ joined (p ∷ ps) ++ rest → length p ≤ length unit
first-short unit p rest ps is =
    let l : length unit ≡ length ((p ++ joined ps) ++ rest) = ap length is in
    omega (arith, length-append (p ++ joined ps) rest, length-append p (joined ps))
