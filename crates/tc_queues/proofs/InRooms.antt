-- Queues in rooms, read and written at one place.
use Rattle.tc_queues.proofs.Names.{◌≡◌, ℕ, zero, suc, ◌+◌, ◌-◌, ◌<◌, ◌≤◌, Bool, List, [], ◌∷◌, ◌++◌, length, map, get_or, refl, sym, ap, subst, ◌∙◌, arith, set, map-set_same, map-map, append-nil, length-append, length-map, map-set, get_or-map, keys_of, room_in, StoredQueue, Keyed, ring_in, rings_in, staged_in, all_staged_in, room_sizes, Fit, AreCommitted, room_at, AllByRecursion, replicate, map_push, stored, take}
use Rattle.std.proofs.lemmas.List.{map_more, replicate_more}
use Rattle.tc_queues.specs.ChannelState.{Queue}
use Rattle.circular_buffer.specs.Buffer.{buffer}
use Rattle.tc_queues.specs.Keyed.{IsPutBehind}
use Rattle.tc_queues.specs.Delivering.{IsPutAt}
use Rattle.tc_queues.proofs.Copies.{put-set, longer-fits}

-- if a queue is replaced by one with an equal key and equal waiting items, the keys and waiting items of all queues stay as they were
pub same-rings : (qs : List Keyed) (i : ℕ) (q next : Keyed) → q ≡ get_or qs i q → next.key ≡ q.key → next.slots.ring ≡ q.slots.ring → rings_in (set qs i next) ≡ rings_in qs
same-rings qs i q next is key ring =
    let same : ring_in next ≡ ring_in (get_or qs i q) = rw (key, ring) (ap ring_in is) in
    map-set_same ring_in qs i next q same

pub same-sizes : (qs : List Keyed) (i : ℕ) (q next : Keyed) → q ≡ get_or qs i q → next.slots.size ≡ q.slots.size → room_sizes (set qs i next) ≡ room_sizes qs
same-sizes qs i q next is same = map-set_same (λ (x : Keyed). x.slots.size) qs i next q (same ∙ ap (λ (x : Keyed). x.slots.size) is)

pub fit-at : (octets : List ℕ) (qs : List Keyed) (i : ℕ) (q : Keyed) → Fit octets (room_sizes qs) → i < length qs → q ≡ get_or qs i q → length octets ≤ q.slots.size
fit-at octets [] i q fits inside is = absurd (omega arith)
fit-at octets (r ∷ qs) zero q fits inside is = subst (λ (x : Keyed). length octets ≤ x.slots.size) (sym is) fits.0
fit-at octets (r ∷ qs) (suc i) q fits inside is = fit-at octets qs i q fits.1 (omega arith) is

-- if nothing is staged in a queue, counting the staged items with those that wait makes no difference
staged-one : (q : Keyed) → q.slots.staged ≡ [] → staged_in q ≡ ring_in q
staged-one q none = ap (λ (xs : List (List ℕ)). record { key = q.key; ring = buffer xs q.slots.ring.capacity }) (rw none (append-nil q.slots.ring.items))

pub staged-none : (qs : List Keyed) → AreCommitted qs → all_staged_in qs ≡ rings_in qs
staged-none [] all = refl
staged-none (q ∷ qs) all = ap (λ (x : StoredQueue). x ∷ all_staged_in qs) (staged-one q all.0) ∙ ap (λ (x : List StoredQueue). ring_in q ∷ x) (staged-none qs all.1)

pub same-keys : (qs : List Keyed) → keys_of (all_staged_in qs) ≡ keys_of (rings_in qs)
same-keys qs = map-map (λ (w : StoredQueue). w.key) staged_in qs ∙ sym (map-map (λ (w : StoredQueue). w.key) ring_in qs)

pub key-in : (qs : List Keyed) (i k : ℕ) (q : Keyed) → i < length qs → q ≡ get_or qs i q → k ≡ q.key → k ≡ get_or (keys_of (rings_in qs)) i k
key-in qs i k q inside is k_is =
    k_is ∙ sym (get_or-map (λ (x : StoredQueue). x.key) (rings_in qs) i (ring_in q) k (omega (arith, length-map qs ring_in))
    ∙ ap (λ (x : StoredQueue). x.key) (get_or-map ring_in qs i q (ring_in q) inside ∙ ap ring_in (sym is)))

-- If a queue is replaced as `IsPutBehind` states, the list of queues changes as `IsPutAt` states for its place. `f` can be
-- `ring_in` or `staged_in`, so the staged items may be counted or not.
pub put-in : (f : Keyed → StoredQueue) (qs : List Keyed) (i : ℕ) (q next : Keyed) (p : List ℕ) (place : Bool) → i < length qs → q ≡ get_or qs i q → IsPutBehind p (f q) (f next) place → IsPutAt i p (map f qs) (map f (set qs i next)) place
put-in f qs i q next p place inside is behind =
    let here : f q ≡ get_or (map f qs) i (f q) = ap f is ∙ sym (get_or-map f qs i q (f q) inside) in
    let room : room_at i (map f qs) ≡ (f q).ring.capacity - length (f q).ring.items = get_or-map room_in (map f qs) i (f q) 0 (omega (arith, length-map qs f)) ∙ ap room_in (sym here) in
    record {
      done = λ yes.
          let d = behind.done yes in
          let fits = d.1 in
          (map-set f qs i next ∙ ap (λ (x : StoredQueue). set (map f qs) i x) (d.0 ∙ sym (longer-fits (f q) p fits)) ∙ put-set (map f qs) i (f q) p here (omega (arith, length-map qs f)), omega arith);
      full = λ no.
          let n = behind.full no in
          let full = n.1 in
          (map-set_same f qs i next q (n.0 ∙ ap f is), omega arith);
    }

-- if nothing is staged in any queue, and one is replaced by a queue without staged items, nothing is staged
pub committed-at : (qs : List Keyed) (i : ℕ) (next : Keyed) → AreCommitted qs → next.slots.staged ≡ [] → AreCommitted (set qs i next)
committed-at [] i next all one = tt
committed-at (r ∷ qs) zero next all one = (one, all.1)
committed-at (r ∷ qs) (suc i) next all one = (all.0, committed-at qs i next all.1 one)

pub staged-of-none-at : (qs : List Keyed) (i : ℕ) (q : Keyed) → AreCommitted qs → i < length qs → q ≡ get_or qs i q → q.slots.staged ≡ []
staged-of-none-at [] i q all inside is = absurd (omega arith)
staged-of-none-at (r ∷ qs) zero q all inside is = ap (λ (x : Keyed). x.slots.staged) is ∙ all.0
staged-of-none-at (r ∷ qs) (suc i) q all inside is = staged-of-none-at qs i q all.1 (omega arith) is

-- if nothing is staged in any queue, and one is replaced by a queue with equal staged items, nothing is staged
pub committed-set : (qs : List Keyed) (i : ℕ) (q next : Keyed) → AreCommitted qs → i < length qs → q ≡ get_or qs i q → next.slots.staged ≡ q.slots.staged → AreCommitted (set qs i next)
committed-set qs i q next all inside is same = committed-at qs i next all (same ∙ staged-of-none-at qs i q all inside is)

pub full-at : (qs : List Keyed) (i : ℕ) (q : Keyed) → i < length qs → q ≡ get_or qs i q → q.slots.ring.capacity ≤ length q.slots.ring.items → room_at i (all_staged_in qs) ≡ 0
full-at qs i q inside is full =
    let here : staged_in q ≡ get_or (all_staged_in qs) i (staged_in q) = ap staged_in is ∙ sym (get_or-map staged_in qs i q (staged_in q) inside) in
    let room : room_at i (all_staged_in qs) ≡ q.slots.ring.capacity - length (q.slots.ring.items ++ q.slots.staged) =
    get_or-map room_in (all_staged_in qs) i (staged_in q) 0 (omega (arith, length-map qs staged_in)) ∙ ap room_in (sym here) in
    room ∙ omega (arith, length-append q.slots.ring.items q.slots.staged)

-- if no size is below `least`, at most `least` octets fit each size
pub fit-enough : (octets : List ℕ) (least : ℕ) (sizes : List ℕ) → AllByRecursion (λ (n : ℕ). least ≤ n) sizes → length octets ≤ least → Fit octets sizes
fit-enough octets least [] all le = tt
fit-enough octets least (m ∷ sizes) all le = (let e = all.0 in omega arith, fit-enough octets least sizes all.1 le)

-- if the queue of the next setting is appended to the queues of the first `i` settings, the result is the queues of the first `i + 1`
pub rings-more : {A : Type 0} (made : A → Queue) (settings : List A) (i : ℕ) (setting : A) (qs : List Keyed) (q : Keyed)
    → i < length settings → ring_in q ≡ stored (made (get_or settings i setting)) → rings_in qs ≡ map stored (map made (take i settings)) → rings_in (qs ++ q ∷ []) ≡ map stored (map made (take (i + 1) settings))
rings-more made settings i setting qs q inside is so =
    map_push ring_in qs q ∙ ap (λ (x : StoredQueue). rings_in qs ++ x ∷ []) is ∙ ap (λ (xs : List StoredQueue). xs ++ stored (made (get_or settings i setting)) ∷ []) so
    ∙ sym (ap (λ (xs : List Queue). map stored xs) (map_more made settings i setting inside) ∙ map_push stored (map made (take i settings)) (made (get_or settings i setting)))

pub sizes-more : (size i : ℕ) (qs : List Keyed) (q : Keyed) → q.slots.size ≡ size → room_sizes qs ≡ replicate i size → room_sizes (qs ++ q ∷ []) ≡ replicate (i + 1) size
sizes-more size i qs q is so =
    map_push (λ (x : Keyed). x.slots.size) qs q ∙ ap (λ (n : ℕ). room_sizes qs ++ n ∷ []) is ∙ ap (λ (ns : List ℕ). ns ++ size ∷ []) so ∙ replicate_more i size
