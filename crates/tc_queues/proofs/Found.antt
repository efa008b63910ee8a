-- Finding the place of a key, and reading and writing at that place.
use Rattle.tc_queues.proofs.Names.{◌≡◌, ◌≢◌, ℕ, zero, suc, ◌<◌, false, List, [], ◌∷◌, length, drop, take, get_or, Option, Some, None, refl, sym, ap, ◌∙◌, arith, set, slice_get, option_map, IsTrue, IsSome, option_and_then, AllByRecursion, eq-eqb, ne_eqb, map-set, get_or-map, keys_of, queue_for, shorter, popped, StoredQueue, oldest_for, slotted, Keyed, ring_in, rings_in, IsFirst}
use Rattle.std.specs.Prelude.{Err, Result}
use Rattle.circular_buffer.specs.Buffer.{buffer}
use Rattle.tc_queues.specs.Copying.{copied_in, copied_out}
use Rattle.tc_queues.specs.StoredQueues.{items_for}
use Rattle.tc_queues.specs.declared.reply.NotCopied.{NotCopied}
use Rattle.tc_queues.specs.declared.reply.NotCopied.TheVariants.{NoQueue}

-- none of these queues has the key
abbrev pub NoneHas : ℕ → List Keyed → Type 0
NoneHas key qs = AllByRecursion (λ (other : ℕ). key ≢ other) (keys_of (rings_in qs))

pub none-more : (key : ℕ) (qs : List Keyed) (i : ℕ) (q : Keyed) → i < length qs → q ≡ get_or qs i q → key ≢ q.key → NoneHas key (take i qs) → NoneHas key (take (suc i) qs)
none-more key [] i q inside is other none = absurd (omega arith)
none-more key (r ∷ qs) zero q inside is other none = (λ e. other (e ∙ sym (ap (λ (x : Keyed). x.key) is)), tt)
none-more key (r ∷ qs) (suc i) q inside is other none = (none.0, none-more key qs i q (omega arith) is other none.1)

pub first-here : (key : ℕ) (qs : List Keyed) (i : ℕ) (q : Keyed) → i < length qs → q ≡ get_or qs i q → key ≡ q.key → NoneHas key (take i qs) → IsFirst key i (keys_of (rings_in qs))
first-here key [] i q inside is here none = absurd (omega arith)
first-here key (r ∷ qs) zero q inside is here none = here ∙ ap (λ (x : Keyed). x.key) is
first-here key (r ∷ qs) (suc i) q inside is here none = (none.0, first-here key qs i q (omega arith) is here none.1)

-- the queue at the first place of a key is the queue that is found for the key
pub found : (key i : ℕ) (ws : List StoredQueue) (w : StoredQueue) → IsFirst key i (keys_of ws) → w ≡ get_or ws i w → queue_for key ws ≡ Some w
found key i [] w first is = absurd first
found key zero (v ∷ ws) w first is = rw (eq-eqb v.key key (sym first)) (ap (λ (x : StoredQueue). Some x) (sym is))
found key (suc i) (v ∷ ws) w first is = rw (ne_eqb v.key key (λ e. first.0 (sym e))) (found key i ws w first.1 is)

pub not-found : (key : ℕ) (ws : List StoredQueue) → AllByRecursion (λ (other : ℕ). key ≢ other) (keys_of ws) → queue_for key ws ≡ None
not-found key [] none = refl
not-found key (w ∷ ws) none = rw (ne_eqb w.key key (λ e. none.0 (sym e))) (not-found key ws none.1)

pub popped-first : (key i : ℕ) (ws : List StoredQueue) (w : StoredQueue) → IsFirst key i (keys_of ws) → w ≡ get_or ws i w → popped key ws ≡ set ws i (shorter w)
popped-first key i [] w first is = absurd first
popped-first key zero (v ∷ ws) w first is = rw (eq-eqb v.key key (sym first)) (ap (λ (x : StoredQueue). shorter x ∷ ws) (sym is))
popped-first key (suc i) (v ∷ ws) w first is = rw (ne_eqb v.key key (λ e. first.0 (sym e))) (ap (λ (x : List StoredQueue). v ∷ x) (popped-first key i ws w first.1 is))

pub popped-none : (key : ℕ) (ws : List StoredQueue) → AllByRecursion (λ (other : ℕ). key ≢ other) (keys_of ws) → popped key ws ≡ ws
popped-none key [] none = refl
popped-none key (w ∷ ws) none = rw (ne_eqb w.key key (λ e. none.0 (sym e))) (ap (λ (x : List StoredQueue). w ∷ x) (popped-none key ws none.1))

ring-at : (qs : List Keyed) (i : ℕ) (q : Keyed) → i < length qs → q ≡ get_or qs i q → ring_in q ≡ get_or (rings_in qs) i (ring_in q)
ring-at qs i q inside is = ap ring_in is ∙ sym (get_or-map ring_in qs i q (ring_in q) inside)

-- the queue at the first place of a key, without its rooms, is the queue that is found for the key
pub found-in : (key i : ℕ) (qs : List Keyed) (q : Keyed) → i < length qs → q ≡ get_or qs i q → IsFirst key i (keys_of (rings_in qs)) → queue_for key (rings_in qs) ≡ Some (ring_in q)
found-in key i qs q inside is first = found key i (rings_in qs) (ring_in q) first (ring-at qs i q inside is)

-- if the queue at the first place of a key loses its oldest item, the queues are those that `popped` defines
pub popped-in : (key i : ℕ) (qs : List Keyed) (q next : Keyed) → i < length qs → q ≡ get_or qs i q → next.key ≡ q.key
    → next.slots ≡ slotted (drop 1 q.slots.ring.items) q.slots.ring.capacity q.slots.staged q.slots.size → IsFirst key i (keys_of (rings_in qs)) → rings_in (set qs i next) ≡ popped key (rings_in qs)
popped-in key i qs q next inside is key_is slots first =
    let ring_is : ring_in next ≡ shorter (ring_in q) = rw (key_is, slots) refl in
    map-set ring_in qs i next ∙ ap (λ (x : StoredQueue). set (rings_in qs) i x) ring_is ∙ sym (popped-first key i (rings_in qs) (ring_in q) first (ring-at qs i q inside is))

drop-none : (xs : List (List ℕ)) → length xs ≡ 0 → drop 1 xs ≡ xs
drop-none [] none = refl
drop-none (x ∷ xs) none = absurd (omega arith)

popped-empty : (key i : ℕ) (ws : List StoredQueue) (w : StoredQueue) → IsFirst key i (keys_of ws) → w ≡ get_or ws i w → length w.ring.items ≡ 0 → popped key ws ≡ ws
popped-empty key i [] w first is none = absurd first
popped-empty key zero (v ∷ ws) w first is none =
    let same : shorter w ≡ w = ap (λ (xs : List (List ℕ)). record { key = w.key; ring = buffer xs w.ring.capacity }) (drop-none w.ring.items none) in
    popped-first key zero (v ∷ ws) w first is ∙ ap (λ (x : StoredQueue). x ∷ ws) (same ∙ is)
popped-empty key (suc i) (v ∷ ws) w first is none = rw (ne_eqb v.key key (λ e. first.0 (sym e))) (ap (λ (x : List StoredQueue). v ∷ x) (popped-empty key i ws w first.1 is none))

pub empty-in : (key i : ℕ) (qs : List Keyed) (q : Keyed) → i < length qs → q ≡ get_or qs i q → length q.slots.ring.items ≡ 0 → IsFirst key i (keys_of (rings_in qs)) → rings_in qs ≡ popped key (rings_in qs)
empty-in key i qs q inside is none first = sym (popped-empty key i (rings_in qs) (ring_in q) first (ring-at qs i q inside is) none)

-- the oldest item of a queue, if there is a queue and an item waits
abbrev oldest-of : Option StoredQueue → Option (List ℕ)
oldest-of q = option_and_then (λ (items : List (List ℕ)). slice_get items 0) (option_map (λ (x : StoredQueue). x.ring.items) q)

pub oldest-in : (key i : ℕ) (qs : List Keyed) (q : Keyed) → i < length qs → q ≡ get_or qs i q → IsFirst key i (keys_of (rings_in qs)) → oldest_for key (rings_in qs) ≡ slice_get q.slots.ring.items 0
oldest-in key i qs q inside is first = ap oldest-of (found-in key i qs q inside is first)

pub oldest-none : (key : ℕ) (ws : List StoredQueue) → AllByRecursion (λ (other : ℕ). key ≢ other) (keys_of ws) → oldest_for key ws ≡ None
oldest-none key ws none = ap oldest-of (not-found key ws none)

-- the number of octets that are copied out of a queue, or the reason why none are
abbrev copied-of : ℕ → Option StoredQueue → Result ℕ NotCopied
copied-of room q = copied_out room (option_map (λ (x : StoredQueue). x.ring.items) q)

pub copied-first : (room key i : ℕ) (qs : List Keyed) (q : Keyed) → i < length qs → q ≡ get_or qs i q → IsFirst key i (keys_of (rings_in qs)) → copied_out room (items_for key (rings_in qs)) ≡ copied_in room (slice_get q.slots.ring.items 0)
copied-first room key i qs q inside is first = ap (copied-of room) (found-in key i qs q inside is first)

pub copied-none : (room key : ℕ) (ws : List StoredQueue) → AllByRecursion (λ (other : ℕ). key ≢ other) (keys_of ws) → copied_out room (items_for key ws) ≡ Err NoQueue
copied-none room key ws none = ap (copied-of room) (not-found key ws none)

pub none-waits : (items : List (List ℕ)) → length items ≡ 0 → IsSome (slice_get items 0) → IsTrue false
none-waits [] none some = absurd cc
none-waits (x ∷ items) none some = absurd (omega arith)

pub one-waits : (items : List (List ℕ)) → length items ≢ 0 → IsSome (slice_get items 0)
one-waits [] some = absurd (some refl)
one-waits (x ∷ items) some = refl

pub keys-set : (qs : List Keyed) (i : ℕ) (q next : Keyed) → q ≡ get_or qs i q → next.key ≡ q.key → keys_of (rings_in (set qs i next)) ≡ keys_of (rings_in qs)
keys-set [] i q next is same = refl
keys-set (r ∷ qs) zero q next is same = ap (λ (k : ℕ). k ∷ keys_of (rings_in qs)) (same ∙ ap (λ (x : Keyed). x.key) is)
keys-set (r ∷ qs) (suc i) q next is same = ap (λ (x : List ℕ). r.key ∷ x) (keys-set qs i q next is same)
