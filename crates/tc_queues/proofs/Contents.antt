-- Items are staged only in queues that want a packet of the unit.
use Rattle.tc_queues.proofs.Names.{◌≡◌, ℕ, zero, suc, ◌<◌, true, false, List, [], ◌∷◌, length, map, get_or, ◌⊎◌, inl, inr, refl, sym, ap, subst, ◌∙◌, arith, set, append-nil, is_for, keys_of, AreDistinct, slotted, Keyed, rings_in, AreCommitted, committed, IsAmong, AreStagedOf}
use Rattle.tc_queues.proofs.Counted.{for-one}
use Rattle.tc_queues.proofs.Passes.{NoneFor, apart-at, none-others}
use Rattle.tc_queues.proofs.Tables.{keys-length}

-- if nothing is staged, `AreStagedOf` holds for any packets
pub none-staged : (qs : List Keyed) (ps : List (List ℕ)) → AreCommitted qs → AreStagedOf ps qs
none-staged [] ps all = tt
none-staged (q ∷ qs) ps all = (inl all.0, none-staged qs ps all.1)

-- if a queue wants one of the packets, any change of its items keeps `AreStagedOf`
pub staged-at : (qs : List Keyed) (i k : ℕ) (q next : Keyed) (ps : List (List ℕ)) → i < length qs → q ≡ get_or qs i q → next.key ≡ q.key → k ≡ get_or (keys_of (rings_in qs)) i k → IsAmong k ps → AreStagedOf ps qs → AreStagedOf ps (set qs i next)
staged-at [] i k q next ps inside is key k_is among all = tt
staged-at (r ∷ qs) zero k q next ps inside is key k_is among all = (inr (subst (λ (x : ℕ). IsAmong x ps) (k_is ∙ sym (key ∙ ap (λ (x : Keyed). x.key) is)) among), all.1)
staged-at (r ∷ qs) (suc i) k q next ps inside is key k_is among all = (all.0, staged-at qs i k q next ps (omega arith) is key k_is among all.1)

-- if no packets remain, nothing is staged
pub all-committed-of : (qs : List Keyed) → AreStagedOf [] qs → AreCommitted qs
all-committed-of [] all = tt
all-committed-of (q ∷ qs) all = (by all.0, all-committed-of qs all.1) where
  by : (q.slots.staged ≡ []) ⊎ IsAmong q.key [] → q.slots.staged ≡ []
  by (inl none) = none
  by (inr among) = absurd among

pub committed-same : (qs : List Keyed) → AreCommitted qs → map committed qs ≡ qs
committed-same [] all = refl
committed-same (q ∷ qs) all =
    let whole = append-nil q.slots.ring.items in
    let one : committed q ≡ q = rw all.0 (ap (λ (xs : List (List ℕ)). record { key = q.key; slots = slotted xs q.slots.ring.capacity [] q.slots.size }) whole) ∙ ap (λ (l : List (List ℕ)). record { key = q.key; slots = slotted q.slots.ring.items q.slots.ring.capacity l q.slots.size }) (sym all.0) in
    ap (λ (x : Keyed). x ∷ map committed qs) one ∙ ap (λ (x : List Keyed). q ∷ x) (committed-same qs all.1)

committed-twice : (q : Keyed) → committed (committed q) ≡ committed q
committed-twice q = ap (λ (xs : List (List ℕ)). record { key = q.key; slots = slotted xs q.slots.ring.capacity [] q.slots.size }) (append-nil (committed q).slots.ring.items)

pub committed-one : (qs : List Keyed) (i : ℕ) (q next : Keyed) → q ≡ get_or qs i q → next ≡ committed q → map committed (set qs i next) ≡ map committed qs
committed-one [] i q next is next_is = refl
committed-one (r ∷ qs) zero q next is next_is = ap (λ (x : Keyed). x ∷ map committed qs) (ap committed next_is ∙ committed-twice q ∙ ap committed is)
committed-one (r ∷ qs) (suc i) q next is next_is = ap (λ (x : List Keyed). committed r ∷ x) (committed-one qs i q next is next_is)

-- if a queue doesn't want the first packet, items are staged in the queue only if it wants one of the remaining packets
passed-over : (q : Keyed) (p : List ℕ) (ps : List (List ℕ)) → is_for q.key p ≡ false → (q.slots.staged ≡ []) ⊎ IsAmong q.key (p ∷ ps) → (q.slots.staged ≡ []) ⊎ IsAmong q.key ps
passed-over q p ps other (inl none) = inl none
passed-over q p ps other (inr (inl for_it)) = absurd cc
passed-over q p ps other (inr (inr among)) = inr among

pub passed-none : (qs : List Keyed) (p : List ℕ) (ps : List (List ℕ)) → NoneFor p (keys_of (rings_in qs)) → AreStagedOf (p ∷ ps) qs → AreStagedOf ps qs
passed-none [] p ps none all = tt
passed-none (q ∷ qs) p ps none all = (passed-over q p ps none.0 all.0, passed-none qs p ps none.1 all.1)

-- once the queue of this packet is committed, items are staged only in queues that want one of the remaining packets
pub passed-one : (qs : List Keyed) (i k : ℕ) (q next : Keyed) (p : List ℕ) (ps : List (List ℕ)) → AreDistinct (keys_of (rings_in qs)) → i < length qs → q ≡ get_or qs i q → next ≡ committed q → k ≡ get_or (keys_of (rings_in qs)) i k
    → is_for k p ≡ true → AreStagedOf (p ∷ ps) qs → AreStagedOf ps (set qs i next)
passed-one [] i k q next p ps distinct inside is next_is k_is for_it all = tt
passed-one (r ∷ qs) zero k q next p ps distinct inside is next_is k_is for_it all =
    (inl (ap (λ (x : Keyed). x.slots.staged) next_is), passed-none qs p ps (none-others r.key p (keys_of (rings_in qs)) (rw k_is at for_it) distinct.0) all.1)
passed-one (r ∷ qs) (suc i) k q next p ps distinct inside is next_is k_is for_it all =
    let count = keys-length qs in
    let other : is_for r.key p ≡ false = for-one k r.key p for_it (λ e. apart-at r.key (keys_of (rings_in qs)) i k distinct.0 (omega arith) k_is (sym e)) in
    (passed-over r p ps other all.0, passed-one qs i k q next p ps distinct.1 (omega arith) is next_is k_is for_it all.1)
