-- Queues with distinct keys take no item twice, if each item is wanted by at most one key.
use Rattle.tc_queues.proofs.Names.{◌≡◌, ◌≢◌, ℕ, ◌+◌, ◌-◌, ◌≤◌, Bool, true, false, cond, eqb, ◌&&◌, List, [], ◌∷◌, length, map, filter, refl, inl, inr, arith, AllByRecursion, sum_by, length-take, sum_by-cons, eqb_tells, apid_of, is_telecommand, is_for, StoredQueue, share, keys_of, AreDistinct}

abbrev meant : (ℕ → List ℕ → Bool) → List (List ℕ) → ℕ → ℕ
meant wanted ps key = length (filter (wanted key) ps)

abbrev hit : (ℕ → List ℕ → Bool) → List ℕ → ℕ → ℕ
hit wanted p key = cond (wanted key p) 1 0

meant-cons : (wanted : ℕ → List ℕ → Bool) (p : List ℕ) (ps : List (List ℕ)) (key : ℕ) → meant wanted (p ∷ ps) key ≡ hit wanted p key + meant wanted ps key
meant-cons wanted p ps key = by (wanted key p) where
  by : (t : Bool) → length (cond t (p ∷ filter (wanted key) ps) (filter (wanted key) ps)) ≡ cond t 1 0 + length (filter (wanted key) ps)
  by true = omega arith
  by false = omega arith

sums-cons : (wanted : ℕ → List ℕ → Bool) (p : List ℕ) (ps : List (List ℕ)) (keys : List ℕ) → sum_by (meant wanted (p ∷ ps)) keys ≡ sum_by (hit wanted p) keys + sum_by (meant wanted ps) keys
sums-cons wanted p ps [] = refl
sums-cons wanted p ps (a ∷ keys) =
    let ih = sums-cons wanted p ps keys in
    let one = meant-cons wanted p ps a in
    omega (arith, sum_by-cons (meant wanted (p ∷ ps)) a keys, sum_by-cons (hit wanted p) a keys, sum_by-cons (meant wanted ps) a keys)

-- an item that one key wants is wanted by no other key
abbrev pub IsForOneKey : (ℕ → List ℕ → Bool) → Type 0
IsForOneKey wanted = (a b : ℕ) (p : List ℕ) → wanted a p ≡ true → a ≢ b → wanted b p ≡ false

-- a packet has one APID, so at most one key wants it
pub for-one : IsForOneKey is_for
for-one a b p h apart = elim (eqb_tells (apid_of p) a) [
  | inl one ↦ elim (eqb_tells (apid_of p) b) [
    | inl two ↦ absurd (let x = one.1 in let y = two.1 in apart cc)
    | inr two ↦ by (is_telecommand p) two.0
  ]
  | inr one ↦ absurd (not-both (is_telecommand p) one.0 h)
] where
  by : (t : Bool) → eqb (apid_of p) b ≡ false → (t && eqb (apid_of p) b) ≡ false
  by true e = e
  by false e = refl

  not-both : (t : Bool) → eqb (apid_of p) a ≡ false → (t && eqb (apid_of p) a) ≢ true
  not-both true e f = cc
  not-both false e f = cc

no-hits : (wanted : ℕ → List ℕ → Bool) → IsForOneKey wanted → (a : ℕ) (p : List ℕ) (keys : List ℕ) → wanted a p ≡ true → AllByRecursion (λ b. a ≢ b) keys → sum_by (hit wanted p) keys ≡ 0
no-hits wanted alone a p [] h apart = refl
no-hits wanted alone a p (b ∷ keys) h apart =
    let ih = no-hits wanted alone a p keys h apart.1 in
    let one : hit wanted p b ≡ 0 = rw (alone a b p h apart.0) refl in
    omega (arith, sum_by-cons (hit wanted p) b keys)

one-hit : (wanted : ℕ → List ℕ → Bool) → IsForOneKey wanted → (p : List ℕ) (keys : List ℕ) → AreDistinct keys → sum_by (hit wanted p) keys ≤ 1
one-hit wanted alone p [] apart = omega arith
one-hit wanted alone p (a ∷ keys) apart = by (wanted a p) refl (one-hit wanted alone p keys apart.1) where
  by : (t : Bool) → wanted a p ≡ t → sum_by (hit wanted p) keys ≤ 1 → sum_by (hit wanted p) (a ∷ keys) ≤ 1
  by true h ih = let none = no-hits wanted alone a p keys h apart.0 in let one : hit wanted p a ≡ 1 = rw h refl in omega (arith, sum_by-cons (hit wanted p) a keys)
  by false h ih = let one : hit wanted p a ≡ 0 = rw h refl in omega (arith, sum_by-cons (hit wanted p) a keys)

none-meant : (wanted : ℕ → List ℕ → Bool) (keys : List ℕ) → sum_by (meant wanted []) keys ≡ 0
none-meant wanted [] = refl
none-meant wanted (a ∷ keys) = let ih = none-meant wanted keys in omega (arith, sum_by-cons (meant wanted []) a keys)

all-meant : (wanted : ℕ → List ℕ → Bool) → IsForOneKey wanted → (ps : List (List ℕ)) (keys : List ℕ) → AreDistinct keys → sum_by (meant wanted ps) keys ≤ length ps
all-meant wanted alone [] keys apart = let n = none-meant wanted keys in omega arith
all-meant wanted alone (p ∷ ps) keys apart =
    let ih = all-meant wanted alone ps keys apart in
    let one = one-hit wanted alone p keys apart in
    let s = sums-cons wanted p ps keys in
    omega arith

shares-meant : (wanted : ℕ → List ℕ → Bool) (ps : List (List ℕ)) (ws : List StoredQueue) → sum_by length (map (share wanted ps) ws) ≤ sum_by (meant wanted ps) (keys_of ws)
shares-meant wanted ps [] = omega arith
shares-meant wanted ps (w ∷ ws) =
    let ih = shares-meant wanted ps ws in
    omega (arith, sum_by-cons length (share wanted ps w) (map (share wanted ps) ws), sum_by-cons (meant wanted ps) w.key (keys_of ws), length-take (w.ring.capacity - length w.ring.items) (filter (wanted w.key) ps))

-- queues with distinct keys take together no more items than there are
pub queued-within : (wanted : ℕ → List ℕ → Bool) → IsForOneKey wanted → (ps : List (List ℕ)) (ws : List StoredQueue) → AreDistinct (keys_of ws) → sum_by length (map (share wanted ps) ws) ≤ length ps
queued-within wanted alone ps ws apart = let a = shares-meant wanted ps ws in let b = all-meant wanted alone ps (keys_of ws) apart in omega arith
