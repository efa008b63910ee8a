-- Copies of items that are put into their queues one after the other, for any choice of the items that a queue wants.
use Rattle.tc_queues.proofs.Names.{◌≡◌, ℕ, Bool, zero, suc, ◌+◌, ◌-◌, ◌<◌, ◌≤◌, List, [], ◌∷◌, ◌++◌, length, map, filter, get_or, refl, sym, ap, ◌∙◌, append_assoc, arith, AllByRecursion, sum_by, set, take-nil, append-nil, length-append, length-map, length-take, sum_by-cons, share, with_items, copied_to, copies_from, longer, put, put_all, StoredQueue, Placed}
use Rattle.circular_buffer.specs.Buffer.{buffer as ring_of}
use Rattle.tc_queues.specs.StoredQueues.{HavePlaces}

pub put-set : (ws : List StoredQueue) (i : ℕ) (w : StoredQueue) (p : List ℕ) → w ≡ get_or ws i w → i < length ws → set ws i (longer w p) ≡ put ws i p
put-set [] i w p is lt = absurd (omega arith)
put-set (v ∷ ws) zero w p is lt = ap (λ (x : StoredQueue). longer x p ∷ ws) is
put-set (v ∷ ws) (suc i) w p is lt = ap (λ (x : List StoredQueue). v ∷ x) (put-set ws i w p is (omega arith))

pub length-put : (ws : List StoredQueue) (i : ℕ) (p : List ℕ) → length (put ws i p) ≡ length ws
length-put (w ∷ ws) (suc i) p = let l = length-put ws i p in omega arith
length-put _ _ p = refl

pub length-put_all : (ws : List StoredQueue) (cs : List Placed) → length (put_all ws cs) ≡ length ws
length-put_all ws [] = refl
length-put_all ws (c ∷ cs) = length-put_all (put ws c.place c.item) cs ∙ length-put ws c.place c.item

pub put_all-push : (ws : List StoredQueue) (cs : List Placed) (c : Placed) → put_all ws (cs ++ c ∷ []) ≡ put (put_all ws cs) c.place c.item
put_all-push ws [] c = refl
put_all-push ws (d ∷ cs) c = put_all-push (put ws d.place d.item) cs c

pub places-append : (n : ℕ) (cs ds : List Placed) → HavePlaces n cs → HavePlaces n ds → HavePlaces n (cs ++ ds)
places-append n [] ds h k = k
places-append n (c ∷ cs) ds h k = (h.0, places-append n cs ds h.1 k)

places-map : (n place : ℕ) (ps : List (List ℕ)) → place < n → HavePlaces n (map (copied_to place) ps)
places-map n place [] lt = tt
places-map n place (p ∷ ps) lt = (lt, places-map n place ps lt)

pub copies-places : (wanted : ℕ → List ℕ → Bool) (n place : ℕ) (ps : List (List ℕ)) (ws : List StoredQueue) → place + length ws ≤ n → HavePlaces n (copies_from wanted place ps ws)
copies-places wanted n place ps [] le = tt
copies-places wanted n place ps (w ∷ ws) le =
    places-append n (map (copied_to place) (share wanted ps w)) (copies_from wanted (place + 1) ps ws) (places-map n place (share wanted ps w) (omega arith)) (copies-places wanted n (place + 1) ps ws (omega arith))

pub length-copies : (wanted : ℕ → List ℕ → Bool) (place : ℕ) (ps : List (List ℕ)) (ws : List StoredQueue) → length (copies_from wanted place ps ws) ≡ sum_by length (map (share wanted ps) ws)
length-copies wanted place ps [] = refl
length-copies wanted place ps (w ∷ ws) =
    let ih = length-copies wanted (place + 1) ps ws in
    omega (arith, length-append (map (copied_to place) (share wanted ps w)) (copies_from wanted (place + 1) ps ws), length-map (share wanted ps w) (copied_to place), sum_by-cons length (share wanted ps w) (map (share wanted ps) ws))

put-at : (done : List StoredQueue) (w : StoredQueue) (ws : List StoredQueue) (p : List ℕ) → put (done ++ w ∷ ws) (length done) p ≡ done ++ longer w p ∷ ws
put-at [] w ws p = refl
put-at (d ∷ done) w ws p = ap (λ (x : List StoredQueue). d ∷ x) (put-at done w ws p)

-- a queue with room loses no item when one more is put into it
pub longer-fits : (w : StoredQueue) (p : List ℕ) → length w.ring.items < w.ring.capacity → longer w p ≡ with_items w (p ∷ [])
longer-fits w p fits =
    let l = length-append w.ring.items (p ∷ []) in
    let none : length (w.ring.items ++ p ∷ []) - w.ring.capacity ≡ 0 = omega arith in
    rw none refl

put-share : (done : List StoredQueue) (w : StoredQueue) (ws : List StoredQueue) (ps : List (List ℕ)) (others : List Placed) → length w.ring.items + length ps ≤ w.ring.capacity
    → put_all (done ++ w ∷ ws) (map (copied_to (length done)) ps ++ others) ≡ put_all (done ++ with_items w ps ∷ ws) others
put-share done w ws [] others fits = rw (append-nil w.ring.items) refl
put-share done w ws (p ∷ ps) others fits =
    let longer_is = put-at done w ws p ∙ ap (λ (x : StoredQueue). done ++ x ∷ ws) (longer-fits w p (omega arith)) in
    let l = length-append w.ring.items (p ∷ []) in
    let rest = put-share done (with_items w (p ∷ [])) ws ps others (omega arith) in
    ap (λ (x : List StoredQueue). put_all x (map (copied_to (length done)) ps ++ others)) longer_is
    ∙ rest ∙ ap (λ (x : List (List ℕ)). put_all (done ++ record w { ring = ring_of x w.ring.capacity } ∷ ws) others) (append_assoc w.ring.items (p ∷ []) ps)

-- no queue holds more items than its capacity
abbrev pub Fit : List StoredQueue → Type 0
Fit ws = AllByRecursion (λ (w : StoredQueue). length w.ring.items ≤ w.ring.capacity) ws

put-copies : (wanted : ℕ → List ℕ → Bool) (done : List StoredQueue) (ps : List (List ℕ)) (ws : List StoredQueue) (place : ℕ) → place ≡ length done → Fit ws
    → put_all (done ++ ws) (copies_from wanted place ps ws) ≡ done ++ map (λ (w : StoredQueue). with_items w (share wanted ps w)) ws
put-copies wanted done ps [] place at fit = refl
put-copies wanted done ps (w ∷ ws) place at fit =
    let w' : StoredQueue = with_items w (share wanted ps w) in
    let fits : length w.ring.items + length (share wanted ps w) ≤ w.ring.capacity = let f = fit.0 in omega (arith, length-take (w.ring.capacity - length w.ring.items) (filter (wanted w.key) ps)) in
    let one : put_all (done ++ w ∷ ws) (copies_from wanted place ps (w ∷ ws)) ≡ put_all (done ++ w' ∷ ws) (copies_from wanted (place + 1) ps ws) = rw at (put-share done w ws (share wanted ps w) (copies_from wanted (length done + 1) ps ws) fits) in
    let l = length-append done (w' ∷ []) in
    let rest = put-copies wanted (done ++ w' ∷ []) ps ws (place + 1) (omega arith) fit.1 in
    one ∙ ap (λ (x : List StoredQueue). put_all x (copies_from wanted (place + 1) ps ws)) (sym (append_assoc done (w' ∷ []) ws)) ∙ rest ∙ append_assoc done (w' ∷ []) (map (λ (x : StoredQueue). with_items x (share wanted ps x)) ws)

-- once the copies are put into the queues, each queue has its share
pub shares-put : (wanted : ℕ → List ℕ → Bool) (ps : List (List ℕ)) (ws : List StoredQueue) → Fit ws → put_all ws (copies_from wanted 0 ps ws) ≡ map (λ (w : StoredQueue). with_items w (share wanted ps w)) ws
shares-put wanted ps ws fit = put-copies wanted [] ps ws 0 refl fit

pub copies-none : (wanted : ℕ → List ℕ → Bool) (place : ℕ) (ws : List StoredQueue) → copies_from wanted place [] ws ≡ []
copies-none wanted place [] = refl
copies-none wanted place (w ∷ ws) = rw (take-nil {A = List ℕ} (w.ring.capacity - length w.ring.items), copies-none wanted (place + 1) ws) refl
