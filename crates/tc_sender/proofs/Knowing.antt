-- What a judge knows of a sender after each item.
use Rattle.std.specs.Prelude.{◌≡◌, ◌≢◌, ℕ, zero, suc, ◌+◌, ◌-◌, ◌%◌, ◌<◌, ◌≤◌, ◌↔◌, Bool, true, false, List, [], ◌∷◌, ◌++◌, drop, length, remove, slice_index_or}
use Rattle.std.proofs.Common.{subst, sym, refl, ap, ◌∙◌, arith, append_assoc, append-nil, add-one}
use Rattle.tc_sender.specs.Account.{distance, next_after, vr_after, Seen, Arrived, Made, Set, SenderExplains, ended, arrived, made, lost, read, set, ExplainsFrom, Approach, IsKnown}
use Rattle.tc_sender.proofs.Sending.{reads, readable, rest-known, skip-known}

-- the newest of the numbers that a judge knows
abbrev pub newest-of : ℕ → List ℕ → ℕ
newest-of next [] = next
newest-of next (report ∷ way) = newest-of report way

pub newest-is : (next d : ℕ) (way : List ℕ) → slice_index_or (next ∷ way) (length (next ∷ way) - 1) d ≡ newest-of next way
newest-is next d [] = refl
newest-is next d (report ∷ way) = let e : length (next ∷ report ∷ way) - 1 ≡ suc (length (report ∷ way) - 1) = omega arith in
    ap (λ i. slice_index_or (next ∷ report ∷ way) i d) e ∙ newest-is report d way

-- an accepted frame has the number V(R), and is within the window of the first number
grows : (next vr : ℕ) → next < 256 → vr < 256 → distance next vr < 255 → distance next ((vr + 1) % 256) ≡ distance next vr + 1
grows next vr n v h = omega arith

approach-grows : (next vr : ℕ) (way : List ℕ) → next < 256 → vr < 256 → distance next vr < 255 → Approach next way vr → Approach next way ((vr + 1) % 256)
approach-grows next vr [] n v h a = tt
approach-grows next vr (y ∷ ys) n v h a =
    let e : distance next ((vr + 1) % 256) ≡ distance next vr + 1 = grows next vr n v h in
    let small : distance y vr < 255 = omega (arith, a.2, h) in
    let f : distance y ((vr + 1) % 256) ≡ distance y vr + 1 = grows y vr a.0 v small in
    (a.0, a.1, omega (arith, e, f, a.2), approach-grows y vr ys a.0 v small a.3)

pub accepted-known : (window vr ns : ℕ) (numbers : List ℕ) → window ≤ 127 → ns ≡ vr → distance (slice_index_or numbers 0 0) ns < window
    → IsKnown window numbers vr → IsKnown window numbers ((vr + 1) % 256)
accepted-known window vr ns [] h e w k = k
accepted-known window vr ns (x ∷ ys) h e w k =
    let within : distance x vr < window = subst (λ n. distance x n < window) e w in
    let small : distance x vr < 255 = omega (arith, within, h) in
    let g : distance x ((vr + 1) % 256) ≡ distance x vr + 1 = grows x vr k.0 k.1 small in
    (k.0, omega arith, omega (arith, g, within), approach-grows x vr ys k.0 k.1 small k.3)

pub after-known : (window vr ns : ℕ) (accepted : Bool) (numbers : List ℕ) → window ≤ 127 → (accepted ≡ true → ns ≡ vr) → distance (slice_index_or numbers 0 0) ns < window
    → IsKnown window numbers vr → IsKnown window numbers (vr_after accepted vr)
after-known window vr ns true numbers h e w k = accepted-known window vr ns numbers h (e refl) w k
after-known window vr ns false numbers h e w k = k

-- the newest number is as far from V(R) as is left
apart : (x y : ℕ) → x < 256 → y < 256 → x ≢ y → 1 ≤ distance x y
apart x y a b ne = omega arith

self-above : (x : ℕ) → x < 256 → distance x x ≡ 0
self-above x a = omega arith

approach-more : (next vr : ℕ) (way : List ℕ) → next < 256 → vr < 256 → newest-of next way ≢ vr → Approach next way vr → Approach next (way ++ vr ∷ []) vr
approach-more next vr [] n v ne a =
    let z : distance vr vr ≡ 0 = self-above vr v in
    (v, apart next vr n v ne, omega (arith, z), tt)
approach-more next vr (y ∷ ys) n v ne a = (a.0, a.1, a.2, approach-more y vr ys a.0 v ne a.3)

pub noted-known : (window vr : ℕ) (numbers : List ℕ) (new : ℕ) → new ≡ vr → slice_index_or numbers (length numbers - 1) new ≢ new → IsKnown window numbers vr → IsKnown window (numbers ++ new ∷ []) vr
noted-known window vr [] new e ne k = absurd k
noted-known window vr (x ∷ ys) new e ne k =
    let far : newest-of x ys ≢ vr = λ h. ne (newest-is x new ys ∙ h ∙ sym e) in
    (k.0, k.1, k.2, subst (λ n. Approach x (ys ++ n ∷ []) vr) (sym e) (approach-more x vr ys k.0 k.1 far k.3))

approach-length : (next vr : ℕ) (way : List ℕ) → Approach next way vr → length way + distance (newest-of next way) vr ≤ distance next vr
approach-length next vr [] a = omega arith
approach-length next vr (y ∷ ys) a = omega (arith, a.1, a.2, approach-length y vr ys a.3)

newest-small : (next vr : ℕ) (way : List ℕ) → next < 256 → Approach next way vr → newest-of next way < 256
newest-small next vr [] n a = n
newest-small next vr (y ∷ ys) n a = newest-small y vr ys a.0 a.3

-- there is room for one more number if the newest one isn't V(R)
pub room-for : (window vr : ℕ) (numbers : List ℕ) (new : ℕ) → new ≡ vr → slice_index_or numbers (length numbers - 1) new ≢ new → IsKnown window numbers vr → length numbers ≤ window
room-for window vr [] new e ne k = absurd k
room-for window vr (x ∷ ys) new e ne k =
    let far : newest-of x ys ≢ vr = λ h. ne (newest-is x new ys ∙ h ∙ sym e) in
    let one : 1 ≤ distance (newest-of x ys) vr = apart (newest-of x ys) vr (newest-small x vr ys k.0 k.3) k.1 far in
    omega (arith, approach-length x vr ys k.3, one, k.2)

pub not-empty : (window vr : ℕ) (numbers : List ℕ) → IsKnown window numbers vr → 0 < length numbers
not-empty window vr [] k = absurd k
not-empty window vr (x ∷ ys) k = omega arith

-- a CLCW more on the way to the sender does no harm
more-made : (window next vr report : ℕ) (way before after : List ℕ) (items : List Seen) → way ≡ before ++ after
    → SenderExplains window next way vr items → SenderExplains window next (before ++ report ∷ after) vr items
more-made window next vr report way [] after items e d = lost (subst (λ w. SenderExplains window next w vr items) e d)
more-made window next vr report way (b ∷ before) after [] e ended = ended
more-made window next vr report way (b ∷ before) after (Arrived ns accepted field ∷ items) e (arrived small within fits d) =
    arrived small within fits (more-made window next (vr_after accepted vr) report way (b ∷ before) after items e d)
more-made window next vr report way (b ∷ before) after (Made q ∷ items) e (made d) =
    made (subst (λ w. SenderExplains window next w vr items) (sym (append_assoc (b ∷ before) (report ∷ after) (vr ∷ [])))
    (more-made window next vr report (way ++ vr ∷ []) (b ∷ before) (after ++ vr ∷ []) items (ap (λ w. w ++ vr ∷ []) e ∙ append_assoc (b ∷ before) after (vr ∷ [])) d))
more-made window next vr report (r ∷ way) (b ∷ before) after items e (lost d) = lost (more-made window next vr report way before after items (cc) d)
more-made window next vr report (r ∷ way) (b ∷ before) after items e (read d) =
    let same : next_after window next r ≡ next_after window next b = cc in
    read (subst (λ n. SenderExplains window n (before ++ report ∷ after) vr items) same (more-made window (next_after window next r) vr report way before after items (cc) d))
more-made window next vr report way (b ∷ before) after (Set q ∷ items) e (set small d) = set small d

-- a CLCW with the newest number tells the sender nothing new
none-new : (window n next v vr report : ℕ) (way before after : List ℕ) (items : List Seen) → n ≡ next → way ≡ before ++ report ∷ after
    → IsKnown window (next ∷ before) v → newest-of next before ≡ report
    → SenderExplains window n way vr items → SenderExplains window next (before ++ after) vr items
none-new window n next v vr report way before after [] ne e k is ended = ended
none-new window n next v vr report way before after (Arrived ns accepted field ∷ items) ne e k is (arrived small within fits d) =
    arrived small (subst (λ m. distance m ns < window) ne within) fits (none-new window n next v (vr_after accepted vr) report way before after items ne e k is d)
none-new window n next v vr report way before after (Made q ∷ items) ne e k is (made d) =
    made (subst (λ w. SenderExplains window next w vr items) (sym (append_assoc before after (vr ∷ [])))
    (none-new window n next v vr report (way ++ vr ∷ []) before (after ++ vr ∷ []) items ne (ap (λ w. w ++ vr ∷ []) e ∙ append_assoc before (report ∷ after) (vr ∷ [])) k is d))
none-new window n next v vr report way before after (Set q ∷ items) ne e k is (set small d) = set small d
none-new window n next v vr report (r ∷ way) [] after items ne e k is (lost d) =
    let same : way ≡ after = cc in subst (λ m. SenderExplains window m after vr items) ne (subst (λ w. SenderExplains window n w vr items) same d)
none-new window n next v vr report (r ∷ way) (b ∷ []) after items ne e k is (lost d) =
    let same : way ≡ b ∷ after = cc in subst (λ m. SenderExplains window m (b ∷ after) vr items) ne (subst (λ w. SenderExplains window n w vr items) same d)
none-new window n next v vr report (r ∷ way) (b ∷ c ∷ before) after items ne e k is (lost d) =
    lost (none-new window n next v vr report way (c ∷ before) after items ne (cc) (skip-known window next b v (c ∷ before) k) is d)
none-new window n next v vr report (r ∷ way) [] after items ne e k is (read d) =
    let same : way ≡ after = cc in
    let to : next_after window n r ≡ next_after window next next = cc in
    let stays : next_after window next next ≡ next = reads window next next k.0 k.0 (let z : distance next next ≡ 0 = self-above next k.0 in omega (arith, z)) in
    subst (λ m. SenderExplains window m after vr items) (to ∙ stays) (subst (λ w. SenderExplains window (next_after window n r) w vr items) same d)
none-new window n next v vr report (r ∷ way) (b ∷ before) after items ne e k is (read d) =
    let to : next_after window n r ≡ next_after window next b = cc in
    let at : next_after window n r ≡ b = to ∙ readable window next b v before k in
    read (subst (λ m. SenderExplains window m (before ++ after) vr items) (sym (readable window next b v before k))
    (none-new window (next_after window n r) b v vr report way before after items at (cc) (rest-known window next b v before k) is d))

-- a history that explains a CLCW has it on its way
unmade : (window next vr q : ℕ) (way : List ℕ) (items : List Seen) → SenderExplains window next way vr (Made q ∷ items)
    → (q ≡ vr) × SenderExplains window next (way ++ vr ∷ []) vr items
unmade window next vr q way items (made d) = (refl, d)
unmade window next vr q (r ∷ way) items (lost d) = let u = unmade window next vr q way items d in (u.0, lost u.1)
unmade window next vr q (r ∷ way) items (read d) = let u = unmade window (next_after window next r) vr q way items d in (u.0, read u.1)

unset : (window next vr q : ℕ) (way : List ℕ) (items : List Seen) → SenderExplains window next way vr (Set q ∷ items) → SenderExplains window q [] q items
unset window next vr q way items (set small d) = d
unset window next vr q (r ∷ way) items (lost d) = unset window next vr q way items d
unset window next vr q (r ∷ way) items (read d) = unset window (next_after window next r) vr q way items d

pub not-v-r : (window vr q : ℕ) (numbers : List ℕ) (items : List Seen) → q ≢ vr → ExplainsFrom window numbers vr (Made q ∷ items) → ⊥
not-v-r window vr q [] items ne e = e
not-v-r window vr q (x ∷ ys) items ne e = let u = unmade window x vr q ys items e in ne u.0

-- a CLCW with a new number
pub noted : (window vr q : ℕ) (numbers : List ℕ) (items : List Seen) → q ≡ vr
    → ExplainsFrom window (numbers ++ q ∷ []) vr items → 0 < length numbers → ExplainsFrom window numbers vr (Made q ∷ items)
noted window vr q [] items is e h = absurd (omega (arith, h))
noted window vr q (x ∷ ys) items is e h =
    subst (λ p. SenderExplains window x ys vr (Made p ∷ items)) (sym is) (made (subst (λ p. SenderExplains window x (ys ++ p ∷ []) vr items) is e))

pub noted-back : (window vr q : ℕ) (numbers : List ℕ) (items : List Seen) → q ≡ vr
    → ExplainsFrom window numbers vr (Made q ∷ items) → ExplainsFrom window (numbers ++ q ∷ []) vr items
noted-back window vr q [] items is e = absurd e
noted-back window vr q (x ∷ ys) items is e = let u = unmade window x vr q ys items e in subst (λ p. SenderExplains window x (ys ++ p ∷ []) vr items) (sym is) u.1

-- a CLCW with the newest number
pub known-already : (window v vr q : ℕ) (numbers : List ℕ) (items : List Seen) → q ≡ vr → slice_index_or numbers (length numbers - 1) q ≡ q → IsKnown window numbers v
    → ExplainsFrom window numbers vr items ↔ ExplainsFrom window numbers vr (Made q ∷ items)
known-already window v vr q [] items is newest k = absurd k
known-already window v vr q (x ∷ ys) items is newest k = (there, back) where
  there : SenderExplains window x ys vr items → SenderExplains window x ys vr (Made q ∷ items)
  there e = subst (λ p. SenderExplains window x ys vr (Made p ∷ items)) (sym is) (made (more-made window x vr vr ys ys [] items (sym (append-nil ys)) e))

  at : newest-of x ys ≡ vr
  at = sym (newest-is x q ys) ∙ newest ∙ is

  back : SenderExplains window x ys vr (Made q ∷ items) → SenderExplains window x ys vr items
  back e = let u = unmade window x vr q ys items e in
      subst (λ w. SenderExplains window x w vr items) (append-nil ys) (none-new window x x v vr vr (ys ++ vr ∷ []) ys [] items refl refl k at u.1)

pub unset-on : (window vr q : ℕ) (numbers : List ℕ) (items : List Seen) → ExplainsFrom window numbers vr (Set q ∷ items) → SenderExplains window q [] q items
unset-on window vr q [] items e = absurd e
unset-on window vr q (x ∷ ys) items e = unset window x vr q ys items e

pub set-on : (window vr q : ℕ) (numbers : List ℕ) (items : List Seen) → 0 < length numbers → q < 256 → SenderExplains window q [] q items → ExplainsFrom window numbers vr (Set q ∷ items)
set-on window vr q [] items h small e = absurd (omega (arith, h))
set-on window vr q (x ∷ ys) items h small e = set small e

-- one number fewer in front
pub drop-one : (n : ℕ) (xs : List ℕ) → 0 < length xs → drop n (remove xs 0) ≡ drop (n + 1) xs
drop-one n [] h = absurd (omega (arith, h))
drop-one n (x ∷ xs) h = rw (add-one n) refl
