-- If the seats that have reported have made as many entries as the log has, the log is a merge of their entries.
use Rattle.std.proofs.Common.{◌≡◌, ◌≢◌, ℕ, zero, suc, ◌+◌, ◌/◌, ◌<◌, ◌≤◌, ◌==◌, cond, Bool, List, [], ◌∷◌, length, map, refl, sym, ap, ◌∙◌, subst, arith, eq-eqb, ne_eqb, lt_of_not-le}
use Rattle.std.proofs.lemmas.Bool.Decides.{nat_tests}
use Rattle.std.proofs.lemmas.List.{length-map}
use mathlib.Core.Logic.{dite}
use native.Mathlib.Decide.{ℕ_discrete, dec_le}
use Rattle.logged_lock.specs.declared.views.Log.{Log}
use Rattle.logged_lock.specs.declared.views.Account.{Account}
use Rattle.logged_lock.specs.Log.{owned, made_by, total_made, IsMergeOf}
use Rattle.logged_lock.specs.Rule.{seat_tag, reported_tag, AreReported, NoSeatOwns}
use Rattle.logged_lock.proofs.Owned.{owned-own, owned-other}

-- the sum of the first n values of f
sum_to : (ℕ → ℕ) → ℕ → ℕ
sum_to f zero = 0
sum_to f (suc n) = sum_to f n + f n

sum_to-same : (f g : ℕ → ℕ) → ((k : ℕ) → f k ≡ g k) → (n : ℕ) → sum_to f n ≡ sum_to g n
unfolding sum_to
sum_to-same f g same zero = refl
sum_to-same f g same (suc n) = λ i. sum_to-same f g same n i + same n i

sum_to-add : (f g : ℕ → ℕ) (n : ℕ) → sum_to (λ k. f k + g k) n ≡ sum_to f n + sum_to g n
unfolding sum_to
sum_to-add f g zero = refl
sum_to-add f g (suc n) = omega (arith, sum_to-add f g n)

sum_to-zero : (f : ℕ → ℕ) → ((k : ℕ) → f k ≡ 0) → (n : ℕ) → sum_to f n ≡ 0
unfolding sum_to
sum_to-zero f none zero = refl
sum_to-zero f none (suc n) = omega (arith, sum_to-zero f none n, none n)

sum_to-front : (f : ℕ → ℕ) (n : ℕ) → sum_to f (suc n) ≡ f 0 + sum_to (λ k. f (suc k)) n
unfolding sum_to
sum_to-front f zero = omega arith
sum_to-front f (suc n) = omega (arith, sum_to-front f n)

total-sum : {D E : Type 0} (row : List (Account D E)) → total_made row ≡ sum_to (λ k. length (made_by row k)) (length row)
unfolding sum_to
total-sum [] = refl
total-sum (a ∷ more) = ap (λ (m : ℕ). length a.made + m) (total-sum more) ∙ sym (sum_to-front (λ k. length (made_by (a ∷ more) k)) (length more))

-- 1 if the owner is t, and otherwise 0
is : ℕ → ℕ → ℕ
is o t = cond (o == t) 1 0

is-same : (o t : ℕ) → o ≡ t → is o t ≡ 1
unfolding is
is-same o t same = ap (λ (b : Bool). cond b 1 0) (eq-eqb o t same)

is-else : (o t : ℕ) → o ≢ t → is o t ≡ 0
unfolding is
is-else o t apart = ap (λ (b : Bool). cond b 1 0) (ne_eqb o t apart)

-- the number of places that belong to an owner
count : ℕ → List ℕ → ℕ
count t [] = 0
count t (o ∷ os) = is o t + count t os

count-owned : {E : Type 0} (t at : ℕ) (os : List ℕ) (es : List E) → length os ≡ length es → length (owned t at os es) ≡ count t os
unfolding count
count-owned t at [] es len = refl
count-owned t at (o ∷ os) [] len = absurd (omega arith)
count-owned t at (o ∷ os) (e ∷ es) len =
    let more = count-owned t (suc at) os es (omega arith) in
    dite (ℕ_discrete o t)
    (λ same. ap (λ l. length l) (owned-own t at o os e es same) ∙ omega (arith, more, is-same o t same))
    (λ apart. ap (λ l. length l) (owned-other t at o os e es apart) ∙ omega (arith, more, is-else o t apart))

-- the number of the first n accounts that have this tag, which is at most one
tagged : ℕ → ℕ → ℕ
tagged n o = sum_to (λ k. is o (reported_tag k)) n

all_tagged : ℕ → List ℕ → ℕ
all_tagged n [] = 0
all_tagged n (o ∷ os) = tagged n o + all_tagged n os

count-tagged : (n : ℕ) (os : List ℕ) → sum_to (λ k. count (reported_tag k) os) n ≡ all_tagged n os
unfolding count all_tagged tagged
count-tagged n [] = sum_to-zero (λ k. 0) (λ k. refl) n
count-tagged n (o ∷ os) = sum_to-add (λ k. is o (reported_tag k)) (λ k. count (reported_tag k) os) n ∙ ap (λ (m : ℕ). sum_to (λ k. is o (reported_tag k)) n + m) (count-tagged n os)

tag-apart : (k m : ℕ) → k < m → reported_tag m ≢ reported_tag k
tag-apart k m lt = λ e. absurd (omega arith)

tagged-none : (n m : ℕ) → n ≤ m → tagged n (reported_tag m) ≡ 0
unfolding tagged sum_to
tagged-none zero m le = refl
tagged-none (suc n) m le = omega (arith, tagged-none n m (omega arith), is-else (reported_tag m) (reported_tag n) (tag-apart n m (omega arith)))

tagged-one : (n o : ℕ) → tagged n o ≤ 1
unfolding tagged sum_to
tagged-one zero o = omega arith
tagged-one (suc n) o = dite (ℕ_discrete o (reported_tag n))
    (λ same. omega (arith, is-same o (reported_tag n) same, subst (λ (x : ℕ). tagged n x ≡ 0) (sym same) (tagged-none n n (omega arith))))
    (λ apart. omega (arith, is-else o (reported_tag n) apart, tagged-one n o))

tagged-there : (n o : ℕ) → tagged n o ≡ 1 → (k : ℕ) × (o ≡ reported_tag k)
unfolding tagged sum_to
tagged-there zero o one = absurd (omega arith)
tagged-there (suc n) o one = dite (ℕ_discrete o (reported_tag n)) (λ same. (n, same)) (λ apart. tagged-there n o (omega (arith, is-else o (reported_tag n) apart, one)))

all-at-most : (n : ℕ) (os : List ℕ) → all_tagged n os ≤ length os
unfolding all_tagged
all-at-most n [] = omega arith
all-at-most n (o ∷ os) = omega (arith, tagged-one n o, all-at-most n os)

tagged-some : (n k : ℕ) → k < n → 1 ≤ tagged n (reported_tag k)
unfolding tagged sum_to
tagged-some zero k lt = absurd (omega (arith, lt))
tagged-some (suc n) k lt = dite (dec_le n k)
    (λ (le : n ≤ k). let same : k ≡ n = omega (arith, lt, le) in omega (arith, is-same (reported_tag k) (reported_tag n) (ap reported_tag same)))
    (λ (no : n ≤ k → ⊥). omega (arith, tagged-some n k (lt_of_not-le no)))

even : (o : ℕ) → o ≢ reported_tag (o / 2) → o ≡ seat_tag (o / 2)
even o n = dite (dec_le (suc (o / 2 + o / 2)) o)
    (λ (le : suc (o / 2 + o / 2) ≤ o). absurd (n (omega (arith, le))))
    (λ (no : suc (o / 2 + o / 2) ≤ o → ⊥). let lt : o < suc (o / 2 + o / 2) = lt_of_not-le no in omega (arith, lt))

-- an owner that is neither a seat nor one of the accounts from the n-th on is one of the first n accounts
tagged-whole : (n o : ℕ) → ((id : ℕ) → is o (seat_tag id) ≡ 0) → ((k : ℕ) → n ≤ k → is o (reported_tag k) ≡ 0) → tagged n o ≡ 1
tagged-whole n o seats later =
    let k = o / 2 in
    dite (ℕ_discrete o (reported_tag k))
    (λ (reported : o ≡ reported_tag k). dite (dec_le n k)
    (λ (le : n ≤ k). absurd (omega (arith, later k le, is-same o (reported_tag k) reported)))
    (λ (no : n ≤ k → ⊥). let some = tagged-some n k (lt_of_not-le no) in let is_some : 1 ≤ tagged n o = subst (λ (x : ℕ). 1 ≤ tagged n x) (sym reported) some in omega (arith, is_some, tagged-one n o)))
    (λ (seat : o ≢ reported_tag k). absurd (omega (arith, seats k, is-same o (seat_tag k) (even o seat))))

all-whole : (n : ℕ) (os : List ℕ) → ((id : ℕ) → count (seat_tag id) os ≡ 0) → ((k : ℕ) → n ≤ k → count (reported_tag k) os ≡ 0) → all_tagged n os ≡ length os
unfolding all_tagged count
all-whole n [] seats later = refl
all-whole n (o ∷ os) seats later =
    let here = tagged-whole n o (λ id. omega (arith, seats id)) (λ k le. omega (arith, later k le)) in
    omega (arith, here, all-whole n os (λ id. omega (arith, seats id)) (λ k le. omega (arith, later k le)))

made_by-past : {D E : Type 0} (reported : List (Account D E)) (k : ℕ) → length reported ≤ k → made_by reported k ≡ []
made_by-past [] k le = refl
made_by-past (a ∷ reported) zero le = absurd (omega (arith, le))
made_by-past (a ∷ reported) (suc k) le = made_by-past reported k (omega (arith, le))

-- if no seat owns anything, the seats that have reported have made everything
pub made-whole : {D E : Type 0} (now : Log D E) (owners : List ℕ) (reported : List (Account D E)) → length owners ≡ length now.entries → AreReported now owners reported → NoSeatOwns now owners → total_made reported ≡ length now.entries
made-whole now owners reported long are none =
    let n = length reported in
    let each = sum_to-same (λ k. length (made_by reported k)) (λ k. count (reported_tag k) owners) (λ k. ap (λ l. length l) (sym (are.0 k)) ∙ count-owned (reported_tag k) 0 owners now.entries long) n in
    let seats : (id : ℕ) → count (seat_tag id) owners ≡ 0 = λ id. sym (count-owned (seat_tag id) 0 owners now.entries long) ∙ ap (λ l. length l) (none id) in
    let later : (k : ℕ) → n ≤ k → count (reported_tag k) owners ≡ 0 = λ k le. sym (count-owned (reported_tag k) 0 owners now.entries long) ∙ ap (λ l. length l) (are.0 k ∙ made_by-past reported k le) in
    total-sum reported ∙ (each ∙ (count-tagged n owners ∙ (all-whole n owners seats later ∙ long)))

-- the number of an owner, from its tag
abbrev number_of : ℕ → ℕ
number_of o = o / 2

numbered : (o j k : ℕ) → o ≡ reported_tag j → (number_of o == k) ≡ (o == reported_tag k)
numbered o j k tag = grind (arith, nat_tests)

owned-numbered : {E : Type 0} (n k at : ℕ) (os : List ℕ) (es : List E) → all_tagged n os ≡ length os → owned k at (map number_of os) es ≡ owned (reported_tag k) at os es
unfolding all_tagged
owned-numbered n k at (o ∷ os) (e ∷ es) all =
    let one : tagged n o ≡ 1 = omega (arith, tagged-one n o, all-at-most n os, all) in
    let more = owned-numbered n k (suc at) os es (omega (arith, tagged-one n o, all-at-most n os, all)) in
    let j = tagged-there n o one in
    λ i. cond (numbered o j.0 k j.1 i) ((at, e) ∷ more i) (more i)
owned-numbered n k at _ _ all = refl

pub merges : {D E : Type 0} (now : Log D E) (owners : List ℕ) (reported : List (Account D E)) → length owners ≡ length now.entries → AreReported now owners reported → total_made reported ≡ length now.entries → IsMergeOf now.entries reported
merges now owners reported long are all =
    let n = length reported in
    let each = sum_to-same (λ k. length (made_by reported k)) (λ k. count (reported_tag k) owners) (λ k. ap (λ l. length l) (sym (are.0 k)) ∙ count-owned (reported_tag k) 0 owners now.entries long) n in
    let whole : all_tagged n owners ≡ length owners = sym (count-tagged n owners) ∙ (sym each ∙ (sym (total-sum reported) ∙ (all ∙ sym long))) in record {
      owners = map number_of owners;
      long = length-map owners number_of ∙ long;
      parts = λ k. owned-numbered n k 0 owners now.entries whole ∙ are.0 k;
    }
