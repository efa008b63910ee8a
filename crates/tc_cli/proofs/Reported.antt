-- If no two channels have the same id, only one order of the channels has rising ids.
use Rattle.std.proofs.Common.{◌≡◌, ◌<◌, ◌≤◌, ℕ, zero, suc, ◌+◌, cond, Bool, List, [], ◌∷◌, Some, map, length, drop, get_or, slice_get, inl, inr, refl, sym, ap, ◌∙◌, subst, arith, eq-eqb, ◌==◌, Contains, IsPermutation}
use Rattle.tc_cli.proofs.Names.{AreNonDecreasing, History, eqb_tells, get_or_from_slice_get, same_Some, slice_get_within}
use Rattle.std.specs.List.{sum_by}
use Rattle.std.proofs.lemmas.List.Sorted.{IsPermutation-sym, Contains-permutation, sum_by-IsPermutation}
use Rattle.std.proofs.lemmas.List.Sums.{sum_by-cons}
use Rattle.tc_rack.specs.Report.{vcid_of}

-- 1 for a channel with this id, and 0 for any other
abbrev one_of : ℕ → History → ℕ
one_of vcid c = cond (vcid_of c == vcid) 1 0

-- the number of these channels that have this id
abbrev count : ℕ → List History → ℕ
count vcid channels = sum_by (one_of vcid) channels

count-own : (c : History) (cs : List History) → count (vcid_of c) (c ∷ cs) ≡ 1 + count (vcid_of c) cs
count-own c cs = sum_by-cons (one_of (vcid_of c)) c cs ∙ ap (λ (b : Bool). cond b 1 0 + count (vcid_of c) cs) (eq-eqb (vcid_of c) (vcid_of c) refl)

-- if at least one channel has this id, a channel with this id is at some place
placed : (vcid : ℕ) (cs : List History) → 0 < count vcid cs → (place : ℕ) × (c : History) × (slice_get cs place ≡ Some c) × (vcid_of c ≡ vcid)
placed vcid [] some = absurd (omega (arith, some))
placed vcid (c ∷ cs) some = elim (eqb_tells (vcid_of c) vcid) [
  | inl h ↦ (0, c, refl, h.1)
  | inr h ↦
      let more : count vcid (c ∷ cs) ≡ 0 + count vcid cs = sum_by-cons (one_of vcid) c cs ∙ ap (λ (b : Bool). cond b 1 0 + count vcid cs) h.0 in
      let rest : 0 < count vcid cs = omega (arith, some, more) in
      let one = placed vcid cs rest in
      (suc one.0, one.1, one.2, one.3)
]

-- in a list in rising order, the first channel has the least id
least : (c : History) (cs : List History) (place : ℕ) (d : History) → AreNonDecreasing (c ∷ cs) → slice_get (c ∷ cs) place ≡ Some d → vcid_of c ≤ vcid_of d
least c cs zero d rising at = omega (arith, ap (λ (x : History). vcid_of x) (same_Some c d at))
least c cs (suc place) d rising at =
    let inside = slice_get_within cs place d at in
    let le : vcid_of c ≤ vcid_of (get_or cs place d) = rising 0 (suc place) d (omega arith) (omega (arith, inside)) in
    subst (λ (x : History). vcid_of c ≤ vcid_of x) (get_or_from_slice_get cs place d d at) le

rising-rest : (c : History) (cs : List History) → AreNonDecreasing (c ∷ cs) → AreNonDecreasing cs
rising-rest c cs rising = λ i j d lt inside. rising (suc i) (suc j) d (omega (arith, lt)) (omega (arith, inside))

below : (c : History) (cs : List History) (d : History) (ds : List History) → AreNonDecreasing (c ∷ cs) → ((vcid : ℕ) → count vcid (c ∷ cs) ≡ count vcid (d ∷ ds)) → vcid_of c ≤ vcid_of d
below c cs d ds rising same =
    let own = count-own d ds in
    let some : 0 < count (vcid_of d) (c ∷ cs) = omega (arith, same (vcid_of d), own) in
    let one = placed (vcid_of d) (c ∷ cs) some in
    let le = least c cs one.0 one.1 rising one.2 in
    omega (arith, le, one.3)

rest-counts : (c : History) (cs : List History) (d : History) (ds : List History) → vcid_of c ≡ vcid_of d → ((vcid : ℕ) → count vcid (c ∷ cs) ≡ count vcid (d ∷ ds)) → (vcid : ℕ) → count vcid cs ≡ count vcid ds
rest-counts c cs d ds head same vcid =
    let one = sum_by-cons (one_of vcid) c cs in
    let two = sum_by-cons (one_of vcid) d ds in
    let first : one_of vcid c ≡ one_of vcid d = ap (λ (v : ℕ). cond (v == vcid) 1 0) head in
    omega (arith, one, two, first, same vcid)

-- two lists in rising order have the same ids, if each id occurs as often in one as in the other
same-ids : (cs ds : List History) → AreNonDecreasing cs → AreNonDecreasing ds → ((vcid : ℕ) → count vcid cs ≡ count vcid ds) → map vcid_of cs ≡ map vcid_of ds
same-ids [] [] rising rises same = refl
same-ids [] (d ∷ ds) rising rises same = let own = count-own d ds in absurd (omega (arith, own, same (vcid_of d)))
same-ids (c ∷ cs) [] rising rises same = let own = count-own c cs in absurd (omega (arith, own, same (vcid_of c)))
same-ids (c ∷ cs) (d ∷ ds) rising rises same =
    let head : vcid_of c ≡ vcid_of d = omega (arith, below c cs d ds rising same, below d ds c cs rises (λ v. sym (same v))) in
    let rest = same-ids cs ds (rising-rest c cs rising) (rising-rest d ds rises) (rest-counts c cs d ds head same) in
    λ i. head i ∷ rest i

-- two lists of channels with the same ids in the same order are equal, if any two of their channels with the same id are
-- equal
same-channels : (cs ds : List History) → ((c d : History) (i j : ℕ) → slice_get cs i ≡ Some c → slice_get ds j ≡ Some d → vcid_of c ≡ vcid_of d → c ≡ d) → map vcid_of cs ≡ map vcid_of ds → cs ≡ ds
same-channels [] [] keyed is = refl
same-channels [] (d ∷ ds) keyed is = let l = ap (length {A = ℕ}) is in absurd (omega (arith, l))
same-channels (c ∷ cs) [] keyed is = let l = ap (length {A = ℕ}) is in absurd (omega (arith, l))
same-channels (c ∷ cs) (d ∷ ds) keyed is =
    let head : vcid_of c ≡ vcid_of d = ap (λ (l : List ℕ). get_or l 0 0) is in
    let first : c ≡ d = keyed c d 0 0 refl refl head in
    let rest = same-channels cs ds (λ x y i j at here. keyed x y (suc i) (suc j) at here) (ap (λ (l : List ℕ). drop 1 l) is) in
    λ i. first i ∷ rest i

-- if no two channels have the same id, they have only one order in which the ids rise
pub one-order : (all cs ds : List History) → ((c d : History) → Contains all c → Contains all d → vcid_of c ≡ vcid_of d → c ≡ d) → IsPermutation all cs → IsPermutation all ds → AreNonDecreasing cs → AreNonDecreasing ds → cs ≡ ds
one-order all cs ds keyed one other rising rises =
    let counts : (vcid : ℕ) → count vcid cs ≡ count vcid ds = λ vcid.
    sum_by-IsPermutation (one_of vcid) all cs one ∙ sym (sum_by-IsPermutation (one_of vcid) all ds other) in
    let among : (l : List History) → IsPermutation all l → (c : History) (i : ℕ) → slice_get l i ≡ Some c → Contains all c = λ l p c i at.
    Contains-permutation l all c (IsPermutation-sym all l p) (i, slice_get_within l i c at, get_or_from_slice_get l i c c at) in
    same-channels cs ds (λ c d i j at here is. keyed c d (among cs one c i at) (among ds other d j here) is) (same-ids cs ds rising rises counts)
