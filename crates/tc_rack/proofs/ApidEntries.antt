-- Tables of the APIDs of channels' queues. An entry is set if and only if a queue has the APID, and each channel of a
-- configuration has a table.
use Rattle.tc_rack.proofs.Names.{◌≡◌, ℕ, zero, suc, ◌<◌, ◌≤◌, Bool, true, false, true≢false, ◌||◌, eqb, List, [], ◌∷◌, ◌++◌, length, get_or, set, replicate, refl, sym, ◌∙◌, ap, subst, arith, eqb-true, eq-eqb, length-replicate, length-set, Any-from_list_any, list_any-from_Any, AllZip, list_any, Any, QueueSetting, Settings, AreApidsOf, AreApidsOfEach}

all-alike : (n k : ℕ) → get_or (replicate n false) k false ≡ false
all-alike zero zero = refl
all-alike zero (suc k) = refl
all-alike (suc n) zero = refl
all-alike (suc n) (suc k) = all-alike n k

pub no-queue : (apids : List Bool) → apids ≡ replicate 2047 false → AreApidsOf [] apids
no-queue apids is = record {
  size = ap (length {A = Bool}) is ∙ length-replicate {A = Bool} 2047 false;
  reported = λ apid small. ap (λ (t : List Bool). get_or t apid false) is ∙ all-alike 2047 apid;
}

-- if an entry is set, a queue has its APID
pub there : (queues : List QueueSetting) (apids : List Bool) (apid : ℕ) → apid ≤ 2046 → AreApidsOf queues apids → get_or apids apid false ≡ true → Any (λ (q : QueueSetting). q.apid ≡ apid) queues
there queues apids apid small a is =
    let (i, d, lt, e, same) = Any-from_list_any (λ (q : QueueSetting). eqb q.apid apid) queues (sym (a.reported apid small) ∙ is) in
    (i, d, lt, e, eqb-true d.apid apid same)

pub not-there : (queues : List QueueSetting) (apids : List Bool) (apid : ℕ) → apid ≤ 2046 → AreApidsOf queues apids → get_or apids apid false ≡ false → ¬ Any (λ (q : QueueSetting). q.apid ≡ apid) queues
not-there queues apids apid small a is (i, d, lt, e, same) =
    true≢false (sym (list_any-from_Any (λ (q : QueueSetting). eqb q.apid apid) queues (i, d, lt, e, eq-eqb d.apid apid same)) ∙ (sym (a.reported apid small) ∙ is))

-- ---- two lists whose items are related in pairs: a pair is appended or replaced, or read at its place

module _ {X Y : Type 0} (R : X → Y → Type 0) where
  pub push-pair : (xs : List X) (ys : List Y) (x : X) (y : Y) → AllZip R xs ys → R x y → AllZip R (xs ++ x ∷ []) (ys ++ y ∷ [])
  push-pair [] [] x y all one = (one, all)
  push-pair [] (b ∷ ys) x y all one = absurd all
  push-pair (a ∷ xs) [] x y all one = absurd all
  push-pair (a ∷ xs) (b ∷ ys) x y all one = (all.0, push-pair xs ys x y all.1 one)

  pub set-pair : (xs : List X) (ys : List Y) (i : ℕ) (x : X) (y : Y) → AllZip R xs ys → R x y → AllZip R (set xs i x) (set ys i y)
  set-pair [] [] i x y all one = all
  set-pair [] (b ∷ ys) i x y all one = absurd all
  set-pair (a ∷ xs) [] i x y all one = absurd all
  set-pair (a ∷ xs) (b ∷ ys) zero x y all one = (one, all.1)
  set-pair (a ∷ xs) (b ∷ ys) (suc i) x y all one = (all.0, set-pair xs ys i x y all.1 one)

  pub pair-at : (xs : List X) (ys : List Y) (i : ℕ) (d : X) (e : Y) → AllZip R xs ys → i < length xs → R (get_or xs i d) (get_or ys i e)
  pair-at [] ys i d e all lt = absurd (omega (arith, lt))
  pair-at (a ∷ xs) [] i d e all lt = absurd all
  pair-at (a ∷ xs) (b ∷ ys) zero d e all lt = all.0
  pair-at (a ∷ xs) (b ∷ ys) (suc i) d e all lt = pair-at xs ys i d e all.1 (omega (arith, lt))

  pub as-many : (xs : List X) (ys : List Y) → AllZip R xs ys → length xs ≡ length ys
  as-many [] [] all = refl
  as-many [] (b ∷ ys) all = absurd all
  as-many (a ∷ xs) [] all = absurd all
  as-many (a ∷ xs) (b ∷ ys) all = ap suc (as-many xs ys all.1)

-- ---- the tables of the APIDs of each channel of a configuration

module _ (list : List Settings) (tables : List (List Bool)) (each : AreApidsOfEach list tables) where
  abbrev of-one : Settings → List Bool → Type 0
  of-one s apids = AreApidsOf s.queues apids

  pub tables-as-channels : length list ≡ length tables
  tables-as-channels = as-many of-one list tables each

  pub table-at : (place : ℕ) (s : Settings) (apids : List Bool) → place < length list → s ≡ get_or list place s → apids ≡ get_or tables place apids → AreApidsOf s.queues apids
  table-at place s apids lt is reported =
      subst (λ (x : Settings). AreApidsOf x.queues apids) (sym is) (subst (AreApidsOf (get_or list place s).queues) (sym reported) (pair-at of-one list tables place s apids each lt))

  pub one-more-table : (s : Settings) (apids : List Bool) → AreApidsOf s.queues apids → AreApidsOfEach (list ++ s ∷ []) (tables ++ apids ∷ [])
  one-more-table s apids = push-pair of-one list tables s apids each

  pub other-table : (place : ℕ) (s : Settings) (apids : List Bool) → AreApidsOf s.queues apids → AreApidsOfEach (set list place s) (set tables place apids)
  other-table place s apids = set-pair of-one list tables place s apids each
