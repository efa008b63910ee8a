-- Lists of jobs, and the counts of their operators.
use Rattle.tc_station.proofs.Names.{◌≡◌, ℕ, zero, suc, ◌+◌, ◌<◌, List, [], ◌∷◌, ◌++◌, length, map, take, get_or, set, min, cond, Option, Some, None, refl, sym, ap, ◌∙◌, subst, inl, inr, arith, ◌==◌, All, position, slice_index, Contains, eqb-true, take_more, length-map, All-map, All-weaker, position-Some, Roster, IsPlace, Tally, AtStation, IsOurs, HasGoneOnAtEach, KnowsTheSame, tally, tallied, raised, IsListMade, IsTried, IsDone, AreDone, IsWorked, Shift, IsShift, IsTallyOf, AreWorked, lowest, brings_to, is_other, IsRaised, NoCountFalls, Job, count_by, AllByRecursion, eqb_tells, map-append, All-from_recursion, sum_by-cons}
use Rattle.tc_station.specs.Lowest.{lower}
use Rattle.tc_station.specs.declared.work.Order.{Order}
use Rattle.tc_station.specs.declared.work.Order.TheVariants.{Bring}
use Rattle.tc_station.specs.declared.work.WorkList.{WorkList}
use Rattle.tc_station.proofs.Counts.{Between, between-both, between-none, between-one, between-other, raised-length, raised-here, raised-else, rises, for-located, for-nobody}

-- if these jobs are done, and then one more job, the longer list of jobs is done
snoc : (station : Roster) (vcid : ℕ) (jobs : List Job) (job : Job) (a b c : Tally) → AreDone station vcid jobs a b → IsDone station vcid job.order b c → AreDone station vcid (jobs ++ job ∷ []) a c
snoc station vcid [] job a b c done here = (c, subst (λ t. IsDone station vcid job.order t c) done here, refl)
snoc station vcid (j ∷ js) job a b c done here = (done.0, done.1, snoc station vcid js job done.0 b c done.2 here)

pub one-more : (station : Roster) (vcid : ℕ) (jobs : List Job) (i : ℕ) (job : Job) (a b c : Tally) → i < length jobs → job ≡ get_or jobs i job → AreDone station vcid (take i jobs) a b → IsDone station vcid job.order b c
    → AreDone station vcid (take (i + 1) jobs) a c
one-more station vcid jobs i job a b c lt is done here =
    let more : take (i + 1) jobs ≡ take i jobs ++ job ∷ [] = take_more jobs i job lt ∙ ap (λ x. take i jobs ++ x ∷ []) (sym is) in
    subst (λ js. AreDone station vcid js a c) (sym more) (snoc station vcid (take i jobs) job a b c done here)

-- ---- the results of two parts of the lists, taken together

lower-three : (a b c : Option ℕ) → lower a (lower b c) ≡ lower (lower a b) c
lower-three (Some x) (Some y) (Some z) = let same : min x (min y z) ≡ min (min x y) z = omega arith in ap Some same
lower-three _ _ _ = refl

lowest-append : (xs ys : List Shift) → lowest (xs ++ ys) ≡ lower (lowest xs) (lowest ys)
lowest-append [] ys = refl
lowest-append (x ∷ xs) ys = ap (lower x.refused) (lowest-append xs ys) ∙ lower-three x.refused (lowest xs) (lowest ys)

shifts-append : (station : Roster) (xs ys : List Shift) → AllByRecursion (IsShift station) xs → AllByRecursion (IsShift station) ys → AllByRecursion (IsShift station) (xs ++ ys)
shifts-append station [] ys p q = q
shifts-append station (x ∷ xs) ys p q = (p.0, shifts-append station xs ys p.1 q)

pub all-worked : (station : Roster) (fl bl : List WorkList) (fa ba : List AtStation) (fz bz : List AtStation) (a b : Option ℕ) → AreWorked station fl a fa fz → AreWorked station bl b ba bz
    → AreWorked station (fl ++ bl) (lower a b) (fa ++ ba) (fz ++ bz)
all-worked station fl bl fa ba fz bz a b p q = (
  p.0 ++ q.0,
  map-append (λ (s : Shift). s.list) p.0 q.0 ∙ (λ i. p.1 i ++ q.1 i),
  map-append (λ (s : Shift). s.before) p.0 q.0 ∙ (λ i. p.2 i ++ q.2 i),
  map-append (λ (s : Shift). s.after) p.0 q.0 ∙ (λ i. p.3 i ++ q.3 i),
  shifts-append station p.0 q.0 p.4 q.4,
  lowest-append p.0 q.0 ∙ (λ i. lower (p.5 i) (q.5 i)),
)

lower-none : (a : Option ℕ) → lower a None ≡ a
lower-none None = refl
lower-none (Some x) = refl

-- if the only operator works on the only list, all lists are worked on
pub one-worked : (station : Roster) (lists : List WorkList) (ops : List AtStation) (l : WorkList) (o z : AtStation) (line : Option ℕ) → length lists ≡ 1 → length ops ≡ 1 → l ≡ get_or lists 0 l → o ≡ get_or ops 0 o
    → IsTallyOf station (tally o) → IsOurs station z → KnowsTheSame o z → HasGoneOnAtEach o z → IsWorked station l line (tally o) (tally z) → IsListMade station l line o z → AreWorked station lists line ops (set ops 0 z)
one-worked station (x ∷ []) (y ∷ []) l o z line e f p q fits ours knows later worked made =
    (record { list = l; refused = line; before = o; after = z } ∷ [], ap (λ w. w ∷ []) p, ap (λ w. w ∷ []) q, refl, (record { ours = fits; kept = ours; knows = knows; later = later; worked = worked; made = made }, tt), lower-none line)
one-worked station _ _ l o z line e f p q fits ours knows later worked made = absurd (omega arith)

pub moved-worked : (station : Roster) (fl gl : List WorkList) (a b : Option ℕ) (fo go : List AtStation) (z : List AtStation) → AreWorked station fl a fo z → fl ≡ gl → a ≡ b → fo ≡ go → AreWorked station gl b go z
moved-worked station fl gl a b fo go z w p q r = (w.0, w.1 ∙ p, w.2 ∙ r, w.3, w.4, w.5 ∙ q)

-- ---- the effect of one job on the count of a channel

tally-counted : (station : Roster) (u : ℕ) (a : Tally) → IsTallyOf station a → IsTallyOf station (tallied u a)
tally-counted station u a f = record { vcids = f.vcids; counts = raised-length (position (λ w. w == u) a.vcids) a.counts ∙ f.counts }

tried-kept : (station : Roster) (vcid : ℕ) (a b : Tally) → IsTried vcid a b → IsTallyOf station a → IsTallyOf station b
tried-kept station vcid a b (inl d) f = subst (IsTallyOf station) (sym d) (tally-counted station vcid a f)
tried-kept station vcid a b (inr d) f = subst (IsTallyOf station) (sym d) f

tally-kept : (station : Roster) (vcid : ℕ) (order : Order) (a b : Tally) → IsDone station vcid order a b → IsTallyOf station a → IsTallyOf station b
tally-kept station vcid (Bring octets) a b (inl d) f = subst (IsTallyOf station) (sym d.3) (tally-counted station d.0 a f)
tally-kept station vcid (Bring octets) a b (inr d) f = subst (IsTallyOf station) (sym d.2) f
tally-kept station vcid _ a b d f = tried-kept station vcid a b d f

counted-here : (station : Roster) (u v place : ℕ) (a : Tally) → IsTallyOf station a → IsPlace station v place → u ≡ v → slice_index (tallied u a).counts place ≡ raised (slice_index a.counts place)
counted-here station u v place a f at same =
    let there : position (λ w. w == u) a.vcids ≡ Some place = (λ i. position (λ w. w == same i) (f.vcids i)) ∙ at in
    let inside = (position-Some (λ w. w == v) station.vcids place 0 at).0 in
    raised-here (position (λ w. w == u) a.vcids) a.counts place there (omega (arith, f.counts, ap (length {A = ℕ}) f.vcids))

counted-else : (station : Roster) (u v place : ℕ) (a : Tally) → IsTallyOf station a → IsPlace station v place → (u ≡ v → ⊥) → slice_index (tallied u a).counts place ≡ slice_index a.counts place
counted-else station u v place a f at other =
    raised-else (position (λ w. w == u) a.vcids) a.counts place (λ e.
    let mine = (position-Some (λ w. w == u) station.vcids place 0 (ap (λ vs. position (λ w. w == u) vs) (sym f.vcids) ∙ e)).1 in
    let theirs = (position-Some (λ w. w == v) station.vcids place 0 at).1 in
    other (sym (eqb-true (slice_index station.vcids place) u mine) ∙ eqb-true (slice_index station.vcids place) v theirs))

bring-step : (station : Roster) (u v place : ℕ) (a : Tally) → IsTallyOf station a → IsPlace station v place → Between (cond (u == v) 1 0) 0 (slice_index a.counts place) (slice_index (tallied u a).counts place)
bring-step station u v place a f at = elim (eqb_tells u v) [
  | inl h ↦ rw (h.0, counted-here station u v place a f at h.1) (between-one (slice_index a.counts place))
  | inr h ↦ rw (h.0, counted-else station u v place a f at h.1) (between-none 0 (slice_index a.counts place))
]

other-step : (station : Roster) (u v place : ℕ) (a : Tally) → IsTallyOf station a → IsPlace station v place → Between 0 (cond (u == v) 1 0) (slice_index a.counts place) (slice_index (tallied u a).counts place)
other-step station u v place a f at = elim (eqb_tells u v) [
  | inl h ↦ rw (h.0, counted-here station u v place a f at h.1) (between-other (slice_index a.counts place))
  | inr h ↦ rw (h.0, counted-else station u v place a f at h.1) (between-none 0 (slice_index a.counts place))
]

is-there : (station : Roster) (v place : ℕ) → IsPlace station v place → Contains station.vcids v
is-there station v place at = let s = position-Some (λ w. w == v) station.vcids place v at in (place, s.0, eqb-true (get_or station.vcids place v) v s.1)

-- a job in a list for the channel `own` may raise the count of the channel `v` from `c` to `d`
abbrev JobRaises : Roster → ℕ → ℕ → Order → ℕ → ℕ → Type 0
JobRaises station own v order c d = Between (cond (brings_to station v order) 1 0) (cond (is_other own v order) 1 0) c d

-- an operation on a channel may raise only the count of this channel, and by no more than one
tried-step : (station : Roster) (own : ℕ) (a b : Tally) → IsTried own a b → IsTallyOf station a → (v place : ℕ) → IsPlace station v place
    → Between 0 (cond (own == v) 1 0) (slice_index a.counts place) (slice_index b.counts place)
tried-step station own a b (inl d) f v place at = rw d (other-step station own v place a f at)
tried-step station own a b (inr d) f v place at = rw d (between-none (cond (own == v) 1 0) (slice_index a.counts place))

step : (station : Roster) (own : ℕ) (order : Order) (a b : Tally) → IsDone station own order a b → IsTallyOf station a → (v place : ℕ) → IsPlace station v place
    → JobRaises station own v order (slice_index a.counts place) (slice_index b.counts place)
step station own (Bring octets) a b (inl d) f v place at = rw (d.3, for-located station octets d.1 d.0 v d.2) (bring-step station d.0 v place a f at)
step station own (Bring octets) a b (inr d) f v place at = rw (d.2, for-nobody station octets d.0 v (is-there station v place at) d.1) (between-none 0 (slice_index a.counts place))
step station own _ a b d f v place at = tried-step station own a b d f v place at

steps : (station : Roster) (own : ℕ) (jobs : List Job) (a b : Tally) → AreDone station own jobs a b → IsTallyOf station a → (v place : ℕ) → IsPlace station v place
    → Between (count_by (λ (j : Job). brings_to station v j.order) jobs) (count_by (λ (j : Job). is_other own v j.order) jobs) (slice_index a.counts place) (slice_index b.counts place)
steps station own [] a b done f v place at = rw done (between-none 0 (slice_index a.counts place))
steps station own (j ∷ js) a b done f v place at =
    let first = step station own j.order a done.0 done.1 f v place at in
    let rest = steps station own js done.0 b done.2 (tally-kept station own j.order a done.0 done.1 f) v place at in
    rw (sum_by-cons (λ (i : Job). cond (brings_to station v i.order) 1 0) j js, sum_by-cons (λ (i : Job). cond (is_other own v i.order) 1 0) j js) (between-both _ _ _ _ _ _ _ first rest)

-- an operation on a channel lowers no count, and neither does a job
tried-rises : (own : ℕ) (a b : Tally) → IsTried own a b → NoCountFalls a b
tried-rises own a b (inl d) place = rw d (rises (position (λ w. w == own) a.vcids) a.counts place)
tried-rises own a b (inr d) place = rw d (omega arith)

one-rises : (station : Roster) (own : ℕ) (order : Order) (a b : Tally) → IsDone station own order a b → NoCountFalls a b
one-rises station own (Bring octets) a b (inl d) place = rw d.3 (rises (position (λ w. w == d.0) a.vcids) a.counts place)
one-rises station own (Bring octets) a b (inr d) place = rw d.2 (omega arith)
one-rises station own _ a b d place = tried-rises own a b d place

jobs-rise : (station : Roster) (own : ℕ) (jobs : List Job) (a b : Tally) → AreDone station own jobs a b → NoCountFalls a b
jobs-rise station own [] a b done place = rw done (omega arith)
jobs-rise station own (j ∷ js) a b done place =
    let first = one-rises station own j.order a done.0 done.1 place in
    let rest = jobs-rise station own js done.0 b done.2 place in
    omega (arith, first, rest)

-- the jobs of one list lower no count
list-rises : (station : Roster) (list : WorkList) (line : Option ℕ) (a b : Tally) → IsWorked station list line a b → NoCountFalls a b
list-rises station list None a b w = jobs-rise station list.vcid list.jobs a b w
list-rises station list (Some line) a b w = jobs-rise station list.vcid (take w.0 list.jobs) a b w.5

list-raises : (station : Roster) (list : WorkList) (line : Option ℕ) (a b : Tally) → line ≡ None → IsTallyOf station a → IsWorked station list line a b → IsRaised station list a b
list-raises station list None a b none f w = λ v place at. let r = steps station list.vcid list.jobs a b w f v place at in (r.low, r.high)
list-raises station list (Some line) a b none f w = absurd cc

-- ---- the operators and their counts after all lists

none-first : (a b : Option ℕ) → lower a b ≡ None → (a ≡ None) × (b ≡ None)
none-first None b e = (refl, e)
none-first (Some x) None e = absurd cc
none-first (Some x) (Some y) e = absurd cc

shifts-keep : (station : Roster) (shifts : List Shift) → AllByRecursion (IsShift station) shifts → map (λ (t : AtStation). t.vcids) (map (λ (s : Shift). s.after) shifts) ≡ map (λ (t : AtStation). t.vcids) (map (λ (s : Shift). s.before) shifts)
shifts-keep station [] all = refl
shifts-keep station (s ∷ ss) all =
    let here = all.0.kept.0 ∙ sym all.0.ours.vcids in
    let rest = shifts-keep station ss all.1 in
    cc

shifts-rise : (station : Roster) (shifts : List Shift) → AllByRecursion (IsShift station) shifts → (k : ℕ) (o : AtStation) → k < length shifts
    → NoCountFalls (tally (get_or (map (λ (s : Shift). s.before) shifts) k o)) (tally (get_or (map (λ (s : Shift). s.after) shifts) k o))
shifts-rise station [] all k o lt = absurd (omega arith)
shifts-rise station (s ∷ ss) all zero o lt = list-rises station s.list s.refused (tally s.before) (tally s.after) all.0.worked
shifts-rise station (s ∷ ss) all (suc k) o lt = shifts-rise station ss all.1 k o (omega arith)

shifts-raise : (station : Roster) (shifts : List Shift) → AllByRecursion (IsShift station) shifts → lowest shifts ≡ None → (k : ℕ) (l : WorkList) (o : AtStation) → k < length shifts
    → IsRaised station (get_or (map (λ (s : Shift). s.list) shifts) k l) (tally (get_or (map (λ (s : Shift). s.before) shifts) k o)) (tally (get_or (map (λ (s : Shift). s.after) shifts) k o))
shifts-raise station [] all none k l o lt = absurd (omega arith)
shifts-raise station (s ∷ ss) all none zero l o lt = list-raises station s.list s.refused (tally s.before) (tally s.after) (none-first s.refused (lowest ss) none).0 all.0.ours all.0.worked
shifts-raise station (s ∷ ss) all none (suc k) l o lt = shifts-raise station ss all.1 (none-first s.refused (lowest ss) none).1 k l o (omega arith)

pub work-keeps : (station : Roster) (lists : List WorkList) (line : Option ℕ) (os ps : List AtStation) → AreWorked station lists line os ps → map (λ (t : AtStation). t.vcids) ps ≡ map (λ (t : AtStation). t.vcids) os
work-keeps station lists line os ps w = ap (map (λ (t : AtStation). t.vcids)) (sym w.3) ∙ (shifts-keep station w.0 w.4 ∙ ap (map (λ (t : AtStation). t.vcids)) w.2)

pub work-rises : (station : Roster) (lists : List WorkList) (line : Option ℕ) (os ps : List AtStation) → AreWorked station lists line os ps → (k : ℕ) (o : AtStation) → k < length lists → NoCountFalls (tally (get_or os k o)) (tally (get_or ps k o))
work-rises station lists line os ps w k o lt =
    let inside : k < length w.0 = omega (arith, ap (length {A = WorkList}) w.1, length-map w.0 (λ (s : Shift). s.list)) in
    rw (← w.2, ← w.3) (shifts-rise station w.0 w.4 k o inside)

pub work-raises : (station : Roster) (lists : List WorkList) (line : Option ℕ) (os ps : List AtStation) → line ≡ None → AreWorked station lists line os ps → (k : ℕ) (l : WorkList) (o : AtStation) → k < length lists
    → IsRaised station (get_or lists k l) (tally (get_or os k o)) (tally (get_or ps k o))
work-raises station lists line os ps none w k l o lt =
    let inside : k < length w.0 = omega (arith, ap (length {A = WorkList}) w.1, length-map w.0 (λ (s : Shift). s.list)) in
    rw (← w.1, ← w.2, ← w.3) (shifts-raise station w.0 w.4 (w.5 ∙ none) k l o inside)

-- after the work, all operators still belong to the station
pub work-ours : (station : Roster) (lists : List WorkList) (line : Option ℕ) (os ps : List AtStation) → AreWorked station lists line os ps → All (IsOurs station) ps
work-ours station lists line os ps w =
    let each = All-weaker (IsShift station) (λ (s : Shift). IsOurs station s.after) (λ s x. x.kept) w.0 (All-from_recursion (IsShift station) w.0 w.4) in
    subst (All (IsOurs station)) w.3 (All-map (IsOurs station) (λ (s : Shift). s.after) w.0 each)

-- if each shift relates its operator before and after by `P`, then `P` relates the operators at each place
shifts-hold : (station : Roster) (P : AtStation → AtStation → Type 0) (shifts : List Shift) → ((s : Shift) → IsShift station s → P s.before s.after) → AllByRecursion (IsShift station) shifts → (k : ℕ) (o : AtStation) → k < length shifts
    → P (get_or (map (λ (s : Shift). s.before) shifts) k o) (get_or (map (λ (s : Shift). s.after) shifts) k o)
shifts-hold station P [] each all k o lt = absurd (omega arith)
shifts-hold station P (s ∷ ss) each all zero o lt = each s all.0
shifts-hold station P (s ∷ ss) each all (suc k) o lt = shifts-hold station P ss each all.1 k o (omega arith)

work-holds : (station : Roster) (P : AtStation → AtStation → Type 0) (lists : List WorkList) (line : Option ℕ) (os ps : List AtStation) → ((s : Shift) → IsShift station s → P s.before s.after) → AreWorked station lists line os ps
    → (k : ℕ) (o : AtStation) → k < length lists → P (get_or os k o) (get_or ps k o)
work-holds station P lists line os ps each w k o lt =
    let inside : k < length w.0 = omega (arith, ap (length {A = WorkList}) w.1, length-map w.0 (λ (s : Shift). s.list)) in
    rw (← w.2, ← w.3) (shifts-hold station P w.0 each w.4 k o inside)

-- the settings and boards that each operator has seen are as before, and the operator has gone on at each of its desks
pub work-knows : (station : Roster) (lists : List WorkList) (line : Option ℕ) (os ps : List AtStation) → AreWorked station lists line os ps → (k : ℕ) (o : AtStation) → k < length lists
    → KnowsTheSame (get_or os k o) (get_or ps k o)
work-knows station lists line os ps = work-holds station KnowsTheSame lists line os ps (λ s x. x.knows)

pub work-goes-on : (station : Roster) (lists : List WorkList) (line : Option ℕ) (os ps : List AtStation) → AreWorked station lists line os ps → (k : ℕ) (o : AtStation) → k < length lists
    → HasGoneOnAtEach (get_or os k o) (get_or ps k o)
work-goes-on station lists line os ps = work-holds station HasGoneOnAtEach lists line os ps (λ s x. x.later)

pub work-length : (station : Roster) (lists : List WorkList) (line : Option ℕ) (os ps : List AtStation) → AreWorked station lists line os ps → length ps ≡ length os
work-length station lists line os ps w =
    omega (arith, ap (length {A = AtStation}) w.2, ap (length {A = AtStation}) w.3, length-map w.0 (λ (s : Shift). s.before), length-map w.0 (λ (s : Shift). s.after))
