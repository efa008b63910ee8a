-- Each job has the number of its line in the script. If memory runs out for a job, its line was reached.
use Rattle.std.proofs.Common.{◌≡◌, ◌≤◌, ℕ, suc, ◌+◌, List, [], ◌∷◌, ◌⊎◌, Option, None, Some, map, length, inl, inr, refl, sym, ap, ◌∙◌, subst, arith, Any, slice_get, slice_set}
use Rattle.tc_cli.proofs.Names.{Add, AreParted, ArePartedFor, AtStation, Channel, Clcw, Does, Frame, GivesToFound, Instruction, IsFrameGiven, IsGiven, IsJobLine, IsParted, IsScriptFault, Job, Nothing, Operating, Parted, Plan, Release, Roster, ScriptFault, SettingUp, Settings, Take, TakeUnit, WorkList, empty_list, eqb_tells, instruction_of, lower, none-some, none_parted, one_parted, phase_of, same_Some, script_limit, with_job}
use Rattle.std.specs.List.{AllByRecursion}
use Rattle.tc_station.specs.Tally.{Tally}
use Rattle.tc_station.specs.Work.{AreWorked, IsShift, IsWorked, Shift, lowest}
use Rattle.tc_station.specs.declared.work.Order.TheVariants as orders
use Rattle.tc_cli.specs.Parallel.{HasCause}
use Rattle.tc_cli.specs.Parting.{IsWorkFault}
use Rattle.tc_cli.proofs.Lists.{any-at, any-here, push-cases, set-at, set-else, unmapped}
use Rattle.tc_cli.proofs.Scripts.{first-good, parted-leads, set-up}

-- ---- a job for which memory ran out

lower-either : (a b : Option ℕ) (n : ℕ) → lower a b ≡ Some n → (a ≡ Some n) ⊎ (b ≡ Some n)
lower-either a b n is = grind arith

worked-line : (station : Roster) (l : WorkList) (refused : Option ℕ) (before after : Tally) (n : ℕ) → IsWorked station l refused before after → refused ≡ Some n
    → Any (λ (job : Job). job.line ≡ n) l.jobs
worked-line station l None before after n worked is = absurd (none-some n is)
worked-line station l (Some line) before after n (k, job, at, number, wanting, done) is =
    any-here (λ (j : Job). j.line ≡ n) l.jobs k job at (number ∙ same_Some line n is)

shift-line : (station : Roster) (shifts : List Shift) (n : ℕ) → AllByRecursion (IsShift station) shifts → lowest shifts ≡ Some n
    → IsJobLine (map (λ (s : Shift). s.list) shifts) n
shift-line station [] n all is = absurd (none-some n is)
shift-line station (s ∷ ss) n all is = elim (lower-either s.refused (lowest ss) n is) [
  | inl here ↦ (0, s.list, omega arith, refl, worked-line station s.list s.refused _ _ n all.0.worked here)
  | inr there ↦ let later = shift-line station ss n all.1 there in (suc later.0, later.1, omega (arith, later.2), later.3, later.4)
]

-- the line that workers report is the line of one of their jobs
pub refused-line : (station : Roster) (lists : List WorkList) (line : Option ℕ) (n : ℕ) (befores afters : List AtStation)
    → AreWorked station lists line befores afters → line ≡ Some n → IsJobLine lists n
refused-line station lists line n befores afters (shifts, are, before, after, all, least) is =
    subst (λ (ls : List WorkList). IsJobLine ls n) are (shift-line station shifts n all (least ∙ is))

-- ---- the numbers of jobs

-- no job of these lists has a line number above `count`
abbrev AreNumbered : ℕ → List WorkList → Type 0
AreNumbered count lists = (place n : ℕ) (l : WorkList) (job : Job) → slice_get lists place ≡ Some l → slice_get l.jobs n ≡ Some job → job.line ≤ count

abbrev IsNumbered : ℕ → Plan → Type 0
IsNumbered count (SettingUp list) = Unit {0}
IsNumbered count (Operating parted) = AreNumbered count parted.lists

one-more : (count : ℕ) (plan : Plan) → IsNumbered count plan → IsNumbered (count + 1) plan
one-more count (SettingUp list) numbered = tt
one-more count (Operating parted) numbered = λ place n l job at there. omega (arith, numbered place n l job at there)

new-numbered : (count : ℕ) (list : List Settings) → AreNumbered count (map empty_list list)
new-numbered count list place n l job at there =
    let new = unmapped empty_list list place l at in
    absurd (none-some job (ap (λ (x : WorkList). slice_get x.jobs n) new.2 ∙ there))

found-numbered : (scid count : ℕ) (plan : Plan) (found : Parted) → IsNumbered count plan → ArePartedFor scid plan found → AreNumbered count found.lists
found-numbered scid count (SettingUp list) found numbered new = subst (AreNumbered count) (sym new.1) (new-numbered count list)
found-numbered scid count (Operating parted) found numbered same = subst (λ (p : Parted). AreNumbered count p.lists) (sym same) numbered

given-numbered : (count vcid : ℕ) (given : Job) (found parted : Parted) → given.line ≡ count + 1 → AreNumbered count found.lists → IsGiven vcid given found parted
    → AreNumbered (count + 1) parted.lists
given-numbered count vcid given found parted number numbered (inl (place, l, (at, id), is)) other n x job here there =
    let lists : parted.lists ≡ slice_set found.lists place (with_job l given) = ap (λ (p : Parted). p.lists) is in
    elim (eqb_tells other place) [
      | inl h ↦
          let list = set-at found.lists parted.lists place other l (with_job l given) x lists at h.1 here in
          elim (push-cases l.jobs given job n (ap (λ (y : WorkList). slice_get y.jobs n) list ∙ there)) [
            | inl old ↦ omega (arith, numbered place n l job at old)
            | inr last ↦ omega (arith, ap (λ (j : Job). j.line) last.1, number)
          ]
      | inr h ↦ omega (arith, numbered other n x job (set-else found.lists parted.lists place other (with_job l given) x lists h.1 here) there)
    ]
given-numbered count vcid given found parted number numbered (inr (none, is)) other n x job here there =
    omega (arith, numbered other n x job (ap (λ (p : Parted). slice_get p.lists other) (sym is) ∙ here) there)

frame-numbered : (count : ℕ) (octets : List ℕ) (found parted : Parted) → AreNumbered count found.lists → IsFrameGiven (count + 1) octets found parted
    → AreNumbered (count + 1) parted.lists
frame-numbered count octets found parted numbered (inl (vcid, frame, located, given)) =
    given-numbered count vcid (record { line = count + 1; order = orders.Bring octets }) found parted refl numbered given
frame-numbered count octets found parted numbered (inr (fault, why, is)) =
    subst (λ (p : Parted). AreNumbered (count + 1) p.lists) (sym is) (one-more count (Operating found) numbered)

parts-numbered : (scid count : ℕ) (Gives : Parted → Parted → Type 0) (old new : Plan) → IsNumbered count old → GivesToFound scid Gives old new
    → ((found parted : Parted) → AreNumbered count found.lists → Gives found parted → AreNumbered (count + 1) parted.lists) → IsNumbered (count + 1) new
parts-numbered scid count Gives old new numbered (found, parted, for, gives, is) each =
    subst (IsNumbered (count + 1)) (sym is) (each found parted (found-numbered scid count old found numbered for) gives)

order-numbered : (scid count vcid : ℕ) (given : Job) (old new : Plan) → given.line ≡ count + 1 → IsNumbered count old → GivesToFound scid (IsGiven vcid given) old new → IsNumbered (count + 1) new
order-numbered scid count vcid given old new number numbered parts =
    parts-numbered scid count (IsGiven vcid given) old new numbered parts (λ found parted. given-numbered count vcid given found parted number)

line-numbered : (scid count : ℕ) (instruction : Instruction) (old new : Plan) → IsNumbered count old → Does (phase_of old) instruction (phase_of new)
    → IsParted scid (count + 1) old instruction new → IsNumbered (count + 1) new
line-numbered scid count Nothing old new numbered does same = subst (IsNumbered (count + 1)) (sym same) (one-more count old numbered)
line-numbered scid count (Channel settings) old new numbered (before, list, was, adds, is) parted = subst (IsNumbered (count + 1)) (sym (set-up new list is)) tt
line-numbered scid count (Add vcid addition) old new numbered (before, list, was, adds, is) parted = subst (IsNumbered (count + 1)) (sym (set-up new list is)) tt
line-numbered scid count (Frame octets) old new numbered does parts =
    parts-numbered scid count (IsFrameGiven (count + 1) octets) old new numbered parts (frame-numbered count octets)
line-numbered scid count (Release vcid) old new numbered does parts =
    order-numbered scid count vcid (record { line = count + 1; order = orders.Release }) old new refl numbered parts
line-numbered scid count (Take vcid apid) old new numbered does parts =
    order-numbered scid count vcid (record { line = count + 1; order = orders.Take apid }) old new refl numbered parts
line-numbered scid count (TakeUnit vcid map_id) old new numbered does parts =
    order-numbered scid count vcid (record { line = count + 1; order = orders.TakeUnit map_id }) old new refl numbered parts
line-numbered scid count (Clcw vcid) old new numbered does parts =
    parts-numbered scid count (λ before after. after ≡ before) old new numbered parts
    (λ found parted within is. subst (λ (p : Parted). AreNumbered (count + 1) p.lists) (sym is) (one-more count (Operating found) within))

all-numbered : (scid : ℕ) (script : List ℕ) (count : ℕ) (plan : Plan) (rest : List ℕ) → AreParted scid script count plan rest → IsNumbered count plan
all-numbered scid script count plan rest none_parted = tt
all-numbered scid script count plan rest (one_parted {count = before} {plan = old} leads next parted) =
    line-numbered scid before (instruction_of parted.0) old plan (all-numbered scid script before old _ leads) parted.2 parted.3

job-within : (count : ℕ) (lists : List WorkList) (line : ℕ) → AreNumbered count lists → IsJobLine lists line → line ≤ count
job-within count lists line numbered job =
    let list = any-at (λ (l : WorkList). Any (λ (j : Job). j.line ≡ line) l.jobs) lists job in
    let one = any-at (λ (j : Job). j.line ≡ line) list.1.jobs list.3 in
    omega (arith, numbered list.0 one.0 list.1 one.1 list.2 one.2, one.3)

-- a fault of workers is a fault of the script
pub work-fault : (scid : ℕ) (script : List ℕ) (count : ℕ) (plan : Plan) (found : Parted) (fault : ScriptFault) → AreParted scid script count plan [] → ArePartedFor scid plan found
    → length script ≤ script_limit → IsWorkFault count found fault → IsScriptFault script fault
work-fault scid script count plan found fault parted for within (inl (unbalanced, cause)) =
    subst (IsScriptFault script) (sym unbalanced) (within, (count, phase_of plan, parted-leads scid script count plan [] parted))
work-fault scid script count plan found fault parted for within (inr (inl memory)) =
    subst (IsScriptFault script) (sym memory) (inl (refl, inl (phase_of plan, [], parted-leads scid script count plan [] parted)))
work-fault scid script count plan found fault parted for within (inr (inr (line, job, memory))) =
    let le = job-within count found.lists line (found-numbered scid count plan found (all-numbered scid script count plan [] parted) for) job in
    subst (IsScriptFault script) (sym memory) (inl (refl, inl (first-good script count (phase_of plan) [] line (parted-leads scid script count plan [] parted) le)))

-- if workers leave the station out of balance, there is a cause
pub work-cause : (scid : ℕ) (script : List ℕ) (count : ℕ) (plan : Plan) (found : Parted) (fault : ScriptFault) → AreParted scid script count plan [] → ArePartedFor scid plan found
    → IsWorkFault count found fault → HasCause scid script fault
work-cause scid script count plan found fault parted for (inl (unbalanced, cause)) =
    subst (HasCause scid script) (sym unbalanced) (count, plan, found, parted, for, cause)
work-cause scid script count plan found fault parted for (inr (inl memory)) = subst (HasCause scid script) (sym memory) tt
work-cause scid script count plan found fault parted for (inr (inr (line, job, memory))) = subst (HasCause scid script) (sym memory) tt
