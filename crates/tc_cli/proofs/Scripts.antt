-- Lemmas about a script whose lines are read one after the other.
use Rattle.std.proofs.Common.{◌≡◌, ◌<◌, ◌≤◌, ℕ, ◌+◌, List, [], ◌⊎◌, Result, Ok, Err, Option, None, Some, IfSome, inl, inr, length, refl, subst, sym, arith, OnOk, IfErr}
use Rattle.tc_cli.proofs.Names.{AreParted, IsBadLine, IsFirstLine, IsReadFault, IsReportFault, IsScriptFault, Leads, Line, NoMemory, Phase, Plan, Read, Reason, ScriptFault, Session, Setup, TooLong, Unbalanced, Write, cases_lt, goes_on, none_parted, one_parted, phase_of, script_limit, starts, Operating, SettingUp, Settings}
use Rattle.tc_rack.specs.declared.stage.Stage.{Stage}
use Rattle.tc_cli.specs.Parallel.{HasCause}
use Rattle.tc_cli.specs.Script.{AreFirstGood, IsReached, IsFirstBad, IsGood}

-- if the phase of a script is the set-up with these settings, the script is at that stage, and no operation was carried
-- out
pub set-up : {O : Type 0} (stage : Stage O) (list : List Settings) → phase_of stage ≡ Setup list → stage ≡ SettingUp list
set-up (SettingUp settings) list is = cc
set-up (Operating there) list is = absurd cc

-- A bad line after good ones is the first bad one. If memory ran out at a line, the lines before it are good.
pub first-bad : (script rest line after : List ℕ) (before : ℕ) (phase : Phase) (reason : Reason)
    → (reason ≡ NoMemory) ⊎ IsBadLine phase line reason → Leads script before phase rest → IsFirstLine rest line after → length script ≤ script_limit
    → ((reason ≡ NoMemory) × IsReached script (before + 1)) ⊎ ((length script ≤ script_limit) × IsFirstBad script (before + 1) reason)
first-bad script rest line after before phase reason (inl memory) leads next within = inl (memory, inr (before, phase, rest, line, after, leads, next, refl))
first-bad script rest line after before phase reason (inr bad) leads next within =
    inr (within, record { before = before; phase = phase; rest = rest; line = line; after = after; leads = leads; next = next; number_is = refl; bad = bad })

-- if no octets are left, and the report was written, each line is good
pub good-end : (reported : Result (Unit {0}) ScriptFault) (script rest : List ℕ) (count : ℕ) (phase : Phase) → Leads script count phase rest → rest ≡ []
    → OnOk reported (IsGood script)
good-end (Ok done) script rest count phase leads end = (count, phase, rw end at leads)
good-end (Err fault) script rest count phase leads end = tt

-- if no octets are left, a fault of the report is a fault of the script
pub end-fault : (reported : Result (Unit {0}) ScriptFault) (scid : ℕ) (session : Session) (script rest : List ℕ) (count : ℕ) (phase : Phase) → Leads script count phase rest → rest ≡ [] → length script ≤ script_limit
    → IfErr reported (IsReportFault scid session count) → IfErr reported (IsScriptFault script)
end-fault (Ok done) scid session script rest count phase leads end within why = tt
end-fault (Err fault) scid session script rest count phase leads end within (inl write) = subst (IsScriptFault script) (sym write) within
end-fault (Err fault) scid session script rest count phase leads end within (inr (inl (unbalanced, cause))) =
    subst (IsScriptFault script) (sym unbalanced) (within, (count, phase, rw end at leads))
end-fault (Err fault) scid session script rest count phase leads end within (inr (inr memory)) =
    subst (IsScriptFault script) (sym memory) (inl (refl, inl (phase, rest, leads)))

-- lines whose jobs were appended to the lists of their channels are good
pub parted-leads : (scid : ℕ) (script : List ℕ) (count : ℕ) (plan : Plan) (rest : List ℕ) → AreParted scid script count plan rest → Leads script count (phase_of plan) rest
parted-leads scid script count plan rest none_parted = starts
parted-leads scid script count plan rest (one_parted {count = before} {plan = old} leads next parted) =
    goes_on (parted-leads scid script before old _ leads) next (parted.0, parted.1, parted.2)

pub parted-reached : (scid : ℕ) (script : List ℕ) (count : ℕ) (plan : Plan) → AreParted scid script count plan [] → IsReached script count
parted-reached scid script count plan parted = inl (phase_of plan, [], parted-leads scid script count plan [] parted)

-- a fault of reading is a fault of the script, before its first line
pub read-fault : (known : Option (List ℕ)) (fault : ScriptFault) → IsReadFault known fault → IfSome known (λ script. IsScriptFault script fault)
read-fault None fault why = tt
read-fault (Some script) Read why = tt
read-fault (Some script) TooLong why = why
read-fault (Some script) (Line number reason) why = inl (why.1, inl (Setup [], script, subst (λ (n : ℕ). Leads script n (Setup []) script) (sym why.0) starts))
read-fault (Some script) Write why = absurd why
read-fault (Some script) Unbalanced why = absurd why

-- a fault of reading isn't an imbalance, so it needs no cause
pub read-cause : (scid : ℕ) (known : Option (List ℕ)) (fault : ScriptFault) → IsReadFault known fault → IfSome known (λ script. HasCause scid script fault)
read-cause scid None fault why = tt
read-cause scid (Some script) Unbalanced why = absurd why
read-cause scid (Some script) Read why = tt
read-cause scid (Some script) TooLong why = tt
read-cause scid (Some script) (Line number reason) why = tt
read-cause scid (Some script) Write why = tt

-- if the first `count` lines are good, so are the first `less` lines, for any `less` up to `count`
pub first-good : (script : List ℕ) (count : ℕ) (phase : Phase) (rest : List ℕ) (less : ℕ) → Leads script count phase rest → less ≤ count → AreFirstGood script less
first-good script count phase rest less starts le =
    let none : 0 ≡ less = omega (arith, le) in
    (Setup [], script, subst (λ n. Leads script n (Setup []) script) none starts)
first-good script count phase rest less (goes_on {count = before} {phase = old} {rest = left} leads next done) le =
    at (λ lt. first-good script before old left less leads (omega (arith, lt))) (cases_lt less (before + 1))
  where
    at : (less < before + 1 → AreFirstGood script less) → (less < before + 1) ⊎ (before + 1 ≤ less) → AreFirstGood script less
    at fewer (inl lt) = fewer lt
    at fewer (inr ge) =
        let all : before + 1 ≡ less = omega (arith, ge, le) in
        (phase, rest, subst (λ n. Leads script n phase rest) all (goes_on leads next done))

-- the lines before the one at which memory ran out are good
pub good-before : (script : List ℕ) (number count : ℕ) → IsScriptFault script (Line number NoMemory) → count < number → AreFirstGood script count
good-before script number count (inl (memory, inl (phase, rest, leads))) lt = first-good script number phase rest count leads (omega (arith, lt))
good-before script number count (inl (memory, inr (before, phase, rest, line, after, leads, next, is))) lt =
    first-good script before phase rest count leads (omega (arith, is, lt))
good-before script number count (inr (within, bad)) lt =
    first-good script bad.before bad.phase bad.rest count bad.leads (omega (arith, bad.number_is, lt))
