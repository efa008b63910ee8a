use Rattle.std.proofs.Common.{◌≡◌, ℕ, ◌+◌, List, Option, None, Some, Result, All, length, ap, ◌∙◌, subst, zero-add, inl, inr, arith, MatchResult}
use Rattle.tc_cli.proofs.Names.{AtStation, HasMadeNothing, History, IsClosedReport, IsJobLine, IsScriptCloseFault, IsWorkedOut, KnowsDesks, Roster, ScriptFault, WorkList}
use Rattle.std.proofs.lemmas.Result.{IfErr-weaker, IfOk-weaker}
use Rattle.tc_station.specs.Work.{AreWorked, line_of_fault}
use Rattle.tc_station.specs.declared.faults.WorkFault.{WorkFault}
use Rattle.tc_cli.specs.Parting.{IsWorkFault}
use Rattle.tc_cli.proofs.Numbered.{refused-line}
use Rattle.tc_cli.proofs.parting.Parted.work.Goals as goal

-- Suppose that the station has issued `n` operators, that these did the jobs, and that the station was closed together
-- with them. Then the jobs are worked out.
worked-out : (station after : Roster) (lists given : List WorkList) (n : ℕ) (line : Option ℕ) (befores operators : List AtStation) (channels : List History)
    → station.issued ≡ 0 → n ≡ length lists → given ≡ lists → after ≡ record station { issued = station.issued + n } → All HasMadeNothing befores → All (KnowsDesks after) befores → line ≡ None
    → AreWorked after given line befores operators → IsClosedReport after operators channels → IsWorkedOut (record { station = station; lists = lists }) channels
worked-out station after lists given n line befores operators channels none count same issued nothing knows all worked closed =
    let so-many : after ≡ record station { issued = length lists } = issued ∙ ap (λ (k : ℕ). record station { issued = k }) (ap (λ (m : ℕ). m + n) none ∙ (zero-add n ∙ count)) in
    let each = subst (λ (x : List WorkList × Option ℕ). AreWorked after x.0 x.1 befores operators) (λ i. (same i, all i)) worked in
    record { station = after; befores = befores; operators = operators; issued = so-many; nothing = nothing; knows = knows; worked = each; closed = closed }

-- Suppose that the station has issued `n` operators, and that these did the jobs. Then a fault in closing the station
-- together with them is a fault of the work.
not-closed : (station after : Roster) (lists given : List WorkList) (n lines : ℕ) (line : Option ℕ) (befores operators : List AtStation) (fault : ScriptFault)
    → station.issued ≡ 0 → n ≡ length lists → given ≡ lists → after ≡ record station { issued = station.issued + n } → All HasMadeNothing befores → line ≡ None
    → AreWorked after given line befores operators → IsScriptCloseFault after operators lines fault → IsWorkFault lines (record { station = station; lists = lists }) fault
not-closed station after lists given n lines line befores operators fault none count same issued nothing all worked (inl (unbalanced, cause)) =
    let so-many : after ≡ record station { issued = length lists } = issued ∙ ap (λ (k : ℕ). record station { issued = k }) (ap (λ (m : ℕ). m + n) none ∙ (zero-add n ∙ count)) in
    let each = subst (λ (x : List WorkList × Option ℕ). AreWorked after x.0 x.1 befores operators) (λ i. (same i, all i)) worked in
    inl (unbalanced, (after, befores, operators, so-many, nothing, each, cause))
not-closed station after lists given n lines line befores operators fault none count same issued nothing all worked (inr memory) = inr (inl memory)

pub close-requires : goal.close-requires
close-requires g c = record { ours = c.work.ensures.ours }

pub returns-in-Ok-work-clause-ordered : goal.returns-in-Ok-work-clause-ordered
returns-in-Ok-work-clause-ordered g c = IfOk-weaker c.close.result _ _ (λ channels closed. closed.ordered) c.close.ensures.closed

pub returns-in-Ok-work-clause-worked : goal.returns-in-Ok-work-clause-worked
returns-in-Ok-work-clause-worked g c =
    let w = c.in-Ok-work.ensures.worked in
    let n : c.len.result ≡ length c.self.inside.lists.items = omega (arith, c.self.inside.lists.ok.0) in
    rw (← c.self.view_is) (IfOk-weaker c.close.result _ _ (λ channels closed. worked-out c.self.inside.station c.operators.new.self c.self.inside.lists.items c.deref.result.now c.len.result w.0 c.in-Ok.operators.items c.work.new.operators.items channels.items c.self.invariant.0 n c.deref.ensures.value c.in-Ok.ensures.issued c.in-Ok.ensures.new c.in-Ok.ensures.heads w.2 w.1 closed) c.close.ensures.closed)

pub returns-in-Ok-work-clause-fault : goal.returns-in-Ok-work-clause-fault
returns-in-Ok-work-clause-fault g c =
    let w = c.in-Ok-work.ensures.worked in
    let n : c.len.result ≡ length c.self.inside.lists.items = omega (arith, c.self.inside.lists.ok.0) in
    rw (← c.self.view_is) (IfErr-weaker c.close.result _ _ (λ fault why. not-closed c.self.inside.station c.operators.new.self c.self.inside.lists.items c.deref.result.now c.len.result c.args.lines w.0 c.in-Ok.operators.items c.work.new.operators.items fault c.self.invariant.0 n c.deref.ensures.value c.in-Ok.ensures.issued c.in-Ok.ensures.new w.2 w.1 why) c.close.ensures.fault)

pub returns-in-Err-clause-fault : goal.returns-in-Err-clause-fault
returns-in-Err-clause-fault g c =
    let w = c.work.ensures.worked in
    let list = subst (λ (ls : List WorkList). AreWorked c.operators.new.self ls w.0 c.in-Ok.operators.items c.work.new.operators.items) c.deref.ensures.value w.1 in
    let line = subst (λ (r : Result (Unit {0}) WorkFault). MatchResult r (λ _. w.0 ≡ None) (λ fault. w.0 ≡ Some (line_of_fault fault))) c.in-Err.is w.2 in
    let job : IsJobLine c.args.self.lists (line_of_fault c.in-Err.fault) = rw (← c.self.view_is) (refused-line c.operators.new.self c.self.inside.lists.items w.0 (line_of_fault c.in-Err.fault) c.in-Ok.operators.items c.work.new.operators.items list line) in
    inr (inr (line_of_fault c.in-Err.fault, job, c.refused.ensures))
