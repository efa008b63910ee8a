use Rattle.tc_desk.proofs.Names.{◌<◌, ◌∙◌, [], ◌≡◌, length, sym, refl, rules, AtLock, AtHand}
use Rattle.tc_desk.proofs.Rows.{are_at, all_reported, last_reported, reported_step}
use Rattle.tc_desk.proofs.together.report_row.Goals as goal

some_desk : AtLock → AtHand
some_desk o = record { desk = record { id = o.lock; head = o.own.seen.head }; owner = o; now = o.own.seen; reported = [] }

pub loop-operator-init : goal.loop-operator-init
loop-operator-init g c = (refl, are_at c.args.guards.now c.args.operators.items c.requires)

pub offset_bounds-guards-len : goal.offset_bounds-guards-len
offset_bounds-guards-len g c =
    let at = last_reported c.loop-operator.guards c.loop-operator.operators.items c.pop.new.self.items c.in-Some.operator c.len.result (some_desk c.in-Some.operator) c.in-Some.ensures.items (search rules) c.loop-operator.invariant.1 in
    let h : c.len.result < length c.loop-operator.guards = at.inside in
    search rules

pub bounds-guards-len : goal.bounds-guards-len
bounds-guards-len g c = (last_reported c.loop-operator.guards c.loop-operator.operators.items c.pop.new.self.items c.in-Some.operator c.len.result (some_desk c.in-Some.operator) c.in-Some.ensures.items (search rules) c.loop-operator.invariant.1).inside

pub report-requires : goal.report-requires
report-requires g c = (last_reported c.loop-operator.guards c.loop-operator.operators.items c.pop.new.self.items c.in-Some.operator c.len.result c.index-guards-len.result c.in-Some.ensures.items (search rules) c.loop-operator.invariant.1).lock

pub loop-operator-preserved : goal.loop-operator-preserved
loop-operator-preserved g c =
    reported_step c.loop-operator.guards c.args.guards.now c.loop-operator.operators.items c.pop.new.self.items c.args.operators.items c.in-Some.operator c.len.result c.index-guards-len.result c.report.new.self
    c.in-Some.ensures.items (search rules) c.report.ensures c.loop-operator.invariant.1 c.loop-operator.invariant.0

pub returns : goal.returns
returns g c =
    let none : c.loop-operator.operators.items ≡ [] = search rules in
    sym (all_reported c.loop-operator.guards c.loop-operator.operators.items none) ∙ c.loop-operator.invariant.0
