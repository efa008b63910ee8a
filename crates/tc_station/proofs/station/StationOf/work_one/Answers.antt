use Rattle.tc_station.proofs.Names.{sym, subst, rules, tally, IsListMade, IsTallyOf, IsWorked, HasGoneOnAtEach, KnowsTheSame}
use Rattle.tc_station.proofs.Works.{one-worked}
use Rattle.tc_station.proofs.station.StationOf.work_one.Goals as goal

pub returns : goal.returns
returns g c =
    let l = c.index-lists-0.result in
    let o = c.index-operators-0.result in
    let line = c.do_list.result in
    let z = c.do_list.new.operator in
    one-worked c.args.self.now c.args.lists.now c.args.operators.now l o z line (search rules) (search rules) c.index-lists-0.is c.index-operators-0.is
    (subst (λ t. IsTallyOf c.args.self.now (tally t)) (sym c.index-operators-0.is) c.do_list.ensures.tally)
    c.do_list.ensures.ours
    (subst (λ t. KnowsTheSame t z) (sym c.index-operators-0.is) c.do_list.ensures.knows)
    (subst (λ t. HasGoneOnAtEach t z) (sym c.index-operators-0.is) c.do_list.ensures.later)
    (subst (λ t. IsWorked c.args.self.now l line (tally t) (tally z)) (sym c.index-operators-0.is) c.do_list.ensures.worked)
    (subst (λ t. IsListMade c.args.self.now l line t z) (sym c.index-operators-0.is) c.do_list.ensures.made)
