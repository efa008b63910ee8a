use Rattle.tc_desk.proofs.Names.{◌∙◌, length, map, subst, arith, rules, refl, true≢false, sym, get_or_from_slice_get, slice_get_within, AtHand, accounts_of, CanClose, column, below_more, slice_get_read}
use Rattle.tc_desk.proofs.Reported.{many-column}
use Rattle.tc_desk.proofs.Rows.{inside_all}
use Rattle.tc_desk.proofs.together.can_close_each.Goals as goal

pub count_at-requires : goal.count_at-requires
count_at-requires g c = inside_all g.C.OperatorList.at_desks c.args.guards.now c.args.operator_lists.now c.loop-place.place c.requires c.loop-place-test.true

pub loop-place-preserved : goal.loop-place-preserved
loop-place-preserved g c =
    let i = c.loop-place.place in
    let here = c.index-guards-place.result in
    let operator_lists = c.args.operator_lists.now in
    let accounts = accounts_of (column i (map g.C.OperatorList.at_desks operator_lists)) in
    let many = many-column g.C.OperatorList.at_desks i operator_lists in
    let good : CanClose here.owner.own.issued accounts here.now.entries = (c.can_close.ensures accounts (search rules) (search rules)).0 (search rules) in
    below_more _ _ c.loop-place.invariant
    (λ h e. subst (λ (x : AtHand). CanClose x.owner.own.issued accounts x.now.entries) (c.index-guards-place.is ∙ get_or_from_slice_get c.args.guards.now i h here e) good)

pub returns-then-not-can_close : goal.returns-then-not-can_close
returns-then-not-can_close g c =
    let i = c.loop-place.place in
    let here = c.index-guards-place.result in
    let operator_lists = c.args.operator_lists.now in
    let accounts = accounts_of (column i (map g.C.OperatorList.at_desks operator_lists)) in
    let many = many-column g.C.OperatorList.at_desks i operator_lists in
    let at = slice_get_read c.args.guards.now (length c.args.guards.now) i here refl c.loop-place-test.true c.index-guards-place.is in
    (i, here, at, λ can. true≢false (sym ((c.can_close.ensures accounts (search rules) (search rules)).1 can) ∙ search rules))

pub returns : goal.returns
returns g c = λ place h e. let inside = slice_get_within c.args.guards.now place h e in c.loop-place.invariant place (omega arith) h e
