use Rattle.tc_desk.proofs.Names.{◌≡◌, map, subst, List, true, false, arith, rules, common_steps, AtLock, AtHand, CanCloseEach, CannotCloseOne, Bool, MatchBool}
use Rattle.tc_desk.proofs.Rows.{caused, closed_all, unbalanced, written_back}
use Rattle.tc_desk.proofs.together.close_together.Goals as goal

-- if the test of guards and operators has this result, it has the same result for equal guards and operators
tested : (guard guard' : List AtHand) (rows rows' : List (List AtLock)) (answer : Bool) → guard ≡ guard' → rows ≡ rows' → MatchBool answer (CanCloseEach guard rows) (CannotCloseOne guard rows) → MatchBool answer (CanCloseEach guard' rows') (CannotCloseOne guard' rows')
tested guard guard' rows rows' answer is are found = subst (λ (x : List AtHand × List (List AtLock)). MatchBool answer (CanCloseEach x.0 x.1) (CannotCloseOne x.0 x.1)) (λ i. (is i, are i)) found

pub returns-then-not-can_close : goal.returns-then-not-can_close
returns-then-not-can_close g c =
    let rows = map g.C.OperatorList.at_desks c.args.operator_lists.items in
    let guard = c.in-Ok-take_locks.both.1.items in
    let found : MatchBool c.can_close_each-can_close.result (CanCloseEach guard rows) (CannotCloseOne guard rows) = tested _ guard _ rows c.can_close_each-can_close.result c.deref.ensures.value (λ i. map g.C.OperatorList.at_desks (c.deref-2.ensures.value i)) c.can_close_each-can_close.ensures in
    let no : c.can_close_each-can_close.result ≡ false = search rules in
    let cannot : CannotCloseOne guard rows = subst (λ (b : Bool). MatchBool b (CanCloseEach guard rows) (CannotCloseOne guard rows)) no found in
    record {
      closed = search rules;
      kept = first_of (search rules, grind (arith, common_steps));
      refusal = unbalanced c.args.owned_desks.items rows guard _ c.left_open-then-not-can_close.ensures.2 c.in-Ok-take_locks.ensures.guard cannot;
      cause = λ _. caused c.args.owned_desks.items rows guard c.in-Ok-take_locks.ensures.guard cannot;
    }

pub returns-clause-closed : goal.returns-clause-closed
returns-clause-closed g c =
    let rows = map g.C.OperatorList.at_desks c.args.operator_lists.items in
    let guard = c.in-Ok-take_locks.both.1.items in
    let found : MatchBool c.can_close_each-can_close.result (CanCloseEach guard rows) (CannotCloseOne guard rows) = tested _ guard _ rows c.can_close_each-can_close.result c.deref.ensures.value (λ i. map g.C.OperatorList.at_desks (c.deref-2.ensures.value i)) c.can_close_each-can_close.ensures in
    let yes : c.can_close_each-can_close.result ≡ true = search rules in
    let can : CanCloseEach guard rows = subst (λ (b : Bool). MatchBool b (CanCloseEach guard rows) (CannotCloseOne guard rows)) yes found in
    closed_all c.args.owned_desks.items rows guard _ c.take_all_out.result.items c.in-Ok-take_locks.ensures.guard c.requires.ours can c.take_all_out.ensures
    (written_back c.in-Ok-take_locks.both.1 c.deref_mut.result.now c.report_rows.new.guards rows c.deref_mut.ensures.value c.report_rows.ensures)

pub can_close_each-can_close-requires : goal.can_close_each-can_close-requires
can_close_each-can_close-requires g c = rw (c.deref.ensures.value, c.deref-2.ensures.value, c.in-Ok-take_locks.ensures.guard.0) c.requires.ours
