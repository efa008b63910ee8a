use Rattle.tc_desk.proofs.Names.{◌≡◌, sym, ap, ◌∙◌, subst, rules, IsMergeOf}
use Rattle.tc_desk.proofs.guard.DeskGuard.take_out.Goals as goal

pub returns-clause-seen : goal.returns-clause-seen
returns-clause-seen g c = rw (← c.self.view_is) c.account.ensures.behind

pub replace-kept-requires-clause-locks : goal.replace-kept-requires-clause-locks
replace-kept-requires-clause-locks g c =
    let locks = c.self.invariant.8 in
    (locks.kept, ap (λ m. m.1) c.account.ensures.same.2 ∙ locks.hands)

pub returns-clause-merge : goal.returns-clause-merge
returns-clause-merge g c =
    let journal : c.into_channel.result.journal ≡ c.self.inside.first.me.0.own.seen.entries = search rules in
    rw (← c.self.view_is) (λ all. subst (λ l. IsMergeOf l c.self.inside.first.me.0.reported) (sym journal) (c.account.ensures.merge all))
