use Rattle.std.proofs.Common.{◌∙◌, sym, ap, rules}
use Rattle.tc_status.proofs.Steps.{splits, joins, compares}
use Rattle.tc_status.proofs.watcher.meet.Goals as goal

pub split_seat-fresh-requires : goal.split_seat-fresh-requires
split_seat-fresh-requires c = (search rules, search rules, splits _ _)

pub join_seat-requires : goal.join_seat-requires
join_seat-requires c =
    let p = c.publisher in
    let w = c.watcher in
    let old = c.replace-old.ensures.value in
    let board = ap (λ (b : _). b.table.shared.table_id) (sym c.deref.ensures) in (
      search rules,
      ap (λ s. s.table_id) old ∙ (ap (λ v. v.board) w.view_is ∙ (c.requires ∙ (sym (ap (λ v. v.board) p.view_is) ∙ (p.invariant.0.same ∙ board)))),
      ap (λ s. s.me.1) old ∙ ap (λ m. m.1) w.invariant.view,
      search rules,
      joins _ _ _ _
          (c.split_seat-fresh.ensures.1 ∙ p.invariant.1)
          (ap (λ m. m.0.live) c.split_seat-fresh.ensures.2 ∙ ap (λ m. m.0.live) p.invariant.0.view)
          (ap (λ s. s.me.0.live) old ∙ ap (λ m. m.0.live) w.invariant.view),
    )

pub load-requires : goal.load-requires
load-requires c =
    let p = c.publisher in (
      search rules,
      search rules,
      compares _ _ _
          (c.join_seat.ensures.1 ∙ (c.split_seat-fresh.ensures.1 ∙ p.invariant.1))
          (ap (λ m. m.0.live) c.join_seat.ensures.2 ∙ (ap (λ m. m.0.live) c.split_seat-fresh.ensures.2 ∙ ap (λ m. m.0.live) p.invariant.0.view)),
    )
