use Rattle.tc_desk.proofs.Names.{◌∙◌, [], ◌++◌, ◌∷◌, length, ap, arith, subst, sym, AreOut, IsOut}
use Rattle.tc_desk.proofs.Rows.{one_out}
use Rattle.tc_desk.proofs.together.take_all_out.Goals as goal

pub loop-desk-preserved : goal.loop-desk-preserved
loop-desk-preserved g c =
    let i = c.loop-desk.invariant in
    let t = c.take_out.ensures in
    let out : IsOut c.in-Some.desk c.take_out.result = record { settings = t.settings; journal = t.journal; seen = t.seen; merge = t.merge; whole = t.whole } in
    let one = i.1 in let longer = c.push_reserved.ensures.len in
    let before = c.loop-desk.desk-iterator.rest.ok.0 in let after = c.next.new.self.rest.ok.0 in
    let shorter = ap length c.in-Some.ensures.steps.0 in (
      subst (AreOut (c.loop-desk.yielded ++ c.in-Some.desk ∷ [])) (sym c.push_reserved.ensures.items) (one_out c.loop-desk.yielded c.loop-desk.room.items c.in-Some.desk c.take_out.result i.0 out),
      omega (arith, one, longer, before, after, shorter),
      c.push_reserved.ensures.capacity ∙ i.2,
    )
