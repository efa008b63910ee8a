use Rattle.std.proofs.Common.{inl, refl}
use Rattle.tc_rack.proofs.Places.{found}
use Rattle.tc_rack.proofs.rack.Rack.take.Goals as goal

pub returns-in-Some-clause-answer : goal.returns-in-Some-clause-answer
returns-in-Some-clause-answer c =
    let at = found c.self.inside.channels.items c.args.vcid c.in-Some.place _ (rw c.deref.ensures.value at c.in-Some.ensures) c.index_mut.ensures.value in
    rw (← c.self.view_is) (inl (c.in-Some.place, c.index_mut.result.now, c.take.new.self, at, c.take.ensures.answer, refl))
