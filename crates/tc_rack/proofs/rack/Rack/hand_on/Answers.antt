use Rattle.tc_rack.proofs.Names.{[], inl, inr, refl, Appends-nil, on_ok_weaker}
use Rattle.tc_rack.proofs.Places.{found}
use Rattle.tc_rack.proofs.rack.Rack.hand_on.Goals as goal

pub returns-in-Some : goal.returns-in-Some
returns-in-Some g c =
    let at = found c.self.inside.channels.items c.args.vcid c.in-Some.place _ (rw c.deref.ensures.value at c.in-Some.ensures) c.index_mut.ensures.value in
    on_ok_weaker c.hand_on.result
    (λ reported. (reported.0, rw (← c.self.view_is) (inl (c.in-Some.place, c.index_mut.result.now, c.hand_on.new.channel, at, reported.1, refl)), reported.2))
    c.hand_on.ensures.reported

pub returns-in-None : goal.returns-in-None
returns-in-None g c = rw (← c.self.view_is) ([], inr (rw c.deref.ensures.value at c.in-None.ensures, refl, refl), Appends-nil _)
