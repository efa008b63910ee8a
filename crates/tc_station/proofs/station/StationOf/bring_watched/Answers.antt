use Rattle.tc_station.proofs.Names.{inl, refl, rules}
use Rattle.tc_station.proofs.Called.{err-call, ok-call}
use Rattle.tc_station.proofs.Meetings.{watcher-there}
use Rattle.tc_station.proofs.station.StationOf.bring_watched.Goals as goal

pub returns-in_default-clause-call : goal.returns-in_default-clause-call
returns-in_default-clause-call g c =
    let at = c.in_ok-place.field-0-1 in
    inl (c.in_ok-place.place, at.vcid, at.frame, search rules, err-call _ _ _ _ _ _ _ _ _ _ _ _ c.operate.ensures.call c.in_default.is (λ m p. refl))

pub returns-clause-call : goal.returns-clause-call
returns-clause-call g c =
    let at = c.in_ok-place.field-0-1 in
    inl (c.in_ok-place.place, at.vcid, at.frame, search rules, ok-call _ _ _ _ _ _ _ _ _ _ _ _ c.operate.ensures.call c.in-Ok.is (λ m p. (refl, p)))

pub returns-clause-desk : goal.returns-clause-desk
returns-clause-desk g c = λ knows. watcher-there c.args.self.now c.in_ok-place.place _ _ _ _ _ _ _ (search rules) knows c.operate.ensures.call c.in-Ok.is
