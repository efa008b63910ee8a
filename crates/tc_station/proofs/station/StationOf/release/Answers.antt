use Rattle.tc_station.proofs.Names.{inl, rules, release_refused}
use Rattle.tc_station.proofs.Called.{ok-call, refused-call}
use Rattle.tc_station.proofs.station.StationOf.release.Goals as goal

pub returns-in_err-delivery-clause-call : goal.returns-in_err-delivery-clause-call
returns-in_err-delivery-clause-call g c =
    inl (c.in-Some.place, search rules, refused-call _ _ _ _ _ _ _ _ _ _ _ release_refused _ c.operate.ensures.call c.in_err-delivery.was c.from_residual.ensures.1 (λ m h said p. (c.in_err-delivery.field-0.0, said, p)))

pub returns-clause-call : goal.returns-clause-call
returns-clause-call g c = inl (c.in-Some.place, search rules, ok-call _ _ _ _ _ _ _ _ _ _ _ _ c.operate.ensures.call c.in_ok-delivery.was (λ m p. p))
