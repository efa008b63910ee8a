use Rattle.tc_station.proofs.Names.{inl, rules, take_unit_refused}
use Rattle.tc_station.proofs.Called.{ok-call, refused-call}
use Rattle.tc_station.proofs.station.StationOf.take_unit.Goals as goal

pub returns-in_err-unit-clause-call : goal.returns-in_err-unit-clause-call
returns-in_err-unit-clause-call g c =
    inl (c.in-Some.place, search rules, refused-call _ _ _ _ _ _ _ _ _ _ _ take_unit_refused _ c.operate.ensures.call c.in_err-unit.was c.from_residual.ensures.1 (λ m h said p. (c.in_err-unit.field-0.0, said, p)))

pub returns-clause-call : goal.returns-clause-call
returns-clause-call g c = inl (c.in-Some.place, search rules, ok-call _ _ _ _ _ _ _ _ _ _ _ _ c.operate.ensures.call c.in_ok-unit.was (λ m p. p))
