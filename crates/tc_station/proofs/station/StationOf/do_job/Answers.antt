use Rattle.tc_station.proofs.Names.{◌≡◌, rules}
use Rattle.tc_station.proofs.Tried.{tried-on, brought, not-released, not-taken, unit-not-taken, refused-on, not-brought}
use Rattle.tc_station.proofs.station.StationOf.do_job.Goals.{in-Err-NoMemory-take, in_default-take, in_default-take-2, in-Err-NoMemory-take_unit, in_default-take_unit, in_default-take_unit-2}
use Rattle.tc_station.specs.declared.faults.ReleaseRefused.TheVariants as release_refusals
use Rattle.tc_station.specs.declared.faults.TakeRefused.TheVariants as take_refusals
use Rattle.tc_station.specs.declared.faults.TakeUnitRefused.TheVariants as unit_refusals
use Rattle.tc_station.proofs.station.StationOf.do_job.Goals as goal

pub returns-in-Ok-clause-made : goal.returns-in-Ok-clause-made
returns-in-Ok-clause-made g c = rw (c.in-Bring.is, ← c.deref.ensures) (brought c.args.self.now c.args.vcid _ _ _ _ _ _ (λ frame m f is p. absurd (cc (c.in-Ok.is, is))) c.bring.ensures.call)

pub returns-in-Err-NoMemory-clause-kept : goal.returns-in-Err-NoMemory-clause-kept
returns-in-Err-NoMemory-clause-kept g c = not-brought c.args.self.now _ _ _ _ _ _ _ c.in-Err-NoMemory.is c.bring.ensures.call

pub returns-in-Err-NoMemory-release-clause-kept : goal.returns-in-Err-NoMemory-release-clause-kept
returns-in-Err-NoMemory-release-clause-kept g c = refused-on c.args.self.now _ _ _ _ _ _ _ _ _ c.in-Err-NoMemory-release.is c.release.ensures.call

pub returns-in_default-clause-made : goal.returns-in_default-clause-made
returns-in_default-clause-made g c =
    let other : (c.in_default.field-0 ≡ release_refusals.NoMemory) → ⊥ = search rules in
    rw c.in-Release.is (tried-on c.args.self.now _ _ _ _ _ _ _ _ (λ m a p. p.0) (λ m f is p. not-released m f (λ e. other (cc (c.in_default.is, is, e))) p) c.release.ensures.call)

pub returns-in_default-2-clause-made : goal.returns-in_default-2-clause-made
returns-in_default-2-clause-made g c = rw c.in-Release.is (tried-on c.args.self.now _ _ _ _ _ _ _ _ (λ m a p. p.0) (λ m f is p. absurd (cc (c.in_default.is, is))) c.release.ensures.call)

pub returns-after-take-clause-made : goal.returns-after-take-clause-made
returns-after-take-clause-made g c = elim c.match-take.branch [
  | in-Err-NoMemory-take w ↦ rw w.result-is tt
  | in_default-take w ↦ let other : (w.in_default-take.field-0 ≡ take_refusals.NoMemory) → ⊥ = search rules in
      rw (w.result-is, c.in-Take.is) (tried-on c.args.self.now _ _ _ _ _ _ _ _ (λ m a p. (a.items, p))
      (λ m f is p. not-taken g.J.Journal.grows c.in-Take.apid m f (λ e. other (cc (w.in_default-take.is, is, e))) p) c.take.ensures.call)
  | in_default-take-2 w ↦ rw (w.result-is, c.in-Take.is) (tried-on c.args.self.now _ _ _ _ _ _ _ _ (λ m a p. (a.items, p)) (λ m f is p. absurd (cc (w.in_default-take.is, is))) c.take.ensures.call)
]

pub returns-after-take-clause-kept : goal.returns-after-take-clause-kept
returns-after-take-clause-kept g c = elim c.match-take.branch [
  | in-Err-NoMemory-take w ↦ rw w.result-is (refused-on c.args.self.now _ _ _ _ _ _ _ _ _ w.in-Err-NoMemory-take.is c.take.ensures.call)
  | in_default-take w ↦ rw w.result-is tt
  | in_default-take-2 w ↦ rw w.result-is tt
]

pub returns-after-take_unit-clause-made : goal.returns-after-take_unit-clause-made
returns-after-take_unit-clause-made g c = elim c.match-take_unit.branch [
  | in-Err-NoMemory-take_unit w ↦ rw w.result-is tt
  | in_default-take_unit w ↦ let other : (w.in_default-take_unit.field-0 ≡ unit_refusals.NoMemory) → ⊥ = search rules in
      rw (w.result-is, c.in-TakeUnit.is) (tried-on c.args.self.now _ _ _ _ _ _ _ _ (λ m a p. (a.items, p))
      (λ m f is p. unit-not-taken g.J.Journal.grows c.in-TakeUnit.map m f (λ e. other (cc (w.in_default-take_unit.is, is, e))) p) c.take_unit.ensures.call)
  | in_default-take_unit-2 w ↦ rw (w.result-is, c.in-TakeUnit.is) (tried-on c.args.self.now _ _ _ _ _ _ _ _ (λ m a p. (a.items, p)) (λ m f is p. absurd (cc (w.in_default-take_unit.is, is))) c.take_unit.ensures.call)
]

pub returns-after-take_unit-clause-kept : goal.returns-after-take_unit-clause-kept
returns-after-take_unit-clause-kept g c = elim c.match-take_unit.branch [
  | in-Err-NoMemory-take_unit w ↦ rw w.result-is (refused-on c.args.self.now _ _ _ _ _ _ _ _ _ w.in-Err-NoMemory-take_unit.is c.take_unit.ensures.call)
  | in_default-take_unit w ↦ rw w.result-is tt
  | in_default-take_unit-2 w ↦ rw w.result-is tt
]
