use Rattle.std.proofs.Common.{refl, arith}
use Rattle.tc_rack.proofs.Additions.{bad-map, double-map, bad-units, plain-map, map-allowed}
use Rattle.tc_rack.proofs.configuration.check_map.Goals.{then-map-lt1-via-then-map-lt1, then-map-lt1-via-else-map-lt1+then-map-gt256}
use Rattle.tc_rack.proofs.configuration.check_map.Goals as goal

pub returns-then-map-gt63 : goal.returns-then-map-gt63
returns-then-map-gt63 c = bad-map c.args.settings.now c.requires c.args.map (λ fits. absurd (omega (arith, c.if-map-gt63.true, fits)))

pub returns-then-has_map : goal.returns-then-has_map
returns-then-has_map c =
    let there = rw c.deref.ensures at c.if-has_map.ensures in
    double-map c.args.settings.now c.requires c.args.map (omega (arith, c.if-map-gt63.false)) (there.0 refl)

pub returns-then-map-lt1 : goal.returns-then-map-lt1
returns-then-map-lt1 c =
    let new = rw c.deref.ensures at c.if-has_map.ensures in
    bad-units c.args.settings.now c.requires c.args.map (omega (arith, c.if-map-gt63.false)) (λ there. absurd (let t = new.1 there in cc))
    (λ fits. elim c.then-map-lt1.branch [
      | then-map-lt1-via-then-map-lt1 w ↦ absurd (omega (arith, w.if-map-lt1.true, fits.0))
      | then-map-lt1-via-else-map-lt1+then-map-gt256 w ↦ absurd (omega (arith, w.if-map-gt256.true, fits.1))
    ])

pub returns-then-not-settings : goal.returns-then-not-settings
returns-then-not-settings c =
    let new = rw c.deref.ensures at c.if-has_map.ensures in
    plain-map c.args.settings.now c.requires c.args.map (omega (arith, c.if-map-gt63.false)) (λ there. absurd (let t = new.1 there in cc))
    (omega (arith, c.if-map-lt1.false), omega (arith, c.if-map-gt256.false)) c.if-not-settings.true

pub returns : goal.returns
returns c =
    let new = rw c.deref.ensures at c.if-has_map.ensures in
    map-allowed c.args.settings.now c.requires c.args.map (omega (arith, c.if-map-gt63.false)) (λ there. absurd (let t = new.1 there in cc))
    (omega (arith, c.if-map-lt1.false), omega (arith, c.if-map-gt256.false)) c.if-not-settings.false
