use Rattle.tc_station.proofs.Names.{◌∙◌, ℕ, sym, ap, subst, arith, Roster, HaveIssued, settings_in, operator_lists_of}
use Rattle.tc_station.proofs.OwnedDesks.{are-ours, closed-settings, ids-same, issued-same, length-same, settings-heads, station-cause}
use Rattle.tc_station.proofs.station.StationOf.close_together.Goals as goal

pub close_together-requires : goal.close_together-requires
close_together-requires g c =
    record { ours = are-ours c.args.self c.self.inside.desks.items c.args.operators.items (sym (ap (λ (r : Roster). r.locks) c.self.view_is)) c.requires.ours }

pub invariant_of-station : goal.invariant_of-station
invariant_of-station g c =
    let old = c.self.inside.desks in
    let new = c.in-Err.left.owned_desks in
    let same = c.in-Err.ensures.kept.0 in
    let long = length-same old.items new.items same in
    let as-many = c.self.invariant.0 in
    let one = old.ok.0 in let two = new.ok.0 in
    (omega (arith, long, as-many, one, two), ids-same c.self.inside.vcids old.items new.items c.self.invariant.1 same, issued-same c.self.inside.issued old.items new.items c.self.invariant.2 same)

pub returns-in-Ok-clause-channels : goal.returns-in-Ok-clause-channels
returns-in-Ok-clause-channels g c =
    closed-settings c.self.inside.desks.items (operator_lists_of c.args.operators.items) c.in-Ok.channels.items c.in-Ok.ensures.closed
    ∙ (settings-heads c.self.inside.desks.items ∙ ap (λ (r : Roster). settings_in r) c.self.view_is)

pub returns-in-Ok-clause-closed : goal.returns-in-Ok-clause-closed
returns-in-Ok-clause-closed g c =
    let desks = c.self.inside.desks.items in
    let is = c.self.view_is in
    let have : HaveIssued c.args.self.issued desks = subst (λ (n : ℕ). HaveIssued n desks) (ap (λ (r : Roster). r.issued) is) c.self.invariant.2 in
    (desks, (ap (λ (r : Roster). r.locks) is, ap (λ (r : Roster). r.heads) is, have), c.in-Ok.ensures.closed)

pub returns-in-Err-clause-cause : goal.returns-in-Err-clause-cause
returns-in-Err-clause-cause g c =
    let desks = c.self.inside.desks.items in
    let have : HaveIssued c.args.self.issued desks = subst (λ (n : ℕ). HaveIssued n desks) (ap (λ (r : Roster). r.issued) c.self.view_is) c.self.invariant.2 in
    λ unbalanced. station-cause c.args.self desks c.args.operators.items have (c.in-Err.ensures.cause unbalanced)
