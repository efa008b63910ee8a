use Rattle.std.proofs.Common.{arith, refl, set, subst, sym}
use Rattle.tc_cli.proofs.Names.{IsStaffedCall, IsPlace, Staffed}
use Rattle.tc_cli.proofs.Watching.{meets-of, watched-place, watcher-set}
use Rattle.tc_cli.proofs.staffed.StaffedStation.operate_met.Goals as goal

pub index_mut-watcher-requires : goal.index_mut-watcher-requires
index_mut-watcher-requires g c =
    let i = c.self.invariant in
    let here = subst (λ (m : Staffed). IsPlace m.station c.args.vcid c.args.place) (sym c.self.view_is) c.requires in
    let inside = watched-place c.self.inside.station c.self.inside.watchers.items c.args.place c.args.vcid i.3 i.5 here in
    omega (arith, inside, c.self.inside.watchers.ok.0)

pub operate_met-requires-clause-watcher : goal.operate_met-requires-clause-watcher
operate_met-requires-clause-watcher g c =
    let i = c.self.invariant in
    let here = subst (λ (m : Staffed). IsPlace m.station c.args.vcid c.args.place) (sym c.self.view_is) c.requires in
    (meets-of c.self.inside.station c.self.inside.watchers.items c.args.place c.args.vcid c.index_mut-watcher.result.now i.3 i.5 here c.index_mut-watcher.ensures.value).1

pub invariant_of-self : goal.invariant_of-self
invariant_of-self g c =
    let i = c.self.invariant in
    let here = subst (λ (m : Staffed). IsPlace m.station c.args.vcid c.args.place) (sym c.self.view_is) c.requires in
    let at = meets-of c.self.inside.station c.self.inside.watchers.items c.args.place c.args.vcid c.index_mut-watcher.result.now i.3 i.5 here c.index_mut-watcher.ensures.value in (
      c.operate_met.ensures.ours,
      i.1,
      c.operate_met.ensures.knows,
      i.3,
      i.4,
      watcher-set c.self.inside.station c.self.inside.watchers.items c.args.place c.index_mut-watcher.result.now c.operate_met.new.watcher i.5 at.0 c.operate_met.ensures.watcher,
    )

pub returns-clause-call : goal.returns-clause-call
returns-clause-call g c =
    let i = c.self.invariant in
    let q = c.args.operation.now in
    let here = subst (λ (m : Staffed). IsPlace m.station c.args.vcid c.args.place) (sym c.self.view_is) c.requires in
    let at = meets-of c.self.inside.station c.self.inside.watchers.items c.args.place c.args.vcid c.index_mut-watcher.result.now i.3 i.5 here c.index_mut-watcher.ensures.value in
    let after : Staffed = record { station = c.self.inside.station; operator = c.operate_met.new.operator; watchers = set c.self.inside.watchers.items c.args.place c.operate_met.new.watcher } in
    subst
    (λ (m : Staffed). IsStaffedCall {R = g.row.O-Answer.Denot} {F = g.row.O-Fault.Denot} c.args.place c.args.vcid (g.O.Operation.event q) (g.O.Operation.answers q) (g.O.Operation.refuses q) m c.operate_met.result after)
    c.self.view_is
    (record { early = c.index_mut-watcher.result.now; late = c.operate_met.new.watcher; watched = at.0; call = c.operate_met.ensures.call c.args.vcid here; watchers = refl; station = refl })
