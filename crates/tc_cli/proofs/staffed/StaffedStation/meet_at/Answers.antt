use Rattle.std.proofs.Common.{◌<◌, length, set, subst, sym}
use Rattle.tc_cli.specs.Staffed.{Staffed, HasMetAt}
use Rattle.tc_station.proofs.Meetings.{at-place}
use Rattle.tc_cli.proofs.Watching.{has-met, meets-at, watcher-set}
use Rattle.tc_cli.proofs.staffed.StaffedStation.meet_at.Goals as goal

pub meet-requires-clause-watcher : goal.meet-requires-clause-watcher
meet-requires-clause-watcher g c =
    let i = c.self.invariant in
    let inside = subst (λ (m : Staffed). c.args.place < length m.watchers) (sym c.self.view_is) c.requires in
    (meets-at c.self.inside.station c.self.inside.watchers.items c.self.inside.vcids.items c.args.place c.index-vcid.result.now c.index_mut-watcher.result.now i.3 i.4 i.5 inside c.index-vcid.ensures c.index_mut-watcher.ensures.value).2

pub invariant_of-self : goal.invariant_of-self
invariant_of-self g c =
    let i = c.self.invariant in
    let inside = subst (λ (m : Staffed). c.args.place < length m.watchers) (sym c.self.view_is) c.requires in
    let at = meets-at c.self.inside.station c.self.inside.watchers.items c.self.inside.vcids.items c.args.place c.index-vcid.result.now c.index_mut-watcher.result.now i.3 i.4 i.5 inside c.index-vcid.ensures c.index_mut-watcher.ensures.value in (
      c.meet.ensures.ours,
      i.1,
      c.meet.ensures.knows,
      i.3,
      i.4,
      watcher-set c.self.inside.station c.self.inside.watchers.items c.args.place c.index_mut-watcher.result.now c.meet.new.watcher i.5 at.1
          (at-place c.self.inside.station c.args.place c.index-vcid.result.now c.meet.new.watcher at.0 c.meet.ensures.watcher),
    )

pub returns-clause-met : goal.returns-clause-met
returns-clause-met g c =
    let i = c.self.invariant in
    let inside = subst (λ (m : Staffed). c.args.place < length m.watchers) (sym c.self.view_is) c.requires in
    let at = meets-at c.self.inside.station c.self.inside.watchers.items c.self.inside.vcids.items c.args.place c.index-vcid.result.now c.index_mut-watcher.result.now i.3 i.4 i.5 inside c.index-vcid.ensures c.index_mut-watcher.ensures.value in
    subst
    (λ (m : Staffed). HasMetAt c.args.place m (record { station = c.self.inside.station; operator = c.meet.new.operator; watchers = set c.self.inside.watchers.items c.args.place c.meet.new.watcher }))
    c.self.view_is
    (has-met c.self.inside.station c.self.inside.operator c.meet.new.operator c.self.inside.watchers.items c.args.place c.index-vcid.result.now c.index_mut-watcher.result.now c.meet.new.watcher at.0 at.1 c.meet.ensures.met)
