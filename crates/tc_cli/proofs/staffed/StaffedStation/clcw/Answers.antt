use Rattle.std.proofs.Common.{arith, set, subst}
use Rattle.tc_rack.specs.declared.answer.Answer.TheVariants.{Clcw}
use Rattle.tc_cli.specs.Staffed.{Staffed, IsWordAnswer}
use Rattle.tc_cli.proofs.Watching.{meets-of, read-of, watched-place, watcher-set, word-answered}
use Rattle.tc_cli.proofs.staffed.StaffedStation.clcw.Goals as goal

pub index_mut-watcher-requires : goal.index_mut-watcher-requires
index_mut-watcher-requires c =
    let i = c.self.invariant in
    let inside = watched-place c.self.inside.station c.self.inside.watchers.items c.in-Some.place c.args.vcid i.3 i.5 c.in-Some.ensures in
    omega (arith, inside, c.self.inside.watchers.ok.0)

pub invariant_of-self : goal.invariant_of-self
invariant_of-self c =
    let i = c.self.invariant in
    let e = c.watch-word.ensures in
    let at = meets-of c.self.inside.station c.self.inside.watchers.items c.in-Some.place c.args.vcid c.index_mut-watcher.result.now i.3 i.5 c.in-Some.ensures c.index_mut-watcher.ensures.value in (
      i.0,
      i.1,
      i.2,
      i.3,
      i.4,
      watcher-set c.self.inside.station c.self.inside.watchers.items c.in-Some.place c.index_mut-watcher.result.now c.watch-word.new.watcher i.5 at.0
          (read-of c.self.inside.station c.in-Some.place c.index_mut-watcher.result.now c.watch-word.new.watcher at.1 e.board e.later),
    )

pub returns : goal.returns
returns c =
    let i = c.self.invariant in
    let e = c.watch-word.ensures in
    let at = meets-of c.self.inside.station c.self.inside.watchers.items c.in-Some.place c.args.vcid c.index_mut-watcher.result.now i.3 i.5 c.in-Some.ensures c.index_mut-watcher.ensures.value in
    record {
      answer = subst
          (λ (m : Staffed). IsWordAnswer c.args.vcid m (Clcw c.args.vcid c.watch-word.result) (record { station = c.self.inside.station; operator = c.self.inside.operator; watchers = set c.self.inside.watchers.items c.in-Some.place c.watch-word.new.watcher }))
          c.self.view_is
          (word-answered c.self.inside.station c.self.inside.operator c.self.inside.watchers.items c.in-Some.place c.args.vcid c.watch-word.result c.index_mut-watcher.result.now c.watch-word.new.watcher c.in-Some.ensures at.0 at.1 e.later e.lawful e.word);
    }
