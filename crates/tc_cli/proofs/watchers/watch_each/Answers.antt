use Rattle.std.proofs.Common.{rules}
use Rattle.tc_cli.proofs.Watching.{one-watcher-more}
use Rattle.tc_cli.proofs.watchers.watch_each.Goals as goal

pub loop-vcid-preserved : goal.loop-vcid-preserved
loop-vcid-preserved g c =
    let i = c.loop-vcid.invariant in
    record {
      each = one-watcher-more c.args.station.now c.args.vcids.now c.loop-vcid.watchers.items c.push_reserved.new.self.items c.in_ok-watch_one.field-0 c.loop-vcid.vcid-index _ c.requires.ordered c.requires.all
          c.push_reserved.ensures.items (search rules) (search rules) (search rules) i.each c.in_ok-watch_one.ensures.own;
      count = search rules;
      room = search rules;
    }
