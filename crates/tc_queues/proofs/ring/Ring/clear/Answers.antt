use Rattle.std.proofs.Common.{[], map, ap, ◌∙◌}
use Rattle.tc_queues.proofs.Names.{Contents, contents_of, map-set}
use Rattle.std.specs.Prelude.{set}
use Rattle.tc_queues.specs.Rooms.{HaveSize}
use Rattle.tc_queues.proofs.Waiting.{size-got}
use Rattle.tc_queues.proofs.ring.Ring.clear.Goals as goal

pub returns : goal.returns
returns g c =
    let xs = c.self.inside.rooms.items in
    let sizes : HaveSize c.args.size (map g.R.Room.contents xs) = rw c.self.view_is c.requires.sizes in
    let same = size-got g.R.Room.contents c.args.size xs c.args.place c.in-Some.room.now sizes c.in-Some.ensures.value in
    rw (← c.self.view_is) (map-set g.R.Room.contents xs c.args.place c.clear.new.self
    ∙ ap (λ (x : Contents). set (map g.R.Room.contents xs) c.args.place x) (c.clear.ensures.cleared ∙ ap (contents_of []) same))
