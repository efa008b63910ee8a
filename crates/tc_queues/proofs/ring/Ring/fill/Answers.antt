use Rattle.std.proofs.Common.{◌≡◌, length, map, ap, ◌∙◌, arith}
use Rattle.tc_queues.proofs.Names.{Contents, contents_of, length-map, map-set, map-set_same}
use Rattle.std.specs.Prelude.{set}
use Rattle.tc_queues.specs.Rooms.{HaveSize}
use Rattle.tc_packet.proofs.Sizes.{on-ok, on-err}
use Rattle.tc_queues.proofs.Waiting.{got, is-there, size-got}
use Rattle.tc_queues.proofs.ring.Ring.fill.Goals as goal

pub fill-requires : goal.fill-requires
fill-requires g c =
    let xs = c.self.inside.rooms.items in
    let sizes : HaveSize c.args.size (map g.R.Room.contents xs) = rw c.self.view_is c.requires.sizes in
    let same = size-got g.R.Room.contents c.args.size xs c.args.place c.in-Some.room.now sizes c.in-Some.ensures.value in
    rw same c.requires.fits

pub unreachable-requires : goal.unreachable-requires
unreachable-requires g c =
    let xs = c.self.inside.rooms.items in
    let l = length-map xs g.R.Room.contents in
    let v : length (map g.R.Room.contents xs) ≡ length c.args.self.now = ap length c.self.view_is in
    let place = c.requires.place in
    is-there xs c.args.place (omega arith) c.in-None.ensures.value

pub returns-clause-filled : goal.returns-clause-filled
returns-clause-filled g c =
    let xs = c.self.inside.rooms.items in
    let sizes : HaveSize c.args.size (map g.R.Room.contents xs) = rw c.self.view_is c.requires.sizes in
    let same = size-got g.R.Room.contents c.args.size xs c.args.place c.in-Some.room.now sizes c.in-Some.ensures.value in
    rw (← c.self.view_is) (on-ok c.fill.result (λ filled. map-set g.R.Room.contents xs c.args.place c.fill.new.self
    ∙ ap (λ (x : Contents). set (map g.R.Room.contents xs) c.args.place x) (filled ∙ ap (contents_of c.args.octets.now) same)) c.fill.ensures.filled)

pub returns-clause-refused : goal.returns-clause-refused
returns-clause-refused g c =
    let xs = c.self.inside.rooms.items in
    rw (← c.self.view_is)
    (on-err c.fill.result (λ same. map-set_same g.R.Room.contents xs c.args.place c.fill.new.self c.in-Some.room.now (same ∙ ap g.R.Room.contents (got xs c.args.place c.in-Some.room.now c.in-Some.ensures.value))) c.fill.ensures.refused)
