use Rattle.tc_make.proofs.Names.{arith, on_ok_weaker, sym, ◌<◌}
use Rattle.std.proofs.lemmas.Option.{slice_get_read}
use Rattle.tc_make.proofs.Fed.{slot-done}
use Rattle.tc_make.specs.Decoders.{IsSearching}
use Rattle.tc_make.proofs.decoders.Decoders.write_search.Goals as goal

pub returns : goal.returns
returns g c =
    let items = c.self.inside.slots.items in let was = c.index_mut-slot.result.now in let at = c.from.result in
    let same = c.from.ensures in
    let within : at < 256 = omega arith in
    on_ok_weaker c.search.result
    (slot-done IsSearching c.args.self.now items c.args.id at was c.search.new.slot _ _
    c.self.view_is c.from.ensures (slice_get_read items 256 at was (sym c.self.invariant) within c.index_mut-slot.ensures.value))
    c.search.ensures
