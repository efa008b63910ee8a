use Rattle.std.proofs.Common.{refl, ap, ◌∙◌}
use Rattle.tc_packet.proofs.Names.{boxed_slice_items, map-set_same, open_in}
use Rattle.tc_packet.proofs.Stores.{same-sizes}
use Rattle.tc_packet.proofs.Sizes.{on-err}
use Rattle.tc_packet.proofs.runs.follow_at.Goals as goal

pub returns-clause-written : goal.returns-clause-written
returns-clause-written g c = record {
  next = c.follow.new.self;
  is = refl;
  sizes = same-sizes (boxed_slice_items c.args.runs.now) c.args.at c.index_mut-run.result.now c.follow.new.self c.requires c.index_mut-run.ensures.value c.follow.ensures.size;
}

pub returns-clause-refused : goal.returns-clause-refused
returns-clause-refused g c = on-err c.follow.result (λ same. map-set_same open_in (boxed_slice_items c.args.runs.now) c.args.at c.follow.new.self c.index_mut-run.result.now (same ∙ ap open_in c.index_mut-run.ensures.value)) c.follow.ensures.refused
