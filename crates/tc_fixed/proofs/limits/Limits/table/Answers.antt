use Rattle.std.proofs.Common.{◌∙◌, ◌<◌, length, arith}
use Rattle.std.proofs.lemmas.List.{length-set}
use Rattle.tc_fixed.specs.Limits.{limit_of}
use Rattle.tc_fixed.proofs.ByMap.{each-small, small-set, table-next}
use Rattle.tc_fixed.proofs.limits.Limits.table.Goals as goal

pub loop-map-preserved : goal.loop-map-preserved
loop-map-preserved c =
    let inside : c.loop-map.map < length c.loop-map.table = (let size = c.loop-map.invariant.size in let lt = c.loop-map-test.true in omega arith) in
    record {
      size = length-set c.loop-map.table c.loop-map.map c.of.result ∙ c.loop-map.invariant.size;
      small = small-set c.loop-map.table c.loop-map.map c.of.result c.loop-map.invariant.small (let s = each-small c.args.self.now c.loop-map.map c.requires.octets c.requires.others in let e = c.of.ensures in omega arith);
      below = table-next (limit_of c.args.self.now) c.loop-map.table c.loop-map.map c.of.result inside c.of.ensures c.loop-map.invariant.below;
    }
