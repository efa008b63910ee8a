use Rattle.std.proofs.Common.{◌≡◌, ◌+◌, ◌<◌, length, ap, ◌∙◌, arith}
use Rattle.tc_queues.proofs.Names.{common_steps, contents_of}
use Rattle.tc_queues.proofs.Waiting.{staged-behind}
use Rattle.std.proofs.lemmas.List.{length-set}
use Rattle.tc_queues.proofs.slots.Slots.stage.Goals as goal

pub returns-clause-staged : goal.returns-clause-staged
returns-clause-staged g c =
    let i = c.self.inside in
    let lt : i.waiting + i.staged < length i.ring = grind (arith, common_steps) in
    let same : length c.fill.new.self ≡ length i.ring = ap length c.in_ok-fill.ensures.filled ∙ length-set i.ring (i.waiting + i.staged) (contents_of c.args.octets.now i.size) in
    rw same (staged-behind (length i.ring) i.waiting i.staged i.size i.ring c.self.invariant c.fill.new.self c.args.octets.now c.args.self.now lt c.in_ok-fill.ensures.filled c.self.view_is)
