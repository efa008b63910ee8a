use Rattle.std.proofs.Common.{◌≡◌, ◌<◌, length, ap, ◌∙◌, refl, arith}
use Rattle.tc_queues.proofs.Names.{common_steps, contents_of}
use Rattle.tc_queues.proofs.Waiting.{none-staged, put-behind}
use Rattle.std.proofs.lemmas.List.{length-set}
use Rattle.tc_queues.proofs.slots.Slots.put.Goals as goal

pub returns-clause-put : goal.returns-clause-put
returns-clause-put g c =
    let i = c.self.inside in
    let lt : i.waiting < length i.ring = grind (arith, common_steps) in
    let same : length c.fill.new.self ≡ length i.ring = ap length c.in_ok-fill.ensures.filled ∙ length-set i.ring i.waiting (contents_of c.args.octets.now i.size) in
    rw same (put-behind (length i.ring) i.waiting i.staged i.size i.ring c.fill.new.self c.args.octets.now c.args.self.now c.self.invariant lt c.in_ok-fill.ensures.filled c.self.view_is c.requires.committed)

pub returns-clause-committed : goal.returns-clause-committed
returns-clause-committed g c =
    let i = c.self.inside in
    rw (none-staged (length i.ring) i.waiting i.staged i.size i.ring c.self.invariant c.args.self.now c.self.view_is c.requires.committed) refl
