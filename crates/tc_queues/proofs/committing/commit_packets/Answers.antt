use Rattle.tc_queues.proofs.Names.{ℕ, length, sym, subst, ap, ◌∙◌, boxed_slice_items, packets_of, AreStagedOf, looks, pass_steps}
use Rattle.tc_queues.proofs.Counts.{pass-step, cut-one, looks-same, same-count}
use Rattle.tc_queues.proofs.Contents.{committed-same, all-committed-of}
use Rattle.tc_queues.proofs.committing.commit_packets.Goals as goal

pub returns-then-not-may_ask-clause-committed : goal.returns-then-not-may_ask-clause-committed
returns-then-not-may_ask-clause-committed g c = sym (committed-same (boxed_slice_items c.args.queues.now) (c.requires.committed (sym c.may_ask.ensures ∙ c.if-not-may_ask.true)))

pub returns-clause-committed : goal.returns-clause-committed
returns-clause-committed g c = sym (committed-same (boxed_slice_items c.loop-packet.queues) (all-committed-of (boxed_slice_items c.loop-packet.queues) (subst (λ ps. AreStagedOf ps (boxed_slice_items c.loop-packet.queues)) c.in_default.ensures.no_packets c.loop-packet.invariant.among))) ∙ c.loop-packet.invariant.committed

pub loop-packet-preserved : goal.loop-packet-preserved
loop-packet-preserved g c =
    let i = c.loop-packet.invariant in
    let one : ℕ = looks (boxed_slice_items c.args.queues.now) c.args.table.now in
    record {
      among = c.commit_packet.ensures.among (packets_of c.in-Some.after.now) (rw c.in-Some.ensures.packets at i.among);
      committed = c.commit_packet.ensures.committed ∙ i.committed;
      cost = cut-one (g.C.Tick.taken c.args.steps.now) (pass_steps (length (packets_of c.args.unit.now)) one) (g.C.Tick.taken c.loop-packet.steps) (pass_steps (length (packets_of c.loop-packet.rest.now)) one) (pass_steps (length (packets_of c.in-Some.after.now)) one) one (g.C.Tick.taken c.tick.new.self)
          (looks (boxed_slice_items c.loop-packet.queues) c.args.table.now) (g.C.Tick.taken c.commit_packet.new.steps) (ap (λ n. pass_steps n one) (ap length c.in-Some.ensures.packets) ∙ pass-step (length (packets_of c.in-Some.after.now)) one) c.loop-packet.invariant.cost c.tick.ensures.most c.commit_packet.ensures.cost
          (looks-same (boxed_slice_items c.loop-packet.queues) (boxed_slice_items c.args.queues.now) c.args.table.now (same-count (boxed_slice_items c.loop-packet.queues) (boxed_slice_items c.args.queues.now) c.loop-packet.invariant.keys));
      keys = c.commit_packet.ensures.keys ∙ i.keys;
    }
