use Rattle.tc_queues.proofs.Names.{refl, boxed_slice_items, keys_of, rings_in}
use Rattle.tc_queues.proofs.Passes.{is-for, no-queue}
use Rattle.tc_queues.proofs.Contents.{passed-none, passed-one}
use Rattle.tc_queues.proofs.committing.commit_packet.Goals as goal

pub returns-in_default-clause-among : goal.returns-in_default-clause-among
returns-in_default-clause-among g c = λ left all. passed-none (boxed_slice_items c.args.queues.now) c.args.packet.now.octets.now left
    (no-queue c.args.packet.now (keys_of (rings_in (boxed_slice_items c.args.queues.now))) c.requires.fields (rw c.deref.ensures.value at c.in_default.ensures.none)) all

pub returns-clause-among : goal.returns-clause-among
returns-clause-among g c = λ left all.
    let some = rw c.deref.ensures.value at c.in-Some.ensures.some in
    passed-one (boxed_slice_items c.args.queues.now) c.in-Some.place c.args.packet.now.apid c.index_mut.result.now _ c.args.packet.now.octets.now left c.requires.distinct some.0 c.index_mut.ensures.value c.commit.ensures some.1
    (is-for c.args.packet.now c.args.packet.now.apid c.requires.fields c.if-not-packet.false refl) all
