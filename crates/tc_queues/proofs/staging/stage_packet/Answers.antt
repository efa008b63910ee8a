use Rattle.tc_queues.proofs.Names.{◌<◌, length, refl, sym, subst, arith, boxed_slice_items, length-map, keys_of, AreDistinct, staged_in, all_staged_in, rings_in}
use Rattle.tc_queues.proofs.Passes.{NoneFor, is-for, not-telecommand, no-queue}
use Rattle.tc_queues.proofs.InRooms.{same-keys}
use Rattle.tc_queues.proofs.Ways.{way-none, way-full, way-put}
use Rattle.tc_queues.proofs.staging.stage_packet.Goals as goal

pub returns-then-not-packet-clause-way : goal.returns-then-not-packet-clause-way
returns-then-not-packet-clause-way g c = λ base left all n k. way-none base (all_staged_in (boxed_slice_items c.args.queues.now)) c.args.packet.now.octets.now left all n
    (not-telecommand c.args.packet.now (keys_of (all_staged_in (boxed_slice_items c.args.queues.now))) c.requires.fields c.if-not-packet.true) k

pub returns-in_default-clause-way : goal.returns-in_default-clause-way
returns-in_default-clause-way g c = λ base left all n k. way-none base (all_staged_in (boxed_slice_items c.args.queues.now)) c.args.packet.now.octets.now left all n
    (subst (NoneFor c.args.packet.now.octets.now) (sym (same-keys (boxed_slice_items c.args.queues.now))) (no-queue c.args.packet.now (keys_of (rings_in (boxed_slice_items c.args.queues.now))) c.requires.fields (rw c.deref.ensures.value at c.in_default.ensures.none))) k

pub returns-then-full-clause-way : goal.returns-then-full-clause-way
returns-then-full-clause-way g c = λ base left all n k.
    let keys = sym (same-keys (boxed_slice_items c.args.queues.now)) in
    let full = c.is_full_at-full.ensures.full c.if-full.true in
    let some = rw c.deref.ensures.value at c.in-Some.ensures.some in
    let lt = some.0 in
    let inside : c.in-Some.place < length (all_staged_in (boxed_slice_items c.args.queues.now)) = omega (arith, length-map (boxed_slice_items c.args.queues.now) staged_in, lt) in
    way-full base (all_staged_in (boxed_slice_items c.args.queues.now)) c.args.packet.now.octets.now left all n c.in-Some.place c.args.packet.now.apid (subst AreDistinct keys c.requires.distinct) inside
    (rw keys at some.1)
    (is-for c.args.packet.now c.args.packet.now.apid c.requires.fields c.if-not-packet.false refl) full k

pub returns-then-put-clause-way : goal.returns-then-put-clause-way
returns-then-put-clause-way g c = λ base left all n k.
    let keys = sym (same-keys (boxed_slice_items c.args.queues.now)) in
    let done = c.in_ok-put.ensures.put.done c.if-put.true in
    let some = rw c.deref.ensures.value at c.in-Some.ensures.some in
    let lt = some.0 in
    let inside : c.in-Some.place < length (all_staged_in (boxed_slice_items c.args.queues.now)) = omega (arith, length-map (boxed_slice_items c.args.queues.now) staged_in, lt) in
    way-put base (all_staged_in (boxed_slice_items c.args.queues.now)) (all_staged_in (boxed_slice_items c.stage_at.new.queues)) c.args.packet.now.octets.now left all n c.in-Some.place c.args.packet.now.apid (subst AreDistinct keys c.requires.distinct) inside
    (rw keys at some.1)
    (is-for c.args.packet.now c.args.packet.now.apid c.requires.fields c.if-not-packet.false refl) done.1 done.0 k

pub returns-clause-way : goal.returns-clause-way
returns-clause-way g c = λ base left all n k.
    let keys = sym (same-keys (boxed_slice_items c.args.queues.now)) in
    let full = c.in_ok-put.ensures.put.full c.if-put.false in
    let some = rw c.deref.ensures.value at c.in-Some.ensures.some in
    let lt = some.0 in
    let inside : c.in-Some.place < length (all_staged_in (boxed_slice_items c.args.queues.now)) = omega (arith, length-map (boxed_slice_items c.args.queues.now) staged_in, lt) in
    rw full.0 (way-full base (all_staged_in (boxed_slice_items c.args.queues.now)) c.args.packet.now.octets.now left all n c.in-Some.place c.args.packet.now.apid (subst AreDistinct keys c.requires.distinct) inside
    (rw keys at some.1)
    (is-for c.args.packet.now c.args.packet.now.apid c.requires.fields c.if-not-packet.false refl) full.1 k)

pub returns-then-put-clause-among : goal.returns-then-put-clause-among
returns-then-put-clause-among g c = λ packets more.
    c.stage_at.ensures.among _ packets (rw c.deref.ensures.value at c.in-Some.ensures.some).1 (more _ (is-for c.args.packet.now _ c.requires.fields c.if-not-packet.false refl))

pub returns-clause-among : goal.returns-clause-among
returns-clause-among g c = λ packets more.
    c.stage_at.ensures.among _ packets (rw c.deref.ensures.value at c.in-Some.ensures.some).1 (more _ (is-for c.args.packet.now _ c.requires.fields c.if-not-packet.false refl))

pub returns-in_err-put-clause-among : goal.returns-in_err-put-clause-among
returns-in_err-put-clause-among g c = λ packets more.
    c.stage_at.ensures.among _ packets (rw c.deref.ensures.value at c.in-Some.ensures.some).1 (more _ (is-for c.args.packet.now _ c.requires.fields c.if-not-packet.false refl))
