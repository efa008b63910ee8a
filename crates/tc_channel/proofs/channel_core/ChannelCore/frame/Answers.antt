use Rattle.tc_channel.proofs.Names.{drop, ◌≡◌, ◌∷◌, [], ◌++◌, nat_lt, ◌∙◌, ap, refl, inl, inr, arith, length-drop, frame_row, number_of, accepts, Frame, rings_in, run_within, row_of, open_runs}
use Rattle.std.proofs.lemmas.List.{take_rest}
use Rattle.tc_channel.specs.Reply.{frame_reply_within}
use Rattle.tc_channel.specs.Steps.{frame_steps_within}
use Rattle.tc_channel.proofs.AtWork.{can-pass, holds-on, on-err, queue-count, still-holds, unit-count}
use Rattle.tc_channel.proofs.Stored.{row-is, can-enter, frame-keeps}
use Rattle.tc_channel.proofs.Plain.{run-limit}
use Rattle.tc_channel.proofs.Shares.{frame-delivery, frame-unit}
use Rattle.tc_channel.proofs.Within.{ends-at-once-is, follows-kind-is}
use Rattle.tc_channel.proofs.channel_core.ChannelCore.frame.Goals as goal

pub pass_bypass-requires-clause-rooms : goal.pass_bypass-requires-clause-rooms
pass_bypass-requires-clause-rooms g c = can-pass c.self.invariant.3

pub step-act-requires : goal.step-act-requires
step-act-requires g c =
    let k = c.self.invariant.3.holds in
    can-enter c.args.frame.now _ c.each_arrival_has_an_entry.ensures.frame k
    (row-is c.args.frame.now c.kind-kind.result c.len.result c.capacity.result k c.kind-kind.ensures c.len.ensures.len c.capacity.ensures.capacity)

pub put_field-requires-clause-field : goal.put_field-requires-clause-field
put_field-requires-clause-field g c =
    let most = c.octets.ensures.whole.most in
    rw (c.self.invariant.3.field_size, take_rest c.octets.result.now 5, c.octets.ensures.octets) (omega (arith, length-drop 5 c.args.frame.now))

pub returns-clause-done : goal.returns-clause-done
returns-clause-done g c = λ limits s journal k_now.
    let f = c.self.inside in
    let k = rw (← c.self.view_is) at k_now in
    let d = c.in_ok-delivery.ensures.delivered in
    holds-on _ _ k
    (frame-keeps _ c.in_ok-delivery.delivery d.0 c.kind-kind.result c.args.frame.now
    (frame_row f.farm.width f.farm.report.vr c.kind-kind.result (nat_lt c.len.result c.capacity.result)) c.step-act.result
    c.each_arrival_has_an_entry.ensures.frame k.holds c.kind-kind.ensures (follows-kind-is limits f.runs c.kind-kind.result (open_runs c.pass_bypass.new.runs) (drop 5 c.args.frame.now) k.limits_are (rw (take_rest c.octets.result.now 5, c.octets.ensures.octets) at c.in_ok-delivery.ensures.follows)) (ends-at-once-is limits f.runs c.kind-kind.result (drop 5 c.args.frame.now) d.0 k.limits_are (rw (take_rest c.octets.result.now 5, c.octets.ensures.octets) at d.1))
    (rw (take_rest c.octets.result.now 5, c.octets.ensures.octets) at d.2) c.octets.ensures.whole
    (row-is c.args.frame.now c.kind-kind.result c.len.result c.capacity.result k.holds c.kind-kind.ensures c.len.ensures.len c.capacity.ensures.capacity)
    c.step-act.ensures.event c.step-act.ensures.accepted c.step-act.ensures.width c.step-act.ensures.report
    (rw (take_rest c.octets.result.now 5, c.octets.ensures.octets) at c.put_field.ensures.items) c.put_field.ensures.capacity)
    c.put_field.ensures.size c.put_field.ensures.committed c.pass_bypass.ensures.rooms

pub invariant_of-self-2 : goal.invariant_of-self-2
invariant_of-self-2 g c =
    let i = c.self.invariant in
    (i.0, i.1, i.2 ++ Frame c.args.frame.now ∷ [], returns-clause-done g c i.0 i.1 i.2 (rw c.self.view_is at i.3))

pub returns-clause-reply : goal.returns-clause-reply
unfolding frame_reply_within
returns-clause-reply g c = λ limits s journal k_now.
    let f = c.self.inside in
    let k = rw (← c.self.view_is) at k_now in
    let h = k.holds in
    let is = row-is c.args.frame.now c.kind-kind.result c.len.result c.capacity.result h c.kind-kind.ensures c.len.ensures.len c.capacity.ensures.capacity in
    let t = c.in_ok-delivery.ensures.delivered in
    let d = frame-delivery limits s (run_within limits s journal) c.args.frame.now (open_runs f.runs) t.0 (rings_in f.queues) (rings_in c.pass_bypass.new.queues) (rings_in f.units) (rings_in c.pass_bypass.new.units) c.in_ok-delivery.delivery (run-limit limits s journal) h.runs (h.queues, h.units)
    (rw (← c.kind-kind.ensures) (ends-at-once-is limits f.runs c.kind-kind.result (drop 5 c.args.frame.now) t.0 k.limits_are (rw (take_rest c.octets.result.now 5, c.octets.ensures.octets) at t.1))) (rw (take_rest c.octets.result.now 5, c.octets.ensures.octets) at t.2) in
    let event : c.step-act.result.event ≡ number_of (row_of s (run_within limits s journal) c.args.frame.now) = c.step-act.ensures.event ∙ ap number_of is in
    let accepted : c.step-act.result.accepted ≡ accepts (row_of s (run_within limits s journal) c.args.frame.now) (run_within limits s journal).report = c.step-act.ensures.accepted ∙ rw (is, h.report) refl in
    rw (d, ← event, ← accepted) refl

pub returns-in_err-delivery-clause-refused : goal.returns-in_err-delivery-clause-refused
returns-in_err-delivery-clause-refused g c = on-err c.from_residual.result _ (λ limits s journal k_now.
    let k = rw (← c.self.view_is) at k_now in
    let same = c.in_err-delivery.ensures.refused in
    still-holds c.pass_bypass.new.runs c.pass_bypass.new.queues c.pass_bypass.new.units k same.0 same.1 same.2 c.pass_bypass.ensures.rooms)

pub invariant_of-self : goal.invariant_of-self
invariant_of-self g c =
    let i = c.self.invariant in
    let same = c.in_err-delivery.ensures.refused in
    (i.0, i.1, i.2, still-holds c.pass_bypass.new.runs c.pass_bypass.new.queues c.pass_bypass.new.units i.3 same.0 same.1 same.2 c.pass_bypass.ensures.rooms)

pub returns-clause-cost : goal.returns-clause-cost
unfolding frame_steps_within
returns-clause-cost g c = λ limits s journal k_now.
    let k = rw (← c.self.view_is) at k_now in
    let t = rw (take_rest c.octets.result.now 5, c.octets.ensures.octets) at c.in_ok-delivery.ensures.cost in
    let unit = frame-unit limits s (run_within limits s journal) c.args.frame.now (open_runs c.self.inside.runs) t.0 (run-limit limits s journal) k.holds.runs
    (rw (← c.kind-kind.ensures) (ends-at-once-is limits c.self.inside.runs c.kind-kind.result (drop 5 c.args.frame.now) t.0 k.limits_are t.1)) in
    rw (unit, queue-count k, unit-count k) at t.2

pub returns-in_err-delivery-clause-refused_cost : goal.returns-in_err-delivery-clause-refused_cost
unfolding frame_steps_within
returns-in_err-delivery-clause-refused_cost g c = on-err c.from_residual.result _ (λ limits s journal k_now.
    let k = rw (← c.self.view_is) at k_now in
    elim (rw (take_rest c.octets.result.now 5, c.octets.ensures.octets) at c.in_err-delivery.ensures.refused_cost) [
      | inl same ↦ omega arith
      | inr t ↦ (
          let unit = frame-unit limits s (run_within limits s journal) c.args.frame.now (open_runs c.self.inside.runs) t.0 (run-limit limits s journal) k.holds.runs
          (rw (← c.kind-kind.ensures) (ends-at-once-is limits c.self.inside.runs c.kind-kind.result (drop 5 c.args.frame.now) t.0 k.limits_are t.1)) in
          rw (unit, queue-count k, unit-count k) at t.2)
    ])
