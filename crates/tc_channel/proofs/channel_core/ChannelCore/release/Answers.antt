use Rattle.tc_channel.proofs.Names.{◌≡◌, ◌≤◌, ◌∷◌, [], ◌++◌, length, ap, ◌∙◌, arith, inl, inr, Release, buffer, rings_in, run_within, first_of, Ad, Slotted, open_runs}
use Rattle.tc_channel.specs.Reply.{release_reply_within}
use Rattle.tc_channel.specs.Steps.{release_steps_within}
use Rattle.tc_channel.proofs.AtWork.{can-pass, first-is, holds-on, on-err, queue-count, still-holds, unit-count}
use Rattle.tc_channel.proofs.Stored.{release-keeps, oldest-filled}
use Rattle.tc_channel.proofs.Plain.{run-limit}
use Rattle.tc_channel.proofs.Shares.{ends-unit, release-delivery}
use Rattle.tc_channel.proofs.Within.{ends-is, follows-is}
use Rattle.tc_channel.proofs.channel_core.ChannelCore.release.Goals as goal

pub pass-requires-clause-field : goal.pass-requires-clause-field
pass-requires-clause-field g c =
    let first = first-is c.self.inside.fields.ring.items c.unwrap-field.result.now (rw c.unwrap-field.ensures at c.front.ensures.item) in
    rw first.0 (oldest-filled c.self.invariant.3.holds first.1)

pub pass-requires-clause-within : goal.pass-requires-clause-within
pass-requires-clause-within g c =
    let within : length c.unwrap-field.result.now ≤ c.self.inside.fields.size = rw c.unwrap-field.ensures at c.front.ensures.within in
    rw c.self.invariant.3.field_size at within

pub pass-requires-clause-rooms : goal.pass-requires-clause-rooms
pass-requires-clause-rooms g c = can-pass c.self.invariant.3

pub returns-clause-done : goal.returns-clause-done
returns-clause-done g c = λ limits s journal k_now.
    let f = c.self.inside in
    let k = rw (← c.self.view_is) at k_now in
    let first = first-is f.fields.ring.items c.unwrap-field.result.now (rw c.unwrap-field.ensures at c.front.ensures.item) in
    let d = c.in_ok-delivery.ensures.delivered in
    holds-on _ _ k
    (release-keeps _ c.in_ok-delivery.delivery d.0 k.holds
    (follows-is limits f.runs (open_runs c.pass.new.runs) Ad (first_of f.fields.ring.items) k.limits_are (rw first.0 at c.in_ok-delivery.ensures.follows)) (ends-is limits f.runs Ad (first_of f.fields.ring.items) d.0 k.limits_are (rw first.0 at d.1)) (rw first.0 at d.2) first.1
    c.step.ensures.width c.step.ensures.report (ap (λ (x : Slotted). x.ring) c.pop_front.ensures))
    (ap (λ (x : Slotted). x.size) c.pop_front.ensures) (ap (λ (x : Slotted). x.staged) c.pop_front.ensures ∙ k.fields_committed)
    c.pass.ensures.rooms

pub invariant_of-self-2 : goal.invariant_of-self-2
invariant_of-self-2 g c =
    let i = c.self.invariant in
    (i.0, i.1, i.2 ++ Release ∷ [], returns-clause-done g c i.0 i.1 i.2 (rw c.self.view_is at i.3))

pub returns-clause-reply : goal.returns-clause-reply
unfolding release_reply_within
returns-clause-reply g c = λ limits s journal k_now.
    let f = c.self.inside in
    let k = rw (← c.self.view_is) at k_now in
    let h = k.holds in
    let first = first-is f.fields.ring.items c.unwrap-field.result.now (rw c.unwrap-field.ensures at c.front.ensures.item) in
    let field_is : c.unwrap-field.result.now ≡ first_of (buffer (run_within limits s journal)) = first.0 ∙ ap first_of h.fields in
    let d = c.in_ok-delivery.ensures.delivered in
    release-delivery limits (run_within limits s journal) (open_runs f.runs) d.0 (rings_in f.queues) (rings_in c.pass.new.queues) (rings_in f.units) (rings_in c.pass.new.units) c.in_ok-delivery.delivery (run-limit limits s journal) h.runs (h.queues, h.units)
    (ends-is limits f.runs Ad (first_of (buffer (run_within limits s journal))) d.0 k.limits_are (rw field_is at d.1)) (rw field_is at d.2)

pub returns-in_err-delivery-clause-refused : goal.returns-in_err-delivery-clause-refused
returns-in_err-delivery-clause-refused g c = on-err c.from_residual.result _ (λ limits s journal k_now.
    let k = rw (← c.self.view_is) at k_now in
    let same = c.in_err-delivery.ensures.refused in
    still-holds c.pass.new.runs c.pass.new.queues c.pass.new.units k same.0 same.1 same.2 c.pass.ensures.rooms)

pub invariant_of-self : goal.invariant_of-self
invariant_of-self g c =
    let i = c.self.invariant in
    let same = c.in_err-delivery.ensures.refused in
    (i.0, i.1, i.2, still-holds c.pass.new.runs c.pass.new.queues c.pass.new.units i.3 same.0 same.1 same.2 c.pass.ensures.rooms)

pub returns-clause-cost : goal.returns-clause-cost
unfolding release_steps_within
returns-clause-cost g c = λ limits s journal k_now.
    let f = c.self.inside in
    let k = rw (← c.self.view_is) at k_now in
    let first = first-is f.fields.ring.items c.unwrap-field.result.now (rw c.unwrap-field.ensures at c.front.ensures.item) in
    let field_is : c.unwrap-field.result.now ≡ first_of (buffer (run_within limits s journal)) = first.0 ∙ ap first_of k.holds.fields in
    let t = rw field_is at c.in_ok-delivery.ensures.cost in
    let unit = ends-unit limits Ad (first_of (buffer (run_within limits s journal))) (run_within limits s journal) (open_runs f.runs) t.0 (run-limit limits s journal) k.holds.runs
    (ends-is limits f.runs Ad (first_of (buffer (run_within limits s journal))) t.0 k.limits_are t.1) in
    rw (unit, queue-count k, unit-count k) at t.2

pub returns-in_err-delivery-clause-refused_cost : goal.returns-in_err-delivery-clause-refused_cost
unfolding release_steps_within
returns-in_err-delivery-clause-refused_cost g c = on-err c.from_residual.result _ (λ limits s journal k_now.
    let f = c.self.inside in
    let k = rw (← c.self.view_is) at k_now in
    let first = first-is f.fields.ring.items c.unwrap-field.result.now (rw c.unwrap-field.ensures at c.front.ensures.item) in
    let field_is : c.unwrap-field.result.now ≡ first_of (buffer (run_within limits s journal)) = first.0 ∙ ap first_of k.holds.fields in
    elim (rw field_is at c.in_err-delivery.ensures.refused_cost) [
      | inl same ↦ omega arith
      | inr t ↦ (
          let unit = ends-unit limits Ad (first_of (buffer (run_within limits s journal))) (run_within limits s journal) (open_runs f.runs) t.0 (run-limit limits s journal) k.holds.runs
          (ends-is limits f.runs Ad (first_of (buffer (run_within limits s journal))) t.0 k.limits_are t.1) in
          rw (unit, queue-count k, unit-count k) at t.2)
    ])
