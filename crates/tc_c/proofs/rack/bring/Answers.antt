use Rattle.tc_c.proofs.Names.{◌≡◌, ◌∙◌, Some, ap, sym, inl, frame_reply_within, with_limited_event, limit_of, channels_in, rack_reply, replied}
use Rattle.tc_channel.specs.declared.event.Event.TheVariants as Event
use Rattle.tc_c.proofs.Racks.{held, changed}
use Rattle.tc_c.proofs.rack.bring.Goals as goal

pub returns-in-Ok : goal.returns-in-Ok
returns-in-Ok c =
    let octets = c.args.octets.now in let old = channels_in c.args.seats.now in let seats = c.located.new.seats in let place = c.in-Ok.place in
    let same = c.in-Ok.ensures.unchanged in
    let frame = c.in-Ok.ensures.located.0 in let h = c.in-Ok.ensures.located.1 in let is = c.in-Ok.ensures.located.2 in
    let holds = held seats place c.index-seats-place.result old h c.in-Ok.ensures.bound same is.2.0.0 in
    let there = rw holds at c.answer.ensures.answer in
    let done = rw c.in-Ok.ensures.frame at there in
    let one : done.0 ≡ frame = c.each_input_begins_with_one_frame_at_most.ensures octets done.0 frame done.1 is.0 in
    let id : c.in-Ok.vcid ≡ h.settings.vcid = sym (is.2.0.1 ∙ c.in-Ok.ensures.located.3) in
    let reply : c.answer.result ≡ replied h frame = done.2 ∙ (ap (λ f. rack_reply c.in-Ok.vcid (frame_reply_within (limit_of h.limits) h.settings h.journal f)) one ∙ ap (λ v. rack_reply v (frame_reply_within (limit_of h.limits) h.settings h.journal frame)) id) in
    let new = done.3 ∙ ap (λ f. Some (with_limited_event h (Event.Frame f))) one in
    record { answer = inl (place, frame, h, is, reply, changed seats place c.answer.new.seat old _ same new) }
