use Rattle.std.proofs.Common.{◌≡◌, ℕ, List, ◌<◌, ◌-◌, true, length, take, drop, subst, sym, ap, ◌∙◌, arith, rules}
use Rattle.tc_packet.proofs.Names.{LeaveWithin, Store, boxed_slice_items, common_steps}
use Rattle.std.proofs.lemmas.List.{take_rest}
use Rattle.tc_packet.specs.Segment.{header_of}
use Rattle.tc_packet.specs.Reassembly.{stream_place}
use Rattle.tc_packet.proofs.Stores.{IsPassed, passed-unit, passed-run, passed-contents, passed-within, ended-nothing, written-others, written-rooms}
use Rattle.tc_packet.proofs.runs.Runs.stage.Goals as goal

pub returns : goal.returns
returns g c =
    let place = stream_place c.args.service c.args.field.now in
    let store : Store = record { segmented = c.self.inside.segmented; plain_limit = c.self.inside.plain_limit; runs = (boxed_slice_items c.self.inside.runs) } in
    let at : c.place-at.result ≡ place = grind (arith, common_steps) in
    let on : c.self.inside.segmented ≡ true = grind (arith, common_steps) in
    let streams : length (boxed_slice_items c.self.inside.runs) ≡ 128 = c.self.invariant.streams on in
    let inside : c.place-at.result < length (boxed_slice_items c.self.inside.runs) = let lt = c.place-at.ensures.within in omega arith in
    let part : c.read_segment-segment.result.part ≡ (header_of c.args.field.now).part = grind (arith, common_steps) in
    let p : IsPassed store c.place-at.result place c.read_segment-segment.result.part c.args.field.now (take (length c.args.field.now - 1) (drop 1 c.args.field.now)) =
    record { on = on; at = at; inside = inside; part_is = part; body_is = take_rest c.args.field.now 1 } in
    let left-in : (fields : List (List ℕ)) → LeaveWithin fields c.args.self.now place → LeaveWithin fields store place = λ fields left. subst (λ (x : Store). LeaveWithin fields x place) (sym c.self.view_is) left in
    let written = c.follow_at.ensures.written in
    record {
      unit = λ fields left. rw (c.ended_at.ensures, ← c.self.view_is) (passed-unit p c.in_ok-ended_kind.ensures.followed fields (left-in fields left));
      run = λ fields left. rw c.ended_at.ensures (passed-run p c.in_ok-ended_kind.ensures.followed c.one_more_field_moves_its_run_on.ensures fields (left-in fields left));
      contents = λ some. rw (← c.self.view_is) (ap (λ runs. record { segmented = c.self.inside.segmented; runs = runs }) (passed-contents p c.in_ok-ended_kind.ensures.followed (ended-nothing c.in_ok-ended_kind.ended_kind c.place-at.result (λ e. some (c.ended_at.ensures ∙ e)))));
      refused = first_of (search rules, grind (arith, common_steps));
      others = λ other apart. rw (← c.self.view_is) (written-others store c.place-at.result place other (boxed_slice_items c.follow_at.new.runs) written at apart);
      other_rooms = λ other apart. rw (← c.self.view_is) (written-rooms store c.place-at.result place other (boxed_slice_items c.follow_at.new.runs) written at apart);
      there = first_of (search rules, grind (arith, common_steps));
      within = rw (c.ended_at.ensures, ← c.self.view_is) (passed-within p c.in_ok-ended_kind.ensures.followed);
      shorter = first_of (search rules, grind (arith, common_steps));
      limits = first_of (search rules, grind (arith, common_steps));
      segmented = first_of (search rules, grind (arith, common_steps));
      answered = first_of (search rules, grind (arith, common_steps));
    }
