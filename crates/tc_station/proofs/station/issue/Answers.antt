use Rattle.tc_station.proofs.Names.{◌≡◌, ◌∙◌, ℕ, List, Some, vec_len, ap, subst, sym, rules, arith, settings_of_desks, IsRoomFor, vcids_of, All-pop}
use Rattle.tc_station.proofs.OwnedDesks.{issue-first, issue-step, settings-more}
use Rattle.tc_station.proofs.station.issue.Goals as goal

pub loop-room-init : goal.loop-room-init
loop-room-init g c =
    let none = c.in_ok-operators.ensures.len in
    let many = c.in_ok-rooms.ensures.many in
    let start = issue-first c.args.vcids.now c.args.owned_desks.now c.in_ok-operators.operators.items (vec_len c.in_ok-operators.operators) none c.in_ok-operators.ensures.items in
    (start.0, start.1, c.in_ok-rooms.ensures.each, omega (arith, none, many), search rules)

pub new-requires : goal.new-requires
new-requires g c =
    let i = c.loop-room.invariant in
    let ids : vcids_of (settings_of_desks c.loop-room.owned_desks) ≡ c.args.vcids.now = ap (λ l. vcids_of (settings_of_desks l)) i.0 ∙ (ap vcids_of (settings-more (vec_len c.loop-room.operators) c.args.owned_desks.now) ∙ c.requires.ids) in
    let popped = All-pop (IsRoomFor c.args.vcids.now) _ _ (Some c.in-Some.room) c.in-Some.ensures.items i.2 in
    record { room = subst (λ (v : List ℕ). IsRoomFor v c.in-Some.room) (sym ids) popped.1 }

pub loop-room-preserved : goal.loop-room-preserved
loop-room-preserved g c =
    let i = c.loop-room.invariant in
    let count = vec_len c.loop-room.operators in
    let ids : vcids_of (settings_of_desks c.loop-room.owned_desks) ≡ c.args.vcids.now = ap (λ l. vcids_of (settings_of_desks l)) i.0 ∙ (ap vcids_of (settings-more count c.args.owned_desks.now) ∙ c.requires.ids) in
    let popped = All-pop (IsRoomFor c.args.vcids.now) _ _ (Some c.in-Some.room) c.in-Some.ensures.items i.2 in
    let longer = c.push_reserved.ensures.len in let shorter = c.in-Some.ensures.cases in let all = i.3 in
    let step = issue-step c.args.vcids.now c.args.owned_desks.now c.loop-room.owned_desks c.new.new.owned_desks count (vec_len c.push_reserved.new.self) c.loop-room.operators.items c.push_reserved.new.self.items c.new.result
    ids i.0 longer c.new.ensures.issued c.new.ensures.operator i.1 c.push_reserved.ensures.items in
    (step.0, step.1, popped.0, omega (arith, longer, shorter, all), search rules)
