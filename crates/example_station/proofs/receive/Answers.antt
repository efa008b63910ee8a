use Rattle.std.proofs.Common.{◌<◌, ◌∙◌, ap, arith, length, rules, subst, sym}
use Rattle.std.proofs.lemmas.List.{length-map}
use Rattle.std.proofs.lemmas.List.Elements.{All-set}
use Rattle.tc_station.specs.Tally.{IsOurs, KnowsDesks, Tally, tally}
use Rattle.example_station.proofs.receive.Goals as goal

-- each call leaves the operator's knowledge of its desks unchanged
pub meet-requires-clause-knows : goal.meet-requires-clause-knows
meet-requires-clause-knows g c =
    let operators = c.in_ok-operators.operators.items in
    let operator = c.index_mut-operator.result.now in
    let inside : 0 < length operators = first_of (search rules, omega (arith, ap (length {A = Tally}) c.in_ok-operators.ensures.fresh, length-map operators tally)) in
    let first = subst (KnowsDesks c.operators.new.self) (sym c.index_mut-operator.ensures.value) (c.in_ok-operators.ensures.heads 0 operator inside) in
    c.take.ensures.knows ∙ (c.release.ensures.knows ∙ (c.bring.ensures.knows ∙ first))

pub close_together-requires : goal.close_together-requires
close_together-requires g c = record { ours = All-set (IsOurs c.operators.new.self) c.in_ok-operators.operators.items 0 c.meet.new.operator c.meet.ensures.ours c.in_ok-operators.ensures.ours }
