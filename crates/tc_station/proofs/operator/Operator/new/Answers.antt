use Rattle.tc_station.proofs.Names.{◌∙◌, sym, ap, settings_of_desks, vcids_of}
use Rattle.tc_station.proofs.OwnedDesks.{arrival-settings}
use Rattle.tc_station.proofs.operator.Operator.new.Goals as goal

pub invariant_of-result : goal.invariant_of-result
invariant_of-result g c =
    ap (λ l. vcids_of (settings_of_desks l)) c.desk_operators-desks.ensures.operators ∙ (ap vcids_of (arrival-settings c.args.owned_desks.now) ∙ sym c.requires.room.0)
