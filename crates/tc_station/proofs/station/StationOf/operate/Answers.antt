use Rattle.tc_station.proofs.Names.{◌∙◌, sym}
use Rattle.tc_station.proofs.Called.{called, ids-kept, same-lock}
use Rattle.tc_station.proofs.station.StationOf.operate.Goals as goal

pub invariant_of-operator : goal.invariant_of-operator
invariant_of-operator g c = ids-kept _ _ _ c.args.self.now _ _ _ _ _ _ _ c.operator.view_is c.operator.invariant c.requires.ours c.index_mut.ensures.value c.operate.ensures.call

pub operate-requires : goal.operate-requires
operate-requires g c =
    let lock = same-lock c.args.self.now _ _ _ _ _ _ _ _ _ _ _ c.operator.view_is c.operator.invariant c.requires.ours c.self.view_is c.self.invariant.1 c.requires.place c.index_mut.ensures.value c.index.ensures in
    record { ours = lock ∙ sym c.desk-desk.ensures.lock }

pub returns : goal.returns
returns g c = called _ _ _ c.args.self.now _ _ _ _ _ _ _ _ c.operator.view_is c.operator.invariant c.requires.ours c.requires.place c.index_mut.ensures.value c.operate.ensures.call
