use Rattle.tc_station.proofs.Names.{sym}
use Rattle.tc_station.proofs.Works.{all-worked, moved-worked}
use Rattle.tc_station.proofs.station.+work.Goals as goal

pub StationOf::work_all-returns : goal.StationOf::work_all-returns
StationOf::work_all-returns g t c =
    let e = c.work_halves.ensures in
    let lists = c.split_at.result in
    let operators = c.split_at_mut-front.result in
    moved-worked c.args.self.now _ _ _ _ _ _ _
    (all-worked c.args.self.now lists.0.now lists.1.now operators.0.now operators.1.now c.work_halves.new.front c.work_halves.new.back e.0 e.1 e.3 e.4)
    (sym c.split_at.ensures.by_index.0)
    (sym e.2)
    (sym c.split_at_mut-front.ensures.value)
