use Rattle.tc_station.proofs.Names.{◌∙◌, sym, ap, subst, Identity, Roster, IsDeskOf}
use Rattle.tc_station.proofs.OwnedDesks.{desk-of}
use Rattle.tc_station.proofs.station.StationOf.ask.Goals as goal

pub returns : goal.returns
returns g c =
    let is = c.self.view_is in
    let ids = c.self.invariant.1 ∙ ap (λ (r : Roster). r.vcids) is in
    let there = desk-of c.args.self.now c.self.inside.desks.items c.args.place c.args.vcid c.index.result.now ids (ap (λ (r : Roster). r.heads) is) c.index.ensures c.requires.place in
    let said = c.ask_as_guest.ensures in
    let same = said.2 ∙ c.desk.ensures.head in
    (said.0, said.1, ap (λ (h : Identity). h.settings.vcid) same ∙ there.0, subst (IsDeskOf c.args.self.now c.args.vcid) (sym same) there.1, said.3)
