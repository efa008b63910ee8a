use Rattle.tc_rack.proofs.Names.{sym, subst, arith, IsAllowed}
use Rattle.tc_rack.proofs.ApidEntries.{tables-as-channels, table-at, other-table}
use Rattle.tc_rack.proofs.Configurations.{other-settings, within}
use Rattle.tc_rack.proofs.configuration.Configuration.add_to_channel.Goals as goal

pub index_mut-requires : goal.index_mut-requires
index_mut-requires c =
    let lt = within c.self.inside.channels.items c.args.vcid c.in-Some.place (rw c.deref.ensures.value at c.in-Some.ensures) in
    omega (arith, lt, tables-as-channels c.self.inside.channels.items c.self.inside.apids.items c.self.invariant.1, c.self.inside.apids.ok.0)

pub add_checked-requires-clause-allowed : goal.add_checked-requires-clause-allowed
add_checked-requires-clause-allowed c =
    let lt = within c.self.inside.channels.items c.args.vcid c.in-Some.place (rw c.deref.ensures.value at c.in-Some.ensures) in
    subst IsAllowed (sym c.index_mut-settings.ensures.value) (c.self.invariant.0.allowed c.in-Some.place c.index_mut-settings.result.now lt)

pub add_checked-requires-clause-apids : goal.add_checked-requires-clause-apids
add_checked-requires-clause-apids c =
    let lt = within c.self.inside.channels.items c.args.vcid c.in-Some.place (rw c.deref.ensures.value at c.in-Some.ensures) in
    table-at c.self.inside.channels.items c.self.inside.apids.items c.self.invariant.1 c.in-Some.place c.index_mut-settings.result.now c.index_mut.result.now lt
    c.index_mut-settings.ensures.value c.index_mut.ensures.value

pub invariant_of-self : goal.invariant_of-self
invariant_of-self c =
    let lt = within c.self.inside.channels.items c.args.vcid c.in-Some.place (rw c.deref.ensures.value at c.in-Some.ensures) in
    let new = c.add_checked.ensures in (
      other-settings c.self.inside.channels.items c.in-Some.place c.index_mut-settings.result.now c.add_checked.new.settings c.self.invariant.0 lt c.index_mut-settings.ensures.value new.vcid new.allowed,
      other-table c.self.inside.channels.items c.self.inside.apids.items c.self.invariant.1 c.in-Some.place c.add_checked.new.settings c.add_checked.new.apids new.apids,
    )
