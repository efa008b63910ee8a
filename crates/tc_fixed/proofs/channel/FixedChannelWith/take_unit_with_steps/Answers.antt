use Rattle.std.proofs.Common.{Ok, length, refl}
use Rattle.tc_channel.specs.Reply.{waiting_units_within}
use Rattle.tc_fixed.specs.Limits.{limit_of}
use Rattle.tc_fixed.specs.Taking.{unit_fault_of}
use Rattle.tc_fixed.proofs.Taken.{fault-answered, unit-says}
use Rattle.tc_channel.proofs.AtWork.{unit-count}
use Rattle.tc_fixed.proofs.channel.FixedChannelWith.take_unit_with_steps.Goals as goal

pub returns-in_err-count-clause-no_map : goal.returns-in_err-count-clause-no_map
returns-in_err-count-clause-no_map g c = rw (← c.self.view_is) (unit-says (length c.args.into.now) (waiting_units_within (limit_of c.self.inside.limits) c.self.inside.settings (g.N.Noted.noted c.self.inside.journal) c.args.map) c.copy_unit.result c.from_residual.result (c.copy_unit.ensures.count (limit_of c.self.inside.limits) c.self.inside.settings (g.N.Noted.noted c.self.inside.journal) c.self.invariant.rooms) (fault-answered unit_fault_of c.copy_unit.result _ c.from_residual.result c.in_err-count.was c.from_residual.ensures.1)).no_map

pub returns-clause-no_map : goal.returns-clause-no_map
returns-clause-no_map g c = rw (← c.self.view_is) (unit-says (length c.args.into.now) (waiting_units_within (limit_of c.self.inside.limits) c.self.inside.settings (g.N.Noted.noted c.self.inside.journal) c.args.map) c.copy_unit.result (Ok c.in_ok-count.count) (c.copy_unit.ensures.count (limit_of c.self.inside.limits) c.self.inside.settings (g.N.Noted.noted c.self.inside.journal) c.self.invariant.rooms) (rw c.in_ok-count.was refl)).no_map

pub returns-in_err-count-clause-empty : goal.returns-in_err-count-clause-empty
returns-in_err-count-clause-empty g c = rw (← c.self.view_is) (unit-says (length c.args.into.now) (waiting_units_within (limit_of c.self.inside.limits) c.self.inside.settings (g.N.Noted.noted c.self.inside.journal) c.args.map) c.copy_unit.result c.from_residual.result (c.copy_unit.ensures.count (limit_of c.self.inside.limits) c.self.inside.settings (g.N.Noted.noted c.self.inside.journal) c.self.invariant.rooms) (fault-answered unit_fault_of c.copy_unit.result _ c.from_residual.result c.in_err-count.was c.from_residual.ensures.1)).empty

pub returns-clause-empty : goal.returns-clause-empty
returns-clause-empty g c = rw (← c.self.view_is) (unit-says (length c.args.into.now) (waiting_units_within (limit_of c.self.inside.limits) c.self.inside.settings (g.N.Noted.noted c.self.inside.journal) c.args.map) c.copy_unit.result (Ok c.in_ok-count.count) (c.copy_unit.ensures.count (limit_of c.self.inside.limits) c.self.inside.settings (g.N.Noted.noted c.self.inside.journal) c.self.invariant.rooms) (rw c.in_ok-count.was refl)).empty

pub returns-in_err-count-clause-no_room : goal.returns-in_err-count-clause-no_room
returns-in_err-count-clause-no_room g c = rw (← c.self.view_is) (unit-says (length c.args.into.now) (waiting_units_within (limit_of c.self.inside.limits) c.self.inside.settings (g.N.Noted.noted c.self.inside.journal) c.args.map) c.copy_unit.result c.from_residual.result (c.copy_unit.ensures.count (limit_of c.self.inside.limits) c.self.inside.settings (g.N.Noted.noted c.self.inside.journal) c.self.invariant.rooms) (fault-answered unit_fault_of c.copy_unit.result _ c.from_residual.result c.in_err-count.was c.from_residual.ensures.1)).no_room

pub returns-clause-no_room : goal.returns-clause-no_room
returns-clause-no_room g c = rw (← c.self.view_is) (unit-says (length c.args.into.now) (waiting_units_within (limit_of c.self.inside.limits) c.self.inside.settings (g.N.Noted.noted c.self.inside.journal) c.args.map) c.copy_unit.result (Ok c.in_ok-count.count) (c.copy_unit.ensures.count (limit_of c.self.inside.limits) c.self.inside.settings (g.N.Noted.noted c.self.inside.journal) c.self.invariant.rooms) (rw c.in_ok-count.was refl)).no_room

pub returns-in_err-count-clause-once : goal.returns-in_err-count-clause-once
returns-in_err-count-clause-once g c = rw (← c.self.view_is, ← unit-count c.self.invariant.rooms) c.copy_unit.ensures.cost

pub returns-clause-once : goal.returns-clause-once
returns-clause-once g c = rw (← c.self.view_is, ← unit-count c.self.invariant.rooms) c.copy_unit.ensures.cost
