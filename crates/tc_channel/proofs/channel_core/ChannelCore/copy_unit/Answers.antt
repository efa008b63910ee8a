use Rattle.tc_channel.proofs.AtWork.{unit-copied, unit-is, units-copied}
use Rattle.tc_channel.proofs.Takes.{units-wait}
use Rattle.tc_channel.proofs.channel_core.ChannelCore.copy_unit.Goals as goal

pub invariant_of-self : goal.invariant_of-self
invariant_of-self g c = units-copied _ _ c.copy_out.new.self c.args.map c.copy_out.result c.self.invariant c.copy_out.ensures.rings c.copy_out.ensures.sizes c.copy_out.ensures.committed c.copy_out.ensures.refused

pub returns-clause-count : goal.returns-clause-count
returns-clause-count g c = λ limits s journal k. rw (units-wait c.args.map (rw (← c.self.view_is) at k.holds)) c.copy_out.ensures.count

pub returns-clause-unit : goal.returns-clause-unit
returns-clause-unit g c = λ limits s journal k. rw (unit-is c.args.map (rw (← c.self.view_is) at k)) c.copy_out.ensures.item

pub returns-clause-done : goal.returns-clause-done
returns-clause-done g c = rw (← c.self.view_is) (unit-copied _ c.copy_out.new.self _ c.args.map c.copy_out.result c.copy_out.ensures.count c.copy_out.ensures.rings c.copy_out.ensures.sizes c.copy_out.ensures.committed)
