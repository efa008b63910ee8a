use Rattle.tc_channel.proofs.AtWork.{unit-taken, units-work, some-mapped}
use Rattle.tc_channel.proofs.channel_core.ChannelCore+GrowingRoom.take_unit.Goals as goal

pub invariant_of-self : goal.invariant_of-self
invariant_of-self g c = units-work _ c.take.new.self c.args.map c.self.invariant c.take.ensures.rings c.take.ensures.sizes c.take.ensures.committed

pub returns-clause-done : goal.returns-clause-done
returns-clause-done g c = λ some limits s journal k. unit-taken c.take.new.self c.args.map (rw (← c.self.view_is) at k) (some-mapped _ _ _ c.take.ensures.item some) c.take.ensures.rings c.take.ensures.sizes c.take.ensures.committed
