use Rattle.tc_channel.proofs.AtWork.{packet-taken, queues-work}
use Rattle.tc_channel.proofs.channel_core.ChannelCore.drop_packet.Goals as goal

pub invariant_of-self : goal.invariant_of-self
invariant_of-self g c = queues-work _ c.pop.new.self c.args.apid c.self.invariant c.pop.ensures.rings c.pop.ensures.sizes c.pop.ensures.committed

pub returns-clause-done : goal.returns-clause-done
returns-clause-done g c = λ did limits s journal k. packet-taken c.pop.new.self c.args.apid (rw (← c.self.view_is) at k) (c.pop.ensures.waits.0 did) c.pop.ensures.rings c.pop.ensures.sizes c.pop.ensures.committed
