use Rattle.tc_channel.proofs.AtWork.{packet-copied, packet-is, queues-copied}
use Rattle.tc_channel.proofs.Takes.{packets-wait}
use Rattle.tc_channel.proofs.channel_core.ChannelCore.copy_packet.Goals as goal

pub invariant_of-self : goal.invariant_of-self
invariant_of-self g c = queues-copied _ _ c.copy_out.new.self c.args.apid c.copy_out.result c.self.invariant c.copy_out.ensures.rings c.copy_out.ensures.sizes c.copy_out.ensures.committed c.copy_out.ensures.refused

pub returns-clause-count : goal.returns-clause-count
returns-clause-count g c = λ limits s journal k. rw (packets-wait c.args.apid (rw (← c.self.view_is) at k.holds)) c.copy_out.ensures.count

pub returns-clause-packet : goal.returns-clause-packet
returns-clause-packet g c = λ limits s journal k. rw (packet-is c.args.apid (rw (← c.self.view_is) at k)) c.copy_out.ensures.item

pub returns-clause-done : goal.returns-clause-done
returns-clause-done g c = rw (← c.self.view_is) (packet-copied _ c.copy_out.new.self _ c.args.apid c.copy_out.result c.copy_out.ensures.count c.copy_out.ensures.rings c.copy_out.ensures.sizes c.copy_out.ensures.committed)
