use Rattle.tc_channel.proofs.Names.{arith, common_steps}
use Rattle.tc_channel.proofs.Takes.{packets-wait}
use Rattle.tc_channel.proofs.channel_core.ChannelCore.queued.Goals as goal

pub returns-in_err-find-clause-count : goal.returns-in_err-find-clause-count
returns-in_err-find-clause-count g c = λ limits s journal k. rw (packets-wait c.args.apid (rw (← c.self.view_is) at k.holds)) (grind (arith, common_steps))

pub returns-clause-count : goal.returns-clause-count
returns-clause-count g c = λ limits s journal k. rw (packets-wait c.args.apid (rw (← c.self.view_is) at k.holds)) (grind (arith, common_steps))
