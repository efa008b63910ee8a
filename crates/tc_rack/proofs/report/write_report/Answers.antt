use Rattle.tc_rack.proofs.Names.{arith, channel_text}
use Rattle.tc_rack.proofs.Written.{item-written, lawful-more}
use Rattle.tc_rack.proofs.report.write_report.Goals as goal

pub loop-channel-preserved : goal.loop-channel-preserved
loop-channel-preserved g c = record {
  written = item-written channel_text c.args.channels.now c.loop-channel.channel-index c.channel-item.result _ _ _ (omega (arith, c.loop-channel-test.true)) c.channel-item.is c.loop-channel.invariant.written c.in_ok-write_channel.ensures.written;
  lawful = lawful-more c.args.channels.now c.loop-channel.channel-index c.channel-item.result (omega (arith, c.loop-channel-test.true)) c.channel-item.is c.loop-channel.invariant.lawful c.in_ok-write_channel.ensures.lawful;
}
