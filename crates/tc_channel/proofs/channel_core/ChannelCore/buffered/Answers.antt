use Rattle.tc_channel.proofs.Names.{length, ap, ◌∙◌}
use Rattle.tc_channel.specs.Reply.{buffered_fields_within}
use Rattle.tc_channel.proofs.channel_core.ChannelCore.buffered.Goals as goal

pub returns-clause-count : goal.returns-clause-count
unfolding buffered_fields_within
returns-clause-count g c = λ limits s journal k_now.
    let k = rw (← c.self.view_is) at k_now in
    c.len.ensures.len ∙ ap length k.holds.fields
