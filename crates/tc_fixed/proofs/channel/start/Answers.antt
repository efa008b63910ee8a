use Rattle.tc_fixed.specs.Limits.{limit_of}
use Rattle.tc_fixed.proofs.ByMap.{fits-at-start, small-at-start}
use Rattle.tc_fixed.proofs.channel.start.Goals as goal

pub new-requires-clause-small : goal.new-requires-clause-small
new-requires-clause-small g c = small-at-start c.args.settings c.args.limits c.in_ok-runs.runs c.requires.limits c.in_ok-runs.ensures.limits

pub new-requires-clause-enough : goal.new-requires-clause-enough
new-requires-clause-enough g c = rw c.item_size-size.ensures.size (fits-at-start c.args.limits c.in_ok-runs.runs c.args.settings.segmented c.in_ok-runs.ensures.segmented c.in_ok-runs.ensures.limits)

pub new-requires-clause-limits : goal.new-requires-clause-limits
new-requires-clause-limits g c = (limit_of c.args.limits, c.in_ok-runs.ensures.limits)

pub invariant_of-result : goal.invariant_of-result
invariant_of-result g c = record {
  rooms = rw c.start.ensures.events (c.in_ok-channel_core.ensures.started (limit_of c.args.limits) c.in_ok-runs.ensures.limits);
  limits = c.requires.limits;
}
