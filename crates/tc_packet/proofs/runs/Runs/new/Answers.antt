use Rattle.std.proofs.Common.{◌∙◌}
use Rattle.tc_packet.proofs.Sizes.{if-ok, one-limit}
use Rattle.tc_packet.proofs.runs.Runs.new.Goals as goal

pub returns-clause-limits : goal.returns-clause-limits
returns-clause-limits g c = if-ok _ _ c.with_rooms.result (λ r each place inside. each place inside ∙ one-limit c.args.segmented c.args.limit place) c.with_rooms.ensures.limits
