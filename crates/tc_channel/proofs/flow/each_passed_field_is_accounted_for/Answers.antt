use Rattle.tc_channel.proofs.Names.{run_within}
use Rattle.tc_channel.proofs.Account.{accounted}
use Rattle.tc_channel.proofs.flow.each_passed_field_is_accounted_for.Goals as goal

pub returns : goal.returns
returns c = λ limits s journal service map_id headed. accounted limits s service map_id (run_within limits s journal).passed headed
