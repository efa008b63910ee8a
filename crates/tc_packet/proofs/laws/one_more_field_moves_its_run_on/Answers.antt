use Rattle.tc_packet.proofs.OpenRuns.{open_run-push}
use Rattle.tc_packet.proofs.laws.one_more_field_moves_its_run_on.Goals as goal

pub returns : goal.returns
returns c = open_run-push
