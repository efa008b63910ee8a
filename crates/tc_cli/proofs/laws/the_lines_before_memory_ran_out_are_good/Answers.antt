use Rattle.tc_cli.proofs.Scripts.{good-before}
use Rattle.tc_cli.proofs.laws.the_lines_before_memory_ran_out_are_good.Goals as goal

pub returns : goal.returns
returns c = good-before
