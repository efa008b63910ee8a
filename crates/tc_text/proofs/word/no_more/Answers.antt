use Rattle.std.proofs.Common.{rules}
use Rattle.tc_text.proofs.word.no_more.Goals as goal

pub returns-in-Some-clause-none : goal.returns-in-Some-clause-none
returns-in-Some-clause-none c = search rules steps 1000000
