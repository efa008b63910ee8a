use Rattle.std.proofs.Common.{rules}
use Rattle.tc_text.proofs.word.next_argument.Goals as goal

pub returns-in-Some : goal.returns-in-Some
returns-in-Some c = search rules steps 1000000
