use Rattle.std.proofs.Common.{rules, ap}
use Rattle.tc_make.specs.Printed.{hint_text}
use Rattle.tc_make.proofs.printed.write_bad.Goals as goal

pub returns-in-UnknownCommand : goal.returns-in-UnknownCommand
returns-in-UnknownCommand g c = rw (ap hint_text c.in-UnknownCommand.is) (search rules)
