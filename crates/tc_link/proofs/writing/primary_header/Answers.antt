use Rattle.std.proofs.Common.{rules}
use Rattle.tc_link.proofs.writing.primary_header.Goals as goal

pub overflow_add-second : goal.overflow_add-second
overflow_add-second c = search rules steps 1000000

pub returns-clause-header : goal.returns-clause-header
returns-clause-header c = search rules steps 1000000

pub returns-clause-named : goal.returns-clause-named
returns-clause-named c = search rules steps 1000000
