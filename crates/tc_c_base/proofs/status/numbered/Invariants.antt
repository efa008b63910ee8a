use Rattle.std.proofs.Common.{◌≡◌, length}
use Rattle.tc_c_base.specs.Status.{status_numbered}
use Rattle.tc_c_base.proofs.status.numbered.Given as goal

-- no status that was passed has the number
abbrev pub invariant-loop-status : goal.invariant-loop-status
invariant-loop-status l = status_numbered l.number l.fn.statuses ≡ status_numbered l.number l.rest

abbrev pub decreases-loop-status : goal.decreases-loop-status
decreases-loop-status l = length l.rest
