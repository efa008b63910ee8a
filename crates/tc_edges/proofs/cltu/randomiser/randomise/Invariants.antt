use Rattle.std.proofs.Common.{◌≡◌, ◌++◌, take, drop}
use Rattle.tc_edges.specs.Cltu.Randomiser.{randomised, randomised_from}
use Rattle.tc_edges.proofs.cltu.randomiser.randomise.Given as goal

abbrev pub invariant-loop-i : goal.invariant-loop-i
invariant-loop-i l = take l.i l.octets ++ randomised_from l.register (drop l.i l.octets) ≡ randomised l.fn.octets
