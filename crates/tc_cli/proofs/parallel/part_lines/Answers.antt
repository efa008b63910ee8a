use Rattle.std.proofs.Common.{arith}
use Rattle.tc_cli.proofs.Names.{none_parted, one_parted, phase_of}
use Rattle.tc_cli.proofs.Scripts.{first-bad, parted-leads}
use Rattle.tc_cli.proofs.parallel.part_lines.Goals as goal

pub loop-octets-init : goal.loop-octets-init
loop-octets-init c = record { counted = omega arith; parted = rw c.new.ensures none_parted }

pub loop-octets-preserved : goal.loop-octets-preserved
loop-octets-preserved c = record {
  counted = omega (arith, c.in-Some.ensures.shorter, c.loop-octets.invariant.counted);
  parted = one_parted c.loop-octets.invariant.parted c.in-Some.ensures c.in-Ok.ensures.parted;
}

pub returns-in-Err-clause-fault : goal.returns-in-Err-clause-fault
returns-in-Err-clause-fault c =
    first-bad _ c.loop-octets.rest.now c.in-Some.octets.now c.in-Some.after.now c.loop-octets.line (phase_of c.loop-octets.plan) _
    c.in-Err.ensures.reason (parted-leads _ _ _ _ _ c.loop-octets.invariant.parted) c.in-Some.ensures c.requires.within

pub returns-clause-parted : goal.returns-clause-parted
returns-clause-parted c = rw c.in_default.ensures at c.loop-octets.invariant.parted

pub returns-clause-good : goal.returns-clause-good
returns-clause-good c =
    (c.loop-octets.line, phase_of c.loop-octets.plan, rw c.in_default.ensures at (parted-leads _ _ _ _ _ c.loop-octets.invariant.parted))
