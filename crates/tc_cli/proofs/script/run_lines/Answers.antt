use Rattle.std.proofs.Common.{arith}
use Rattle.tc_cli.proofs.Names.{at_first, phase_of}
use Rattle.tc_cli.proofs.Alone.{AloneLaws}
use Rattle.tc_cli.proofs.Scripts.{first-bad, good-end, end-fault}
use Rattle.tc_cli.proofs.Written.{none-so-far, one-more-so-far, so-far-good, cut-short, end-written, end-cut-short}
use Rattle.tc_cli.proofs.script.run_lines.Goals as goal

pub loop-octets-init : goal.loop-octets-init
loop-octets-init g c = record { counted = omega arith; so_far = none-so-far _ _ _ _ (rw c.new.ensures at_first) }

pub loop-octets-preserved : goal.loop-octets-preserved
loop-octets-preserved g c = record {
  counted = omega (arith, c.in-Some.ensures.shorter, c.loop-octets.invariant.counted);
  so_far = one-more-so-far _ _ _ _ _ _ _ _ _ _ _ _ c.loop-octets.invariant.so_far c.in-Some.ensures c.in-Ok.ensures.answer c.in_ok-write_answer.ensures.written;
}

pub returns-in-Err-clause-fault : goal.returns-in-Err-clause-fault
returns-in-Err-clause-fault g c =
    first-bad _ c.loop-octets.rest.now c.in-Some.octets.now c.in-Some.after.now c.loop-octets.line (phase_of c.loop-octets.session) _
    c.in-Err.ensures.reason (so-far-good _ _ _ _ _ _ _ c.loop-octets.invariant.so_far) c.in-Some.ensures c.requires.within

pub returns-in-Err-clause-cut_short : goal.returns-in-Err-clause-cut_short
returns-in-Err-clause-cut_short g c =
    cut-short _ _ c.loop-octets.line _ _ _ _ _ _ _ c.in-Err.ensures.reason c.loop-octets.invariant.so_far c.in-Some.ensures

pub returns-clause-good : goal.returns-clause-good
returns-clause-good g c = good-end _ _ _ _ _ (so-far-good _ _ _ _ _ _ _ c.loop-octets.invariant.so_far) c.in_default.ensures

pub returns-clause-written : goal.returns-clause-written
returns-clause-written g c =
    let alone = c.one_alone_is_answered_after_its_own_events.ensures in
    let laws : AloneLaws = record { event = alone.event; look = alone.look; seen = alone.seen; whole = c.the_only_operator_made_the_whole_journal.ensures } in
    end-written laws _ _ _ _ _ _ _ _ _ c.loop-octets.invariant.so_far c.in_default.ensures c.report.ensures.written

pub returns-clause-cut_short : goal.returns-clause-cut_short
returns-clause-cut_short g c =
    end-cut-short _ _ _ _ _ _ _ _ _ c.loop-octets.invariant.so_far c.in_default.ensures c.report.ensures.fault c.report.ensures.kept

pub returns-clause-fault : goal.returns-clause-fault
returns-clause-fault g c =
    end-fault _ _ _ _ _ _ _ (so-far-good _ _ _ _ _ _ _ c.loop-octets.invariant.so_far) c.in_default.ensures c.requires.within c.report.ensures.fault
