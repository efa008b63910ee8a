use Rattle.std.proofs.Common.{rules, arith}
use Rattle.tc_make.proofs.Written.{none-before, frame-on, frames-stop}
use Rattle.tc_make.proofs.answer.write_parts.Goals as goal

pub loop-place-init : goal.loop-place-init
loop-place-init g c = none-before c.args.ending c.args.parting.now _

pub loop-place-preserved : goal.loop-place-preserved
loop-place-preserved g c =
    frame-on c.in_ok-write_part.field-0 c.args.ending c.args.parting.now c.loop-place.place _ _ _ (search rules) c.loop-place.invariant
    c.in_ok-write_part.ensures

pub returns-then-not-branch : goal.returns-then-not-branch
returns-then-not-branch g c =
    frames-stop c.in_ok-write_part.field-0 c.args.ending c.args.parting.now c.loop-place.place _ _ _ (search rules) (grind arith) c.loop-place.invariant
    c.in_ok-write_part.ensures
