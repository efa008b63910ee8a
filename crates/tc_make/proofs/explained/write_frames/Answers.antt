use Rattle.tc_make.proofs.Names.{arith, inl, inr, on_ok_weaker}
use Rattle.tc_make.proofs.Written.{none-found, frame-found, all-found, is-fault}
use Rattle.tc_make.proofs.explained.write_frames.Goals as goal

pub loop-init : goal.loop-init
loop-init g c = none-found c.args.octets.now _

pub loop-preserved : goal.loop-preserved
loop-preserved g c = frame-found _ _ _ _ _ _ _ _ c.loop.invariant c.in-Ok.ensures.frame c.in_ok-write_named-in-Ok.ensures

pub returns-in-Err : goal.returns-in-Err
returns-in-Err g c =
    on_ok_weaker c.write_rest.result
    (all-found c.args.octets.now c.loop.rest.now c.args.most c.loop.counter _ _ _ c.loop.invariant (grind arith) (inr (is-fault c.loop.rest.now _ c.in-Err.ensures.fault)))
    c.write_rest.ensures

pub returns : goal.returns
returns g c =
    on_ok_weaker c.write_rest-2.result (all-found c.args.octets.now c.loop.rest.now c.args.most c.loop.counter _ _ _ c.loop.invariant (grind arith) (inl (grind arith)))
    c.write_rest-2.ensures
