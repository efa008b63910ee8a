use Rattle.std.proofs.Common.{◌≢◌, ◌<◌, length, Some, ◌∙◌, arith}
use Rattle.tc_c.proofs.Racks.{still, differs, passed, nowhere}
use Rattle.tc_c.proofs.rack.place_of.Goals as goal

pub returns-then-eq-clause-unchanged : goal.returns-then-eq-clause-unchanged
returns-then-eq-clause-unchanged c =
    still c.loop-place.seats c.loop-place.place c.vcid_in.new.seat c.index-seats-place.result c.vcid_in.ensures.unchanged ∙ c.loop-place.invariant.same

pub loop-place-preserved : goal.loop-place-preserved
loop-place-preserved c =
    let seats = c.loop-place.seats in let place = c.loop-place.place in let seat = c.index-seats-place.result in
    let inside : place < length seats = omega arith in
    let other : c.vcid_in.result ≢ Some c.args.vcid = differs c.vcid_in.result c.args.vcid c.if-eq.ensures in
    record {
      same = still seats place c.vcid_in.new.seat seat c.vcid_in.ensures.unchanged ∙ c.loop-place.invariant.same;
      before = passed seats place seat _ c.args.vcid inside c.loop-place.invariant.same
          (λ e. other (c.vcid_in.ensures.vcid ∙ e)) c.loop-place.invariant.before;
    }

pub returns-clause-place : goal.returns-clause-place
returns-clause-place c =
    nowhere c.loop-place.seats c.loop-place.place _ c.args.vcid (omega arith) c.loop-place.invariant.same c.loop-place.invariant.before
