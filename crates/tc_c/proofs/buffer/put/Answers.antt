use Rattle.std.proofs.Common.{◌≡◌, ◌++◌, length, arith}
use Rattle.tc_c.proofs.Buffers.{kept}
use Rattle.tc_c.proofs.buffer.put.Goals as goal

pub returns-clause-rest : goal.returns-clause-rest
returns-clause-rest c fits =
    let first = c.args.first.now in
    let second = c.args.second.now in
    let one = c.split_at_mut-front.result.0.now in
    let other = c.split_at_mut-middle.result.0.now in
    let rest = c.split_at_mut-middle.result.1.now in
    let whole : c.args.to.now ≡ one ++ (other ++ rest) = grind arith in
    let front : length one ≡ length first = grind arith in
    let middle : length other ≡ length second = grind arith in
    rw whole (rw c.copy_from_slice.ensures.after (rw c.copy_from_slice-2.ensures.after (kept first second one other rest front middle)))
