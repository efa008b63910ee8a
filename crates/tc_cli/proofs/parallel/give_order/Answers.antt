use Rattle.std.proofs.Common.{◌≡◌, refl}
use Rattle.std.proofs.lemmas.Result.{on_ok_weaker}
use Rattle.tc_cli.proofs.parallel.give_order.Goals as goal

pub returns-clause-given : goal.returns-clause-given
returns-clause-given c =
    let begun = c.in_ok-begin.ensures.parted in
    let found : c.in-Operating.parted ≡ begun.0 = cc in
    on_ok_weaker c.give.result (λ given. (begun.0, c.give.new.self, begun.1, rw found at given, refl)) c.give.ensures.given
