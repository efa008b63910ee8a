use Rattle.std.proofs.Common.{ap, rules, arith}
use Rattle.tc_queues.specs.ChannelState.{no_limits}
use Rattle.tc_status.specs.Board.{no_flag}
use Rattle.tc_status.proofs.Steps.{reads}
use Rattle.tc_status.proofs.watcher.Watcher.read.Goals as goal

pub load-requires : goal.load-requires
load-requires c = (search rules, search rules, reads _ _ _ (ap (λ m. m.0.live) c.self.invariant.view))

pub overflow_cast-result : goal.overflow_cast-result
overflow_cast-result c =
    let read = c.load.ensures.2 in
    let seen = c.load.new.seat.me.0.seen in
    let fits = c.each_clcw_fits_its_word.ensures no_limits seen.settings seen.journal no_flag read.allowed read.lawful in
    omega (arith, read.word, fits)
