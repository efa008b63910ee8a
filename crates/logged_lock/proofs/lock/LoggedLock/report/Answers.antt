use Rattle.std.proofs.Common.{rules}
use Rattle.logged_lock.proofs.Steps.{some_word, reports}
use Rattle.logged_lock.proofs.lock.LoggedLock.report.Goals as goal

pub join_seat-requires : goal.join_seat-requires
join_seat-requires g c = (search rules, search rules, c.requires.idle.hands, some_word _ c.self.invariant.0, reports g.S.Logged.log g.S.Logged.fits _ g.D.Head.blank _ _ _ _ c.requires.first c.requires.live c.requires.idle.live c.requires.maker)
