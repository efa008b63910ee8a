use Rattle.std.proofs.Common.{rules}
use Rattle.logged_lock.proofs.Steps.{some_word, issues}
use Rattle.logged_lock.proofs.lock.LoggedLock.issue.Goals as goal

pub split_seat-requires : goal.split_seat-requires
split_seat-requires g c = (search rules, some_word _ c.self.invariant.0, issues g.S.Logged.log g.S.Logged.fits _ _ _ c.requires.first c.requires.live)
