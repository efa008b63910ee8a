use Rattle.std.proofs.Common.{rules}
use Rattle.logged_lock.proofs.Steps.{the_word, leaves}
use Rattle.logged_lock.proofs.lock.LoggedLock.unlock.Goals as goal

pub swap-word-requires : goal.swap-word-requires
swap-word-requires g c = (search rules, the_word _ c.self.invariant.0, leaves g.S.Logged.log g.S.Logged.fits _ _ _ _ _ c.given_back-next.ensures.free c.requires.unchanged)
