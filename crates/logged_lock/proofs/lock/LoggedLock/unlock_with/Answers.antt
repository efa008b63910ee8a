use Rattle.std.proofs.Common.{rules}
use Rattle.logged_lock.proofs.Steps.{the_word, leaves_with}
use Rattle.logged_lock.proofs.lock.LoggedLock.unlock_with.Goals as goal

pub swap-word-requires : goal.swap-word-requires
swap-word-requires g c = (search rules, the_word _ c.self.invariant.0, leaves_with g.S.Logged.log g.S.Logged.fits _ _ _ _ _ _ c.given_back-next.ensures.free c.requires.maker c.requires.longer)
