use Rattle.std.proofs.Common.{rules}
use Rattle.logged_lock.proofs.Steps.{the_word, marks}
use Rattle.logged_lock.proofs.lock.LoggedLock.mark.Goals as goal

pub compare_exchange-requires : goal.compare_exchange-requires
compare_exchange-requires g c = (search rules, the_word _ c.self.invariant.0, marks g.S.Logged.log g.S.Logged.fits _ _ _ _ _ _ c.requires.taken.0 c.requires.taken.1)
