use Rattle.std.proofs.Common.{rules}
use Rattle.logged_lock.proofs.Steps.{the_word, takes_lock}
use Rattle.logged_lock.proofs.lock.LoggedLock.take.Goals as goal

pub compare_exchange-requires : goal.compare_exchange-requires
compare_exchange-requires g c = (search rules, the_word _ c.self.invariant.0, takes_lock g.S.Logged.log g.S.Logged.fits _ _ _ _ _ _ c.requires.free c.requires.taken c.requires.idle)
