use Rattle.logged_lock.proofs.Steps.{the_word, sits}
use Rattle.logged_lock.proofs.lock.LoggedLock.guest.Goals as goal

pub load_new_seat-requires : goal.load_new_seat-requires
load_new_seat-requires g c = (the_word _ c.self.invariant.0, sits g.S.Logged.log g.S.Logged.fits _ _)
