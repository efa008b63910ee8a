use Rattle.std.proofs.Common.{rules}
use Rattle.logged_lock.proofs.Merging.{merges, made-whole}
use Rattle.logged_lock.proofs.Steps.{the_word, accounts}
use Rattle.logged_lock.proofs.lock.LoggedLock.account.Goals as goal

pub load-requires : goal.load-requires
load-requires g c = (search rules, the_word _ c.self.invariant.0, accounts g.S.Logged.log g.S.Logged.fits _ _ _ _ c.requires.first c.requires.locks)

pub returns-clause-whole : goal.returns-clause-whole
returns-clause-whole g c = λ idle back.
    let s = c.load.ensures.2.1 in
    made-whole c.args.first.now.me.0.own.seen s.0 c.args.first.now.me.0.reported s.1 s.2 (s.3 idle back)

pub returns-clause-merge : goal.returns-clause-merge
returns-clause-merge g c = λ all.
    let s = c.load.ensures.2.1 in
    merges c.args.first.now.me.0.own.seen s.0 c.args.first.now.me.0.reported s.1 s.2 all
