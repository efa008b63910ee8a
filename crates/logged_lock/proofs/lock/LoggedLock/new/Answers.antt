use Rattle.std.proofs.Common.{◌≡◌, List, [], ◌∷◌, map, sym, subst, rules}
use mathlib.Core.Option.{some}
use Rattle.logged_lock.specs.Log.{start_of}
use Rattle.logged_lock.specs.Rule.{IsLock, newcomer, words_of}
use Rattle.logged_lock.proofs.Steps.{opens}
use Rattle.logged_lock.proofs.lock.LoggedLock.new.Goals as goal

pub new-requires : goal.new-requires
new-requires g c =
    let items : c.push_reserved.new.self.items ≡ c.args.kept ∷ [] = search rules in
    subst (λ (l : List g.row.S.Denot). IsLock g.S.Logged.log g.S.Logged.fits c.args.head.now (words_of 0) (map some l) (newcomer (start_of c.args.head.now) ∷ [])) (sym items)
    (opens g.S.Logged.log g.S.Logged.fits c.args.head.now c.args.kept c.requires.fits c.requires.fresh)
