-- The body creates a value without octets, with the events that the reference shows.
use Rattle.tc_channel.proofs.Walking.{[], ◌∷◌, refl, proved, ftrue, named, vstruct, vnil, ‵, raw, ◌⊛◌, ◌$◌, ◌∵◌, !, qed, done, move, keep, split, fjoin, suffices, enter, no_more, returns, agg, alloc_all, pass_all, free_all, look_at, sets, owns, pure_i, yes, RefOf, shr_vals, shr_Tells, plain, types_at, nothing, alive, says, Stays, walk_of, ends_at, stay_dropped, Goes-dropped}
use Rattle.tc_channel.specs.contracts.unrecorded.EventsSeen.again as f
use Rattle.tc_channel.specs.contracts.unrecorded.EventsSeen.{the_row as row}
use Rattle.tc_channel.proofs.unrecorded.EventsSeen.again.Statement.{statement}
use Rattle.tc_channel.proofs.unrecorded.EventsSeen.again.Code as code

abbrev stayed : Stays f.ended.signature.params f.ended.kept
stayed = (stay_dropped _ yes, tt)

pub again_spec : {M : Type 1} → statement M
again_spec 𝓤 𝓛 𝓜 𝓡 wired =
    let c = f.clauses 𝓛 𝓜.mem 𝓡.returns in
    let W = walk_of 𝓛 f.ended stayed c in
    proved 𝓛 f.ended stayed c 𝓜 𝓡 (Goes-dropped 𝓛 1 (RefOf (0 ∷ []) tt (plain (λ _. row)) (λ _. tt)) yes (λ κs x w. refl), tt)
    f.Key.name code.function (code.unfolded 𝓤 𝓛.H 𝓜 𝓡 wired)
    (λ κs. (shr_vals, tt)) (λ κs. (shr_Tells (named 0) κs.0 row, tt)) (λ κs qs bounds a n are.
    let same : row.Denot = record { events = a.0.now.events } in
    let y : W.Ghost = ((κs, qs, bounds, a, (shr_vals a.0, tt)), n) in
    qed 𝓛 ((raw (alive 𝓛 f.signature κs qs) ⊛ ‵ (owns (types_at f.signature.params κs) a y.0.4)) ∷ ‵ ftrue ∷ []) ∵ split ! $ keep ! (0 ∷ []) $
    enter ! _ _ _ _ _ $ alloc_all ! (λ l. pass_all ! refl ((tt, tt), tt) $
    sets ! (agg ! (no_more !)) refl (tt, tt) $
    returns ! (look_at ! 0 refl) $ free_all ! refl $
    suffices ! _ (ends_at 𝓛 f.ended stayed c y (vstruct vnil) same (tt, tt) (tt, tt)) $ says ! refl $
    pure_i ! (row.own_val same (vstruct vnil ∷ [])) ((λ vss. (tt, tt)), tt) ((tt, (refl, tt)), tt) $
    nothing ! $ nothing ! $ fjoin ! $ move ! (2 ∷ 0 ∷ 1 ∷ []) $ done !))
