-- The body creates a value without octets, and its events are the empty list.
use Rattle.tc_channel.proofs.Walking.{[], ◌∷◌, refl, proved, ftrue, vstruct, vnil, ‵, raw, ◌⊛◌, ◌$◌, ◌∵◌, !, qed, done, move, keep, split, suffices, enter, no_more, returns, agg, alloc_all, pass_all, free_all, look_at, sets, owns, pure_i, alive, says, Stays, walk_of, ends_at}
use Rattle.tc_channel.specs.contracts.unrecorded.EventsSeen.new as f
use Rattle.tc_channel.specs.contracts.unrecorded.EventsSeen.{the_row as row}
use Rattle.tc_channel.proofs.unrecorded.EventsSeen.new.Statement.{statement}
use Rattle.tc_channel.proofs.unrecorded.EventsSeen.new.Code as code

abbrev stayed : Stays f.ended.signature.params f.ended.kept
stayed = tt

pub new_spec : {M : Type 1} → statement M
new_spec 𝓤 𝓛 𝓜 𝓡 wired =
    let c = f.clauses 𝓛 𝓜.mem 𝓡.returns in
    let W = walk_of 𝓛 f.ended stayed c in
    let none : row.Denot = record { events = [] } in
    proved 𝓛 f.ended stayed c 𝓜 𝓡 tt
    f.Key.name code.function (code.unfolded 𝓤 𝓛.H 𝓜 𝓡 wired)
    (λ κs. tt) (λ κs. tt) (λ κs qs bounds a n are.
    let y : W.Ghost = ((κs, qs, bounds, a, tt), n) in
    qed 𝓛 ((raw (alive 𝓛 f.signature κs qs) ⊛ ‵ (owns [] tt tt)) ∷ ‵ ftrue ∷ []) ∵ split ! $ keep ! (0 ∷ 1 ∷ []) $
    enter ! _ _ _ _ _ $ alloc_all ! (λ l. pass_all ! refl tt $
    -- the resources at this point, in order: the result, the tokens, and nothing that is owned
    sets ! (agg ! (no_more !)) refl (tt, tt) $
    returns ! (look_at ! 0 refl) $ free_all ! refl $
    suffices ! _ (ends_at 𝓛 f.ended stayed c y (vstruct vnil) none tt tt) $ says ! refl $
    pure_i ! (row.own_val none (vstruct vnil ∷ [])) ((λ vss. (tt, tt)), tt) ((tt, (refl, tt)), tt) $
    move ! (1 ∷ 2 ∷ 0 ∷ []) $ done !))
