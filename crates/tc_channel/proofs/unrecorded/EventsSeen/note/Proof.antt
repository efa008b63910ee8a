-- The body is empty. The borrow is opened, and closed with a list that is one event longer.
use Rattle.tc_channel.proofs.Walking.{[], ◌∷◌, ◌++◌, refl, proved, ftrue, flft, named, vunit, ‵, ◌⊛◌, ◌$◌, ◌∵◌, !, qed, done, move, keep, use1, split, join, fsplit, fsplit3, feq_i, suffices, frame, group, enter, of_opd, unit_lit, returns, alloc_all, pass_all, free_all, look_at, sets, mut_vals, mut_Tells, shr_vals, shr_Tells, plain, types_at, named_lft, owns, yes, RefOf, nothing, opens, closes, Stays, walk_of, says, stay_ref, Goes-ref, stay_dropped, Goes-dropped, ends_at}
use base.Logic.{id⊢}
use Rattle.tc_channel.specs.Journal.{event_of}
use Rattle.tc_channel.specs.contracts.unrecorded.EventsSeen.note as f
use Rattle.tc_channel.specs.contracts.unrecorded.EventsSeen.{the_row as row}
use Rattle.tc_channel.specs.contracts.lent.LentEvent.{the_row as event_row}
use Rattle.tc_channel.proofs.unrecorded.EventsSeen.note.Statement.{statement}
use Rattle.tc_channel.proofs.unrecorded.EventsSeen.note.Code as code

abbrev stayed : Stays f.ended.signature.params f.ended.kept
stayed = (stay_ref (0 ∷ []) tt (plain (λ _. row)), (stay_dropped _ yes, tt))

pub note_spec : {M : Type 1} → statement M
note_spec 𝓤 𝓛 𝓜 𝓡 wired =
    let c = f.clauses 𝓛 𝓜.mem 𝓡.returns in
    let W = walk_of 𝓛 f.ended stayed c in
    let goes = Goes-dropped 𝓛 3 (RefOf (1 ∷ []) tt (plain (λ κs. event_row (named_lft 3 2 tt κs))) (λ _. tt)) yes (λ κs x w. refl) in
    proved 𝓛 f.ended stayed c 𝓜 𝓡 (Goes-ref 𝓛 3 0 tt (plain (λ _. row)), (goes, tt))
    f.Key.name code.function (code.unfolded 𝓤 𝓛.H 𝓜 𝓡 wired)
    (λ κs. (mut_vals, (shr_vals, tt))) (λ κs. (mut_Tells (named 0) κs.0 row, (shr_Tells (named 1) κs.1.0 (event_row (named_lft 3 2 tt κs)), tt))) (λ κs qs bounds a n are.
    let block = a.0.ref_ptr.0 in let offset = a.0.ref_ptr.1 in let vs = mut_vals a.0 in
    let longer : row.Denot = record { events = a.0.now.events ++ event_of a.1.0.now ∷ [] } in
    let y : W.Ghost = ((κs, qs, bounds, a, (vs, (shr_vals a.1.0, tt))), n) in
    qed 𝓛 (((‵ (flft κs.0 qs.0) ⊛ (‵ (flft κs.1.0 qs.1.0) ⊛ (‵ (flft κs.1.1.0 qs.1.1.0) ⊛ ‵ ftrue))) ⊛ ‵ (owns (types_at f.signature.params κs) a (vs, (shr_vals a.1.0, tt)))) ∷ ‵ ftrue ∷ []) ∵
    split ! $ split ! $ move ! (2 ∷ []) $ fsplit ! $ keep ! (0 ∷ 2 ∷ 3 ∷ []) $
    enter ! _ _ _ _ _ $ alloc_all ! (λ l. pass_all ! refl ((tt, tt), ((tt, tt), tt)) $
    fsplit3 ! $ move ! (1 ∷ 2 ∷ 3 ∷ []) $ opens ! tt row block offset (λ us.
    -- the result is (), and the borrowed value is returned with the event noted
    sets ! (of_opd ! (unit_lit !)) refl (tt, tt) $
    move ! (1 ∷ []) $ use1 𝓛 (‵ (row.own_val longer us)) (id⊢ 𝓤 _) $ move ! (1 ∷ 0 ∷ []) $ closes ! tt row longer us block offset $
    returns ! (look_at ! 0 refl) $ free_all ! refl $ move ! (3 ∷ []) $
    suffices ! _ (ends_at 𝓛 f.ended stayed c y vunit tt (longer, (tt, tt)) (tt, (tt, tt))) $ says ! refl $
    group ! 3 $ nothing ! $ nothing ! $ join ! $ move ! (1 ∷ 0 ∷ []) $ join ! $ move ! (1 ∷ 2 ∷ []) $ join ! $ frame ! $ frame ! $
    feq_i ! _ (vunit ∷ []) _ refl $ done !)))
