-- The two fields are moved, and with them the resources that a place with a judge owns.
use Rattle.tc_c_base.proofs.Walking.{List, [], ◌∷◌, ◌++◌, refl, sym, subst, Option, IsSome, Val, SProp, ent, id⊢, ftrue, fsep, WpFn, ‵, raw, ◌⊛◌, ◌$◌, ◌∵◌, !, qed, move, drop, use1, join, split, fsplit, fjoin, rewrite, suffices, done, whole, sub, agg, stop, fld, no_more, and_then, of_opd, returns, enter, alloc_all, pass_all, free_all, look_at, get, get_in, sets, fact, tables, yes, type_at, nothing, heard, says, Stays, stay_dropped, walk_of, ends_at, Goes-dropped, proved_at, D, word, box_typed, box_out, box_in}
use Rattle.tc_c_judge.specs.declared.held.HeldJudge.{HeldJudge as HeldValue}
use Rattle.tc_c_judge.proofs.Places.{E, FromPlace, found}
use Rattle.tc_c_judge.specs.contracts.place.Place as Place
use Rattle.tc_c_judge.specs.contracts.place.Place.into_parts as f
use Rattle.tc_c_judge.proofs.place.Place.into_parts.Statement.{statement}
use Rattle.tc_c_judge.proofs.place.Place.into_parts.Code as code

abbrev stayed : Stays f.ended.signature.params f.ended.kept
stayed = (stay_dropped FromPlace yes, tt)

pub into_parts_spec : {M : Type 1} → statement M
into_parts_spec 𝓤 𝓛 𝓜 𝓡 wired =
    let c = f.clauses 𝓛 𝓜.mem 𝓡.returns in let 𝓣 = tables 𝓤 𝓛.H 𝓜 𝓡 𝓡.env in
    proved_at 𝓛 f.ended stayed c 𝓜 𝓡 (Goes-dropped 𝓛 0 FromPlace yes (λ κs x w. refl), tt)
    f.Key.name code.function (code.unfolded 𝓤 𝓛.H 𝓜 𝓡 wired) (λ z are.
    let d = z.0.3.0 in let vs = z.0.4.0 in let Post : Val → SProp 𝓤 = (walk_of 𝓛 f.ended stayed c).post z in
    let Run : List Val → SProp 𝓤 = λ ws. WpFn 𝓤 𝓛.H 𝓣.C 𝓣.Λ code.function ws Post in
    let To = type_at f.signature.result tt in
    qed 𝓛 ((‵ ftrue ⊛ ‵ (fsep (Place.the_row.own_val d vs) ftrue)) ∷ raw (fact 𝓤 (IsSome d.judge)) ∷ []) ∵
    split ! $ drop ! $ fsplit ! $ move ! (2 ∷ []) $ heard ! _ (λ there.
    let x = (found d.judge there).0 in let is = (found d.judge there).1 in
    let v : D E = record { ptr = d.ptr; alloc = d.alloc; value = x } in
    let made : To.Denot = record { ptr = d.ptr; alloc = d.alloc; value = x } in
    rewrite ! 0 (λ (o : Option HeldValue). ‵ (Place.the_row.own_val (record { ptr = d.ptr; alloc = d.alloc; judge = o }) vs)) is refl $
    box_out E ! v vs (λ b o hv e ws fa. let w = word E hv b o in
    box_in E ! v b o x e refl $ use1 𝓛 (‵ (To.own_val made (w ∷ []))) (id⊢ 𝓤 _) $ move ! (1 ∷ []) $ drop ! $
    -- the resource at this point is the parts
    suffices ! (Run (w ∷ [])) (subst (λ (us : List Val). ent 𝓤 (Run (w ∷ [])) (Run us)) (sym (λ i. ws i ++ [])) (id⊢ 𝓤 (Run (w ∷ [])))) $
    enter ! 𝓣.C 𝓣.Λ code.function (w ∷ []) Post $ alloc_all ! (λ l. pass_all ! refl (box_typed E hv b o fa, tt) $
    sets ! (of_opd ! (get_in ! (fld ! refl (stop !)) (sub ! 0 refl (whole !)))) refl (tt, tt) $
    sets ! (of_opd ! (get_in ! (fld ! refl (stop !)) (sub ! 1 refl (whole !)))) refl fa $
    sets ! (of_opd ! (get ! refl)) refl (tt, tt) $
    sets ! (agg ! (and_then ! (get ! refl) (and_then ! (get ! refl) (no_more !)))) refl (box_typed E hv b o fa) $
    returns ! (look_at ! 0 refl) $ free_all ! refl $
    suffices ! _ (ends_at 𝓛 f.ended stayed c z w made (tt, tt) (tt, tt)) $ says ! is $
    nothing ! $ nothing ! $ fjoin ! $ join ! $ nothing ! $ join ! $ done !))))
