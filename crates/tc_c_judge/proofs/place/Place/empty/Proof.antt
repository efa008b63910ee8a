-- A place of no judge owns nothing beyond its fields.
use Rattle.tc_c_base.proofs.Walking.{List, [], ◌∷◌, ◌++◌, refl, sym, subst, None, lit<, T, Val, vnull, vstruct, vcons, vnil, has_ty, SProp, ent, emp, id⊢, ftrue, fsep, WpFn, ‵, raw, ◌⊛◌, ◌$◌, ◌∵◌, !, qed, move, drop, join, split, fsplit, fjoin, fpack, feq_i, suffices, done, agg, no_more, and_then, lit, returns, enter, alloc_all, pass_all, free_all, look_at, get, sets, tables, yes, Valss, null_ptr, ptr_val, plain, nothing, says, Stays, stay_dropped, walk_of, ends_at, Goes-dropped, α, handle_tells, proved_at}
use mathlib.Core.Bool.{Bool, true, false, ◌&&◌}
use denote.Struct.Struct.{within}
use denote.Struct.Owning.{shape, fields, to}
use Rattle.std.specs.contracts.alloc.Global as Heap
use Rattle.tc_c_judge.proofs.Places.{E}
use Rattle.tc_c_judge.specs.contracts.place.Place as Place
use Rattle.tc_c_judge.specs.contracts.place.Place.empty as f
use Rattle.tc_c_judge.proofs.place.Place.empty.Statement.{statement}
use Rattle.tc_c_judge.proofs.place.Place.empty.Code as code

abbrev stayed : Stays f.ended.signature.params f.ended.kept
stayed = (stay_dropped (plain (λ _. Heap.the_row)) yes, tt)

and-true : (x : Bool) → T x → T (x && true)
and-true true t = t
and-true false t = absurd t

pub empty_spec : {M : Type 1} → statement M
empty_spec 𝓤 𝓛 𝓜 𝓡 wired =
    let c = f.clauses 𝓛 𝓜.mem 𝓡.returns in let 𝓣 = tables 𝓤 𝓛.H 𝓜 𝓡 𝓡.env in
    proved_at 𝓛 f.ended stayed c 𝓜 𝓡 (Goes-dropped 𝓛 0 (plain (λ _. Heap.the_row)) yes (λ κs x w. refl), tt)
    f.Key.name code.function (code.unfolded 𝓤 𝓛.H 𝓜 𝓡 wired) (λ z are.
    let a = z.0.3.0 in let vs = z.0.4.0 in let Post : Val → SProp 𝓤 = (walk_of 𝓛 f.ended stayed c).post z in
    let Run : List Val → SProp 𝓤 = λ ws. WpFn 𝓤 𝓛.H 𝓣.C 𝓣.Λ code.function ws Post in
    let made : Place.the_row.Denot = record { ptr = null_ptr; alloc = a; judge = None } in
    qed 𝓛 ((‵ ftrue ⊛ ‵ (fsep (Heap.the_row.own_val a vs) ftrue)) ∷ raw (emp 𝓤) ∷ []) ∵
    split ! $ drop ! $ fsplit ! $ move ! (2 ∷ []) $ drop ! $ handle_tells E.al ! a vs (λ hv ws fa.
    let w : Val = vstruct (vcons vnull (vcons hv vnil)) in
    -- the resources at this point, in order: the allocator, and nothing, because the place of no judge owns nothing
    nothing ! $ move ! (1 ∷ 0 ∷ []) $ fjoin ! $
    feq_i ! (List Val) (vnull ∷ []) (ptr_val null_ptr ∷ []) refl $ fjoin ! $ feq_i ! (List Val) (w ∷ []) (w ∷ []) refl $ fjoin ! $
    fpack ! (Valss (fields Place.the_type)) (within (shape Place.the_type) (to Place.the_type made) (w ∷ [])) (vnull ∷ [], (hv ∷ [], tt)) $ fjoin ! $
    -- the resource at this point is the place
    suffices ! (Run (hv ∷ [])) (subst (λ (us : List Val). ent 𝓤 (Run (hv ∷ [])) (Run us)) (sym (λ i. ws i ++ [])) (id⊢ 𝓤 (Run (hv ∷ [])))) $
    enter ! 𝓣.C 𝓣.Λ code.function (hv ∷ []) Post $ alloc_all ! (λ l. pass_all ! refl (fa, tt) $
    sets ! (agg ! (and_then ! (lit ! tt) (and_then ! (get ! refl) (no_more !)))) refl
    (and-true (has_ty (α E.al) hv) fa.0, (record { fits = lit< tt }, (fa.1, tt))) $
    returns ! (look_at ! 0 refl) $ free_all ! refl $
    suffices ! _ (ends_at 𝓛 f.ended stayed c z w made (tt, tt) (tt, tt)) $ says ! refl $
    nothing ! $ nothing ! $ fjoin ! $ join ! $ nothing ! $ join ! $ done !)))
