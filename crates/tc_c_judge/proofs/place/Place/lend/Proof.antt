-- `lend` lends the judge. Once the borrow ends, the place has the judge that the borrow left.
use Rattle.tc_c_base.proofs.Walking.{List, [], ◌∷◌, ◌≡◌, refl, sym, Option, IsSome, Val, SProp, ent, id⊢, ftrue, fsep, flft, vptr, ‵, raw, ◌⊛◌, ◌$◌, ◌∵◌, !, qed, move, drop, use1, join, split, split3, fsplit, fjoin, fpack, pick, rewrite, suffices, await, some, later, done, whole, sub, stop, fld, of_opd, returns, enter, first, blocks, exec, alloc_all, pass_all, free_all, look_at, get, sets, fact, tables, no, plain, nothing, heard, says, Stays, stay_dropped, walk_of, ends_at, at_ret, env, block_ptr, token, D, R, τ, word, box_out, box_in}
use base.Fraction.{full_share}
use base.Fml.{Fml, GName}
use base.Logic.{sep}
use Rattle.tc_c_judge.proofs.Names.{named, raw as bare, Logic, sem, mut_ref_to, handle, HeldValue, judge_row}
use types.Kit.{frame, fsplit3, group, keep}
use seplogic.Ra.Ura.{Ura}
use Prim.Native.Nat.{ℕ}
use types.Part.{look_in}
use types.Run.{addr, load}
use types.ByLocal.{sets_last, through}
use denote.Follow.{follows, Part, lends_Part}
use denote.Memory.{cell_at, mem, part_at, part_of, raw_all}
use denote.Ref.{MutBor, MutRef, mut_vals, mut_Tells}
use denote.RattleType.{owns}
use denote.Steps.{opens}
use denote.Triple.Walked.{Goes-spent_ref}
use Rattle.std.proofs.raw_atomic.Walks.{proved}
use Rattle.std.proofs.VecSteps.Shapes.{after}
use Rattle.tc_c_judge.specs.Lending.{with_judge}
use Rattle.tc_c_judge.proofs.Places.{E, found}
use Rattle.tc_c_judge.specs.contracts.place.Place as Place
use Rattle.tc_c_judge.specs.contracts.place.Place.lend as f
use Rattle.tc_c_judge.proofs.place.Place.lend.Statement.{statement}
use Rattle.tc_c_judge.proofs.place.Place.lend.Code as code

abbrev stayed : Stays f.ended.signature.params f.ended.kept
stayed = (stay_dropped (mut_ref_to (0 ∷ []) tt (plain (λ _. Place.the_row))) no, tt)

as_param : (x : HeldValue) (b o : ℕ) → part_at judge_row full_share x b o ≡ part_at (R E) full_share x b o
as_param x b o j = part_of (raw_all (E.laws.one j)) judge_row.own_val full_share x b o

module _ {M : Type 1} {𝓤 : Ura M} (𝓛 : Logic 𝓤) (h : Place.the_row.Denot) (rb ro b o : ℕ) (hv : Val) where
  -- all of the place but its judge
  abbrev Rest : Fml
  Rest = fsep (fsep (token E.al h.alloc (bare (τ E)) (block_ptr b o)) (handle E h.alloc hv)) (cell_at full_share Place.the_row.mir (word E hv b o ∷ []) rb ro)

  back : h.ptr ≡ block_ptr b o → (w : HeldValue)
      → ent 𝓤 (sep 𝓤 (sem 𝓛 ((mem judge_row).own_at w b o)) (sem 𝓛 Rest)) (sem 𝓛 ((mem Place.the_row).own_at (with_judge h w) rb ro))
  unfolding part_of
  back at_b w =
      let v : D E = record { ptr = h.ptr; alloc = h.alloc; value = w } in
      qed 𝓛 (‵ (part_at judge_row full_share w b o) ∷ ‵ Rest ∷ []) ∵ rewrite ! 0 (λ (F : Fml). ‵ F) (as_param w b o) refl $
      move ! (1 ∷ []) $ fsplit ! $ fsplit ! $ move ! (3 ∷ []) $ box_in E ! v b o w at_b refl $
      use1 𝓛 (‵ (Place.the_row.own_val (with_judge h w) (word E hv b o ∷ []))) (id⊢ 𝓤 _) $ move ! (1 ∷ 0 ∷ []) $ fjoin ! $
      fpack ! (List Val) (λ us. fsep (cell_at full_share Place.the_row.mir us rb ro) (Place.the_row.own_val (with_judge h w) us)) (word E hv b o ∷ []) $ done !

pub lend_spec : {M : Type 1} → statement M
lend_spec 𝓤 𝓛 𝓜 𝓡 wired =
    let c = f.clauses 𝓛 𝓜.mem 𝓡.returns in let 𝓣 = tables 𝓤 𝓛.H 𝓜 𝓡 𝓡.env in
    proved 𝓛 f.ended stayed c 𝓜 𝓡 (Goes-spent_ref 𝓛 1 (0 ∷ []) tt (plain (λ _. Place.the_row)), tt)
    f.Key.name code.function (code.unfolded 𝓤 𝓛.H 𝓜 𝓡 wired)
    (λ κs. (mut_vals, tt)) (λ κs. (mut_Tells (named 0) κs.0 Place.the_row, tt)) (λ κs qs bounds a g are.
    let κ = κs.0 in let q = qs.0 in let rb = a.0.ref_ptr.0 in let ro = a.0.ref_ptr.1 in let γ = a.0.ghost_name in let h = a.0.now in
    let y : (walk_of 𝓛 f.ended stayed c).Ghost = ((κs, qs, bounds, a, (mut_vals a.0, tt)), g) in let Post : Val → SProp 𝓤 = (walk_of 𝓛 f.ended stayed c).post y in
    qed 𝓛 (((‵ (flft κ q) ⊛ ‵ ftrue) ⊛ ‵ (owns (MutRef (named 0) κ Place.the_row ∷ []) a (vptr rb ro ∷ [], tt))) ∷ raw (fact 𝓤 (IsSome h.judge)) ∷ []) ∵
    move ! (1 ∷ []) $ heard ! _ (λ there.
    let x = (found h.judge there).0 in let is = (found h.judge there).1 in let v : D E = record { ptr = h.ptr; alloc = h.alloc; value = x } in
    enter ! 𝓣.C 𝓣.Λ code.function (vptr rb ro ∷ []) Post $ alloc_all ! (λ l. pass_all ! refl ((tt, tt), tt) $ let En = env code.Mir.locals l in
    split ! $ split ! $ move ! (2 ∷ []) $ fsplit ! $ fsplit3 ! $ drop ! $ move ! (0 ∷ 1 ∷ 3 ∷ []) $
    opens ! tt Place.the_row {h = h} rb ro (λ vs. move ! (1 ∷ []) $
    rewrite ! 0 (λ (judge : Option HeldValue). ‵ (Place.the_row.own_val (record { ptr = h.ptr; alloc = h.alloc; judge = judge }) vs)) is refl $
    box_out E ! v vs (λ b o hv e ws fa.
    rewrite ! 3 (λ (us : List Val). ‵ (cell_at full_share Place.the_row.mir us rb ro)) ws refl $ move ! (1 ∷ 2 ∷ []) $ fjoin ! $ move ! (1 ∷ []) $
    -- the resources at this point, in order: the judge, the token with the handle, the cell, the open borrow, obs,
    -- and auth
    first ! $ blocks ! $
    sets ! (of_opd ! (load ! (through ! refl (fld ! refl (stop !))) (look_in ! 2 (sub ! 0 refl (whole !))))) refl (tt, tt) $
    sets ! (of_opd ! (get ! refl)) refl (tt, tt) $
    sets_last ! (addr ! (through ! refl (stop !))) refl (tt, tt) $
    exec ! 𝓣.C 𝓣.Λ En (after 1 code.function.body) (at_ret En Post) $
    sets ! (of_opd ! (get ! refl)) refl (tt, tt) $
    rewrite ! 0 (λ (F : Fml). ‵ F) (sym (as_param x b o)) refl $
    move ! (1 ∷ 2 ∷ []) $ fjoin ! $ move ! (2 ∷ 3 ∷ 4 ∷ 1 ∷ 0 ∷ []) $ group ! 5 $
    use1 𝓛 (later (some (λ (γ' : GName). raw (Part 𝓛 Place.the_row judge_row (with_judge h) (named 0) κ q rb ro b o γ (sem 𝓛 (Rest 𝓛 h rb ro b o hv)) (back 𝓛 h rb ro b o hv e) x γ'))))
    (lends_Part 𝓛 Place.the_row judge_row (with_judge h) (named 0) κ q rb ro b o γ (sem 𝓛 (Rest 𝓛 h rb ro b o hv)) (back 𝓛 h rb ro b o hv e) (Place.the_row.coded.code h) (Place.the_row.coded.code h) x) $ await ! tt $ pick ! (λ γ'.
    let lent : MutBor HeldValue = record { ref_ptr = (b, o); ghost_name = γ'; now = x } in
    use1 𝓛 (‵ ((MutRef (named 0) κ judge_row).own_val lent (vptr b o ∷ [])) ⊛ ‵ (flft κ q) ⊛ ‵ (follows Place.the_row judge_row γ γ' (with_judge h))) (id⊢ 𝓤 _) $ split3 ! $
    returns ! (look_at ! 0 refl) $ free_all ! refl $ keep ! (0 ∷ 1 ∷ 2 ∷ []) $
    suffices ! _ (ends_at 𝓛 f.ended stayed c y (vptr b o) lent (tt, tt) (tt, tt)) $
    nothing ! $ nothing ! $ fjoin ! $ join ! $ nothing ! $ move ! (2 ∷ 0 ∷ []) $ join ! $ join ! $ frame ! $ says ! is $ done !))))))
