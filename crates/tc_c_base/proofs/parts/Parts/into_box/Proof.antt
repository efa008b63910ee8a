-- The parts own the resources that the library's call requires, and the box owns them afterwards.
use Rattle.tc_c_base.proofs.Walking.{◌≡◌, List, [], ◌∷◌, ◌++◌, refl, sym, subst, ap, T, Body, place, copy, assign, rv_opd, seq, return, a_type, dcons, dnil, inst_fn, Val, vptr, has_ty, WT, SProp, ent, id⊢, ftrue, fsep, flft, WpFn, Item, at_ret, ‵, raw, ◌⊛◌, some, later, ◌$◌, ◌∵◌, !, qed, move, drop, use1, join, split, split3, pick, rewrite, fsplit, fjoin, feq_i, suffices, await, done, whole, sub, stop, fld, no_more, and_then, of_opd, returns, enter, first, blocks, exec, alloc_all, pass_all, free_all, look_at, get, get_in, sets, lands_last, env, ◌⊑◌, fact, tables, no, bounded, RattleType, block_ptr, plain, heard, nothing, only, calls_at_last, triple_of, framed, says, Stays, stay_dropped, walk_of, ends_at, Goes-blank, proved_at, Bx, D, R, P, B, box_ty, word, box_typed, box_out, box_in}
use Rattle.std.specs.contracts.boxed.Box.from_raw as g
use Rattle.std.proofs.boxed.Box.from_raw.Met.{met}
use Rattle.tc_c_base.specs.contracts.parts.Parts as Parts
use Rattle.tc_c_base.specs.contracts.parts.Parts.into_box as f
use Rattle.tc_c_base.proofs.parts.Parts.into_box.Statement.{statement}
use Rattle.tc_c_base.proofs.parts.Parts.into_box.Code as code

-- the code after the block with the call
abbrev after_block : Body
after_block = seq (assign (place 0 []) (rv_opd (copy (place 4 [])))) return

pub into_box_spec : {M : Type 1} → statement M
into_box_spec 𝓤 𝓛 𝓜 𝓡 wired X Z LX LZ ghosts d dd allocator glued =
    let E : Bx = record { row = X; laws = LX; al = record { row = Z; laws = LZ; g = ghosts; d = d; drops = dd } } in
    let args = bounded (a_type ∷ a_type ∷ []) (X, (Z, tt)) (dcons d (dcons dd dnil)) in
    let fn = inst_fn args code.function in let 𝓣 = tables 𝓤 𝓛.H 𝓜 𝓡 𝓡.env in
    let T' = f.ended X Z ghosts d dd in let c = f.clauses X Z ghosts d dd 𝓛 𝓜.mem 𝓡.returns in
    let From : RattleType = Parts.the_row (R E) (P E) ghosts in
    let stayed : Stays T'.signature.params T'.kept = (stay_dropped (plain (λ _. From)) no, tt) in
    proved_at 𝓛 T' stayed c 𝓜 𝓡 (Goes-blank 𝓛 2 (plain (λ _. From)) no (λ κs x f. tt), tt)
    (f.Key.name args) fn (code.unfolded 𝓤 𝓛.H 𝓜 𝓡 wired (X, (Z, tt)) d dd) (λ z are.
    let κs = z.0.0 in let qs = z.0.1 in let a = z.0.3.0.alloc in let x = z.0.3.0.value in let vs = z.0.4.0 in
    let Post : Val → SProp 𝓤 = (walk_of 𝓛 T' stayed c).post z in let Run : List Val → SProp 𝓤 = λ us. WpFn 𝓤 𝓛.H 𝓣.C 𝓣.Λ fn us Post in
    let v : D E = record { ptr = z.0.3.0.ptr; alloc = a; value = x } in
    let tokens : Item 𝓤 = ‵ (flft κs.0 qs.0) ⊛ ‵ (flft κs.1.0 qs.1.0) ⊛ ‵ ftrue in
    let in_value : Item 𝓤 = raw (fact 𝓤 (κs.0 ⊑ X.lives)) in let in_handle : Item 𝓤 = raw (fact 𝓤 (κs.1.0 ⊑ Z.lives)) in
    qed 𝓛 ((tokens ⊛ ‵ (fsep ((B E).own_val v vs) ftrue)) ∷ (in_value ⊛ in_handle ⊛ ‵ ftrue) ∷ []) ∵ split ! $ move ! (1 ∷ []) $ fsplit ! $
    box_out E ! v vs (λ b o hv e ws fa. fjoin ! $ let w = word E hv b o in
    let G = triple_of 𝓛 (g.signature X Z ghosts d dd) (g.spec X Z ghosts d dd 𝓛 𝓜.mem 𝓡.returns) in
    let y : G.Ghost = ((κs, qs, tt, (a, (block_ptr b o, tt)), (hv ∷ [], (vptr b o ∷ [], tt))), x) in
    -- the resources at this point, in order: the value with the right to free it, the handle, nothing, the tokens, and
    -- the resources that outlive the tokens
    move ! (4 ∷ []) $ split3 ! $ move ! (2 ∷ []) $ drop ! $ move ! (1 ∷ 2 ∷ []) $ join ! $ move ! (1 ∷ 0 ∷ []) $ join ! $
    move ! (2 ∷ []) $ feq_i ! (List Val) (vptr b o ∷ []) (vptr b o ∷ []) refl $ fjoin ! $ move ! (2 ∷ 0 ∷ []) $ fjoin ! $
    move ! (2 ∷ 0 ∷ []) $ join ! $ join ! $ use1 𝓛 (raw (G.pre y)) (id⊢ 𝓤 _) $
    suffices ! (Run (w ∷ [])) (subst (λ (us : List Val). ent 𝓤 (Run (w ∷ [])) (Run us)) (sym (λ i. ws i ++ [])) (id⊢ 𝓤 (Run (w ∷ [])))) $
    enter ! 𝓣.C 𝓣.Λ fn (w ∷ []) Post $ alloc_all ! (λ l. pass_all ! refl (box_typed E hv b o fa, tt) $
    sets ! (of_opd ! (get_in ! (fld ! refl (stop !)) (sub ! 0 refl (whole !)))) refl (tt, tt) $
    sets ! (of_opd ! (get_in ! (fld ! refl (stop !)) (sub ! 1 refl (whole !)))) refl fa $
    first ! $ blocks ! $ sets ! (of_opd ! (get ! refl)) refl fa $
    calls_at_last ! (framed 𝓤 𝓛.H 𝓜 𝓣) G
    (met 𝓤 𝓛 𝓜 𝓡 (code.calls-std_alloc::boxed::Box::from_raw 𝓡.env wired) X Z LX LZ ghosts d dd allocator glued) y
    (and_then ! (get ! refl) (and_then ! (get ! refl) (no_more !))) (λ u.
    use1 𝓛 (later (some (λ (r : D E). (tokens ⊛ ‵ ((B E).own_val r (u ∷ []))) ⊛ some (λ (_ : Unit {0} × (Unit {0} × Unit {0})).
    ‵ (fsep ftrue (fsep ftrue ftrue)) ⊛ (raw (fact 𝓤 (r.value ≡ x)) ⊛ raw (fact 𝓤 (r.alloc ≡ a))))))) (id⊢ 𝓤 _) $
    await ! tt $ pick ! (λ r. split ! $ move ! (1 ∷ []) $ pick ! (λ _. split3 ! $ drop ! $ heard ! (r.value ≡ x) (λ same. drop ! $ split ! $ move ! (1 ∷ []) $
    -- the resources at this point, in order: the box, and the tokens
    box_out E ! r (u ∷ []) (λ b' o' hw at is_box fw. box_in E ! r b' o' r.value at refl $
    rewrite ! 0 (λ (us : List Val). ‵ ((B E).own_val r us)) (sym is_box) refl $
    let typed : T (has_ty (box_ty E) u) × WT u = subst (λ (s : Val). T (has_ty (box_ty E) s) × WT s) (sym (ap only is_box)) (box_typed E hw b' o' fw) in
    lands_last ! refl typed $ exec ! 𝓣.C 𝓣.Λ (env fn.locals l) after_block (at_ret (env fn.locals l) Post) $
    sets ! (of_opd ! (get ! refl)) refl typed $ returns ! (look_at ! 0 refl) $ free_all ! refl $
    suffices ! _ (ends_at 𝓛 T' stayed c z u r ((tt, (tt, tt)), tt) (tt, tt)) $ says ! same $
    nothing ! $ nothing ! $ fjoin ! $ join ! $ move ! (1 ∷ 0 ∷ []) $ join ! $ done !))))))))
