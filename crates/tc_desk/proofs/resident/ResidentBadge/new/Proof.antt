-- `ResidentBadge::new` puts the badge into the new struct.
use Rattle.tc_desk.proofs.Names.{a_type, Val, vstruct, inst_fn, SProp, emp, fsep, ‵, raw, ◌⊛◌, ◌$◌, ◌∵◌, !, qed, by, move, keep, split, fjoin, fpack, use0, feq_i, of_opd, no_more, and_then, returns, enter, alloc_all, pass_all, free_all, look_at, get, sets, agg, tables, no, owns, Valss, types_at, plain, nothing, param, layouts, alive, Stays, stay_dropped, walk_of, Goes-dropped, fact, fact_i, of_list, proved, leaves, token_val, pin_told}
use Rattle.atomic_table.proofs.Names.{◌≡◌, List, [], ◌∷◌, ◌++◌, refl, RattleType}
use Rattle.atomic_table.specs.contracts.badge.Badge as badge
use Rattle.tc_desk.specs.contracts.resident.ResidentBadge as resident
use Rattle.tc_desk.proofs.Sent.{resident_val}
use Rattle.tc_desk.specs.contracts.resident.ResidentBadge.new.{ended, clauses}
use Rattle.tc_desk.specs.contracts.resident.ResidentBadge.new.Key.{name as #self}
use Rattle.tc_desk.proofs.resident.ResidentBadge.new.Statement.{statement}
use Rattle.tc_desk.proofs.resident.ResidentBadge.new.Code as code

pub new_spec : {M : Type 1} → statement M
new_spec 𝓤 𝓛 𝓜 𝓡 wired U _ =
    let H = 𝓛.H in let 𝓣 = tables 𝓤 H 𝓜 𝓡 𝓡.env in let W : RattleType = param 0 U in let En = ended U in let c = clauses U 𝓛 𝓜.mem 𝓡.returns in
    let inst = layouts (a_type ∷ []) (U, tt) in let fn = inst_fn inst code.function in let closed = code.unfolded 𝓤 H 𝓜 𝓡 wired (U, tt) in
    let Br : RattleType = badge.the_row W in let Rr : RattleType = resident.the_row W in
    let hs : Stays En.signature.params En.kept = (stay_dropped (plain (λ _. Br)) no, tt) in
    proved 𝓛 En hs c 𝓜 𝓡 (Goes-dropped 𝓛 1 (plain (λ _. Br)) no (λ κs x f. refl), tt) (#self inst) fn closed
    (λ κs. ((λ _. token_val ∷ []), tt)) (λ κs. ((λ x vs so. pin_told W vs so.0), tt)) (λ κs qs bounds a gh are.
    let h : Br.Denot = a.0 in let r : Rr.Denot = record { badge = h } in
    let y : (walk_of 𝓛 En hs c).Ghost = ((κs, qs, bounds, a, (token_val ∷ [], tt)), gh) in let Post : Val → SProp 𝓤 = (walk_of 𝓛 En hs c).post y in
    qed 𝓛 ((raw (alive 𝓛 En.signature κs qs) ⊛ ‵ (owns (types_at En.signature.params κs) a y.0.4)) ∷ raw ((c κs a).requires gh) ∷ []) ∵
    split ! $ keep ! (1 ∷ 0 ∷ []) $ feq_i ! (List Val) (resident_val ∷ []) (resident_val ∷ []) refl $ fjoin ! $
    fpack ! (Valss (Br ∷ [])) (λ vss. fsep (base.Fml.feq (List Val) (resident_val ∷ []) (vstruct (of_list (vss.0 ++ [])) ∷ [])) (owns (Br ∷ []) (h, tt) vss)) (token_val ∷ [], tt) $ nothing ! $ move ! (1 ∷ 0 ∷ []) $ fjoin ! $
    enter ! 𝓣.C 𝓣.Λ fn (token_val ∷ []) Post $ alloc_all ! (λ l. pass_all ! refl ((tt, (tt, tt)), tt) $
    sets ! (of_opd ! (get ! refl)) refl (tt, (tt, tt)) $ sets ! (agg ! (and_then ! (get ! refl) (no_more !))) refl (tt, ((tt, tt), tt)) $
    use0 𝓛 (raw (fact 𝓤 (h ≡ h))) (fact_i 𝓤 (h ≡ h) (emp 𝓤) refl) $ nothing ! $ nothing ! $ fjoin ! $
    returns ! (look_at ! 0 refl) $ free_all ! refl $ keep ! (3 ∷ 0 ∷ 2 ∷ 1 ∷ []) $ by ! (leaves 𝓛 En hs c y resident_val r (tt, tt) (tt, tt))))
