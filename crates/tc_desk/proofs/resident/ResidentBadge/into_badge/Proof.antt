-- The badge comes out of the struct.
use Rattle.tc_desk.proofs.Names.{a_type, Val, inst_fn, SProp, emp, ‵, raw, ◌⊛◌, ◌$◌, ◌∵◌, !, qed, by, move, keep, split, fsplit, fsplit3, fjoin, fpick, use0, rewrite, stop, fld, of_opd, returns, enter, alloc_all, pass_all, free_all, look_at, get, get_in, sets, sub, whole, tables, no, owns, types_at, plain, nothing, param, layouts, alive, Stays, stay_dropped, walk_of, fact, fact_i, Is, shows, peeks, proved, leaves, token_val}
use Rattle.atomic_table.proofs.Names.{◌≡◌, List, [], ◌∷◌, refl, drop, RattleType}
use Rattle.std.proofs.alloc.Calls.{Goes-blank}
use Rattle.atomic_table.specs.contracts.badge.Badge as badge
use Rattle.tc_desk.specs.contracts.resident.ResidentBadge as resident
use Rattle.tc_desk.proofs.Sent.{resident_val, resident_reported, badge_reported}
use Rattle.tc_desk.specs.contracts.resident.ResidentBadge.into_badge.{ended, clauses}
use Rattle.tc_desk.specs.contracts.resident.ResidentBadge.into_badge.Key.{name as #self}
use Rattle.tc_desk.proofs.resident.ResidentBadge.into_badge.Statement.{statement}
use Rattle.tc_desk.proofs.resident.ResidentBadge.into_badge.Code as code

pub into_badge_spec : {M : Type 1} → statement M
into_badge_spec 𝓤 𝓛 𝓜 𝓡 wired U _ =
    let H = 𝓛.H in let 𝓣 = tables 𝓤 H 𝓜 𝓡 𝓡.env in let W : RattleType = param 0 U in let En = ended U in let c = clauses U 𝓛 𝓜.mem 𝓡.returns in
    let inst = layouts (a_type ∷ []) (U, tt) in let fn = inst_fn inst code.function in let closed = code.unfolded 𝓤 H 𝓜 𝓡 wired (U, tt) in
    let Br : RattleType = badge.the_row W in let Rr : RattleType = resident.the_row W in
    let hs : Stays En.signature.params En.kept = (stay_dropped (plain (λ _. Rr)) no, tt) in
    proved 𝓛 En hs c 𝓜 𝓡 (Goes-blank 𝓛 1 (plain (λ _. Rr)) no (λ κs x f. tt), tt) (#self inst) fn closed
    (λ κs. ((λ x. resident_val ∷ []), tt)) (λ κs. ((λ x vs so. resident_reported W x vs so), tt)) (λ κs qs bounds a gh are.
    let x : Br.Denot = a.0.badge in
    let y : (walk_of 𝓛 En hs c).Ghost = ((κs, qs, bounds, a, (resident_val ∷ [], tt)), gh) in let Post : Val → SProp 𝓤 = (walk_of 𝓛 En hs c).post y in
    qed 𝓛 ((raw (alive 𝓛 En.signature κs qs) ⊛ ‵ (owns (types_at En.signature.params κs) a y.0.4)) ∷ raw ((c κs a).requires gh) ∷ []) ∵
    split ! $ move ! (1 ∷ []) $ fsplit ! $ fsplit ! $ fpick ! (λ vss. fsplit3 ! $ drop ! $ peeks ! Br (Is Br) (shows 𝓛 Br) x vss.0 (λ so.
    rewrite ! 0 (λ (ws : List Val). ‵ (Br.own_val x ws)) (badge_reported W x vss.0 so) refl $ keep ! (0 ∷ 4 ∷ []) $
    enter ! 𝓣.C 𝓣.Λ fn (resident_val ∷ []) Post $ alloc_all ! (λ l. pass_all ! refl ((tt, ((tt, tt), tt)), tt) $
    sets ! (of_opd ! (get_in ! (fld ! refl (stop !)) (sub ! 0 refl (whole !)))) refl (tt, (tt, tt)) $ sets ! (of_opd ! (get ! refl)) refl (tt, (tt, tt)) $
    use0 𝓛 (raw (fact 𝓤 (x ≡ x))) (fact_i 𝓤 (x ≡ x) (emp 𝓤) refl) $ nothing ! $ nothing ! $ fjoin ! $
    returns ! (look_at ! 0 refl) $ free_all ! refl $ keep ! (3 ∷ 0 ∷ 2 ∷ 1 ∷ []) $ by ! (leaves 𝓛 En hs c y token_val x ((tt, tt), tt) (tt, tt))))))
