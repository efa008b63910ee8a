-- A `ResidentBadge` has a fixed machine value, and may go to another thread.
use Rattle.tc_desk.proofs.Names.{◌≡◌, List, [], ◌∷◌, ◌++◌, ap, ◌∙◌, RattleType, IsSend, token_val, pin_told}
use mir.Val.{Val, vstruct, vcons, vnil, of_list}
use denote.Laws.{Is}
use Rattle.atomic_table.specs.contracts.badge.Badge as badge
use Rattle.atomic_table.proofs.Sent.{badge_keyless}
use Rattle.tc_desk.specs.contracts.resident.ResidentBadge as resident

abbrev pub resident_val : Val
resident_val = vstruct (vcons token_val vnil)

module _ (W : RattleType) where
  pub badge_reported : (d : (badge.the_row W).Denot) (vs : List Val) → Is (badge.the_row W) d vs → vs ≡ token_val ∷ []
  badge_reported d vs so = pin_told W vs so.0

  pub resident_reported : (d : (resident.the_row W).Denot) (vs : List Val) → Is (resident.the_row W) d vs → vs ≡ resident_val ∷ []
  resident_reported d vs so = let is = so.0 in is.1.0 ∙ ap (λ (ws : List Val). vstruct (of_list (ws ++ [])) ∷ []) (badge_reported d.badge is.0.0 is.1.1.0)

  pub resident_send : IsSend (resident.the_row W)
  resident_send = record { owned = λ d vs. ((λ vss. (tt, (((λ uss. (tt, ((λ wss. (tt, tt)), tt))), badge_keyless W.coded.code d.badge.table_id d.badge.id d.badge.views), tt))), tt); leaving = λ k x vs. (tt, tt) }
