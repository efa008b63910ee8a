-- The units of a chosen MAP.
use Rattle.tc_laws.proofs.EndsLemmas.Names.{Bool, CarrySent, List, None, Option, Passed, Sent, Service, Settings, Some, [], all_made, ap, as_list, eq-eqb, eqb, eqb_tells, false, filter, inl, inr, is_chosen_by, is_chosen_map, map_of, ne_eqb, refl, same_service, sym, true, unit_made, unit_on, units_ended, units_made, units_offered, ℕ, ◌&&◌, ◌++◌, ◌∙◌, ◌∷◌, ◌≡◌, ◌≢◌, ◌⊎◌, cond, arith}
use Rattle.tc_laws.proofs.EndsLemmas.Segmented.{Makes}
use Rattle.tc_laws.proofs.EndsLemmas.Streams.{headed-carried}
use Rattle.tc_laws.proofs.EndsLemmas.Made.{made-append, no-parts, same-self}

all-or-none : (t : Bool) (xs : List (List ℕ)) → filter (λ (unit : List ℕ). t) xs ≡ cond t xs []
all-or-none true [] = refl
all-or-none true (x ∷ xs) = ap (λ (ys : List (List ℕ)). x ∷ ys) (all-or-none true xs)
all-or-none false [] = refl
all-or-none false (x ∷ xs) = all-or-none false xs

of-chosen : (o : Option (List ℕ)) → units_offered o true ≡ as_list o
of-chosen None = refl
of-chosen (Some unit) = refl

abbrev pub NoneByOther : (ℕ → ℕ) → Settings → Service → ℕ → List Passed → List Passed → Type 0
NoneByOther limits s service map_id before ps = (other : Service) → same_service service other ≡ false → all_made (unit_on limits s other map_id) before ps ≡ []

pub units-on : (limits : ℕ → ℕ) (s : Settings) (service : Service) (map_id : ℕ) → is_chosen_map s map_id ≡ true → (ps before : List Passed) → NoneByOther limits s service map_id before ps
    → all_made (units_ended limits s map_id) before ps ≡ all_made (unit_on limits s service map_id) before ps
units-on limits s service map_id chosen [] before others = refl
units-on limits s service map_id chosen (p ∷ ps) before others =
    by (eqb_tells (map_of p.field) map_id) (same_service service p.service) refl (units-on limits s service map_id chosen ps (before ++ p ∷ []) (λ other apart. (parts other apart).1))
  where
    parts : (other : Service) → same_service service other ≡ false → (unit_on limits s other map_id before p ≡ []) × (all_made (unit_on limits s other map_id) (before ++ p ∷ []) ps ≡ [])
    parts other apart = no-parts (unit_on limits s other map_id before p) (all_made (unit_on limits s other map_id) (before ++ p ∷ []) ps) (others other apart)

    made : Option (List ℕ)
    made = unit_made limits s before p

    kept : map_of p.field ≡ map_id → units_ended limits s map_id before p ≡ as_list made
    kept e =
        let is_chosen : is_chosen_by s p.field ≡ true = rw e chosen in
        all-or-none (eqb map_id (map_of p.field)) (units_offered made (is_chosen_by s p.field)) ∙ ap (λ (t : Bool). cond t (units_offered made (is_chosen_by s p.field)) []) (eq-eqb map_id (map_of p.field) (sym e))
        ∙ ap (units_offered made) is_chosen ∙ of-chosen made

    by : (((eqb (map_of p.field) map_id ≡ true) × (map_of p.field ≡ map_id)) ⊎ ((eqb (map_of p.field) map_id ≡ false) × (map_of p.field ≢ map_id)))
        → (t : Bool) → same_service service p.service ≡ t
        → all_made (units_ended limits s map_id) (before ++ p ∷ []) ps ≡ all_made (unit_on limits s service map_id) (before ++ p ∷ []) ps
        → all_made (units_ended limits s map_id) before (p ∷ ps) ≡ all_made (unit_on limits s service map_id) before (p ∷ ps)
    by (inl e) true own ih = rw (kept e.1, own, e.0) (ap (λ (x : List (List ℕ)). as_list made ++ x) ih)
    by (inl e) false other ih =
        let unit_is : unit_on limits s p.service map_id before p ≡ as_list made = rw (← e.1, same-self p.service (map_of p.field)) refl in
        let none : as_list made ≡ [] = sym unit_is ∙ (parts p.service other).0 in
        rw (kept e.1, none, other) ih
    by (inr e) t own ih =
        let none : units_ended limits s map_id before p ≡ [] =
        all-or-none (eqb map_id (map_of p.field)) (units_offered made (is_chosen_by s p.field))
        ∙ ap (λ (t : Bool). cond t (units_offered made (is_chosen_by s p.field)) []) (ne_eqb map_id (map_of p.field) (λ same. e.1 (sym same))) in
        let other : (same_service service p.service && eqb (map_of p.field) map_id) ≡ false = grind arith in
        rw (none, other) ih

pub units-arrive : Makes → (limits : ℕ → ℕ) (s : Settings) (service : Service) (map_id : ℕ) (sent : Sent) (before passed : List Passed) → s.segmented ≡ true → is_chosen_map s map_id ≡ true
    → CarrySent limits true sent passed → ((other : Service) → same_service service other ≡ false → sent other map_id ≡ [])
    → units_made limits s map_id (before ++ passed) ≡ units_made limits s map_id before ++ sent service map_id
units-arrive make limits s service map_id sent before passed headed chosen carry none =
    made-append (units_ended limits s map_id) [] before passed
    ∙ ap (λ (x : List (List ℕ)). units_made limits s map_id before ++ x) (units-on limits s service map_id chosen passed before (λ other apart. on other ∙ none other apart) ∙ on service)
  where
    on : (other : Service) → all_made (unit_on limits s other map_id) before passed ≡ sent other map_id
    on other = headed-carried make limits s other map_id (sent other map_id) before passed headed (carry.sendable other map_id) (carry.carry other map_id)
