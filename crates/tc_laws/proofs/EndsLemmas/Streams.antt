-- The units that the data fields of one stream make within the limit of its MAP.
use Rattle.tc_laws.proofs.EndsLemmas.Names.{Ad, AllByRecursion, Bd, Bool, CarryUnits, EndAtLast, IsSendable, List, None, Option, Passed, Service, Settings, Some, [], all_made, ap, append-nil, append_assoc, as_list, at_most, cond, eqb, false, filter, is-unit, is_in, is_of, le-leb, length, map, map_of, refl, same_map, same_service, stream, stream-other, stream-same, stream_in, stream_unit, subst, sym, true, unit_at, unit_made, unit_on, units_ended_by, ℕ, ◌&&◌, ◌++◌, ◌∙◌, ◌∷◌, ◌≡◌, ◌≤◌, cases_Bool, inl, inr}
use Rattle.tc_packet.specs.Segment.{header_of}
use Rattle.tc_laws.proofs.EndsLemmas.Segmented.{Makes, ends-once}

-- the unit that one more data field makes, if the field is of this stream
abbrev pub stream_unit_by : Bool → (ℕ → ℕ) → Settings → Service → ℕ → List Passed → Passed → List (List ℕ)
stream_unit_by segmented limits s service map_id before p = cond (is_in segmented service map_id p) (as_list (unit_made limits s before p)) []

abbrev made_over : ℕ → List (List ℕ) → List (List ℕ) → List (List ℕ)
made_over limit before [] = []
made_over limit before (f ∷ fs) = as_list (at_most limit (unit_at before f)) ++ made_over limit (before ++ f ∷ []) fs

over-append : (limit : ℕ) (before xs ys : List (List ℕ)) → made_over limit before (xs ++ ys) ≡ made_over limit before xs ++ made_over limit (before ++ xs) ys
over-append limit before [] ys = rw (append-nil before) refl
over-append limit before (x ∷ xs) ys =
    rw (over-append limit (before ++ x ∷ []) xs ys, append_assoc before (x ∷ []) xs)
    (sym (append_assoc (as_list (at_most limit (unit_at before x))) (made_over limit (before ++ x ∷ []) xs) (made_over limit (before ++ x ∷ xs) ys)))

-- fields that end no unit end none within the limit
none-over : (limit : ℕ) (before fs : List (List ℕ)) → units_ended_by before fs ≡ [] → made_over limit before fs ≡ []
none-over limit before [] none = refl
none-over limit before (f ∷ fs) none = by (unit_at before f) refl none (none-over limit (before ++ f ∷ []) fs) where
  by : (o : Option (List ℕ)) → unit_at before f ≡ o → as_list o ++ units_ended_by (before ++ f ∷ []) fs ≡ []
      → (units_ended_by (before ++ f ∷ []) fs ≡ [] → made_over limit (before ++ f ∷ []) fs ≡ []) → made_over limit before (f ∷ fs) ≡ []
  by None e h later = rw (e, later h) refl
  by (Some unit) e h later = absurd cc

one-over : (limit : ℕ) (before own : List (List ℕ)) (unit : List ℕ) → EndAtLast before own unit → length unit ≤ limit → made_over limit before own ≡ unit ∷ []
one-over limit before own unit e within =
    ap (made_over limit before) e.parts ∙ over-append limit before e.first (e.last ∷ [])
    ∙ rw (none-over limit before e.first e.none, is-unit (before ++ e.first) e.last unit e.ends, le-leb (length unit) limit within) refl

carried-over : Makes → (limits : ℕ → ℕ) (map_id : ℕ) (units before fields : List (List ℕ)) → AllByRecursion (IsSendable limits true map_id) units → CarryUnits true map_id units fields → made_over (limits map_id) before fields ≡ units
carried-over make limits map_id [] before fields can carry = rw carry refl
carried-over make limits map_id (unit ∷ units) before fields can carry =
    let own = carry.1 in
    let later = carry.2 in
    let this = can.0 in
    let one = one-over (limits map_id) before own unit (ends-once make map_id carry.0 unit before own carry.3 this.0 this.1 carry.5) this.2 in
    ap (made_over (limits map_id) before) carry.4 ∙ over-append (limits map_id) before own later ∙ ap (λ (x : List (List ℕ)). x ++ made_over (limits map_id) (before ++ own) later) one
    ∙ ap (λ (x : List (List ℕ)). unit ∷ x) (carried-over make limits map_id units (before ++ own) later can.1 carry.6)

same-service : (one other : Service) (t : Bool) → (same_service one other && t) ≡ true → other ≡ one
same-service Ad Bd t h = absurd cc
same-service Bd Ad t h = absurd cc
same-service _ _ t h = refl

along : (limits : ℕ → ℕ) (s : Settings) (service : Service) (map_id : ℕ) (ps before : List Passed) → s.segmented ≡ true
    → all_made (unit_on limits s service map_id) before ps ≡ made_over (limits map_id) (stream service map_id before) (stream service map_id ps)
along limits s service map_id [] before headed = refl
along limits s service map_id (p ∷ ps) before headed =
    let rest = along limits s service map_id ps (before ++ p ∷ []) headed in
    elim (cases_Bool (is_of service map_id p)) [
      | inl own ↦
          let its : p.service ≡ service = same-service service p.service (eqb (header_of p.field).map map_id) own in
          let map_is : (header_of p.field).map ≡ map_id = same_map service p.service (header_of p.field).map map_id own in
          let unit : unit_made limits s before p ≡ at_most (limits map_id) (unit_at (stream service map_id before) p.field) = rw (headed, its, map_is) refl in
          rw (own, unit, rest, stream-same service map_id before p own) refl
      | inr other ↦ rw (other, rest, stream-other service map_id before p other) refl
    ]

-- with segment headers, the data fields of a stream make exactly the units that they carry, whatever came before and
-- whatever comes between
pub headed-carried : Makes → (limits : ℕ → ℕ) (s : Settings) (service : Service) (map_id : ℕ) (units : List (List ℕ)) (before passed : List Passed) → s.segmented ≡ true
    → AllByRecursion (IsSendable limits true map_id) units → CarryUnits true map_id units (stream service map_id passed) → all_made (unit_on limits s service map_id) before passed ≡ units
headed-carried make limits s service map_id units before passed headed can carry =
    along limits s service map_id passed before headed ∙ carried-over make limits map_id units (stream service map_id before) (stream service map_id passed) can carry

-- without segment headers each data field is a unit
pub plain-unit : (limits : ℕ → ℕ) (s : Settings) (before : List Passed) (p : Passed) → s.segmented ≡ false → IsSendable limits false 0 p.field → unit_made limits s before p ≡ Some p.field
plain-unit limits s before p plain can = rw (plain, le-leb (length p.field) 65542 can.0, le-leb (length p.field) (limits (map_of p.field)) can.1) refl

along-plain : (limits : ℕ → ℕ) (s : Settings) (service : Service) (map_id : ℕ) (ps before : List Passed) → s.segmented ≡ false → AllByRecursion (IsSendable limits false map_id) (stream_in false service map_id ps)
    → all_made (stream_unit_by false limits s service map_id) before ps ≡ stream_in false service map_id ps
along-plain limits s service map_id [] before plain can = refl
along-plain limits s service map_id (p ∷ ps) before plain can =
    let later = filter (is_in false service map_id) ps in
    let kept = λ (t : Bool). AllByRecursion (IsSendable limits false map_id) (map (λ (q : Passed). q.field) (cond t (p ∷ later) later)) in
    elim (cases_Bool (is_in false service map_id p)) [
      | inl own ↦
          let each = subst kept own can in
          rw (own, plain-unit limits s before p plain each.0) (ap (λ (x : List (List ℕ)). p.field ∷ x) (along-plain limits s service map_id ps (before ++ p ∷ []) plain each.1))
      | inr other ↦ rw other (along-plain limits s service map_id ps (before ++ p ∷ []) plain (subst kept other can))
    ]

-- the data fields of a stream make exactly the units that they carry, with segment headers or without
pub units-carried : Makes → (limits : ℕ → ℕ) (s : Settings) (service : Service) (map_id : ℕ) (units : List (List ℕ)) (before passed : List Passed)
    → AllByRecursion (IsSendable limits s.segmented map_id) units → CarryUnits s.segmented map_id units (stream_in s.segmented service map_id passed)
    → all_made (stream_unit limits s service map_id) before passed ≡ units
units-carried make limits s service map_id units before passed can carry = by s.segmented refl can carry where
  by : (t : Bool) → s.segmented ≡ t → AllByRecursion (IsSendable limits t map_id) units → CarryUnits t map_id units (stream_in t service map_id passed)
      → all_made (stream_unit_by t limits s service map_id) before passed ≡ units
  by true headed can carry = headed-carried make limits s service map_id units before passed headed can carry
  by false plain can carry = along-plain limits s service map_id passed before plain (subst (AllByRecursion (IsSendable limits false map_id)) (sym carry) can) ∙ carry
