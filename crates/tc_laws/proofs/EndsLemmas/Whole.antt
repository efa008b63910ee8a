-- The way from the packets of a sender to the packets that are taken.
use Rattle.tc_laws.proofs.EndsLemmas.Names.{Ad, AllByRecursion, AreGivenOf, Bd, Bool, CarryUnits, ComesFromWithin, Event, HasMapsByHeaders, IsEraWithin, IsLawfulWithin, IsPartOf, IsSendable, List, Passed, Queue, SendsPackets, Service, Settings, Some, [], all_joined, all_made, ap, append-nil, append_assoc, arith, behind_ad, cond, drop, eqb, false, fields_passed, filter, filter-append, first_state_within, inl, inr, is_chosen_map, is_in, length, map, map-append, map_in, on_map, packets-given-of-made, packets_ended, packets_for, packets_given, packets_in_era, packets_made, passed-as-sent, passed_before, passed_in, queue_of, refl, released_since, run_within, same_service, sent_from, stream, stream_in, stream_unit, subst, suc, sym, true, unit_on, units-given-of-made, units_ended, units_given, units_made, unless_chosen, until_ad, zero, ℕ, ◌++◌, ◌+◌, ◌-◌, ◌∙◌, ◌∷◌, ◌≡◌, ◌≤◌}
use Rattle.tc_channel.proofs.Lossless.{packets-all-given}
use Rattle.tc_laws.proofs.EndsLemmas.Segmented.{Makes}
use Rattle.tc_laws.proofs.EndsLemmas.Streams.{headed-carried, stream_unit_by, units-carried}
use Rattle.tc_laws.proofs.EndsLemmas.Chosen.{units-on}
use Rattle.tc_laws.proofs.EndsLemmas.Made.{cut-all, made-append, made-merged}

-- the data fields on the Type-AD stream of a MAP are the fields of this MAP among all Type-AD fields that were passed
-- on
stream-of-ad : (b : Bool) (m : ℕ) (ps : List Passed) → stream_in b Ad m ps ≡ on_map b m (fields_passed Ad ps)
stream-of-ad b m [] = refl
stream-of-ad b m (p ∷ ps) = by p.service refl (eqb (map_in b p.field) m) refl (stream-of-ad b m ps) where
  by : (sv : Service) → p.service ≡ sv → (t : Bool) → eqb (map_in b p.field) m ≡ t → stream_in b Ad m ps ≡ on_map b m (fields_passed Ad ps)
      → stream_in b Ad m (p ∷ ps) ≡ on_map b m (fields_passed Ad (p ∷ ps))
  by Ad e true h ih = rw (e, h) (ap (λ (x : List (List ℕ)). p.field ∷ x) ih)
  by Ad e false h ih = rw (e, h) ih
  by Bd e t h ih = rw e ih

part-more : (xs ys zs : List (List ℕ)) → IsPartOf xs ys → IsPartOf xs (ys ++ zs)
part-more [] ys zs h = tt
part-more (x ∷ xs) [] zs h = absurd h
part-more (x ∷ xs) (y ∷ ys) zs (inl h) = inl (h.0, part-more xs ys zs h.1)
part-more (x ∷ xs) (y ∷ ys) zs (inr h) = inr (part-more (x ∷ xs) ys zs h)

sent-more : (sent : ℕ → List ℕ) (j a b : ℕ) → sent_from sent j a ++ sent_from sent (j + a) b ≡ sent_from sent j (a + b)
sent-more sent j zero b = let e : j + 0 ≡ j = omega arith in let f : 0 + b ≡ b = omega arith in rw (e, f) refl
sent-more sent j (suc a) b =
    let e : j + suc a ≡ suc j + a = omega arith in
    let f : suc a + b ≡ suc (a + b) = omega arith in
    rw (e, f) (ap (λ (x : List (List ℕ)). sent j ∷ x) (sent-more sent (suc j) a b))

-- data fields that Type-AD passes on
abbrev by_ad : List (List ℕ) → List Passed
by_ad fields = map {B = Passed} (λ field. record { service = Ad; field = field }) fields

stream-append : (b : Bool) (service : Service) (m : ℕ) (xs ys : List Passed) → stream_in b service m (xs ++ ys) ≡ stream_in b service m xs ++ stream_in b service m ys
stream-append b service m xs ys =
    ap (map (λ (p : Passed). p.field)) (filter-append (is_in b service m) xs ys) ∙ map-append (λ (p : Passed). p.field) (filter (is_in b service m) xs) (filter (is_in b service m) ys)

ad-back : (fields : List (List ℕ)) → fields_passed Ad (by_ad fields) ≡ fields
ad-back [] = refl
ad-back (f ∷ fs) = ap (λ (x : List (List ℕ)). f ∷ x) (ad-back fs)

none-by-bd : (b : Bool) (limits : ℕ → ℕ) (s : Settings) (m : ℕ) (fields : List (List ℕ)) (before : List Passed) → all_made (stream_unit_by b limits s Bd m) before (by_ad fields) ≡ []
none-by-bd b limits s m [] before = refl
none-by-bd b limits s m (f ∷ fs) before = none-by-bd b limits s m fs (before ++ record { service = Ad; field = f } ∷ [])

-- the fields that were passed on are those up to the nth of Type-AD, and then those behind it
until-behind : (n : ℕ) (ps : List Passed) → until_ad n ps ++ behind_ad n ps ≡ ps
until-behind zero ps = refl
until-behind (suc n) [] = refl
until-behind (suc n) (p ∷ ps) = ap (λ (x : List Passed). p ∷ x) (until-behind (cond (same_service Ad p.service) n (suc n)) ps)

behind-fields : (n : ℕ) (ps : List Passed) → fields_passed Ad (behind_ad n ps) ≡ drop n (fields_passed Ad ps)
behind-fields zero ps = refl
behind-fields (suc n) [] = refl
behind-fields (suc n) (p ∷ ps) = by p.service refl (λ m. behind-fields m ps) where
  by : (sv : Service) → p.service ≡ sv → ((m : ℕ) → fields_passed Ad (behind_ad m ps) ≡ drop m (fields_passed Ad ps)) → fields_passed Ad (behind_ad (suc n) (p ∷ ps)) ≡ drop (suc n) (fields_passed Ad (p ∷ ps))
  by Ad e rest = rw e (rest n)
  by Bd e rest = rw e (rest (suc n))

pub none-before : (limits : ℕ → ℕ) (s : Settings) (journal : List Event) → passed_before limits s [] journal ≡ []
unfolding run_within
none-before limits s journal = refl

pub ad-fields : (limits : ℕ → ℕ) (s : Settings) (journal before later : List Event) (x : ℕ) (sent : ℕ → List ℕ) → IsLawfulWithin limits s journal → IsEraWithin limits s journal before later x
    → ComesFromWithin limits s before later x sent → fields_passed Ad (passed_in limits s before journal) ≡ sent_from sent 0 (released_since limits s before journal)
ad-fields limits s journal before later x sent lawful era comes =
    behind-fields (length (run_within limits s before).accepted) (run_within limits s journal).passed ∙ passed-as-sent limits s journal before later x sent lawful era comes

-- on each Type-AD stream, the fields that were passed on and then the fields that are still to come are the fields that
-- were sent on its MAP
stream-sent : (b : Bool) (sent : ℕ → List ℕ) (r n : ℕ) (passed : List Passed) → fields_passed Ad passed ≡ sent_from sent 0 r → r ≤ n → (id : ℕ)
    → stream_in b Ad id (passed ++ by_ad (sent_from sent r (n - r))) ≡ on_map b id (sent_from sent 0 n)
stream-sent b sent r n passed fields less id =
    let later = by_ad (sent_from sent r (n - r)) in
    let back = stream-of-ad b id later ∙ ap (on_map b id) (ad-back (sent_from sent r (n - r))) in
    let front = stream-of-ad b id passed ∙ ap (on_map b id) fields in
    let sum : r + (n - r) ≡ n = omega arith in
    let start : 0 + r ≡ r = omega arith in
    let more = subst (λ (j : ℕ). sent_from sent 0 r ++ sent_from sent j (n - r) ≡ sent_from sent 0 (r + (n - r))) start (sent-more sent 0 r (n - r)) in
    stream-append b Ad id passed later ∙ ap (λ (x : List (List ℕ)). x ++ stream_in b Ad id later) front ∙ ap (λ (x : List (List ℕ)). on_map b id (sent_from sent 0 r) ++ x) back
    ∙ sym (filter-append (λ (field : List ℕ). eqb (map_in b field) id) (sent_from sent 0 r) (sent_from sent r (n - r)))
    ∙ ap (on_map b id) (more ∙ ap (sent_from sent 0) sum)

-- the items that all fields make are those that the fields before the era make, followed by those that the fields of
-- the era make
made-parts : (ended : List Passed → Passed → List (List ℕ)) (limits : ℕ → ℕ) (s : Settings) (before journal : List Event)
    → all_made ended [] (run_within limits s journal).passed ≡ all_made ended [] (passed_before limits s before journal) ++ all_made ended (passed_before limits s before journal) (passed_in limits s before journal)
made-parts ended limits s before journal =
    ap (all_made ended []) (sym (until-behind (length (run_within limits s before).accepted) (run_within limits s journal).passed))
    ∙ made-append ended [] (passed_before limits s before journal) (passed_in limits s before journal)

module _ (limits : ℕ → ℕ) (s : Settings) (journal before : List Event) (sent : ℕ → List ℕ) (n : ℕ) where
  abbrev old : List Passed
  old = passed_before limits s before journal

  abbrev new : List Passed
  new = passed_in limits s before journal

  -- the data fields that are still to come
  abbrev rest : List Passed
  rest = by_ad (sent_from sent (released_since limits s before journal) (n - released_since limits s before journal))

  pub given-of-sent : Makes → (later : List Event) (x : ℕ) (apid : ℕ) (units : ℕ → List (List (List ℕ))) (q : Queue)
      → IsLawfulWithin limits s journal → IsEraWithin limits s journal before later x → ComesFromWithin limits s before later x sent → HasMapsByHeaders s → SendsPackets limits s.segmented sent n units
      → released_since limits s before journal ≤ n → queue_of apid (run_within limits s journal).queues ≡ Some q → AreGivenOf limits s apid before journal n units
  given-of-sent make later x apid units q lawful era comes free sends less has =
      let ended = packets_ended limits s apid in
      let made = packets_made limits s apid (run_within limits s journal).passed in
      let older = packets_made limits s apid old in
      let parts : made ≡ older ++ all_made ended old new = made-parts ended limits s before journal in
      let is : made ++ all_made ended (old ++ new) rest ≡ older ++ all_made ended old (new ++ rest) =
      ap (λ (x : List (List ℕ)). x ++ all_made ended (old ++ new) rest) parts ∙ append_assoc older (all_made ended old new) (all_made ended (old ++ new) rest)
      ∙ ap (λ (x : List (List ℕ)). older ++ x) (sym (made-append ended old new rest)) in
      let whole : released_since limits s before journal ≡ n → made ≡ older ++ all_made ended old (new ++ rest) = λ same.
      let none : n - released_since limits s before journal ≡ 0 = omega arith in
      parts ∙ ap (λ (x : List Passed). older ++ all_made ended old x) (sym (append-nil new) ∙ ap (λ (k : ℕ). new ++ by_ad (sent_from sent (released_since limits s before journal) k)) (sym none)) in
      record {
        merged = all_made ended old (new ++ rest);
        merge = made-merged limits s apid old (new ++ rest) (packets_in_era limits s apid before journal units) free on;
        given = subst (IsPartOf (packets_given s apid (first_state_within limits s) journal)) is
            (part-more (packets_given s apid (first_state_within limits s) journal) made (all_made ended (old ++ new) rest) (packets-given-of-made limits s journal apid q has));
        whole = whole;
        all = λ p allowed none same found empty. packets-all-given limits s journal apid p allowed none found empty ∙ whole same;
      }
    where
      on : (service : Service) (id : ℕ) → unless_chosen s id (packets_for apid (all_made (stream_unit limits s service id) old (new ++ rest))) ≡ packets_in_era limits s apid before journal units service id
      on Ad id =
          let stream_is = stream-sent s.segmented sent (released_since limits s before journal) n new (ad-fields limits s journal before later x sent lawful era comes) less id in
          ap (unless_chosen s id)
          (ap (packets_for apid) (units-carried make limits s Ad id (all_joined (units id)) old (new ++ rest) (sends.sendable id) (subst (CarryUnits s.segmented id (all_joined (units id))) (sym stream_is) (sends.carry id)))
          ∙ cut-all apid (units id) (sends.packets id))
      on Bd id =
          let bd = all_made (stream_unit limits s Bd id) old new in
          ap (λ (x : List (List ℕ)). unless_chosen s id (packets_for apid x))
          (made-append (stream_unit limits s Bd id) old new rest ∙ ap (λ (x : List (List ℕ)). bd ++ x) (none-by-bd s.segmented limits s id (sent_from sent (released_since limits s before journal) (n - released_since limits s before journal)) (old ++ new)) ∙ append-nil bd)

  -- The units of a chosen MAP that were taken are, in order, units that earlier fields made, and then units that were
  -- sent on the MAP. Some may be left out. The condition is that no Type-BD field of the era makes a unit of this MAP.
  pub units-of-sent : Makes → (later : List Event) (x : ℕ) (units : List (List ℕ)) (map_id : ℕ) (q : Queue)
      → IsLawfulWithin limits s journal → IsEraWithin limits s journal before later x → ComesFromWithin limits s before later x sent
      → s.segmented ≡ true → is_chosen_map s map_id ≡ true → CarryUnits true map_id units (on_map true map_id (sent_from sent 0 n)) → AllByRecursion (IsSendable limits true map_id) units
      → all_made (unit_on limits s Bd map_id) (passed_before limits s before journal) (passed_in limits s before journal) ≡ []
      → released_since limits s before journal ≤ n → queue_of map_id (run_within limits s journal).units ≡ Some q
      → IsPartOf (units_given s map_id (first_state_within limits s) journal) (units_made limits s map_id (passed_before limits s before journal) ++ units)
  units-of-sent make later x units map_id q lawful era comes headed chosen carry can none_bd less has =
      let ended = units_ended limits s map_id in
      let stream_is : stream Ad map_id (new ++ rest) ≡ on_map true map_id (sent_from sent 0 n) =
      stream-sent true sent (released_since limits s before journal) n new (ad-fields limits s journal before later x sent lawful era comes) less map_id in
      let parts : all_made ended old new ++ all_made ended (old ++ new) rest ≡ units = sym (made-append ended old new rest) ∙ units-on limits s Ad map_id chosen (new ++ rest) old by_bypass
      ∙ headed-carried make limits s Ad map_id units old (new ++ rest) headed can (subst (CarryUnits true map_id units) (sym stream_is) carry) in
      let is : units_made limits s map_id (run_within limits s journal).passed ++ all_made ended (old ++ new) rest ≡ units_made limits s map_id old ++ units =
      ap (λ (x : List (List ℕ)). x ++ all_made ended (old ++ new) rest) (made-parts ended limits s before journal)
      ∙ append_assoc (units_made limits s map_id old) (all_made ended old new) (all_made ended (old ++ new) rest) ∙ ap (λ (x : List (List ℕ)). units_made limits s map_id old ++ x) parts in
      subst (IsPartOf (units_given s map_id (first_state_within limits s) journal)) is
      (part-more (units_given s map_id (first_state_within limits s) journal) (units_made limits s map_id (run_within limits s journal).passed) (all_made ended (old ++ new) rest) (units-given-of-made limits s journal map_id q has))
    where
      by_bypass : (other : Service) → same_service Ad other ≡ false → all_made (unit_on limits s other map_id) old (new ++ rest) ≡ []
      by_bypass Bd apart = made-append (unit_on limits s Bd map_id) old new rest
          ∙ ap (λ (x : List (List ℕ)). all_made (unit_on limits s Bd map_id) old new ++ x) (none-by-bd true limits s map_id (sent_from sent (released_since limits s before journal) (n - released_since limits s before journal)) (old ++ new))
          ∙ append-nil (all_made (unit_on limits s Bd map_id) old new) ∙ none_bd
      by_bypass Ad apart = absurd cc
