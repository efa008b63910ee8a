-- The packets that data fields make for an application, and the units that they make on a chosen MAP.
use Rattle.tc_laws.proofs.EndsLemmas.Names.{Ad, AreAllPackets, AreMerged, Bd, Bool, CarrySent, HasMapsByHeaders, List, None, OnStream, Option, PacketsSent, Passed, Service, Settings, Some, [], all_joined, all_made, ap, append-nil, append_assoc, arith, as_list, cond, eqb, false, filter, filter-append, flat_map, flat_map-append, is_chosen_by, is_chosen_map, is_for, is_from, is_in, is_same_stream, joined_on, map, map-append, map_in, packet_on, packets_ended, packets_for, packets_made, packets_of, packets_offered, packets_sent_on, packets_to, refl, same_map, same_service, stream_unit, subst, sym, true, unit_made, unless_chosen, ℕ, ◌&&◌, ◌++◌, ◌∙◌, ◌∷◌, ◌≡◌, cases_Bool, inl, inr}
use Rattle.tc_laws.proofs.EndsLemmas.Segmented.{Makes}
use Rattle.tc_laws.proofs.EndsLemmas.Cut.{cut-of-joined}
use Rattle.tc_laws.proofs.EndsLemmas.Streams.{units-carried}

pub made-append : (ended : List Passed → Passed → List (List ℕ)) (before xs ys : List Passed) → all_made ended before (xs ++ ys) ≡ all_made ended before xs ++ all_made ended (before ++ xs) ys
made-append ended before [] ys = rw (append-nil before) refl
made-append ended before (x ∷ xs) ys =
    rw (made-append ended (before ++ x ∷ []) xs ys, append_assoc before (x ∷ []) xs)
    (sym (append_assoc (ended before x) (all_made ended (before ++ x ∷ []) xs) (all_made ended (before ++ x ∷ xs) ys)))

pub for-append : (apid : ℕ) (xs ys : List (List ℕ)) → packets_for apid (xs ++ ys) ≡ packets_for apid xs ++ packets_for apid ys
for-append apid xs ys = ap (filter (is_for apid)) (flat_map-append packets_of xs ys) ∙ filter-append (is_for apid) (flat_map packets_of xs) (flat_map packets_of ys)

pub no-parts : (xs ys : List (List ℕ)) → xs ++ ys ≡ [] → (xs ≡ []) × (ys ≡ [])
no-parts [] ys h = (refl, h)
no-parts (x ∷ xs) ys h = absurd cc

pub of-one : (apid : ℕ) (o : Option (List ℕ)) → filter (is_for apid) (packets_offered o false) ≡ packets_for apid (as_list o)
of-one apid None = refl
of-one apid (Some unit) = ap (filter (is_for apid)) (sym (append-nil (packets_of unit)))

of-chosen : (apid : ℕ) (o : Option (List ℕ)) → filter (is_for apid) (packets_offered o true) ≡ []
of-chosen apid None = refl
of-chosen apid (Some unit) = refl

pub same-self : (service : Service) (n : ℕ) → (same_service service service && eqb n n) ≡ true
same-self Ad n = grind (arith)
same-self Bd n = grind (arith)

-- packets, each with this stream
abbrev tagged : Service → ℕ → List (List ℕ) → List OnStream
tagged service map_id packets = map {B = OnStream} (λ packet. record { service = service; map_id = map_id; packet = packet }) packets

tag-off : (service : Service) (map_id : ℕ) (packets : List (List ℕ)) → map packet_on (tagged service map_id packets) ≡ packets
tag-off service map_id [] = refl
tag-off service map_id (x ∷ xs) = ap (λ (ys : List (List ℕ)). x ∷ ys) (tag-off service map_id xs)

tag-kept : (service : Service) (map_id : ℕ) (own : Service) (id : ℕ) (packets : List (List ℕ)) → is_same_stream service map_id own id ≡ true
    → filter (is_from service map_id) (tagged own id packets) ≡ tagged own id packets
tag-kept service map_id own id [] same = refl
tag-kept service map_id own id (x ∷ xs) same = rw same (ap (λ (ys : List OnStream). record { service = own; map_id = id; packet = x } ∷ ys) (tag-kept service map_id own id xs same))

tag-dropped : (service : Service) (map_id : ℕ) (own : Service) (id : ℕ) (packets : List (List ℕ)) → is_same_stream service map_id own id ≡ false
    → filter (is_from service map_id) (tagged own id packets) ≡ []
tag-dropped service map_id own id [] apart = refl
tag-dropped service map_id own id (x ∷ xs) apart = rw apart (tag-dropped service map_id own id xs apart)

-- the packets that data fields make for an application, with the streams on which they came
abbrev came : (ℕ → ℕ) → Settings → ℕ → List Passed → List Passed → List OnStream
came limits s apid before [] = []
came limits s apid before (p ∷ ps) = tagged p.service (map_in s.segmented p.field) (packets_ended limits s apid before p) ++ came limits s apid (before ++ p ∷ []) ps

came-all : (limits : ℕ → ℕ) (s : Settings) (apid : ℕ) (before ps : List Passed) → map packet_on (came limits s apid before ps) ≡ all_made (packets_ended limits s apid) before ps
came-all limits s apid before [] = refl
came-all limits s apid before (p ∷ ps) =
    let now = packets_ended limits s apid before p in
    let later = came limits s apid (before ++ p ∷ []) ps in
    map-append packet_on (tagged p.service (map_in s.segmented p.field) now) later
    ∙ ap (λ (x : List (List ℕ)). x ++ map packet_on later) (tag-off p.service (map_in s.segmented p.field) now)
    ∙ ap (λ (x : List (List ℕ)). now ++ x) (came-all limits s apid (before ++ p ∷ []) ps)

-- the MAP of a data field is chosen if and only if the MAP of its stream is chosen
chosen-by : (s : Settings) (field : List ℕ) (map_id : ℕ) (c : Bool) → HasMapsByHeaders s → map_in s.segmented field ≡ map_id → is_chosen_map s map_id ≡ c → is_chosen_by s field ≡ c
chosen-by s field map_id c free is h = by s.segmented refl is where
  by : (t : Bool) → s.segmented ≡ t → map_in t field ≡ map_id → is_chosen_by s field ≡ c
  by true headed is = rw is h
  by false plain is =
      let neither : (is_chosen_by s field ≡ false) × (is_chosen_map s map_id ≡ false) = rw (free plain) (refl, refl) in
      neither.0 ∙ sym neither.1 ∙ h

offered : (apid : ℕ) (o : Option (List ℕ)) (units : List (List ℕ)) (c : Bool) → filter (is_for apid) (packets_offered o c) ++ cond c [] (packets_for apid units) ≡ cond c [] (packets_for apid (as_list o ++ units))
offered apid o units true = append-nil (filter (is_for apid) (packets_offered o true)) ∙ of-chosen apid o
offered apid o units false = ap (λ (x : List (List ℕ)). x ++ packets_for apid units) (of-one apid o) ∙ sym (for-append apid (as_list o) units)

came-each : (limits : ℕ → ℕ) (s : Settings) (apid : ℕ) (service : Service) (map_id : ℕ) (chosen : Bool) → HasMapsByHeaders s → is_chosen_map s map_id ≡ chosen → (before ps : List Passed)
    → map packet_on (filter (is_from service map_id) (came limits s apid before ps)) ≡ cond chosen [] (packets_for apid (all_made (stream_unit limits s service map_id) before ps))
came-each limits s apid service map_id true free is before [] = refl
came-each limits s apid service map_id false free is before [] = refl
came-each limits s apid service map_id chosen free is before (p ∷ ps) =
    let id = map_in s.segmented p.field in
    let now = packets_ended limits s apid before p in
    let later = map packet_on (filter (is_from service map_id) (came limits s apid (before ++ p ∷ []) ps)) in
    let units = all_made (stream_unit limits s service map_id) (before ++ p ∷ []) ps in
    let made = unit_made limits s before p in
    let own = tagged p.service id now in
    let rest = came-each limits s apid service map_id chosen free is (before ++ p ∷ []) ps in
    ap (map packet_on) (filter-append (is_from service map_id) own (came limits s apid (before ++ p ∷ []) ps))
    ∙ map-append packet_on (filter (is_from service map_id) own) (filter (is_from service map_id) (came limits s apid (before ++ p ∷ []) ps))
    ∙ elim (cases_Bool (is_in s.segmented service map_id p)) [
      | inl same ↦
          let chosen_is = chosen-by s p.field map_id chosen free (same_map service p.service id map_id same) is in
          let first : map packet_on (filter (is_from service map_id) own) ≡ filter (is_for apid) (packets_offered made chosen) =
          ap (map packet_on) (tag-kept service map_id p.service id now same) ∙ tag-off p.service id now ∙ ap (λ (x : Bool). filter (is_for apid) (packets_offered made x)) chosen_is in
          let unit_is : stream_unit limits s service map_id before p ≡ as_list made = rw same refl in
          ap (λ (x : List (List ℕ)). x ++ later) first ∙ ap (λ (x : List (List ℕ)). filter (is_for apid) (packets_offered made chosen) ++ x) rest ∙ offered apid made units chosen
          ∙ ap (λ (x : List (List ℕ)). cond chosen [] (packets_for apid (x ++ units))) (sym unit_is)
      | inr apart ↦
          let unit_is : stream_unit limits s service map_id before p ≡ [] = rw apart refl in
          ap (λ (x : List OnStream). map packet_on x ++ later) (tag-dropped service map_id p.service id now apart) ∙ rest ∙ ap (λ (x : List (List ℕ)). cond chosen [] (packets_for apid (x ++ units))) (sym unit_is)
    ]

-- the packets that data fields make for an application are a merge of the packets of each stream
pub made-merged : (limits : ℕ → ℕ) (s : Settings) (apid : ℕ) (before ps : List Passed) (on : Service → ℕ → List (List ℕ)) → HasMapsByHeaders s
    → ((service : Service) (map_id : ℕ) → unless_chosen s map_id (packets_for apid (all_made (stream_unit limits s service map_id) before ps)) ≡ on service map_id)
    → AreMerged (all_made (packets_ended limits s apid) before ps) on
made-merged limits s apid before ps on free is = record {
  came = came limits s apid before ps;
  all = came-all limits s apid before ps;
  each = λ service map_id. came-each limits s apid service map_id (is_chosen_map s map_id) free refl before ps ∙ is service map_id;
}

-- the packets of the list `kept`, with the packet of `t` in front of them if the test is true
abbrev of_test : (t : OnStream) (kept : List OnStream) → Bool → List (List ℕ)
of_test t kept b = map packet_on (cond b (t ∷ kept) kept)

-- if no packet came on another stream, all packets came on this one
all-kept : (service : Service) (map_id : ℕ) (came : List OnStream) → ((other : Service) (id : ℕ) → is_same_stream service map_id other id ≡ false → map packet_on (filter (is_from other id) came) ≡ [])
    → filter (is_from service map_id) came ≡ came
all-kept service map_id [] none = refl
all-kept service map_id (t ∷ came) none =
    let at = λ (other : Service) (id : ℕ) (b : Bool) (e : is_from other id t ≡ b) (h : map packet_on (filter (is_from other id) (t ∷ came)) ≡ []). subst (λ (b : Bool). of_test t (filter (is_from other id) came) b ≡ []) e h in
    let rest = all-kept service map_id came (λ other id apart. elim (cases_Bool (is_from other id t)) [
      | inl e ↦ absurd (let q : t.packet ∷ map packet_on (filter (is_from other id) came) ≡ [] = at other id true e (none other id apart) in cc)
      | inr e ↦ at other id false e (none other id apart)
    ]) in
    elim (cases_Bool (is_from service map_id t)) [
      | inl e ↦ rw e (ap (λ (x : List OnStream). t ∷ x) rest)
      | inr e ↦ absurd (let q : t.packet ∷ map packet_on (filter (is_from t.service t.map_id) came) ≡ [] = at t.service t.map_id true (same-self t.service t.map_id) (none t.service t.map_id e) in cc)
    ]

pub merged-alone : (packets : List (List ℕ)) (on : Service → ℕ → List (List ℕ)) (service : Service) (map_id : ℕ) → AreMerged packets on
    → ((other : Service) (id : ℕ) → is_same_stream service map_id other id ≡ false → on other id ≡ []) → packets ≡ on service map_id
merged-alone packets on service map_id m none =
    sym m.all ∙ ap (map packet_on) (sym (all-kept service map_id m.came (λ other id apart. m.each other id ∙ none other id apart))) ∙ m.each service map_id

-- units of packets are cut into their packets
pub cut-all : (apid : ℕ) (units : List (List (List ℕ))) → AreAllPackets units → packets_for apid (all_joined units) ≡ packets_to apid units
cut-all apid units each = ap (filter (is_for apid)) (flat units each) where
  flat : (units : List (List (List ℕ))) → AreAllPackets units → flat_map packets_of (all_joined units) ≡ flat_map (λ packets. packets) units
  flat [] each = refl
  flat (packets ∷ units) each = rw ((cut-of-joined packets each.0).0, flat units each.1) refl

pub packets-arrive : Makes → (limits : ℕ → ℕ) (s : Settings) (apid : ℕ) (sent : PacketsSent) (before passed : List Passed) → HasMapsByHeaders s
    → ((service : Service) (map_id : ℕ) → AreAllPackets (sent service map_id)) → CarrySent limits s.segmented (joined_on sent) passed
    → (merged : List (List ℕ)) × AreMerged merged (packets_sent_on s apid sent) × (packets_made limits s apid (before ++ passed) ≡ packets_made limits s apid before ++ merged)
packets-arrive make limits s apid sent before passed free packets carry =
    (all_made (packets_ended limits s apid) before passed, made-merged limits s apid before passed (packets_sent_on s apid sent) free (λ service map_id. ap (unless_chosen s map_id) (on service map_id)), made-append (packets_ended limits s apid) [] before passed)
  where
    on : (service : Service) (map_id : ℕ) → packets_for apid (all_made (stream_unit limits s service map_id) before passed) ≡ packets_to apid (sent service map_id)
    on service map_id =
        ap (packets_for apid) (units-carried make limits s service map_id (all_joined (sent service map_id)) before passed (carry.sendable service map_id) (carry.carry service map_id))
        ∙ cut-all apid (sent service map_id) (packets service map_id)
