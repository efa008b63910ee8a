-- The frames that a sender numbers over all its MAPs carry its packets, MAP by MAP.
use Rattle.tc_laws.proofs.EndsLemmas.Names.{AllByRecursion, AreAllPackets, AreFramesOf, AreNumbered, Bool, CanBeSent, CarryUnits, Header, IsSendable, List, Segment, SendsPackets, UnitSent, [], all_joined, ap, arith, eqb, eqb_tells, false, field_of, filter-append, get_or, get_or-append_right, get_or_append_left, header_later, inl, inr, joined, length, length-append, map, map-append, map_in, on_map, refl, sent_from, subst, suc, sym, true, units_on, zero, ℕ, ◌%◌, ◌++◌, ◌+◌, ◌-◌, ◌<◌, ◌∙◌, ◌∷◌, ◌≡◌, cases_lt, recursion_from_All, All-from_get_or}
use Rattle.tc_packet.specs.Segment.{header_of}
use Rattle.tc_link.specs.Frame as link
use Rattle.tc_laws.proofs.EndsLemmas.Written.{written-segments}

-- all these data fields are on this MAP
abbrev AreOn : Bool → ℕ → List (List ℕ) → Type 0
AreOn b m fields = AllByRecursion (λ f. map_in b f ≡ m) fields

map-own : (b : Bool) (m id : ℕ) (fields : List (List ℕ)) → AreOn b m fields → eqb m id ≡ true → on_map b id fields ≡ fields
map-own b m id [] on same = refl
map-own b m id (f ∷ fs) on same = rw (on.0, same) (ap (λ (x : List (List ℕ)). f ∷ x) (map-own b m id fs on.1 same))

map-none : (b : Bool) (m id : ℕ) (fields : List (List ℕ)) → AreOn b m fields → eqb m id ≡ false → on_map b id fields ≡ []
map-none b m id [] on apart = refl
map-none b m id (f ∷ fs) on apart = rw (on.0, apart) (map-none b m id fs on.1 apart)

-- the data fields of a unit's frames are on its MAP and carry it
own-fields : (limits : ℕ → ℕ) (b : Bool) (header : Header) (u : UnitSent) (frames : List (List ℕ)) → CanBeSent limits b u → AreFramesOf b header u frames
    → AreOn b u.map_id (map field_of frames) × ((units : List (List ℕ)) (fields : List (List ℕ)) → CarryUnits b u.map_id units fields → CarryUnits b u.map_id (joined u.packets ∷ units) (map field_of frames ++ fields))
own-fields limits true header u frames can are =
    let s = written-segments header u.map_id u.size (joined u.packets) frames are in (
      recursion_from_All (λ f. (header_of f).map ≡ u.map_id) (map field_of frames) (All-from_get_or (λ f. (header_of f).map ≡ u.map_id) (map field_of frames) [] (λ k low. ap (λ (h : Segment). h.map) (s.each k low).0)),
      λ units fields rest. (u.size, map field_of frames, fields, can.size, refl, s, rest),
    )
own-fields limits false header u frames can are =
    let one : map field_of frames ≡ joined u.packets ∷ [] = ap (map field_of) are.1 ∙ ap (λ (f : List ℕ). f ∷ []) are.2.1 in (
      rw one (sym (can.one_stream refl), tt),
      λ units fields rest. ap (λ (x : List (List ℕ)). x ++ fields) one ∙ ap (λ (x : List (List ℕ)). joined u.packets ∷ x) rest,
    )

carried : (limits : ℕ → ℕ) (b : Bool) (header : Header) (units : List UnitSent) (frames : List (List ℕ)) → AllByRecursion (CanBeSent limits b) units → AreNumbered b header units frames
    → (id : ℕ) → CarryUnits b id (all_joined (units_on units id)) (on_map b id (map field_of frames))
carried limits true header [] frames can numbered id = ap (λ (fs : List (List ℕ)). on_map true id (map field_of fs)) numbered
carried limits false header [] frames can numbered id = ap (λ (fs : List (List ℕ)). on_map false id (map field_of fs)) numbered
carried limits b header (u ∷ units) frames can numbered id =
    let own = map field_of numbered.0 in
    let after = on_map b id (map field_of numbered.1) in
    let later = all_joined (units_on units id) in
    let rest = carried limits b (header_later header (length numbered.0)) units numbered.1 can.1 numbered.4 id in
    let fields = own-fields limits b header u numbered.0 can.0 numbered.3 in
    let parts : on_map b id (map field_of frames) ≡ on_map b id own ++ after =
    ap (on_map b id) (ap (map field_of) numbered.2 ∙ map-append field_of numbered.0 numbered.1) ∙ filter-append (λ (field : List ℕ). eqb (map_in b field) id) own (map field_of numbered.1) in
    elim (eqb_tells u.map_id id) [
      | inl same ↦
          let all = subst (λ m. CarryUnits b m later after → CarryUnits b m (joined u.packets ∷ later) (own ++ after)) same.1 (fields.1 later after) rest in
          rw same.0 (subst (CarryUnits b id (joined u.packets ∷ later)) (sym (parts ∙ ap (λ (x : List (List ℕ)). x ++ after) (map-own b u.map_id id own fields.0 same.0))) all)
      | inr other ↦ rw other.0 (subst (CarryUnits b id later) (sym (parts ∙ ap (λ (x : List (List ℕ)). x ++ after) (map-none b u.map_id id own fields.0 other.0))) rest)
    ]

sendable : (limits : ℕ → ℕ) (b : Bool) (units : List UnitSent) → AllByRecursion (CanBeSent limits b) units → (id : ℕ)
    → AllByRecursion (IsSendable limits b id) (all_joined (units_on units id)) × AreAllPackets (units_on units id)
sendable limits b [] can id = (tt, tt)
sendable limits b (u ∷ units) can id = elim (eqb_tells u.map_id id) [
  | inl same ↦ let rest = sendable limits b units can.1 id in rw same.0 ((subst (λ m. IsSendable limits b m (joined u.packets)) same.1 can.0.sendable, rest.0), (can.0.packets, rest.1))
  | inr other ↦ rw other.0 (sendable limits b units can.1 id)
]

pub numbered-sends : (limits : ℕ → ℕ) (b : Bool) (header : Header) (units : List UnitSent) (frames : List (List ℕ)) (sent : ℕ → List ℕ) → AllByRecursion (CanBeSent limits b) units → AreNumbered b header units frames
    → sent_from sent 0 (length frames) ≡ map field_of frames → SendsPackets limits b sent (length frames) (units_on units)
numbered-sends limits b header units frames sent can numbered is = record {
  carry = λ id. subst (λ (fields : List (List ℕ)). CarryUnits b id (all_joined (units_on units id)) (on_map b id fields)) (sym is) (carried limits b header units frames can numbered id);
  sendable = λ id. (sendable limits b units can id).0;
  packets = λ id. (sendable limits b units can id).1;
}

-- N(S) counts on from one unit's frames to the next unit's
ns-on : (n a b : ℕ) → ((n + a) % 256 + b) % 256 ≡ (n + (a + b)) % 256
ns-on n a b = omega arith

later-ns : (header : Header) (n : ℕ) → header.bypass ≡ false → (header_later header n).ns ≡ (header.ns + n) % 256
later-ns header n ad = rw ad refl

-- the frame at each place of a unit's frames has the header of this place
header-of : (b : Bool) (header : Header) (u : UnitSent) (frames : List (List ℕ)) → AreFramesOf b header u frames → (k : ℕ) → k < length frames → link.header_of (get_or frames k []) ≡ header_later header k
header-of true header u frames are k low = sym (are.each k low).0.header_bits
header-of false header u frames are zero low = ap (λ (fs : List (List ℕ)). link.header_of (get_or fs 0 [])) are.1 ∙ sym are.2.0.header_bits
header-of false header u frames are (suc k) low = absurd (let one : length frames ≡ 1 = ap (λ (fs : List (List ℕ)). length fs) are.1 in omega arith)

pub numbered-on : (b : Bool) (header : Header) (units : List UnitSent) (frames : List (List ℕ)) → header.bypass ≡ false → AreNumbered b header units frames
    → (k : ℕ) → k < length frames → (link.header_of (get_or frames k [])).ns ≡ (header.ns + k) % 256
numbered-on b header [] frames ad numbered k low = absurd (let none : length frames ≡ 0 = ap (λ (xs : List (List ℕ)). length xs) numbered in omega arith)
numbered-on b header (u ∷ units) frames ad numbered k low =
    let own = numbered.0 in
    let later = numbered.1 in
    let long : length frames ≡ length own + length later = ap (λ (xs : List (List ℕ)). length xs) numbered.2 ∙ length-append own later in
    let rest = numbered-on b (header_later header (length own)) units later ad numbered.4 in
    ap (λ (xs : List (List ℕ)). (link.header_of (get_or xs k [])).ns) numbered.2 ∙ elim (cases_lt k (length own)) [
      | inl within ↦ ap (λ (f : List ℕ). (link.header_of f).ns) (get_or_append_left own later [] k within) ∙ ap (λ (h : Header). h.ns) (header-of b header u own numbered.3 k within) ∙ later-ns header k ad
      | inr behind ↦
          let sum : length own + (k - length own) ≡ k = omega arith in
          ap (λ (f : List ℕ). (link.header_of f).ns) (get_or-append_right own later (length own) k [] refl behind) ∙ rest (k - length own) (omega arith)
          ∙ ap (λ n. (n + (k - length own)) % 256) (later-ns header (length own) ad) ∙ ns-on header.ns (length own) (k - length own) ∙ ap (λ n. (header.ns + n) % 256) sum
    ]
