-- The segments of a unit end the unit once, whatever fields came before.
use Rattle.tc_laws.proofs.EndsLemmas.Names.{AllByRecursion, AreSegments, Continuing, EndAtLast, First, IsPart, List, MakeUnit, Segment, Unsegmented, [], ap, append_assoc, arith, common_steps, get_or, inl, inr, length, length-append, nat_tests, part_at, refl, segments_needed, sym, units_ended_by, ℕ, ◌++◌, ◌∙◌, ◌∷◌, ◌≡◌, ◌≤◌, get_or_at, nil_from_length}
use Rattle.tc_packet.specs.Segment.{header_of}

-- continuing segments end no unit
none-ended : (before after : List (List ℕ)) → AllByRecursion (IsPart Continuing) after → units_ended_by before after ≡ []
none-ended before [] goes_on = refl
none-ended before (f ∷ fs) goes_on = rw (goes_on.0, none-ended (before ++ f ∷ []) fs goes_on.1) refl

none-first : (before after : List (List ℕ)) (first : List ℕ) → IsPart First first → AllByRecursion (IsPart Continuing) after → units_ended_by before (first ∷ after) ≡ []
none-first before after first opens goes_on = rw (opens, none-ended (before ++ first ∷ []) after goes_on) refl

-- a first segment is at place 0, and an only segment is the only one of its unit
part-first : (place count : ℕ) → part_at place count ≡ First → place ≡ 0
part-first place count is = grind (arith, nat_tests, common_steps)

part-only : (place count : ℕ) → part_at place count ≡ Unsegmented → count ≡ 1
part-only place count is = grind (arith, nat_tests, common_steps)

-- the header of each segment has the part of the segment's place: first, continuing, last or only
part-there : (map size : ℕ) (unit : List ℕ) (fields xs ys : List (List ℕ)) (y : List ℕ) → AreSegments map size unit fields → fields ≡ xs ++ y ∷ ys
    → (header_of y).part ≡ part_at (length xs) (segments_needed size (length unit))
part-there map size unit fields xs ys y s parts =
    let there : get_or fields (length xs) [] ≡ y = ap (λ (z : List (List ℕ)). get_or z (length xs) []) parts ∙ get_or_at xs y ys [] (length xs) refl in
    ap (λ (z : List ℕ). (header_of z).part) (sym there) ∙ ap (λ (h : Segment). h.part) (s.each (length xs) (omega (arith, ap length parts ∙ length-append xs (y ∷ ys)))).0

-- the statement of the law `the_segments_of_a_unit_make_the_unit` of tc_edges
abbrev pub Makes : Type 0
Makes = (map size : ℕ) (unit : List ℕ) (fields : List (List ℕ)) → 1 ≤ size → 1 ≤ length unit → length unit ≤ 65542 → AreSegments map size unit fields → MakeUnit fields unit

pub ends-once : Makes → (map size : ℕ) (unit : List ℕ) (before fields : List (List ℕ)) → 1 ≤ size → 1 ≤ length unit → length unit ≤ 65542
    → AreSegments map size unit fields → EndAtLast before fields unit
ends-once make map size unit before fields some more most s =
    let count = segments_needed size (length unit) in
    let m = make map size unit fields some more most s in
    elim m.unit_ends [
      | inl u ↦
          let part = part-there map size unit fields m.before [] m.last s m.parts in
          let one : count ≡ 1 = part-only (length m.before) count (sym part ∙ u.whole) in
          let alone : m.before ≡ [] = nil_from_length m.before (omega (arith, s.count, ap length m.parts ∙ length-append m.before (m.last ∷ []))) in
          record { first = []; last = m.last; parts = m.parts ∙ ap (λ (x : List (List ℕ)). x ++ m.last ∷ []) alone; none = refl; ends = inl u }
      | inr u ↦
          let r = u.opened in
          let whole : fields ≡ r.before ++ r.first ∷ (r.after ++ m.last ∷ []) =
          m.parts ∙ ap (λ (x : List (List ℕ)). x ++ m.last ∷ []) r.parts ∙ append_assoc r.before (r.first ∷ r.after) (m.last ∷ []) in
          let part = part-there map size unit fields r.before (r.after ++ m.last ∷ []) r.first s whole in
          let at_front : r.before ≡ [] = nil_from_length r.before (part-first (length r.before) count (sym part ∙ r.opens)) in
          let run : m.before ≡ r.first ∷ r.after = r.parts ∙ ap (λ (x : List (List ℕ)). x ++ r.first ∷ r.after) at_front in
          record {
            first = r.first ∷ r.after;
            last = m.last;
            parts = m.parts ∙ ap (λ (x : List (List ℕ)). x ++ m.last ∷ []) run;
            none = none-first before r.after r.first r.opens r.goes_on;
            ends = inr (record {
              run = u.run;
              opened = record { before = before; first = r.first; after = r.after; parts = refl; opens = r.opens; goes_on = r.goes_on; joins = r.joins; limit = r.limit };
              closes = u.closes;
              joins = u.joins;
              limit = u.limit;
            });
          }
    ]
