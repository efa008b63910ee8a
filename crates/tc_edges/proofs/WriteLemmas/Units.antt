-- The segments of a unit make the unit.
use Rattle.std.proofs.Common.{◌≡◌, ◌≢◌, ℕ, zero, suc, ◌+◌, ◌-◌, ◌*◌, ◌/◌, ◌<◌, ◌≤◌, List, [], ◌∷◌, ◌++◌, length, take, drop, get_or, refl, ap, sym, ◌∙◌, arith, inl, inr}
use Rattle.std.specs.List.{AllByRecursion}
use Rattle.std.proofs.lemmas.Grind.{common_steps}
use Rattle.std.proofs.lemmas.Bool.Decides.{nat_tests}
use Rattle.std.proofs.lemmas.List.{length-append, take_all, drop-drop, append-nil}
use Rattle.std.proofs.lemmas.List.Concat.{flat_map-append}
use Rattle.std.proofs.Math.Nat.{lt-div-mul-add}
use Rattle.tc_packet.specs.declared.segment.Part.TheVariants.{First, Continuing, Last, Unsegmented}
use Rattle.tc_packet.specs.Segment.{header_of, body_of}
use Rattle.tc_packet.specs.Reassembly.{IsPart, joined_bodies}
use Rattle.tc_packet.specs.declared.segment.Segment.{Segment}
use Rattle.tc_edges.specs.Write.Parts.{segments_needed, part_at}
use Rattle.tc_edges.specs.Write.Segments.{AreSegments, MakeUnit}

-- P holds for each element of the list and its place
abbrev Places : List (List ℕ) → (ℕ → List ℕ → Type 0) → Type 0
Places fields P = (k : ℕ) → k < length fields → P k (get_or fields k [])

take-more : (a b : ℕ) (xs : List ℕ) → take a xs ++ take b (drop a xs) ≡ take (a + b) xs
take-more zero b xs = let e : zero + b ≡ b = omega arith in ap (λ (n : ℕ). take n xs) (sym e)
take-more (suc a) b [] = grind (arith, common_steps)
take-more (suc a) b (x ∷ xs) = let e : suc a + b ≡ suc (a + b) = omega arith in ap (λ (ys : List ℕ). x ∷ ys) (take-more a b xs) ∙ ap (λ (n : ℕ). take n (x ∷ xs)) (sym e)

-- pieces that follow one another join to the front of the octets from which they were cut
pieces-joined : (fields : List (List ℕ)) (size : ℕ) (rest : List ℕ)
    → Places fields (λ k field. body_of field ≡ take size (drop (k * size) rest)) → joined_bodies fields ≡ take (length fields * size) rest
pieces-joined [] size rest each = let e : 0 * size ≡ 0 = omega arith in ap (λ (n : ℕ). take n rest) (sym e)
pieces-joined (field ∷ fields) size rest each =
    let none : 0 * size ≡ 0 = omega arith in
    let first : body_of field ≡ take size rest = each 0 (omega arith) ∙ ap (λ (n : ℕ). take size (drop n rest)) none in
    let later : joined_bodies fields ≡ take (length fields * size) (drop size rest) =
    pieces-joined fields size (drop size rest) (λ k less. each (suc k) (omega arith)
    ∙ ap (λ (n : ℕ). take size (drop n rest)) (let e : suc k * size ≡ size + k * size = omega arith in e) ∙ ap (take size) (sym (drop-drop (k * size) size rest))) in
    let more : size + length fields * size ≡ suc (length fields) * size = omega arith in
    ap (λ (xs : List ℕ). xs ++ joined_bodies fields) first ∙ ap (λ (xs : List ℕ). take size rest ++ xs) later ∙ take-more size (length fields * size) rest
    ∙ ap (λ (n : ℕ). take n rest) more

first-part : (count : ℕ) → 2 ≤ count → part_at 0 count ≡ First
first-part count more = grind (arith, nat_tests)

last-part : (place count : ℕ) → 1 ≤ place → place + 1 ≡ count → part_at place count ≡ Last
last-part place count some at = grind (arith, nat_tests)

inner-part : (place count : ℕ) → 1 ≤ place → place + 1 < count → part_at place count ≡ Continuing
inner-part place count some before = grind (arith, nat_tests)

-- `rest` are the segments after the first one: the last one, and the continuing ones before it
record Closed (rest : List (List ℕ)) : Type 0 where
  middle : List (List ℕ)
  last : List ℕ
  parts : rest ≡ middle ++ last ∷ []
  goes_on : AllByRecursion (IsPart Continuing) middle
  closes : IsPart Last last

closed : (count place : ℕ) (rest : List (List ℕ)) → 1 ≤ place → 0 < length rest → place + length rest ≡ count
    → Places rest (λ k field. (header_of field).part ≡ part_at (place + k) count) → Closed rest
closed count place [] some more whole parts = absurd (omega arith)
closed count place (f ∷ []) some more whole parts =
    record { middle = []; last = f; parts = refl; goes_on = tt; closes = parts 0 (omega arith) ∙ last-part (place + 0) count (omega arith) (omega arith) }
closed count place (f ∷ g ∷ rest) some more whole parts =
    let c = closed count (suc place) (g ∷ rest) (omega arith) (omega arith) (omega arith)
    (λ k less. parts (suc k) (omega arith) ∙ ap (λ (n : ℕ). part_at n count) (let e : place + suc k ≡ suc place + k = omega arith in e)) in
    record {
      middle = f ∷ c.middle;
      last = c.last;
      parts = ap (λ (xs : List (List ℕ)). f ∷ xs) c.parts;
      goes_on = (parts 0 (omega arith) ∙ inner-part (place + 0) count (omega arith) (omega arith), c.goes_on);
      closes = c.closes;
    }

-- a unit that isn't empty needs at least one segment
count-least : (size n : ℕ) → 1 ≤ size → 1 ≤ n → 1 ≤ segments_needed size n
count-least size n some more =
    let room = lt-div-mul-add {a = n + size - 1} {b = size} (omega arith) in
    let one : (n + size - 1) / size ≢ 0 = λ none. (let e : (n + size - 1) / size * size ≡ 0 = ap (λ (x : ℕ). x * size) none ∙ (let z : 0 * size ≡ 0 = omega arith in z) in omega arith) in
    grind (arith, one)

-- the segments that a unit needs have room for all its octets
count-room : (size n : ℕ) → 1 ≤ size → n ≤ segments_needed size n * size
count-room size n some = let room = lt-div-mul-add {a = n + size - 1} {b = size} (omega arith) in omega arith

pub segments-make : (map size : ℕ) (unit : List ℕ) (fields : List (List ℕ)) → 1 ≤ size → 1 ≤ length unit → length unit ≤ 65542
    → AreSegments map size unit fields → MakeUnit fields unit
segments-make map size unit [] some more most s = let least = count-least size (length unit) some more in let e = s.count in absurd (omega arith)
segments-make map size unit (f ∷ []) some more most s =
    let count : 1 ≡ segments_needed size (length unit) = s.count in
    let room = count-room size (length unit) some in
    let one : segments_needed size (length unit) * size ≡ 1 * size = ap (λ (x : ℕ). x * size) (sym count) in
    let short : length unit ≤ size = omega arith in
    let none : 0 * size ≡ 0 = omega arith in
    let first = s.each 0 (omega arith) in
    let part : (header_of f).part ≡ Unsegmented = ap (λ (h : Segment). h.part) first.0 ∙ ap (part_at 0) (sym count) in
    let body : body_of f ≡ unit = first.1 ∙ ap (λ (n : ℕ). take size (drop n unit)) none ∙ take_all size unit short in
    record { before = []; last = f; parts = refl; unit_ends = inl (record { whole = part; joins = sym body; limit = most }) }
segments-make map size unit (f ∷ g ∷ rest) some more most s =
    let count = segments_needed size (length unit) in
    let whole : length (f ∷ g ∷ rest) ≡ count = s.count in
    let room = count-room size (length unit) some in
    let all : joined_bodies (f ∷ g ∷ rest) ≡ unit =
    pieces-joined (f ∷ g ∷ rest) size unit (λ k less. (s.each k less).1) ∙ take_all (length (f ∷ g ∷ rest) * size) unit (rw whole room) in
    let opens : (header_of f).part ≡ First = ap (λ (h : Segment). h.part) (s.each 0 (omega arith)).0 ∙ first-part count (omega arith) in
    let c = closed count 1 (g ∷ rest) (omega arith) (omega arith) (omega arith)
    (λ k less. ap (λ (h : Segment). h.part) (s.each (suc k) (omega arith)).0 ∙ ap (λ (n : ℕ). part_at n count) (let e : suc k ≡ 1 + k = omega arith in e)) in
    let run = joined_bodies (f ∷ c.middle) in
    let parts : f ∷ g ∷ rest ≡ (f ∷ c.middle) ++ c.last ∷ [] = ap (λ (xs : List (List ℕ)). f ∷ xs) c.parts in
    let joins : unit ≡ run ++ body_of c.last =
    sym all ∙ ap joined_bodies parts ∙ flat_map-append body_of (f ∷ c.middle) (c.last ∷ []) ∙ ap (λ (xs : List ℕ). run ++ xs) (append-nil (body_of c.last)) in
    let lengths : length unit ≡ length run + length (body_of c.last) = ap (λ (xs : List ℕ). length xs) joins ∙ length-append run (body_of c.last) in
    record {
      before = f ∷ c.middle;
      last = c.last;
      parts = parts;
      unit_ends = inr (record {
        run = run;
        opened = record { before = []; first = f; after = c.middle; parts = refl; opens = opens; goes_on = c.goes_on; joins = refl; limit = omega arith };
        closes = c.closes;
        joins = joins;
        limit = most;
      });
    }
