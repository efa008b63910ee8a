-- A CLCW with a number that no earlier CLCW can have was made after Set V(R) was obeyed.
use Rattle.tc_laws.proofs.LoopsLemmas.Names.{take-map, slice_get-map, option_map, Action, Arrive, Bool, Frame, Hear, Idle, IsLoop, IsObeyed, KeepOrder, List, Loop, NamesAnother, Other, Send, Some, Start, [], accepted, action_before, ap, arith, begun, begun_from, clcw_within, cond, drop, era_before, events, false, fields_of, inl, inr, journal, known, length, length-map, length-take-le, map, max, nat_lt, nat_tests, refl, reported, session_before, slice_get, slice_get_within, suc, sym, take, take-append-drop, take-append-le, take-take, true, zero, ℕ, ◌%◌, ◌++◌, ◌+◌, ◌<◌, ◌∙◌, ◌∷◌, ◌≡◌, ◌≤◌, cases_lt}
use Rattle.tc_laws.proofs.LoopsLemmas.Actions.{begun-append}
use Rattle.tc_laws.proofs.LoopsLemmas.Counted.{counts, known-so, reported-so}
use Rattle.tc_laws.proofs.LoopsLemmas.Window.{holds}
use Rattle.tc_laws.proofs.LoopsLemmas.Longer.{IsNext, get-last, get-take, known-at, longer-quiet}

begun-least : (n : ℕ) (xs : List Action) → n ≤ begun_from n xs
begun-least n [] = omega arith
begun-least n (Send i ∷ xs) = let more = begun-least (max n (i + 1)) xs in omega arith
begun-least n (_ ∷ xs) = begun-least n xs

begun-grows : (xs : List Action) (m n : ℕ) → m ≤ n → begun xs m ≤ begun xs n
begun-grows xs m n low =
    let ys = take n xs in
    let is : begun xs n ≡ begun_from (begun xs m) (drop m ys) = ap (begun_from 0) (sym (take-append-drop m ys)) ∙ begun-append 0 (take m ys) (drop m ys) ∙ ap (λ zs. begun_from (begun_from 0 zs) (drop m ys)) (take-take m n xs low) in
    let more = begun-least (begun xs m) (drop m ys) in
    omega arith

map-get : (f : Action → Action) (xs : List Action) (t : ℕ) (b : Action) → slice_get (map f xs) t ≡ Some b → (a : Action) × (slice_get xs t ≡ Some a) × (f a ≡ b)
map-get f [] t b e = absurd cc
map-get f (x ∷ xs) zero b e = (x, refl, cc)
map-get f (x ∷ xs) (suc t) b e = map-get f xs t b e

get-within : (xs : List Action) (n t : ℕ) (a : Action) → slice_get xs t ≡ Some a → t < n → slice_get (take n xs) t ≡ Some a
get-within [] n t a e low = absurd cc
get-within (x ∷ xs) zero t a e low = absurd (omega arith)
get-within (x ∷ xs) (suc n) zero a e low = e
get-within (x ∷ xs) (suc n) (suc t) a e low = get-within xs n t a e (omega arith)

heard-before : (s : Start) (m : ℕ) (a : Action) → action_before s a ≡ Hear m → a ≡ Hear m
heard-before s m (Hear n) e = e
heard-before s m (Send j) e = grind (arith, nat_tests)
heard-before s m (Arrive j r) e = grind (arith, nat_tests)
heard-before s m _ e = absurd cc

module _ (s : Start) (first window : ℕ) (frames : ℕ → List ℕ) (own : (i : ℕ) → i < s.directive → frames i ≡ s.loop.frames i) where
  abbrev o : Loop
  o = era_before s first window frames

  same-events : (xs : List Action) → events o (map (action_before s) xs) ≡ events s.loop xs
  same-events [] = refl
  same-events (Send j ∷ xs) = by (nat_lt j s.directive) ∙ same-events xs where
    by : (b : Bool) → events o (cond b (Send j) Idle ∷ map (action_before s) xs) ≡ events o (map (action_before s) xs)
    by true = refl
    by false = refl
  same-events (Arrive j r ∷ xs) = by (nat_lt j s.directive) refl ∙ ap (λ es. Frame (s.loop.frames j) ∷ es) (same-events xs) where
    by : (b : Bool) → nat_lt j s.directive ≡ b → events o (cond b (Arrive j r) (Other (Frame (s.loop.frames j))) ∷ map (action_before s) xs) ≡ Frame (s.loop.frames j) ∷ events o (map (action_before s) xs)
    by true low = ap (λ octets. Frame octets ∷ events o (map (action_before s) xs)) (own j (grind (arith, nat_tests)))
    by false high = refl
  same-events (Other e ∷ xs) = ap (λ es. e ∷ es) (same-events xs)
  same-events (_ ∷ xs) = same-events xs

  same-reported : (m : ℕ) → m ≤ s.obeyed → reported o (session_before s) m ≡ reported s.loop s.session m
  same-reported m low =
      let is : journal o (take m (session_before s)) ≡ journal s.loop (take m s.session) =
      ap (λ es. s.loop.before ++ es) (ap (events o) (take-map (action_before s) m (take s.obeyed s.session)) ∙ same-events (take m (take s.obeyed s.session)) ∙ ap (events s.loop) (take-take m s.obeyed s.session low)) in
      ap (λ es. (fields_of (clcw_within s.loop.limits s.loop.settings es (s.loop.links m))).vr) is

  module _ (k : IsLoop o (session_before s)) (order : KeepOrder s.session) (asked made : ℕ) (obeyed : IsObeyed s s.obeyed) (here : slice_get s.session s.believed ≡ Some (Hear made)) where
    long : length (session_before s) ≡ s.obeyed
    long = length-map (take s.obeyed s.session) (action_before s) ∙ length-take-le s.obeyed s.session (omega (arith, slice_get_within s.session s.obeyed (Arrive s.directive obeyed.0) obeyed.1))

    -- if the sender hears the CLCW before Set V(R) is obeyed, the CLCW shows no fewer frames than the sender knew when
    -- it sent Set V(R)
    early : asked ≤ s.believed → s.believed < s.obeyed → known o (session_before s) asked ≤ accepted o (take made (session_before s))
    early since low =
        let at : slice_get (session_before s) s.believed ≡ Some (Hear made) = slice_get-map (action_before s) (take s.obeyed s.session) s.believed ∙ ap (option_map (action_before s)) (get-within s.session s.obeyed s.believed (Hear made) here low) in
        (holds o (session_before s) (λ t. accepted o (take t (session_before s))) (λ t. known o (session_before s) t) (λ t. begun (session_before s) t) k.window (counts o (session_before s) k) asked).back s.believed made since at

    late : asked ≤ s.obeyed → made ≤ s.obeyed → s.obeyed ≤ s.believed → known o (session_before s) asked ≤ accepted o (take made (session_before s))
    late since low after =
        let was = session_before s in
        let size = long in
        let more = was ++ Hear made ∷ [] in
        let can : IsNext o was (Hear made) = (
          omega arith,
          λ t m at.
              let from = map-get (action_before s) (take s.obeyed s.session) t (Hear m) at in
              let before : slice_get (take s.obeyed s.session) t ≡ Some (Hear m) = from.1 ∙ ap (λ (a : Action). Some a) (heard-before s m from.0 from.2) in
              let within = slice_get_within was t (Hear m) at in
              omega (arith, order.reports_in_order t s.believed m made (omega arith) (get-take s.session s.obeyed t (Hear m) before) here),
        ) in
        let loop : IsLoop o more = longer-quiet o was (Hear made) k can refl in
        let h = (holds o more (λ t. accepted o (take t more)) (λ t. known o more t) (λ t. begun more t) loop.window (counts o more loop) asked).back (length was) made (omega arith) (get-last was (Hear made)) in
        let same_known : known o more asked ≡ known o was asked = known-at o was (Hear made ∷ []) asked k.possible (omega arith) in
        let same_accepted : accepted o (take made more) ≡ accepted o (take made was) = ap (accepted o) (take-append-le made was (Hear made ∷ []) (omega arith)) in
        omega arith

    pub made-after : asked ≤ s.obeyed → asked ≤ s.believed → NamesAnother s first window frames asked → reported s.loop s.session made ≡ s.loop.first → s.obeyed < made
    made-after before since another says = elim (cases_lt s.obeyed made) [
      | inl after ↦ after
      | inr low ↦ absurd (
          let count = accepted o (take made (session_before s)) in
          let more = begun-grows (session_before s) made s.obeyed low in
          let learnt : (first + count) % 256 ≡ s.loop.first = sym (reported-so o (session_before s) made k) ∙ same-reported made low ∙ says in
          another count (elim (cases_lt s.believed s.obeyed) [ inl sooner ↦ early since sooner | inr after ↦ late before low after ]) (omega (arith, (known-so o (session_before s) made k).among)) learnt)
    ]
