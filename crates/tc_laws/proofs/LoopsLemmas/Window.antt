-- If the window is below 256, old frames can be told from new ones, even if the counts of frames are only known modulo
-- 256.
use Rattle.tc_laws.proofs.LoopsLemmas.Names.{Action, Arrive, Hear, KeepOrder, List, Loop, Send, Some, above, arith, heard, inl, inr, max, nat_tests, slice_get, subst, suc, zero, ℕ, ◌%◌, ◌+◌, ◌-◌, ◌<◌, ◌∙◌, ◌≡◌, ◌≤◌, ◌⊎◌, cases_lt}

above-right : (first a d : ℕ) → d < 256 → above first a ((first + (a + d)) % 256) ≡ d
above-right first a d small = omega arith

-- if N(R) was made from a count of accepted frames that is at most K above the known count, the sender reads it as this
-- count
pub heard-right : (l : Loop) (a b : ℕ) → l.window < 256 → a ≤ b → b ≤ a + l.window → heard l.first l.window a ((l.first + b) % 256) ≡ b
heard-right l a b window low high =
    let e : a + (b - a) ≡ b = omega arith in
    let up : above l.first a ((l.first + b) % 256) ≡ b - a = subst (λ n. above l.first a ((l.first + n) % 256) ≡ b - a) e (above-right l.first a (b - a) (omega arith)) in
    grind (arith, nat_tests)

-- the sender never forgets a frame that it knows to be accepted
pub heard-grows : (l : Loop) (a nr : ℕ) → a ≤ heard l.first l.window a nr
heard-grows l a nr = grind (arith, nat_tests)

-- The counts of a session, as the receiver and the sender make them: c is the number of accepted frames, a is the
-- number of frames that the sender knows to be accepted, and n is the number of frames that the sender began to send.
pub record Counts (l : Loop) (session : List Action) (c a n : ℕ → ℕ) : Type 0 where
  pub none_accepted : c 0 ≡ 0
  pub none_known : a 0 ≡ 0
  pub taken : (t : ℕ) → (c (suc t) ≡ c t) ⊎ ((i : ℕ) × (s : ℕ) × (slice_get session t ≡ Some (Arrive i s)) × ((l.first + i) % 256 ≡ (l.first + c t) % 256) × (c (suc t) ≡ c t + 1))
  pub learnt : (t : ℕ) → (a (suc t) ≡ a t) ⊎ ((m : ℕ) × (slice_get session t ≡ Some (Hear m)) × (a (suc t) ≡ heard l.first l.window (a t) ((l.first + c m) % 256)))
  pub none_begun : n 0 ≡ 0
  pub begins : (t : ℕ) → (n (suc t) ≡ n t) ⊎ ((i : ℕ) × (slice_get session t ≡ Some (Send i)) × (n (suc t) ≡ max (n t) (i + 1)))
  pub sent : (t i : ℕ) → slice_get session t ≡ Some (Send i) → n (suc t) ≡ max (n t) (i + 1)
  -- the rules of the session, stated for these counts
  pub sends : (t i : ℕ) → slice_get session t ≡ Some (Send i) → (a t ≤ i) × (i < a t + l.window)
  pub links : KeepOrder session

grows : (f : ℕ → ℕ) → ((t : ℕ) → f t ≤ f (suc t)) → (s t : ℕ) → s ≤ t → f s ≤ f t
grows f each s zero order = let same : s ≡ 0 = omega arith in rw same (omega arith)
grows f each s (suc t) order = elim (cases_lt t s) [
  | inl last ↦ let same : s ≡ suc t = omega arith in rw same (omega arith)
  | inr low ↦ let more = grows f each s t low in let one = each t in omega arith
]

module _ (l : Loop) (session : List Action) (c a n : ℕ → ℕ) (w : l.window < 256) (k : Counts l session c a n) where
  c-grows : (s t : ℕ) → s ≤ t → c s ≤ c t
  c-grows = grows c (λ t. elim (k.taken t) [
    | inl same ↦ omega arith
    | inr one ↦ let e = one.4 in omega arith
  ])

  a-grows : (s t : ℕ) → s ≤ t → a s ≤ a t
  a-grows = grows a (λ t. elim (k.learnt t) [
    | inl same ↦ omega arith
    | inr one ↦ rw one.2 (heard-grows l (a t) ((l.first + c one.0) % 256))
  ])

  -- These facts hold at a moment. Each known frame is accepted, and no more than K frames are accepted beyond the known
  -- ones. If a frame arrives at this moment or later, no more than K frames are accepted at this moment beyond those
  -- that the sender knew when it sent the frame. A CLCW that is heard at this moment or later shows no fewer frames
  -- than are known at this moment.
  pub record Holds (t : ℕ) : Type 0 where
    pub low : a t ≤ c t
    pub high : c t ≤ a t + l.window
    pub forward : (u i s : ℕ) → t ≤ u → slice_get session u ≡ Some (Arrive i s) → c t ≤ a s + l.window
    pub back : (u m : ℕ) → t ≤ u → slice_get session u ≡ Some (Hear m) → a t ≤ c m

  holds-first : Holds 0
  holds-first = let p = k.none_accepted in let q = k.none_known in
      record { low = omega arith; high = omega arith; forward = λ u i s order here. omega arith; back = λ u m order here. omega arith }

  -- the index of a frame that arrives differs from the count of accepted frames by no more than K
  pub record IsNear (t i : ℕ) : Type 0 where
    pub not_old : c t ≤ i + l.window
    pub not_new : i < c t + l.window

  near : (t i s : ℕ) → Holds t → slice_get session t ≡ Some (Arrive i s) → IsNear t i
  near t i s h here =
      let (before, sent) = k.links.arrives t i s here in
      let (least, most) = k.sends s i sent in
      let more = a-grows s t (omega arith) in
      let sent_at = h.forward t i s (omega arith) here in
      record { not_old = omega arith; not_new = omega arith }

  holds-taken : (t i s : ℕ) → Holds t → slice_get session t ≡ Some (Arrive i s) → (l.first + i) % 256 ≡ (l.first + c t) % 256 → c (suc t) ≡ c t + 1 → a (suc t) ≡ a t → Holds (suc t)
  holds-taken t i s h here ns one same =
      let n = near t i s h here in
      let is : i ≡ c t = omega arith in
      let (before, sent) = k.links.arrives t i s here in
      let (least, most) = k.sends s i sent in
      let more = a-grows s t (omega arith) in
      record {
        low = omega arith;
        high = omega arith;
        forward = λ u j r order later. omega (arith, a-grows s r (k.links.frames_in_order t u i j s r (omega arith) here later));
        back = λ u m order later. omega (arith, h.back u m (omega arith) later);
      }

  holds-learnt : (t m : ℕ) → Holds t → slice_get session t ≡ Some (Hear m) → c (suc t) ≡ c t → a (suc t) ≡ heard l.first l.window (a t) ((l.first + c m) % 256) → Holds (suc t)
  holds-learnt t m h here same one =
      let no_later = c-grows m t (k.links.hears t m here) in
      let low = h.back t m (omega arith) here in
      let is : a (suc t) ≡ c m = one ∙ heard-right l (a t) (c m) w low (omega arith) in
      let more = a-grows t (suc t) (omega arith) in
      record {
        low = omega arith;
        high = omega arith;
        forward = λ u j r order later. let f = h.forward u j r (omega arith) later in omega arith;
        back = λ u n order later. let order_kept = c-grows m n (k.links.reports_in_order t u m n (omega arith) here later) in omega arith;
      }

  holds-quiet : (t : ℕ) → Holds t → c (suc t) ≡ c t → a (suc t) ≡ a t → Holds (suc t)
  holds-quiet t h same_c same_a = record {
    low = omega arith;
    high = omega arith;
    forward = λ u j r order later. omega (arith, h.forward u j r (omega arith) later);
    back = λ u n order later. omega (arith, h.back u n (omega arith) later);
  }

  pub holds : (t : ℕ) → Holds t
  holds zero = holds-first
  holds (suc t) = elim (k.taken t) [
    | inl same_c ↦ elim (k.learnt t) [
      | inl same_a ↦ holds-quiet t (holds t) same_c same_a
      | inr one ↦ holds-learnt t one.0 (holds t) one.1 same_c one.2
    ]
    | inr one ↦ elim (k.learnt t) [
      | inl same_a ↦ holds-taken t one.0 one.1 (holds t) one.2 one.3 one.4 same_a
      | inr other ↦ absurd (let p = one.2 in let q = other.1 in cc)
    ]
  ]

  pub comes-near : (t i s : ℕ) → slice_get session t ≡ Some (Arrive i s) → IsNear t i
  comes-near t i s here = near t i s (holds t) here

  n-grows : (s t : ℕ) → s ≤ t → n s ≤ n t
  n-grows = grows n (λ t. elim (k.begins t) [
    | inl same ↦ omega arith
    | inr one ↦ let e = one.2 in omega arith
  ])

  -- the sender has begun no more than K frames beyond the known ones
  pub begun-most : (t : ℕ) → n t ≤ a t + l.window
  begun-most zero = let p = k.none_begun in omega arith
  begun-most (suc t) =
      let most = begun-most t in
      let more = a-grows t (suc t) (omega arith) in
      elim (k.begins t) [
        | inl same ↦ omega arith
        | inr one ↦ omega (arith, one.2, (k.sends t one.0 one.1).1)
      ]

  -- each accepted frame was begun
  pub begun-least : (t : ℕ) → c t ≤ n t
  begun-least zero = let p = k.none_accepted in omega arith
  begun-least (suc t) =
      let least = begun-least t in
      let more = n-grows t (suc t) (omega arith) in
      elim (k.taken t) [
        | inl same ↦ omega arith
        | inr (i, s, here, ns, e) ↦
            let (before, sent) = k.links.arrives t i s here in
            omega (arith, comes-near t i s here, k.sent s i sent, n-grows (suc s) t (omega arith))
      ]
