-- A course whose actions are woven with the events of other threads is a loop.
use Rattle.tc_apart.proofs.Names.{Action, Arrive, Course, Event, Hear, History, IsCourse, IsEraOf, IsEraWithin, IsLawfulWithin, IsLoopAt, IsAllowed, Bool, action_of, journal-append, IsOther, KeepOrder, Link, List, Loop, Other, Send, Idle, Settings, Some, [], actions_of, ap, arith, cases_lt, clcw-shows, clcw_within, drop, drop-append_seam, events, fields_of, heard, inl, inr, journal, known, known_from, lawful-before, learnt, learnt_from, length, length-map, map, moved, no_limits, read_at, refl, reported, slice_get, slice_get_within, subst, suc, sym, take, take-append-drop, take-map, thread_at, vr-below, word_read, zero, ℕ, ◌++◌, ◌+◌, ◌-◌, ◌<◌, ◌∙◌, ◌∷◌, ◌≡◌, ◌≤◌, ◌⊎◌}
use Rattle.tc_apart.proofs.Woven.{AreCalm, AreFilled, AreOther, Block, action_in, IsBeside, beside, events-beside, events-woven, flow, found, get-beside, moment, moment-calm, moment-least, moment-order, put, put-beside, take-beside, take-woven, woven}

-- The journal of a channel has the actions of a course and the events of other threads before, between and after them.
-- At each moment of the course, its thread's watcher has seen the journal at this moment.
pub record IsWoven (c : Course) (channel : History) : Type 0 where
  pub lead : List Event
  pub blocks : List Block
  pub tail : List Event
  pub same : map action_in blocks ≡ actions_of c
  pub calm : AreCalm blocks
  pub lead_other : AreOther lead
  pub filled : AreFilled blocks
  pub tail_other : AreOther tail
  pub settings : c.loop.settings ≡ channel.settings
  pub whole : channel.journal ≡ c.loop.before ++ (lead ++ flow c.loop.frames tail blocks)
  pub seen : (m : ℕ) → m ≤ length c.turns → (thread_at c m).watcher.seen.journal ≡ c.loop.before ++ (lead ++ flow c.loop.frames [] (take m blocks))
  pub kept : (m : ℕ) → m ≤ length c.turns → (thread_at c m).watcher.seen.settings ≡ channel.settings

-- the action `b` of a course, of which the action `a` of the longer session is made
abbrev pub Was : (ℕ → ℕ) → Action → Action → Type 0
Was at (Send i) b = b ≡ Send i
Was at (Arrive i r) b = (s : ℕ) × (b ≡ Arrive i s) × (r ≡ at s)
Was at (Hear r) b = (m : ℕ) × (b ≡ Hear m) × (r ≡ at m)
Was at (Other e) b = b ≡ Other e
Was at Idle b = b ≡ Idle

was-itself : (at : ℕ → ℕ) (b : Action) → Was at (moved at b) b
was-itself at (Send i) = refl
was-itself at (Arrive i s) = (s, refl, refl)
was-itself at (Hear m) = (m, refl, refl)
was-itself at (Other e) = refl
was-itself at Idle = refl

pub was-so : (at : ℕ → ℕ) (a b : Action) → a ≡ moved at b → Was at a b
was-so at a b same = subst (λ (x : Action). Was at x b) (sym same) (was-itself at b)

-- ---- the knowledge of a sender

known-beside : (l : Loop) (session : List Action) (a : ℕ) (es : List Event) (later : List Action) → known_from l session a (beside es later) ≡ known_from l session a later
known-beside l session a [] later = refl
known-beside l session a (e ∷ es) later = known-beside l session a es later

-- the CLCWs that the sender hears in these blocks have the report values that the thread's watcher has read
abbrev AreReadIn : Course → List Action → (ℕ → ℕ) → List Block → Type 0
AreReadIn c session at bs = (t m : ℕ) → slice_get (map action_in bs) t ≡ Some (Hear m) → reported c.loop session (at m) ≡ read_at c m

known-step : (c : Course) (session : List Action) (at : ℕ → ℕ) (action : Action) (xs ys : List Action) (a : ℕ) → ((m : ℕ) → action ≡ Hear m → reported c.loop session (at m) ≡ read_at c m)
    → ((n : ℕ) → known_from c.loop session n xs ≡ learnt_from c n ys) → known_from c.loop session a (moved at action ∷ xs) ≡ learnt_from c a (action ∷ ys)
known-step c session at (Hear m) xs ys a read rest =
    ap (λ (nr : ℕ). known_from c.loop session (heard c.loop.first c.loop.window a nr) xs) (read m refl) ∙ rest (heard c.loop.first c.loop.window a (read_at c m))
known-step c session at (Send i) xs ys a read rest = rest a
known-step c session at (Arrive i s) xs ys a read rest = rest a
known-step c session at (Other e) xs ys a read rest = rest a
known-step c session at Idle xs ys a read rest = rest a

known-woven : (c : Course) (session : List Action) (at : ℕ → ℕ) (bs : List Block) (a : ℕ) → AreReadIn c session at bs
    → known_from c.loop session a (woven at [] bs) ≡ learnt_from c a (map action_in bs)
known-woven c session at [] a read = refl
known-woven c session at (b ∷ bs) a read =
    known-beside c.loop session a b.others (moved at b.action ∷ woven at [] bs)
    ∙ known-step c session at b.action (woven at [] bs) (map action_in bs) a (λ m e. read 0 m (ap (λ (x : Action). Some x) e)) (λ n. known-woven c session at bs n (λ t m e. read (suc t) m e))

get-take : {A : Type 0} (k : ℕ) (xs : List A) (t : ℕ) (a : A) → slice_get (take k xs) t ≡ Some a → slice_get xs t ≡ Some a
get-take zero xs t a e = absurd cc
get-take (suc k) [] t a e = absurd cc
get-take (suc k) (x ∷ xs) zero a e = e
get-take (suc k) (x ∷ xs) (suc t) a e = get-take k xs t a e

-- the moments of a block's action
moment-more : (n : ℕ) (bs : List Block) (t : ℕ) (a : Action) → slice_get (map action_in bs) t ≡ Some a → suc n ≤ moment n bs (suc t)
moment-more n [] t a get = absurd cc
moment-more n (b ∷ bs) t a get = let more = moment-least (suc (n + length b.others)) bs t in omega arith

module _ (grows : Bool) (place : ℕ) (c : Course) (channel : History) (free : c.loop.limits ≡ no_limits) (came : List Event) (k : IsCourse grows place c came) (o : IsEraOf c channel) (w : IsWoven c channel) where
  abbrev at : ℕ → ℕ
  at = moment (length w.lead) w.blocks

  abbrev session : List Action
  session = beside w.lead (woven (moment (length w.lead) w.blocks) w.tail w.blocks)

  -- ---- the journal

  events-so : events c.loop session ≡ w.lead ++ flow c.loop.frames w.tail w.blocks
  events-so = events-beside c.loop w.lead (woven at w.tail w.blocks) ∙ ap (λ (es : List Event). w.lead ++ es) (events-woven c.loop at w.tail w.blocks)

  whole : channel.journal ≡ journal c.loop session
  whole = w.whole ∙ ap (λ (es : List Event). c.loop.before ++ es) (sym events-so)

  many : length (actions_of c) ≡ length w.blocks
  many = let a = length-map w.blocks action_in in let same = ap (length {A = Action}) w.same in omega arith

  turned : length c.turns ≡ length w.blocks
  turned = let a = length-map c.turns action_of in omega (arith, many)

  taken : (m : ℕ) → m ≤ length w.blocks → take (at m) session ≡ beside w.lead (woven at [] (take m w.blocks))
  taken m most =
      let n = length w.lead in
      let least = moment-least n w.blocks m in
      let j = at m - n in
      let is : at m ≡ n + j = omega (arith, least) in
      ap (λ (i : ℕ). take i session) is ∙ take-beside w.lead (woven at w.tail w.blocks) j ∙ ap (beside w.lead) (take-woven n at w.tail w.blocks m j most (sym is))

  journal-at : (m : ℕ) → m ≤ length c.turns → journal c.loop (take (at m) session) ≡ (thread_at c m).watcher.seen.journal
  journal-at m most =
      ap (journal c.loop) (taken m (omega (arith, turned)))
      ∙ ap (λ (es : List Event). c.loop.before ++ es) (events-beside c.loop w.lead (woven at [] (take m w.blocks)) ∙ ap (λ (es : List Event). w.lead ++ es) (events-woven c.loop at [] (take m w.blocks)))
      ∙ sym (w.seen m most)

  words : (m : ℕ) (link : Link) → m ≤ length c.turns → word_read c m link ≡ clcw_within c.loop.limits c.loop.settings (journal c.loop (take (at m) session)) link
  words m link most = λ i. clcw_within (sym free i) ((w.kept m most ∙ sym w.settings) i) (sym (journal-at m most) i) link

  lawful : IsLawfulWithin c.loop.limits c.loop.settings (journal c.loop session)
  lawful =
      subst (λ (es : List Event). IsLawfulWithin c.loop.limits c.loop.settings es) whole
      (subst (λ (s : Settings). IsLawfulWithin c.loop.limits s channel.journal) (sym w.settings)
      (subst (λ (l : ℕ → ℕ). IsLawfulWithin l channel.settings channel.journal) (sym free) o.lawful))

  lawful-at : (x : ℕ) → IsLawfulWithin c.loop.limits c.loop.settings (journal c.loop (take x session))
  lawful-at x =
      let parts : journal c.loop session ≡ journal c.loop (take x session) ++ events c.loop (drop x session) =
      ap (journal c.loop) (sym (take-append-drop x session)) ∙ journal-append c.loop (take x session) (drop x session) in
      lawful-before c.loop.limits c.loop.settings (journal c.loop (take x session)) (events c.loop (drop x session)) (subst (λ (es : List Event). IsLawfulWithin c.loop.limits c.loop.settings es) parts lawful)

  allowed : IsAllowed c.loop.settings
  allowed = subst IsAllowed (sym w.settings) o.allowed

  era : IsEraWithin c.loop.limits c.loop.settings (journal c.loop session) c.loop.before (events c.loop session) c.loop.first
  era =
      let later : o.later ≡ events c.loop session =
      sym (drop-append_seam c.loop.before o.later) ∙ ap (drop (length c.loop.before)) (sym o.era.parts ∙ whole) ∙ drop-append_seam c.loop.before (events c.loop session) in
      subst (λ (es : List Event). IsEraWithin c.loop.limits c.loop.settings (journal c.loop session) c.loop.before es c.loop.first) later
      (subst (λ (es : List Event). IsEraWithin c.loop.limits c.loop.settings es c.loop.before o.later c.loop.first) whole
      (subst (λ (s : Settings). IsEraWithin c.loop.limits s channel.journal c.loop.before o.later c.loop.first) (sym w.settings)
      (subst (λ (l : ℕ → ℕ). IsEraWithin l channel.settings channel.journal c.loop.before o.later c.loop.first) (sym free) o.era)))

  -- ---- the CLCWs, and what the sender learns from them

  reads : (m : ℕ) → m ≤ length c.turns → reported c.loop session (at m) ≡ read_at c m
  reads m most =
      let xs = take (at m) session in
      let small = vr-below c.loop.limits c.loop.settings (journal c.loop xs) allowed.first (lawful-at (at m)) in
      clcw-shows c.loop xs (c.loop.links (at m)) small ∙ sym (clcw-shows c.loop xs (c.loop.links m) small) ∙ ap (λ (n : ℕ). (fields_of n).vr) (sym (words m (c.loop.links m) most))

  in-course : (t : ℕ) (a : Action) → slice_get (map action_in w.blocks) t ≡ Some a → slice_get (actions_of c) t ≡ Some a
  in-course t a get = ap (λ (xs : List Action). slice_get xs t) (sym w.same) ∙ get

  in-blocks : (t : ℕ) (a : Action) → slice_get (actions_of c) t ≡ Some a → slice_get (map action_in w.blocks) t ≡ Some a
  in-blocks t a get = ap (λ (xs : List Action). slice_get xs t) w.same ∙ get

  read-in : (m : ℕ) → AreReadIn c session at (take m w.blocks)
  read-in m t i get =
      let here = get-take m (map action_in w.blocks) t (Hear i) (ap (λ (xs : List Action). slice_get xs t) (take-map action_in m w.blocks) ∙ get) in
      let there = in-course t (Hear i) here in
      reads i (omega (arith, k.links.hears t i there, slice_get_within (actions_of c) t (Hear i) there, turned, many))

  knows : (m : ℕ) → m ≤ length c.turns → known c.loop session (at m) ≡ learnt c m
  knows m most =
      ap (known_from c.loop session 0) (taken m (omega (arith, turned)))
      ∙ known-beside c.loop session 0 w.lead (woven at [] (take m w.blocks))
      ∙ known-woven c session at (take m w.blocks) 0 (read-in m)
      ∙ ap (learnt_from c 0) (sym (take-map action_in m w.blocks) ∙ ap (take m) w.same)

  -- ---- the actions of the session

  put-so : (t x : ℕ) (a : Action) → slice_get (actions_of c) t ≡ Some a → suc x ≡ at (suc t) → slice_get session x ≡ Some (moved at a)
  put-so t x a get when =
      let n = length w.lead in
      let here = in-blocks t a get in
      let more = moment-more n w.blocks t a here in
      let y = x - n in
      let is : x ≡ n + y = omega (arith, when, more) in
      ap (slice_get session) is ∙ put-beside w.lead (woven at w.tail w.blocks) y ∙ put n at w.tail w.blocks t y a here (omega (arith, when, more))

  found-so : (x : ℕ) (a : Action) → slice_get session x ≡ Some a
      → IsBeside a ⊎ ((t : ℕ) × (b : Action) × (slice_get (actions_of c) t ≡ Some b) × (suc x ≡ at (suc t)) × (a ≡ moved at b))
  found-so x a here = elim (get-beside w.lead (woven at w.tail w.blocks) x a w.lead_other here) [
    | inl aside ↦ inl aside
    | inr (y, is, there) ↦ elim (found (length w.lead) at w.tail w.blocks y a w.filled w.tail_other there) [
      | inl aside ↦ inl aside
      | inr (t, b, get, when, same) ↦ inr (t, b, in-course t b get, omega (arith, when, is), same)
    ]
  ]

  order : (m n : ℕ) → m < n → n ≤ length (actions_of c) → at m < at n
  order m n less most = moment-order (length w.lead) w.blocks m n less (omega (arith, many))

  weakly : (m n : ℕ) → m ≤ n → n ≤ length (actions_of c) → at m ≤ at n
  weakly m n less most = elim (cases_lt m n) [
    | inl strictly ↦ let more = order m n strictly most in omega arith
    | inr back ↦ let same : m ≡ n = omega arith in let is = ap at same in omega arith
  ]

  earlier : (x y t u : ℕ) (a b : Action) → x < y → slice_get (actions_of c) t ≡ Some a → suc x ≡ at (suc t) → suc y ≡ at (suc u) → t < u
  earlier x y t u a b less get one two = elim (cases_lt t u) [
    | inl so ↦ so
    | inr back ↦ absurd (
        let within = slice_get_within (actions_of c) t a get in
        let more = weakly (suc u) (suc t) (omega arith) (omega arith) in
        omega arith)
  ]

  -- a moment of the course comes before the action at a later moment
  behind : (x t s : ℕ) (a : Action) → s ≤ t → slice_get (actions_of c) t ≡ Some a → suc x ≡ at (suc t) → at s ≤ x
  behind x t s a less get when =
      let within = slice_get_within (actions_of c) t a get in
      let more = order s (suc t) (omega arith) (omega arith) in
      omega arith

  -- an action of the session that is no event of another thread
  in-turn : (x : ℕ) (a : Action) → slice_get session x ≡ Some a → ((e : Event) → a ≡ Other e → ⊥) → (t : ℕ) × (b : Action) × (slice_get (actions_of c) t ≡ Some b) × (suc x ≡ at (suc t)) × Was at a b
  in-turn x a here none = elim (found-so x a here) [
    | inl (e, is, other) ↦ absurd (none e is)
    | inr (t, b, get, when, same) ↦ (t, b, get, when, was-so at a b same)
  ]

  -- the frame that arrives is one that the thread brings
  brought : (x i r : ℕ) → slice_get session x ≡ Some (Arrive i r) → (t : ℕ) × (s : ℕ) × (slice_get (actions_of c) t ≡ Some (Arrive i s)) × (suc x ≡ at (suc t)) × (r ≡ at s)
  brought x i r here = let f = in-turn x (Arrive i r) here (λ e is. absurd cc) in (f.0, f.4.0, f.2 ∙ ap (λ (a : Action). Some a) f.4.1, f.3, f.4.2)

  hearing : (x r : ℕ) → slice_get session x ≡ Some (Hear r) → (t : ℕ) × (m : ℕ) × (slice_get (actions_of c) t ≡ Some (Hear m)) × (suc x ≡ at (suc t)) × (r ≡ at m)
  hearing x r here = let f = in-turn x (Hear r) here (λ e is. absurd cc) in (f.0, f.4.0, f.2 ∙ ap (λ (a : Action). Some a) f.4.1, f.3, f.4.2)

  -- no event of another thread comes between a moment of the course and the frame that is sent at this moment
  at-once : (t i : ℕ) → slice_get (actions_of c) t ≡ Some (Send i) → suc (at t) ≡ at (suc t)
  at-once t i get = sym (moment-calm (length w.lead) w.blocks t (Send i) w.calm (in-blocks t (Send i) get) tt)

  links : KeepOrder session
  links = record {
    arrives = λ x i r here.
        let b = brought x i r here in
        let was = k.links.arrives b.0 i b.1 b.2 in
        let within = slice_get_within (actions_of c) b.1 (Send i) was.1 in
        let less = order b.1 (suc b.1) (omega arith) (omega arith) in
        let more = behind x b.0 (suc b.1) (Arrive i b.1) (omega (arith, was.0)) b.2 b.3 in
        let is : r ≡ at b.1 = b.4 in
        (omega arith, ap (slice_get session) is ∙ put-so b.1 (at b.1) (Send i) was.1 (at-once b.1 i was.1));
    hears = λ x r here.
        let h = hearing x r here in
        let is : r ≡ at h.1 = h.4 in
        let more = behind x h.0 h.1 (Hear h.1) (k.links.hears h.0 h.1 h.2) h.2 h.3 in
        omega arith;
    frames_in_order = λ x y i j q r less here later.
        let a = brought x i q here in
        let b = brought y j r later in
        let was = k.links.arrives b.0 j b.1 b.2 in
        let within = slice_get_within (actions_of c) b.1 (Send j) was.1 in
        let so = k.links.frames_in_order a.0 b.0 i j a.1 b.1 (earlier x y a.0 b.0 (Arrive i a.1) (Arrive j b.1) less a.2 a.3 b.3) a.2 b.2 in
        let more = weakly a.1 b.1 so (omega arith) in
        let one : q ≡ at a.1 = a.4 in
        let two : r ≡ at b.1 = b.4 in
        omega arith;
    reports_in_order = λ x y q r less here later.
        let a = hearing x q here in
        let b = hearing y r later in
        let low = k.links.hears b.0 b.1 b.2 in
        let within = slice_get_within (actions_of c) b.0 (Hear b.1) b.2 in
        let so = k.links.reports_in_order a.0 b.0 a.1 b.1 (earlier x y a.0 b.0 (Hear a.1) (Hear b.1) less a.2 a.3 b.3) a.2 b.2 in
        let more = weakly a.1 b.1 so (omega arith) in
        let one : q ≡ at a.1 = a.4 in
        let two : r ≡ at b.1 = b.4 in
        omega arith;
  }

  sending : (x i : ℕ) → slice_get session x ≡ Some (Send i) → (t : ℕ) × (slice_get (actions_of c) t ≡ Some (Send i)) × (x ≡ at t)
  sending x i here =
      let f = in-turn x (Send i) here (λ e is. absurd cc) in
      let was = f.2 ∙ ap (λ (a : Action). Some a) f.4 in
      (f.0, was, omega (arith, f.3, at-once f.0 i was))

  sends : (x i : ℕ) → slice_get session x ≡ Some (Send i) → (known c.loop session x ≤ i) × (i < known c.loop session x + c.loop.window)
  sends x i here =
      let s = sending x i here in
      let within = slice_get_within (actions_of c) s.0 (Send i) s.1 in
      let is : known c.loop session x ≡ learnt c s.0 = ap (known c.loop session) s.2 ∙ knows s.0 (omega (arith, many, turned)) in
      let so = k.sends s.0 i s.1 in
      (omega (arith, so.0), omega (arith, so.1))

  others : (x : ℕ) (e : Event) → slice_get session x ≡ Some (Other e) → IsOther e
  others x e here = elim (found-so x (Other e) here) [
    | inl (f, is, other) ↦ let same : f ≡ e = cc in subst IsOther same other
    | inr (t, b, get, when, same) ↦ k.others t e (get ∙ ap (λ (a : Action). Some a) (was-so at (Other e) b same))
  ]

  pub loop-so : IsLoopAt c channel
  loop-so = record {
    session = session;
    at = at;
    filled = record { order = order; each = put-so; only = found-so };
    settings = sym w.settings;
    loop = record { window = k.window; numbered = k.numbered; allowed = allowed; lawful = lawful; era = era; possible = record { sends = sends; links = links; others = others } };
    whole = whole;
    words = words;
    knows = knows;
  }
