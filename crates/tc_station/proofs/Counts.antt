-- The effect of one job on the count of a channel.
use Rattle.tc_station.proofs.Names.{◌≡◌, ℕ, zero, suc, ◌+◌, ◌<◌, ◌≤◌, List, ◌∷◌, length, take, get_or, set, min, cond, Bool, true, false, Option, Some, None, refl, sym, ap, ◌∙◌, subst, arith, ◌==◌, slice_index, Contains, get_or-take, get_or-set_same, get_or-set_other, length-set, length-take, Roster, raised, raised_at, is_frame_for, raised_by, max, ne_eqb, ◌&&◌, nat_lt, is_none, le-ltb, nat_tests, IsLocated, IsLocateFault}
use Rattle.std.proofs.Common.{eq-eqb}
use Rattle.tc_link.specs.declared.frame.FrameFault.{FrameFault}
use Rattle.tc_link.specs.Frame.{BeginsWith, header_of, fault_of, version_of, spare_of, named_length}
use Rattle.tc_link.specs.declared.location.LocateFault.{LocateFault}
use Rattle.tc_link.specs.declared.location.LocateFault.TheVariants.{Frame, OtherSpacecraft, UnknownChannel}

front : (octets frame : List ℕ) (k : ℕ) → frame ≡ take (length frame) octets → k < length frame → get_or octets k 0 ≡ get_or frame k 0
front octets frame k e lt = sym (ap (λ xs. get_or xs k 0) e ∙ get_or-take (length frame) octets k 0 lt)

-- octets that begin with a frame have the frame's header
pub same-header : (octets frame : List ℕ) → BeginsWith octets frame → header_of octets ≡ header_of frame
same-header octets frame b =
    let least = b.0.least in
    let e0 = front octets frame 0 b.1 (omega arith) in
    let e1 = front octets frame 1 b.1 (omega arith) in
    let e2 = front octets frame 2 b.1 (omega arith) in
    let e3 = front octets frame 3 b.1 (omega arith) in
    let e4 = front octets frame 4 b.1 (omega arith) in
    cc

skip : (a b : ℕ) (x y : Option FrameFault) → b ≤ a → cond (nat_lt a b) x y ≡ y
skip a b x y h = ap (λ t. cond t x y) (le-ltb a b h)

-- octets that begin with a frame have no fault
pub no-fault : (octets frame : List ℕ) → BeginsWith octets frame → fault_of octets ≡ None
no-fault octets frame b =
    let least = b.0.least in
    let e0 = front octets frame 0 b.1 (omega arith) in
    let e1 = front octets frame 1 b.1 (omega arith) in
    let e2 = front octets frame 2 b.1 (omega arith) in
    let e3 = front octets frame 3 b.1 (omega arith) in
    let long : length frame ≤ length octets = omega (arith, ap (length {A = ℕ}) b.1, length-take (length frame) octets) in
    let version : version_of octets ≡ 0 = let same : version_of octets ≡ version_of frame = cc in same ∙ b.0.version in
    let spare : spare_of octets ≡ 0 = let same : spare_of octets ≡ spare_of frame = cc in same ∙ b.0.spare in
    let named : named_length octets ≡ length frame = let same : named_length octets ≡ named_length frame = cc in same ∙ b.0.named in
    skip (length octets) 5 _ _ (omega arith)
    ∙ (skip 0 (version_of octets) _ _ (omega (arith, version))
    ∙ (skip 0 (spare_of octets) _ _ (omega (arith, spare))
    ∙ (skip (named_length octets) 6 _ _ (omega (arith, named))
    ∙ skip (length octets) (named_length octets) _ _ (omega (arith, named)))))

both : (x : Option FrameFault) (a s b u v : ℕ) → x ≡ None → a ≡ s → b ≡ u → (is_none x && (a == s && b == v)) ≡ (u == v)
both x a s b u v p q r = (λ i. is_none (p i) && ((q i == s) && (r i == v))) ∙ ap (λ t. t && (u == v)) (eq-eqb s s refl)

-- if octets are for the channel `u`, they are for the channel `v` if and only if both are the same channel
pub for-located : (station : Roster) (octets frame : List ℕ) (u v : ℕ) → IsLocated station octets u frame → is_frame_for station v octets ≡ (u == v)
for-located station octets frame u v l =
    let h = same-header octets frame l.0.0 in
    both (fault_of octets) (header_of octets).scid station.scid (header_of octets).vcid u v (no-fault octets frame l.0.0) (ap (λ x. x.scid) h ∙ l.0.1) (ap (λ x. x.vcid) h ∙ l.1)

and-false : (a b : Bool) → b ≡ false → (a && b) ≡ false
and-false true b e = e
and-false false b e = refl

pub for-nobody : (station : Roster) (octets : List ℕ) (f : LocateFault) (v : ℕ) → Contains station.vcids v → IsLocateFault station octets f → is_frame_for station v octets ≡ false
for-nobody station octets (Frame f) v there fault = ap (λ x. is_none x && ((header_of octets).scid == station.scid && (header_of octets).vcid == v)) fault
for-nobody station octets OtherSpacecraft v there fault =
    let h = same-header octets fault.0 fault.1 in
    let other : ((header_of octets).scid == station.scid) ≡ false = ne_eqb _ _ (λ e. fault.2 (ap (λ x. x.scid) (sym h) ∙ e)) in
    and-false (is_none (fault_of octets)) _ (ap (λ t. t && ((header_of octets).vcid == v)) other)
for-nobody station octets UnknownChannel v there fault =
    let h = same-header octets fault.0 fault.1.0 in
    let other : ((header_of octets).vcid == v) ≡ false = ne_eqb _ _ (λ e. fault.2 (subst (Contains station.vcids) (sym e ∙ ap (λ x. x.vcid) h) there)) in
    and-false (is_none (fault_of octets)) _ (and-false ((header_of octets).scid == station.scid) _ other)

pub raised-is : (c : ℕ) → raised c ≡ raised_by 1 c
raised-is c = grind (arith, nat_tests)

pub raised-length : (o : Option ℕ) (cs : List ℕ) → length (raised_at o cs) ≡ length cs
raised-length None cs = refl
raised-length (Some k) cs = length-set cs k (raised (slice_index cs k))

pub raised-here : (o : Option ℕ) (cs : List ℕ) (k : ℕ) → o ≡ Some k → k < length cs → get_or (raised_at o cs) k 0 ≡ raised (get_or cs k 0)
raised-here o cs k e lt = ap (λ x. get_or (raised_at x cs) k 0) e ∙ get_or-set_same cs k (raised (get_or cs k 0)) 0 lt

pub raised-else : (o : Option ℕ) (cs : List ℕ) (k : ℕ) → (o ≡ Some k → ⊥) → get_or (raised_at o cs) k 0 ≡ get_or cs k 0
raised-else None cs k other = refl
raised-else (Some j) cs k other = get_or-set_other cs j k (raised (get_or cs j 0)) 0 (λ e. other (ap Some (sym e)))

set-rises : (cs : List ℕ) (k x : ℕ) → get_or cs k 0 ≤ x → (place : ℕ) → get_or cs place 0 ≤ get_or (set cs k x) place 0
set-rises (c ∷ cs) zero x up zero = up
set-rises (c ∷ cs) (suc k) x up (suc place) = set-rises cs k x up place
set-rises _ _ x up _ = omega arith

raised-up : (c : ℕ) → c ≤ raised c
raised-up c = omega (arith, raised-is c)

pub rises : (o : Option ℕ) (cs : List ℕ) (place : ℕ) → get_or cs place 0 ≤ get_or (raised_at o cs) place 0
rises None cs place = omega arith
rises (Some k) cs place = set-rises cs k (raised (get_or cs k 0)) (raised-up (get_or cs k 0)) place

-- A count rose by at least `least`, and by at most `least + others`. If it would rise beyond 2^64 - 1, it stays at this
-- number.
pub record Between (least others before after : ℕ) : Type 0 where
  pub low : raised_by least before ≤ after
  pub high : after ≤ raised_by (least + others) before

between-low : (most c d e a b : ℕ) → max c (min (c + a) most) ≤ d → max d (min (d + b) most) ≤ e → max c (min (c + (a + b)) most) ≤ e
between-low most c d e a b h k = omega arith

between-high : (most c d e a b x y : ℕ) → d ≤ max c (min (c + (a + x)) most) → e ≤ max d (min (d + (b + y)) most) → e ≤ max c (min (c + ((a + b) + (x + y))) most)
between-high most c d e a b x y h k = omega arith

pub between-both : (a b x y c d e : ℕ) → Between a x c d → Between b y d e → Between (a + b) (x + y) c e
between-both a b x y c d e p q = record { low = between-low _ c d e a b p.low q.low; high = between-high _ c d e a b x y p.high q.high }

pub between-none : (x c : ℕ) → Between 0 x c c
between-none x c = record { low = omega arith; high = omega arith }

pub between-one : (c : ℕ) → Between 1 0 c (raised c)
between-one c = record { low = omega (arith, raised-is c); high = omega (arith, raised-is c) }

pub between-other : (c : ℕ) → Between 0 1 c (raised c)
between-other c = record { low = omega (arith, raised-is c); high = omega (arith, raised-is c) }
