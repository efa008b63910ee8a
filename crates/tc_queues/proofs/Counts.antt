-- The number of steps that are taken.
use Rattle.tc_queues.proofs.Names.{◌≡◌, ℕ, suc, ◌+◌, ◌*◌, ◌<◌, ◌≤◌, List, [], ◌∷◌, ◌++◌, length, Some, Bool, true, false, cond, refl, sym, ap, ◌∙◌, arith, nat_lt, nat_tests, AllByRecursion, length-append, joined, packets_of, rest_of, keys_of, Keyed, rings_in, looks, pass_steps}
use Rattle.std.proofs.Math.Nat.{suc-mul, mul-le-mul_left, mul-le-mul_right}
use Rattle.tc_packet.specs.SpacePacket.{IsPacket}
use Rattle.tc_queues.specs.Places.{IsTabled}
use Rattle.tc_packet.proofs.Cuts.{is-cut}
use Rattle.tc_queues.specs.Steps.{most_looks, looks_for, delivery_steps, packet_steps, unit_steps, take_steps}
use Rattle.tc_queues.proofs.Tables.{keys-length}

-- equally many queues are looked at in two lists of equal length
pub looks-same : (a b : List Keyed) (table : List ℕ) → length a ≡ length b → looks a table ≡ looks b table
looks-same a b [] same = same
looks-same a b (t ∷ table) same = refl

pub same-count : (a b : List Keyed) → keys_of (rings_in a) ≡ keys_of (rings_in b) → length a ≡ length b
same-count a b same = sym (keys-length a) ∙ ap length same ∙ keys-length b

pub pass-step : (n k : ℕ) → pass_steps (suc n) k ≡ pass_steps n k + (k + 1)
pass-step n k = suc-mul n (k + 1)

pub cut-one : (before total s rest more one tick here after : ℕ) → rest ≡ more + (one + 1) → s + rest ≤ before + total → tick ≤ s + 1 → after ≤ tick + here → here ≡ one → after + more ≤ before + total
cut-one before total s rest more one tick here after rest_is so_far tick_is cost same = omega arith

pub cut-last : (before total s rest more one tick here after : ℕ) → rest ≡ more + (one + 1) → s + rest ≤ before + total → tick ≤ s + 1 → after ≤ tick + here → here ≡ one → after ≤ before + total
cut-last before total s rest more one tick here after rest_is so_far tick_is cost same = omega arith

pass-more : (n a b : ℕ) → a ≤ b → pass_steps n a ≤ pass_steps n b
pass-more n a b le = let more : a + 1 ≤ b + 1 = omega arith in mul-le-mul_left n more

pub unit-more : (n a b m o : ℕ) → a ≤ b → m ≤ o → unit_steps n a m ≤ unit_steps n b o
unit-more n a b m o le le' = sum-more (pass_steps n a) (pass_steps n b) a b m o (pass-more n a b le) le le' where
  sum-more : (x y a b m o : ℕ) → x ≤ y → a ≤ b → m ≤ o → m + (x + (x + a)) ≤ o + (y + (y + b))
  sum-more x y a b m o h i j = omega arith

-- no more queues are looked at than `most_looks` allows, if the table is as `IsTabled` states
pub looks-most : (qs : List Keyed) (table : List ℕ) → IsTabled (keys_of (rings_in qs)) table → looks qs table ≤ most_looks (length qs)
looks-most qs [] k = by (nat_lt (length qs) 8) (nat_lt 65535 (length qs)) refl refl where
  by : (s t : Bool) → nat_lt (length qs) 8 ≡ s → nat_lt 65535 (length qs) ≡ t → length qs ≤ cond s (length qs) (cond t (length qs) 1)
  by true t e f = omega arith
  by false true e f = omega arith
  by false false e f =
      let count = keys-length qs in
      let least : 8 ≤ length qs = grind (arith, nat_tests) in
      let most : length qs ≤ 65535 = grind (arith, nat_tests) in
      absurd (k.many (omega arith) (omega arith) refl)
looks-most qs (t ∷ table) k =
    let count = keys-length qs in
    let least = k.few (λ e. absurd (omega arith)) in
    by (nat_lt (length qs) 8) (nat_lt 65535 (length qs)) (omega arith)
  where
    by : (s t : Bool) → 8 ≤ length qs → 1 ≤ cond s (length qs) (cond t (length qs) 1)
    by true t le = omega arith
    by false true le = omega arith
    by false false le = omega arith

pub cost-more : (before after a b : ℕ) → a ≤ b → after ≤ before + a → after ≤ before + b
cost-more before after a b le cost = omega arith

pub cost-more-err : (before after a b n : ℕ) → a ≤ b → after ≤ before + (a + n) → after ≤ before + (b + n)
cost-more-err before after a b n le cost = omega arith

-- joined packets have at least seven octets each
few-joined : (ps : List (List ℕ)) → AllByRecursion IsPacket ps → length ps * 7 ≤ length (joined ps)
few-joined [] all = omega arith
few-joined (p ∷ ps) all =
    let least = all.0.least in
    let rest = few-joined ps all.1 in
    let more = suc-mul (length ps) 7 in
    omega (arith, length-append p (joined ps))

-- a unit has at most one packet for each seven octets
pub few-packets : (unit : List ℕ) → 7 * length (packets_of unit) ≤ length unit
few-packets unit =
    let cut = is-cut (length unit) unit (omega arith) in
    let few = few-joined (packets_of unit) cut.each in
    let long : length unit ≡ length (joined (packets_of unit) ++ rest_of unit) = ap length cut.parts in
    omega (arith, length-append (joined (packets_of unit)) (rest_of unit))

packets-more : (n m k : ℕ) → n ≤ m → pass_steps n k ≤ pass_steps m k
packets-more n m k le = mul-le-mul_right (k + 1) le

more-steps : (n m q u : ℕ) → n ≤ m → unit_steps n q u ≤ unit_steps m q u
more-steps n m q u le = sum (pass_steps n q) (pass_steps m q) (packets-more n m q le) where
  sum : (x y : ℕ) → x ≤ y → u + (x + (x + q)) ≤ u + (y + (y + q))
  sum x y h = omega arith

pub steps-by-octets : (unit : List ℕ) (n queues units : ℕ) → length unit < 7 * (n + 1) → delivery_steps (Some unit) queues units ≤ packet_steps n queues units
steps-by-octets unit n queues units within = let few = few-packets unit in more-steps (length (packets_of unit)) n (most_looks queues) (most_looks units) (omega arith)

pub steps-of-largest : (unit : List ℕ) (queues units : ℕ) → length unit ≤ 65542 → delivery_steps (Some unit) queues units ≤ packet_steps 9363 queues units
steps-of-largest unit queues units within = steps-by-octets unit 9363 queues units (omega arith)

-- The steps of a take are within their bound if its queue is looked for once (`found-once`) or twice (`found-twice`).
pub found-once : (key parts count before after : ℕ) → parts ≡ count → after ≤ before + looks_for key parts → after ≤ before + take_steps key count
found-once key parts count before after same cost = let x : after ≤ before + looks_for key count = rw same at cost in sum (looks_for key count) x where
  sum : (x : ℕ) → after ≤ before + x → after ≤ before + 2 * x
  sum x h = omega arith

pub found-twice : (key parts count before mid after : ℕ) → parts ≡ count → mid ≤ before + looks_for key parts → after ≤ mid + looks_for key parts → after ≤ before + take_steps key count
found-twice key parts count before mid after same first second = sum (looks_for key count) (rw same at first) (rw same at second) where
  sum : (x : ℕ) → mid ≤ before + x → after ≤ mid + x → after ≤ before + 2 * x
  sum x h i = omega arith
