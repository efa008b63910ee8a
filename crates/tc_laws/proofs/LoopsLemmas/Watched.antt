-- The two parts of a window of 2 K track a sender with a window of K frames.
use Rattle.tc_laws.proofs.LoopsLemmas.Names.{Ahead, Behind, Bool, Expected, IsTrue, Outside, above, ahead, ap, arith, behind, cond, eq-eqb, event_at, false, heard, inl, inr, is_here_or_ahead, is_here_or_behind, nat_tests, outside, place_of, refl, row_at, true, ℕ, ◌%◌, ◌*◌, ◌+◌, ◌-◌, ◌<◌, ◌↔◌, ◌≡◌, ◌≤◌, cases_lt, zero, suc}

-- a frame that is expected passes both tests
here-ahead : (room : Bool) → is_here_or_ahead (row_at Expected room) ≡ true
here-ahead true = refl
here-ahead false = refl

here-behind : (room : Bool) → is_here_or_behind (row_at Expected room) ≡ true
here-behind true = refl
here-behind false = refl

-- the place in a window of 2 K, by the distance d of a number above V(R)
data Found (window vr ns d : ℕ) : Type 0 where
  at : d ≡ 0 → place_of (2 * window) vr ns ≡ Expected → Found window vr ns d
  over : 0 < d → d < window → place_of (2 * window) vr ns ≡ Ahead → Found window vr ns d
  under : window ≤ d → 256 ≤ d + window → place_of (2 * window) vr ns ≡ Behind → Found window vr ns d
  off : window ≤ d → d + window < 256 → place_of (2 * window) vr ns ≡ Outside → Found window vr ns d

find : (window vr ns d : ℕ) → 1 ≤ window → window ≤ 127 → vr < 256 → d < 256 → (vr + d) % 256 ≡ ns → Found window vr ns d
find window vr ns zero least most vr_fits d_fits is = at refl (rw (eq-eqb ns vr (omega arith)) refl)
find window vr ns (suc d) least most vr_fits d_fits is = elim (cases_lt (suc d) window) [
  | inl high ↦ over (omega arith) high (ahead (2 * window) vr ns (suc d) vr_fits d_fits is (omega arith) (omega arith))
  | inr low ↦ elim (cases_lt (suc d + window) 256) [
    | inl far ↦ off low far (outside (2 * window) vr ns (suc d) vr_fits d_fits is (omega arith) (omega arith) (omega arith))
    | inr near ↦ under low near (behind (2 * window) vr ns (suc d) vr_fits d_fits is (omega arith) (omega arith) (omega arith))
  ]
]

pub sends-so : (window first known index : ℕ) (room : Bool) → 1 ≤ window → window ≤ 127 → known ≤ index → index < known + 256
    → IsTrue (is_here_or_ahead (event_at window ((first + known) % 256) ((first + index) % 256) room)) ↔ (index < known + window)
sends-so window first known index room least most low high =
    by (find window ((first + known) % 256) ((first + index) % 256) (index - known) least most (omega arith) (omega arith) (omega arith)) where
      by : Found window ((first + known) % 256) ((first + index) % 256) (index - known)
          → IsTrue (is_here_or_ahead (event_at window ((first + known) % 256) ((first + index) % 256) room)) ↔ (index < known + window)
      by (at none is) = rw is (λ yes. omega arith, λ within. here-ahead room)
      by (over from to is) = rw is (λ yes. omega arith, λ within. refl)
      by (under from to is) = rw is (λ yes. absurd cc, λ within. absurd (omega arith))
      by (off from to is) = rw is (λ yes. absurd cc, λ within. absurd (omega arith))

pub hears-so : (window first known report : ℕ) (room : Bool) → 1 ≤ window → window ≤ 127 → report < 256
    → IsTrue (is_here_or_behind (event_at window report ((first + known) % 256) room)) ↔ (above first known report ≤ window)
hears-so window first known report room least most fits =
    by (find window report ((first + known) % 256) (((first + known) % 256 + 256 - report) % 256) least most fits (omega arith) (omega arith)) where
      by : Found window report ((first + known) % 256) (((first + known) % 256 + 256 - report) % 256)
          → IsTrue (is_here_or_behind (event_at window report ((first + known) % 256) room)) ↔ (above first known report ≤ window)
      by (at none is) = rw is (λ yes. omega arith, λ within. here-behind room)
      by (over from to is) = rw is (λ yes. absurd cc, λ within. absurd (omega arith))
      by (under from to is) = rw is (λ yes. omega arith, λ within. refl)
      by (off from to is) = rw is (λ yes. absurd cc, λ within. absurd (omega arith))

-- if N(R) is within the window, the sender learns that the frames before N(R) are accepted, and otherwise it learns
-- nothing
heard-learnt : (window first known report : ℕ) → report < 256 → above first known report ≤ window → (first + heard first window known report) % 256 ≡ report
heard-learnt window first known report fits within = grind (arith, nat_tests)

heard-untold : (window first known report : ℕ) → window < above first known report → heard first window known report ≡ known
heard-untold window first known report beyond = grind (arith, nat_tests)

pub knows-so : (window first known report : ℕ) (room : Bool) → 1 ≤ window → window ≤ 127 → report < 256
    → (first + heard first window known report) % 256 ≡ cond (is_here_or_behind (event_at window report ((first + known) % 256) room)) report ((first + known) % 256)
knows-so window first known report room least most fits = by (is_here_or_behind (event_at window report ((first + known) % 256) room)) refl where
  heard-so : IsTrue (is_here_or_behind (event_at window report ((first + known) % 256) room)) ↔ (above first known report ≤ window)
  heard-so = hears-so window first known report room least most fits

  by : (test : Bool) → is_here_or_behind (event_at window report ((first + known) % 256) room) ≡ test → (first + heard first window known report) % 256 ≡ cond test report ((first + known) % 256)
  by true e = heard-learnt window first known report fits (heard-so.0 e)
  by false e = ap (λ n. (first + n) % 256) (heard-untold window first known report (elim (cases_lt window (above first known report)) [ inl far ↦ far | inr within ↦ absurd (let yes = heard-so.1 within in cc) ]))
