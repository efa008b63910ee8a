-- The position of a frame's number in the window, relative to V(R) (CCSDS 232.1-B, 6.1, FARM sliding window).
use Rattle.std.specs.Prelude.{◌≡◌, ℕ, zero, suc, ◌+◌, ◌-◌, ◌/◌, ◌%◌, ◌≤◌, Bool, false, ◌==◌, ◌||◌, if◌then◌else◌}
use Rattle.tc_link.specs.declared.window.Place.{Place}
use Rattle.tc_link.specs.declared.window.Place.TheVariants.{Expected, Ahead, Behind, Outside}

pub record IsWidth (width : ℕ) : Type 0 where
  pub least : 2 ≤ width
  pub most : width ≤ 254
  pub even : width % 2 ≡ 0

-- whether `passes` is true of some number from 1 to `n`
unfoldable pub some_of_first : ℕ → (ℕ → Bool) → Bool
some_of_first zero passes = false
some_of_first (suc n) passes = passes (n + 1) || some_of_first n passes

abbrev pub is_ahead : ℕ → ℕ → ℕ → Bool
is_ahead width vr ns = some_of_first (width / 2 - 1) (λ k. ns == (vr + k) % 256)

abbrev pub is_behind : ℕ → ℕ → ℕ → Bool
is_behind width vr ns = some_of_first (width / 2) (λ k. (ns + k) % 256 == vr)

abbrev pub place_of : ℕ → ℕ → ℕ → Place
place_of width vr ns =
    if ns == vr then Expected else if is_ahead width vr ns then Ahead else if is_behind width vr ns then Behind else Outside
