-- Lemmas about octets that fit rooms.
use Rattle.tc_channel.proofs.Names.{◌≡◌, ℕ, zero, suc, ◌≤◌, ◌<◌, Bool, true, false, Option, Some, None, List, length, replicate, refl, sym, subst, arith, AllByRecursion, Service, Bd, stream_place, IsAtMost, Store, limit_at, Ad}
use Rattle.tc_queues.specs.Memory.{largest_item}
use Rattle.std.specs.Prelude.{min}
use Rattle.tc_queues.specs.Keyed.{FitsIn}
use Rattle.tc_channel.specs.ChannelCore.{AreEnough, AreSmall}
use Rattle.tc_queues.proofs.InRooms.{fit-enough}

all-least : (least size count : ℕ) → least ≤ size → AllByRecursion (λ (n : ℕ). least ≤ n) (replicate count size)
all-least least size zero le = tt
all-least least size (suc count) le = (le, all-least least size count le)

pub place-below : (service : Service) (field : List ℕ) → stream_place service field < 128
place-below Ad field = omega arith
place-below Bd field = omega arith

-- A unit within the limit of its stream fits rooms that are large enough. On a plain channel it must also be no longer
-- than its field, which has at most 1,019 octets.
pub fits-unit : (store : Store) (place : ℕ) (field : List ℕ) (o : Option (List ℕ)) (sizes : List ℕ) → place < 128 → AreSmall store → AreEnough store sizes → length field ≤ 1019
    → IsAtMost (limit_at store place) o → (store.segmented ≡ false → IsAtMost (length field) o) → FitsIn sizes o
fits-unit store place field None sizes inside small enough short within shorter = tt
fits-unit store place field (Some octets) sizes inside small enough short within shorter =
    fit-enough octets (min (limit_at store place) (largest_item store.segmented)) sizes (enough place inside) (let i = item store.segmented refl in omega arith)
  where
    item : (segmented : Bool) → store.segmented ≡ segmented → length octets ≤ largest_item store.segmented
    item true on = rw on (let s = small place inside in omega (arith, within))
    item false off = rw off (let s = shorter off in omega (arith, short))

pub within-all : (store : Store) (place : ℕ) (o : Option (List ℕ)) → place < 128 → AreSmall store → IsAtMost (limit_at store place) o → IsAtMost 65542 o
within-all store place None inside small within = tt
within-all store place (Some octets) inside small within = let s = small place inside in omega (arith, within)

-- rooms of one size are large enough if no stream can have a unit larger than this size
pub enough-at-start : (store : Store) (size count : ℕ) (sizes : List ℕ) → sizes ≡ replicate count size → ((place : ℕ) → place < 128 → min (limit_at store place) (largest_item store.segmented) ≤ size) → AreEnough store sizes
enough-at-start store size count sizes are fits = λ place inside. subst (λ (x : List ℕ). AllByRecursion (λ (n : ℕ). min (limit_at store place) (largest_item store.segmented) ≤ n) x) (sym are) (all-least (min (limit_at store place) (largest_item store.segmented)) size count (fits place inside))
