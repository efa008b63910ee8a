-- A list of rooms. The first rooms hold items that wait, and the next rooms hold items that are staged.
use Rattle.std.proofs.Common.{◌≡◌, ℕ, zero, suc, ◌+◌, ◌-◌, ◌<◌, true, get_or, List, [], ◌∷◌, ◌++◌, length, map, take, drop, Some, None, refl, sym, ap, ◌∙◌, arith}
use Rattle.std.specs.Prelude.{set, slice_get}
use Rattle.std.proofs.lemmas.List.{length-append, length-map, length-set, length-take-le, length-drop, map-append, take-set-le, take_more_set, take-take, take-append-drop, take-append-le, drop-take, drop-set-add, drop-append-le}
use Rattle.std.proofs.lemmas.Option.{get_or_from_slice_get, slice_get_within}
use Rattle.tc_packet.specs.Room.{Contents, contents_of}
use Rattle.tc_queues.specs.Rooms.{octets_of, HaveSize, AreSlots, Slotted, slotted, seen, IsStagedBehind, IsPut}

-- sizes of rooms

pub size-at : {A : Type 0} (f : A → Contents) (n : ℕ) (xs : List A) (i : ℕ) (x : A) → HaveSize n (map f xs) → i < length xs → x ≡ get_or xs i x → (f x).size ≡ n
size-at f n [] i x all inside is = absurd (omega arith)
size-at f n (y ∷ xs) zero x all inside is = ap (λ z. (f z).size) is ∙ all.0
size-at f n (y ∷ xs) (suc i) x all inside is = size-at f n xs i x all.1 (omega arith) is

pub size-set : (n i : ℕ) (rooms : List Contents) (x : Contents) → HaveSize n rooms → x.size ≡ n → HaveSize n (set rooms i x)
size-set n i [] x all one = tt
size-set n zero (r ∷ rooms) x all one = (one, all.1)
size-set n (suc i) (r ∷ rooms) x all one = (all.0, size-set n i rooms x all.1 one)

pub size-behind : (n : ℕ) (rooms : List Contents) (x : Contents) → HaveSize n rooms → x.size ≡ n → HaveSize n (rooms ++ x ∷ [])
size-behind n [] x all one = (one, tt)
size-behind n (r ∷ rooms) x all one = (all.0, size-behind n rooms x all.1 one)

-- the items that wait, and the items that are staged
module _ (places waiting count size : ℕ) (rooms : List Contents) (k : AreSlots places waiting count size rooms) where
  pub length-waiting : length (map octets_of (take waiting rooms)) ≡ waiting
  length-waiting = let full = k.full in let within = k.within in length-map (take waiting rooms) octets_of ∙ length-take-le waiting rooms (omega arith)

  pub length-staged : length (map octets_of (take count (drop waiting rooms))) ≡ count
  length-staged =
      let full = k.full in
      let within = k.within in
      let d = length-drop waiting rooms in
      length-map (take count (drop waiting rooms)) octets_of ∙ length-take-le count (drop waiting rooms) (omega arith)

  -- if the room behind the taken ones is filled, its item is staged behind the others
  staged-seen : (octets : List ℕ) → waiting + count < places
      → seen places waiting (count + 1) size (set rooms (waiting + count) (contents_of octets size)) ≡ slotted (map octets_of (take waiting rooms)) places (map octets_of (take count (drop waiting rooms)) ++ octets ∷ []) size
  staged-seen octets lt =
      let full = k.full in
      let x = contents_of octets size in
      let d = length-drop waiting rooms in
      rw (take-set-le waiting rooms (waiting + count) x (omega arith), drop-set-add waiting rooms count x, take_more_set (drop waiting rooms) count x (omega arith), map-append octets_of (take count (drop waiting rooms)) (x ∷ [])) refl

  -- if an item is staged, the items that wait stay the same
  pub staged-ring : (later : List Contents) (octets : List ℕ) (old : Slotted) → waiting + count < places → later ≡ set rooms (waiting + count) (contents_of octets size) → seen places waiting count size rooms ≡ old
      → (seen places waiting (count + 1) size later).ring ≡ old.ring
  staged-ring later octets old lt later_is view = rw (← view, later_is) (ap (λ (s : Slotted). s.ring) (staged-seen octets lt))

  pub staged-behind : (later : List Contents) (octets : List ℕ) (old : Slotted) → waiting + count < places → later ≡ set rooms (waiting + count) (contents_of octets size) → seen places waiting count size rooms ≡ old
      → IsStagedBehind octets old (seen places waiting (count + 1) size later) true
  staged-behind later octets old lt later_is view =
      let w = length-waiting in
      let l = length-staged in
      rw (← view, later_is) (record { done = λ yes. (staged-seen octets lt, omega arith); full = λ e. absurd cc })

  pub none-staged : (old : Slotted) → seen places waiting count size rooms ≡ old → old.staged ≡ [] → count ≡ 0
  none-staged old view none = sym length-staged ∙ ap length (ap (λ (s : Slotted). s.staged) view ∙ none)

-- if the room behind those of the waiting items is filled, its item waits behind the others
put-seen : (places waiting size : ℕ) (rooms : List Contents) (octets : List ℕ) → length rooms ≡ places → waiting < places
    → seen places (waiting + 1) 0 size (set rooms waiting (contents_of octets size)) ≡ slotted (map octets_of (take waiting rooms) ++ octets ∷ []) places [] size
put-seen places waiting size rooms octets full lt =
    let x = contents_of octets size in
    rw (take_more_set rooms waiting x (omega arith), map-append octets_of (take waiting rooms) (x ∷ [])) refl

pub put-behind : (places waiting count size : ℕ) (rooms later : List Contents) (octets : List ℕ) (old : Slotted) → AreSlots places waiting count size rooms → waiting < places
    → later ≡ set rooms waiting (contents_of octets size) → seen places waiting count size rooms ≡ old → old.staged ≡ []
    → IsPut octets old (seen places (waiting + 1) count size later) true
put-behind places waiting count size rooms later octets old k lt later_is view none =
    let w = length-waiting places waiting count size rooms k in
    let free = none-staged places waiting count size rooms k old view none in
    rw (← view, later_is, free) (record { done = λ yes. (put-seen places waiting size rooms octets k.full lt, omega arith); full = λ e. absurd cc })

-- the rooms in use are those of the waiting items, followed by those of the staged items
take-both : (waiting count : ℕ) (t : List Contents) → take (waiting + count) t ≡ take waiting t ++ take count (drop waiting t)
take-both waiting count t =
    sym (take-append-drop waiting (take (waiting + count) t)) ∙ rw (take-take waiting (waiting + count) t (omega arith), drop-take waiting count t) refl

pub committed-seen : (places waiting count size : ℕ) (rooms : List Contents)
    → seen places (waiting + count) 0 size rooms ≡ slotted (map octets_of (take waiting rooms) ++ map octets_of (take count (drop waiting rooms))) places [] size
committed-seen places waiting count size rooms = rw (take-both waiting count rooms, map-append octets_of (take waiting rooms) (take count (drop waiting rooms))) refl

pub is-there : {A : Type 0} (xs : List A) (i : ℕ) → i < length xs → None ≡ slice_get xs i → ⊥
is-there [] i inside none = absurd (omega arith)
is-there (x ∷ xs) zero inside none = absurd cc
is-there (x ∷ xs) (suc i) inside none = is-there xs i (omega arith) none

pub got : {A : Type 0} (xs : List A) (i : ℕ) (x : A) → Some x ≡ slice_get xs i → x ≡ get_or xs i x
got xs i x is = sym (get_or_from_slice_get xs i x x (sym is))

-- if the first room moves to the back, the oldest item no longer waits
pub popped-seen : (places waiting count size : ℕ) (first x : Contents) (rest : List Contents) → AreSlots places waiting count size (first ∷ rest) → 0 < waiting
    → seen places (waiting - 1) count size (rest ++ x ∷ []) ≡ slotted (drop 1 (map octets_of (take waiting (first ∷ rest)))) places (map octets_of (take count (drop waiting (first ∷ rest)))) size
popped-seen places zero count size first x rest k some = absurd (omega arith)
popped-seen places (suc waiting) count size first x rest k some =
    let e : suc waiting - 1 ≡ waiting = omega arith in
    let full = k.full in
    let within = k.within in
    let d = length-drop waiting rest in
    rw (
      e,
      take-append-le waiting rest (x ∷ []) (omega arith),
      drop-append-le waiting rest (x ∷ []) (omega arith),
      take-append-le count (drop waiting rest) (x ∷ []) (omega arith),
    ) refl

-- if the room of the newest staged item is cleared, one item fewer is staged
pub cleared-slots : (places waiting count size : ℕ) (rooms later : List Contents) → AreSlots places waiting count size rooms → 0 < count
    → later ≡ set rooms (waiting + (count - 1)) (contents_of [] size)
    → AreSlots places waiting (count - 1) size later × (take waiting later ≡ take waiting rooms)
cleared-slots places waiting count size rooms later k some later_is =
    let within = k.within in
    rw later_is (
      record { full = length-set rooms (waiting + (count - 1)) (contents_of [] size) ∙ k.full; small = k.small; within = omega arith; sizes = size-set size (waiting + (count - 1)) rooms (contents_of [] size) k.sizes refl },
      take-set-le waiting rooms (waiting + (count - 1)) (contents_of [] size) (omega arith),
    )

pub size-got : {A : Type 0} (f : A → Contents) (n : ℕ) (xs : List A) (i : ℕ) (x : A) → HaveSize n (map f xs) → Some x ≡ slice_get xs i → (f x).size ≡ n
size-got f n xs i x all is = size-at f n xs i x all (slice_get_within xs i x (sym is)) (got xs i x is)

-- if the first room is cleared and moves to the back, the oldest item no longer waits
pub turned-seen : (waiting count size : ℕ) (rooms later : List Contents) (old : Slotted) → AreSlots (length rooms) waiting count size rooms → 0 < waiting
    → later ≡ drop 1 rooms ++ contents_of [] size ∷ [] → seen (length rooms) waiting count size rooms ≡ old
    → seen (length later) (waiting - 1) count size later ≡ slotted (drop 1 old.ring.items) old.ring.capacity old.staged old.size
turned-seen waiting count size [] later old k some later_is view = let within = k.within in absurd (omega arith)
turned-seen waiting count size (first ∷ rest) later old k some later_is view =
    let same : length (rest ++ contents_of [] size ∷ []) ≡ length (first ∷ rest) = omega (arith, length-append rest (contents_of [] size ∷ [])) in
    rw (← view, later_is, same) (popped-seen (length (first ∷ rest)) waiting count size first (contents_of [] size) rest k some)
