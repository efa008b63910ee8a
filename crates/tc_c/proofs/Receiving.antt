-- Lemmas about the step that a decoder takes for an octet, and about its steps for several octets. The decoder's octets
-- are in a buffer.
use Rattle.tc_c.proofs.Names.{◌≡◌, ℕ, ◌+◌, ◌<◌, ◌≤◌, Bool, true, false, if◌then◌else◌, List, ◌∷◌, [], ◌++◌, Option, Some, length, take, drop, set, refl, ap, sym, ◌∙◌, arith, ltb, length-drop, length-take-le, take-set-le, drop-set-add, take_more_set, take-append-drop, take-take, drop-take, decoded, Reception, Decoding, reception_step, after_block, fate_after, fate_of, rejections_of, overruns_of, state_after, frames_of, counted_in, state-append, frames-append, counted-append, reception_of}
use Rattle.std.proofs.Math.Seq.{take-append-add}
use Rattle.std.proofs.lemmas.Bool.{le-ltb, lt-ltb}
use Rattle.std.proofs.lemmas.List.{take-append-le}
use Rattle.tc_edges.specs.declared.cltu.block.Mode.{Mode}
use Rattle.tc_edges.specs.declared.cltu.block.Mode.TheVariants.{Detect}
use Rattle.tc_edges.specs.declared.cltu.block.Fate.{Fate}
use Rattle.tc_edges.specs.declared.cltu.block.Fate.TheVariants.{Right, Corrected, Overlong}
use Rattle.tc_edges.specs.Cltu.Reception.{fate_in, fate_behind, rejected_as}
use Rattle.std.specs.Prelude.{is_some}
use Rattle.tc_c.specs.declared.decoder.DecoderRecord.{DecoderRecord}

-- a new octet of a block stands behind the octets of the block that have come before it
block-more : (h c o : ℕ) (f : List ℕ) → h + c < length f → take (c + 1) (drop h (set f (h + c) o)) ≡ take c (drop h f) ++ o ∷ []
block-more h c o f room =
    let rest = length-drop h f in
    ap (take (c + 1)) (drop-set-add h f c o) ∙ take_more_set (drop h f) c o (omega arith)

-- when a new octet is stored, the octets that the code blocks carried stay the same
carried-stays : (h c o : ℕ) (f : List ℕ) → take h (set f (h + c) o) ≡ take h f
carried-stays h c o f = take-set-le h f (h + c) o (omega arith)

block-length : (h c : ℕ) (f : List ℕ) → h + c < length f → length (take c (drop h f)) ≡ c
block-length h c f room =
    let rest = length-drop h f in
    length-take-le c (drop h f) (omega arith)

pub more-state : (mode : Mode) (o : ℕ) (d n : DecoderRecord) (f g : List ℕ) → d.decoding ≡ 1 → d.count < 7 → d.carried + d.count < length f
    → g ≡ set f (d.carried + d.count) o → n ≡ record d { count = d.count + 1 } → reception_of n g ≡ (reception_step mode 1029 (reception_of d f) o).0
more-state mode o d n f g on less room made next =
    let long = block-length d.carried d.count f room in
    let short = lt-ltb (length (take d.count (drop d.carried f))) 7 (omega arith) in
    rw (next, made, on, short, carried-stays d.carried d.count o f, block-more d.carried d.count o f room)

-- if the buffer has room for a block at `h`, at least seven octets stand there
full : (h : ℕ) (f : List ℕ) → h + 7 < length f → ltb (length (take 7 (drop h f))) 7 ≡ false
full h f room =
    let long = block-length h 7 f room in
    le-ltb (length (take 7 (drop h f))) 7 (omega arith)

pub last-state : (mode : Mode) (o : ℕ) (d : DecoderRecord) (f g : List ℕ) → d.decoding ≡ 1 → d.count ≡ 7 → d.carried + 7 < length f
    → g ≡ set f (d.carried + d.count) o → reception_step mode 1029 (reception_of d f) o ≡ after_block 1029 (take d.carried g) (decoded mode (take 8 (drop d.carried g)))
last-state mode o d f g on last room made =
    rw (on, made, last, full d.carried f room, carried-stays d.carried 7 o f, block-more d.carried 7 o f room)

pub last-fate : (mode : Mode) (o : ℕ) (d : DecoderRecord) (f g : List ℕ) → d.decoding ≡ 1 → d.count ≡ 7 → d.carried + 7 < length f
    → g ≡ set f (d.carried + d.count) o → fate_of mode 1029 (reception_of d f) o ≡ Some (fate_after mode 1029 (take d.carried g) (take 8 (drop d.carried g)))
last-fate mode o d f g on last room made =
    rw (on, made, last, full d.carried f room, carried-stays d.carried 7 o f, block-more d.carried 7 o f room)

pub carried-behind : (h : ℕ) (f front block rest : List ℕ) → h ≤ length f → front ≡ take h f → 7 ≤ length block → take (h + 7) (front ++ (block ++ rest)) ≡ take h f ++ take 7 block
carried-behind h f front block rest within is long =
    let front_long : length front ≡ h = ap length is ∙ length-take-le h f within in
    ap (λ (n : ℕ). take (n + 7) (front ++ (block ++ rest))) (sym front_long) ∙ take-append-add front (block ++ rest) 7
    ∙ ap (λ (x : List ℕ). x ++ take 7 (block ++ rest)) is ∙ ap (λ (x : List ℕ). take h f ++ x) (take-append-le 7 block rest long)

-- the octets that an accepted block carries go behind those that were carried before
pub accepted : (carried : ℕ) (f x information : List ℕ) (o : Option (List ℕ)) → carried + 7 ≤ 1029 → carried ≤ length f → o ≡ Some information
    → take (carried + 7) x ≡ take carried f ++ information → after_block 1029 (take carried f) o ≡ (Decoding (take (carried + 7) x) [], [])
accepted carried f x information o fits room is whole =
    let front = length-take-le carried f room in
    let small = le-ltb 1029 (length (take carried f) + 7) (omega arith) in
    rw (is, small, whole) refl

-- if an accepted block keeps the carried octets within 1,029, its fate is the one that its own octets determine
pub accepted-fate : (mode : Mode) (frame block information : List ℕ) → length frame + 7 ≤ 1029 → decoded mode block ≡ Some information → fate_after mode 1029 frame block ≡ fate_in mode block
accepted-fate mode frame block information fits is =
    ap (λ (o : Option (List ℕ)). fate_behind 1029 frame o (fate_in mode block)) is
    ∙ ap (λ (t : Bool). if t then Overlong else fate_in mode block) (le-ltb 1029 (length frame + 7) fits)

right-or-corrected : (right : Bool) (fate : Fate) → fate ≡ Corrected → (rejections_of (Some (if right then Right else fate)) ≡ 0) × (overruns_of (Some (if right then Right else fate)) ≡ 0)
right-or-corrected true fate is = (refl, refl)
right-or-corrected false fate is = (ap (λ (x : Fate). rejections_of (Some x)) is, ap (λ (x : Fate). overruns_of (Some x)) is)

pub accepted-counts : (mode : Mode) (block information : List ℕ) → decoded mode block ≡ Some information
    → (rejections_of (Some (fate_in mode block)) ≡ 0) × (overruns_of (Some (fate_in mode block)) ≡ 0)
accepted-counts mode block information is =
    right-or-corrected (is_some (decoded Detect block)) (if is_some (decoded mode block) then Corrected else rejected_as block)
    (ap (λ (o : Option (List ℕ)). if is_some o then Corrected else rejected_as block) is)

-- ---- several octets
both : (i n : ℕ) (os : List ℕ) → take (i + n) os ≡ take i os ++ take n (drop i os)
both i n os = sym (take-append-drop i (take (i + n) os)) ∙ rw (take-take i (i + n) os (omega arith), drop-take i n os) refl

pub state-more : (mode : Mode) (room i n : ℕ) (os : List ℕ) (first state next : Reception) → state ≡ state_after mode room first (take i os)
    → next ≡ state_after mode room state (take n (drop i os)) → next ≡ state_after mode room first (take (i + n) os)
state-more mode room i n os first state next at is =
    is ∙ ap (λ (s : Reception). state_after mode room s (take n (drop i os))) at ∙ sym (state-append mode room (take i os) (take n (drop i os)) first)
    ∙ sym (ap (state_after mode room first) (both i n os))

pub frames-more : (mode : Mode) (room i n : ℕ) (os : List ℕ) (first state : Reception) (more : List (List ℕ)) → state ≡ state_after mode room first (take i os)
    → frames_of mode room first (take i os) ≡ [] → more ≡ frames_of mode room state (take n (drop i os)) → more ≡ frames_of mode room first (take (i + n) os)
frames-more mode room i n os first state more at none is =
    is ∙ ap (λ (s : Reception). frames_of mode room s (take n (drop i os))) at
    ∙ sym (ap (λ (x : List (List ℕ)). x ++ frames_of mode room (state_after mode room first (take i os)) (take n (drop i os))) none)
    ∙ sym (frames-append mode room (take i os) (take n (drop i os)) first) ∙ sym (ap (frames_of mode room first) (both i n os))

pub counted-more : (count : Option Fate → ℕ) (mode : Mode) (room i n k m : ℕ) (os : List ℕ) (first state : Reception) → state ≡ state_after mode room first (take i os)
    → k ≡ counted_in count mode room state (take n (drop i os)) → m ≡ counted_in count mode room first (take i os) → m + k ≡ counted_in count mode room first (take (i + n) os)
counted-more count mode room i n k m os first state at now h =
    let all = ap (counted_in count mode room first) (both i n os) ∙ counted-append count mode room (take i os) (take n (drop i os)) first in
    let more : k ≡ counted_in count mode room (state_after mode room first (take i os)) (take n (drop i os)) = now ∙ ap (λ (s : Reception). counted_in count mode room s (take n (drop i os))) at in
    omega (arith, all, more, h)

-- no candidate frame ends before the last octet of a code block
pub block-quiet : (mode : Mode) (room : ℕ) (frame os : List ℕ) → 8 ≤ length os → frames_of mode room (Decoding frame []) (take 7 os) ≡ []
block-quiet mode room frame (a ∷ b ∷ c ∷ d ∷ e ∷ f ∷ g ∷ h ∷ os) some = refl
block-quiet mode room frame _ some = absurd (omega arith)

pub begins : (d : DecoderRecord) (f : List ℕ) → d.decoding ≡ 1 → d.count ≡ 0 → reception_of d f ≡ Decoding (take d.carried f) []
begins d f on none = rw (on, none) refl
