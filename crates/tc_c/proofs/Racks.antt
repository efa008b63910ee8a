-- Lemmas about the channels in an array of seats, and about the first channel with a virtual channel id.
use Rattle.tc_c.proofs.Names.{◌≡◌, ◌≢◌, ◌≤◌, ◌<◌, ◌+◌, ◌∙◌, ℕ, List, length, get_or, set, sym, ap, refl, Option, Some, None, false, arith, eqb, map-set_same, map-set, get_or-map, length-map, option_map, slice_get, LimitedHistory, channels_in, IsHeldAt, IsFirstWithVcid, IsHeld}
use Rattle.std.specs.Option.{option_eq}
use Rattle.std.proofs.lemmas.Bool.Decides.{nat_tests}
use Rattle.std.proofs.lemmas.Option.{slice_get_within, slice_get-get_or}
use Rattle.tc_c.specs.declared.seat.Seat.{Seat}

abbrev channel_of : Seat → Option LimitedHistory
channel_of seat = seat.place.channel

abbrev vcid_of : LimitedHistory → ℕ
vcid_of h = h.settings.vcid

-- if a seat is replaced by one with the same channel, the channels stay the same
pub still : (seats : List Seat) (i : ℕ) (new d : Seat) → new.place.channel ≡ (get_or seats i d).place.channel → channels_in (set seats i new) ≡ channels_in seats
still seats i new d same = map-set_same channel_of seats i new d same

-- the list of channels has, at the place of a seat, the channel in the seat, or none if the seat is empty
pub there : (seats : List Seat) (i : ℕ) (d : Seat) → i < length seats → slice_get (channels_in seats) i ≡ Some (get_or seats i d).place.channel
there seats i d here =
    let inside : i < length (channels_in seats) = omega (arith, here, length-map seats channel_of) in
    slice_get-get_or (channels_in seats) i d.place.channel inside ∙ ap Some (get_or-map channel_of seats i d d.place.channel here)

-- if the list of channels has a channel at the place of a seat, the seat holds that channel
pub held : (seats : List Seat) (i : ℕ) (d : Seat) (old : List (Option LimitedHistory)) (h : LimitedHistory) → i < length seats
    → channels_in seats ≡ old → slice_get old i ≡ Some (Some h) → (get_or seats i d).place.channel ≡ Some h
held seats i d old h here same is =
    let e : Some (get_or seats i d).place.channel ≡ Some (Some h) = sym (there seats i d here) ∙ (ap (λ (cs : List (Option LimitedHistory)). slice_get cs i) same ∙ is) in
    cc

-- if one seat gets another channel, the list of channels changes at the place of that seat
pub changed : (seats : List Seat) (i : ℕ) (new : Seat) (old : List (Option LimitedHistory)) (after : Option LimitedHistory)
    → channels_in seats ≡ old → new.place.channel ≡ after → channels_in (set seats i new) ≡ set old i after
changed seats i new old after same is =
    map-set channel_of seats i new ∙ (ap (λ (cs : List (Option LimitedHistory)). set cs i new.place.channel) same ∙ ap (λ (o : Option LimitedHistory). set old i o) is)

with_id : (o : Option LimitedHistory) (vcid : ℕ) → option_map vcid_of o ≡ Some vcid → (h : LimitedHistory) × (o ≡ Some h) × (h.settings.vcid ≡ vcid)
with_id (Some h) vcid e = (h, refl, cc)
with_id None vcid e = absurd cc

pub differs : (o : Option ℕ) (vcid : ℕ) → false ≡ option_eq eqb o (Some vcid) → o ≢ Some vcid
differs (Some n) vcid e = λ is. let same : n ≡ vcid = cc in grind (arith, nat_tests)
differs None vcid e = λ is. cc

abbrev pub AreLater : List (Option LimitedHistory) → ℕ → ℕ → Type 0
AreLater channels vcid place = (at : ℕ) (other : LimitedHistory) → IsHeldAt channels vcid at other → place ≤ at

-- if the channel in a seat has the id, and no channel before it has the id, it is the first channel with the id
pub first : (seats : List Seat) (i : ℕ) (d : Seat) (old : List (Option LimitedHistory)) (vcid : ℕ) → i < length seats
    → channels_in seats ≡ old → option_map (λ (h : LimitedHistory). h.settings.vcid) (get_or seats i d).place.channel ≡ Some vcid → AreLater old vcid i
    → (h : LimitedHistory) × IsFirstWithVcid old vcid i h
first seats i d old vcid inside same is later =
    let named = with_id (get_or seats i d).place.channel vcid is in
    let here : slice_get old i ≡ Some (Some named.0) = sym (ap (λ (cs : List (Option LimitedHistory)). slice_get cs i) same) ∙ (there seats i d inside ∙ ap Some named.1) in
    (named.0, ((here, named.2), later))

-- if the channel in this seat doesn't have the id either, the first channel with the id can only come later
pub passed : (seats : List Seat) (i : ℕ) (d : Seat) (old : List (Option LimitedHistory)) (vcid : ℕ) → i < length seats → channels_in seats ≡ old
    → option_map (λ (h : LimitedHistory). h.settings.vcid) (get_or seats i d).place.channel ≢ Some vcid → AreLater old vcid i → AreLater old vcid (i + 1)
passed seats i d old vcid inside same not later = λ place other is.
    let below : i ≤ place = later place other is in
    let apart : place ≢ i = λ e.
    let found : slice_get old i ≡ Some (Some other) = ap (slice_get old) (sym e) ∙ is.0 in
    not (ap (option_map vcid_of) (held seats i d old other inside same found) ∙ ap Some is.1) in
    omega (arith, below, apart)

-- if a channel with the id can only stand behind the last seat, no channel has the id
pub nowhere : (seats : List Seat) (n : ℕ) (old : List (Option LimitedHistory)) (vcid : ℕ) → length seats ≤ n → channels_in seats ≡ old → AreLater old vcid n → ¬ IsHeld old vcid
nowhere seats n old vcid all same later = λ there.
    let at : there.0 < length old = slice_get_within old there.0 (Some there.1) there.2.0 in
    let count : length old ≡ length seats = ap length (sym same) ∙ length-map seats channel_of in
    let below = later there.0 there.1 there.2 in
    omega (arith, at, count, below, all)
