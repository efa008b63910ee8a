-- A channel that the close of a station returns has the settings of its place, and its journal is a merge of the events
-- that its operators made.
use Rattle.tc_apart.proofs.Names.{AreClosedTogether, AtLock, AtStation, Event, History, Identity, IsClosed, IsMergeOf, List, Roster, Settings, Some, [], accounts_of, ap, arith, column, heads_of, map, no_limits, operator_lists_of, owned_desk-there, refl, settings_in, slice_get, slice_get_within, subst, suc, sym, zero, ℕ, ◌∙◌, ◌∷◌, ◌≡◌}

setting-there : (owned_desks : List AtLock) (n : ℕ) (owned_desk : AtLock) → slice_get owned_desks n ≡ Some owned_desk → slice_get (map (λ (h : Identity). h.settings) (heads_of owned_desks)) n ≡ Some owned_desk.own.seen.head.settings
setting-there [] n owned_desk e = absurd cc
setting-there (p ∷ ps) zero owned_desk e = let q : p ≡ owned_desk = cc in rw q refl
setting-there (p ∷ ps) (suc n) owned_desk e = setting-there ps n owned_desk e

pub closed-there : (station : Roster) (operators : List AtStation) (closed : List History) (place : ℕ) (channel : History) → AreClosedTogether station operators closed → slice_get closed place ≡ Some channel
    → (owned_desk : AtLock) × IsClosed owned_desk (column place (operator_lists_of operators)) channel × (slice_get (settings_in station) place ≡ Some channel.settings)
closed-there station operators closed place channel together out =
    let all = together.2 in
    let inside = slice_get_within closed place channel out in
    let many = all.as_many in
    let owned_desk = owned_desk-there together.0 place (omega (arith, inside, many)) in
    let one = all.each place owned_desk.0 channel owned_desk.1 out in
    let settings = ap (λ (heads : List Identity). slice_get (map (λ (h : Identity). h.settings) heads) place) (sym together.1.1) ∙ setting-there together.0 place owned_desk.0 owned_desk.1 ∙ ap (λ (c : Settings). Some c) (sym one.settings) in
    (owned_desk.0, one, settings)

pub given-out : (station : Roster) (operators : List AtStation) (closed : List History) (place : ℕ) (channel : History) → AreClosedTogether station operators closed → slice_get closed place ≡ Some channel
    → (slice_get (settings_in station) place ≡ Some channel.settings) × IsMergeOf channel.journal (accounts_of (column place (operator_lists_of operators)))
given-out station operators closed place channel together out = let one = closed-there station operators closed place channel together out in (one.2, one.1.merge)

pub settings-given : (station : Roster) (operators : List AtStation) (closed : List History) (place : ℕ) (channel : History) (settings : Settings)
    → AreClosedTogether station operators closed → slice_get closed place ≡ Some channel → slice_get (settings_in station) place ≡ Some settings → settings ≡ channel.settings
settings-given station operators closed place channel settings together out here =
    let same : Some settings ≡ Some channel.settings = sym here ∙ (given-out station operators closed place channel together out).0 in
    cc

-- if a channel has these settings and this journal, and no limits, a statement about them holds for the channel
pub of-channel : (P : (ℕ → ℕ) → Settings → List Event → Type 0) (limits : ℕ → ℕ) (settings : Settings) (events : List Event) (channel : History)
    → limits ≡ no_limits → settings ≡ channel.settings → channel.journal ≡ events → P limits settings events → P no_limits channel.settings channel.journal
of-channel P limits settings events channel free same is h =
    subst (λ l. P l channel.settings channel.journal) free (subst (λ s. P limits s channel.journal) same (subst (λ es. P limits settings es) (sym is) h))
