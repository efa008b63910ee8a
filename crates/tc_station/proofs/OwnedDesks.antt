-- The owned desks of a station, and the operators that are issued from them.
use Rattle.tc_station.proofs.Names.{◌≡◌, ℕ, zero, suc, ◌+◌, ◌<◌, List, [], ◌∷◌, length, map, get_or, replicate, ◌≤◌, ◌-◌, take, drop, ◌++◌, refl, sym, ap, ◌∙◌, subst, arith, All, inl, inr, ◌==◌, position, slice_get, Some, get_or-map, length-map, length-take, take_at, All-map, All-weaker, get_or_from_slice_get, slice_get_read, slice_get_within, map-map, TableId, History, AtLock, Identity, accounts_of, with_one_issued, AreClosed, AreOurs, AreSame, HasCause, column, heads_of, locks_of, settings_of_desks, Roster, HaveIssued, IsDeskOf, vcids_of, AtStation, Tally, IsOurs, arrival, at_station, counts_of, fresh, issued_more, newcomer_at_desks, tallies, tally, IsCauseAtStation, operator_lists_of, ◌^◌, ⊎_elim, drop_more, get_or_at, map_more, map_push, replicate_more, All-push, All-replicate, All-same, issued_of, total_made}
use Rattle.tc_station.proofs.Called.{at_owned_desks, id-of}

-- the settings of owned desks are those in their heads
pub settings-heads : (owned_desks : List AtLock) → settings_of_desks owned_desks ≡ map (λ (h : Identity). h.settings) (heads_of owned_desks)
settings-heads owned_desks = sym (map-map (λ (h : Identity). h.settings) (λ (o : AtLock). o.own.seen.head) owned_desks)

pub same-settings : (old new : List AtLock) → heads_of new ≡ heads_of old → settings_of_desks new ≡ settings_of_desks old
same-settings old new same = settings-heads new ∙ (ap (map (λ (h : Identity). h.settings)) same ∙ sym (settings-heads old))

-- ---- owned desks that were returned with the same locks, heads and numbers of issued operators

pub length-same : (old new : List AtLock) → AreSame old new → length new ≡ length old
length-same old new same = sym (length-map new (λ (o : AtLock). o.lock)) ∙ (ap (length {A = TableId}) same.0 ∙ length-map old (λ (o : AtLock). o.lock))

pub ids-same : (vcids : List ℕ) (old new : List AtLock) → vcids_of (settings_of_desks old) ≡ vcids → AreSame old new → vcids_of (settings_of_desks new) ≡ vcids
ids-same vcids old new ids same = ap vcids_of (same-settings old new same.1) ∙ ids

pub issued-same : (n : ℕ) (old new : List AtLock) → HaveIssued n old → AreSame old new → HaveIssued n new
issued-same n old new have same = subst (All (λ (i : ℕ). i ≡ n)) (sym same.2) have

-- ---- owned desks from which operators are issued, one after the other

pub none-issued : (owned_desks : List AtLock) → issued_more 0 owned_desks ≡ owned_desks
none-issued [] = refl
none-issued (p ∷ ps) =
    let same : p.own.issued + 0 ≡ p.own.issued = omega arith in
    λ i. record { lock = p.lock; own = record { seen = p.own.seen; made = p.own.made; issued = same i } } ∷ none-issued ps i

pub one-issued : (n : ℕ) (owned_desks : List AtLock) → map with_one_issued (issued_more n owned_desks) ≡ issued_more (suc n) owned_desks
one-issued n [] = refl
one-issued n (p ∷ ps) =
    let more : suc (p.own.issued + n) ≡ p.own.issued + suc n = omega arith in
    λ i. record { lock = p.lock; own = record { seen = p.own.seen; made = p.own.made; issued = more i } } ∷ one-issued n ps i

pub locks-more : (n : ℕ) (owned_desks : List AtLock) → locks_of (issued_more n owned_desks) ≡ locks_of owned_desks
locks-more n owned_desks = map-map _ _ owned_desks

pub heads-more : (n : ℕ) (owned_desks : List AtLock) → heads_of (issued_more n owned_desks) ≡ heads_of owned_desks
heads-more n owned_desks = map-map _ _ owned_desks

pub settings-more : (n : ℕ) (owned_desks : List AtLock) → settings_of_desks (issued_more n owned_desks) ≡ settings_of_desks owned_desks
settings-more n owned_desks = same-settings owned_desks (issued_more n owned_desks) (heads-more n owned_desks)

pub arrivals-more : (n : ℕ) (owned_desks : List AtLock) → map arrival (issued_more n owned_desks) ≡ map arrival owned_desks
arrivals-more n owned_desks = map-map _ _ owned_desks

pub have-more : (n i : ℕ) (owned_desks : List AtLock) → HaveIssued i owned_desks → HaveIssued (i + n) (issued_more n owned_desks)
have-more n i [] have k d lt = absurd (omega (arith, lt))
have-more n i (p ∷ ps) have zero d lt = let here = have 0 d (omega arith) in omega (arith, here)
have-more n i (p ∷ ps) have (suc k) d lt = have-more n i ps (λ j e inside. have (suc j) e (omega (arith, inside))) k d (omega (arith, lt))

-- if all owned desks of a list, and one more, have issued `n` operators, so has each desk of the longer list
pub have-end : (n : ℕ) (owned_desks next : List AtLock) (p : AtLock) → next ≡ owned_desks ++ p ∷ [] → HaveIssued n owned_desks → p.own.issued ≡ n → HaveIssued n next
have-end n owned_desks next p is have one =
    All-same (λ (i : ℕ). i ≡ n) (issued_of next) (issued_of owned_desks ++ p.own.issued ∷ []) (ap issued_of is ∙ map_push (λ (o : AtLock). o.own.issued) owned_desks p)
    (All-push (λ (i : ℕ). i ≡ n) (issued_of owned_desks) p.own.issued have one)

-- the owned desks after each of the first `n` has issued one more operator
abbrev pub issued_below : ℕ → List AtLock → List AtLock
issued_below n owned_desks = map with_one_issued (take n owned_desks) ++ drop n owned_desks

pub arrives : (d o : AtLock) → o.lock ≡ d.lock → o.own.seen ≡ d.own.seen → o.own.made ≡ [] → o.own.issued ≡ 0 → o ≡ arrival d
arrives d o lock seen made issued = λ i. record { lock = lock i; own = record { seen = seen i; made = made i; issued = issued i } }

-- if the next owned desk issues an operator, and this operator is appended, there is a new operator for each desk up to
-- this one
pub arrival-step : (old now : List AtLock) (before after : List AtLock) (n : ℕ) (d o : AtLock) → now ≡ issued_below n old → n < length old → d ≡ get_or now n d → o ≡ arrival d → before ≡ map arrival (take n old)
    → after ≡ before ++ o ∷ [] → after ≡ map arrival (take (n + 1) old)
arrival-step old now before after n d o is lt here one so pushed =
    let front : length (map with_one_issued (take n old)) ≡ n = omega (arith, length-map (take n old) with_one_issued, length-take n old, lt) in
    let read : get_or (issued_below n old) n d ≡ get_or old n d = ap (λ l. get_or (map with_one_issued (take n old) ++ l) n d) (drop_more old n d lt)
    ∙ get_or_at (map with_one_issued (take n old)) (get_or old n d) (drop (n + 1) old) d n front in
    let there : d ≡ get_or old n d = here ∙ (ap (λ l. get_or l n d) is ∙ read) in
    pushed ∙ ((λ i. so i ++ (one ∙ ap arrival there) i ∷ []) ∙ sym (map_more arrival old n d lt))

-- ---- operators that are issued, one after the other

pub issue-first : (vcids : List ℕ) (owned_desks : List AtLock) (operators : List AtStation) (k : ℕ) → k ≡ 0 → operators ≡ [] → (owned_desks ≡ issued_more k owned_desks) × (operators ≡ replicate k (newcomer_at_desks vcids owned_desks))
issue-first vcids owned_desks operators k none empty =
    subst (λ (j : ℕ). (owned_desks ≡ issued_more j owned_desks) × (operators ≡ replicate j (newcomer_at_desks vcids owned_desks))) (sym none) (sym (none-issued owned_desks), empty)

pub issue-step : (vcids : List ℕ) (first now after : List AtLock) (k next : ℕ) (before operators : List AtStation) (o : AtStation) → vcids_of (settings_of_desks now) ≡ vcids → now ≡ issued_more k first → next ≡ k + 1 → after ≡ map with_one_issued now
    → o ≡ newcomer_at_desks (vcids_of (settings_of_desks now)) now → before ≡ replicate k (newcomer_at_desks vcids first) → operators ≡ before ++ o ∷ [] → (after ≡ issued_more next first) × (operators ≡ replicate next (newcomer_at_desks vcids first))
issue-step vcids first now after k next before operators o ids is count issued one so pushed =
    let more : suc k ≡ next = omega (arith, count) in
    let newest : o ≡ newcomer_at_desks vcids first = one ∙ (ap (λ (v : List ℕ). newcomer_at_desks v now) ids ∙ ap (λ (l : List AtLock). at_station vcids l) (ap (λ (l : List AtLock). map arrival l) is ∙ arrivals-more k first)) in (
      issued ∙ (ap (λ (l : List AtLock). map with_one_issued l) is ∙ (one-issued k first ∙ ap (λ (j : ℕ). issued_more j first) more)),
      pushed ∙ ((λ i. so i ++ newest i ∷ []) ∙ (replicate_more k (newcomer_at_desks vcids first) ∙ ap (λ (j : ℕ). replicate j (newcomer_at_desks vcids first)) (sym count))),
    )

-- each operator of the station has an operator at each of the station's desks
pub are-ours : (station : Roster) (owned_desks : List AtLock) (operators : List AtStation) → station.locks ≡ locks_of owned_desks → All (IsOurs station) operators → AreOurs owned_desks (operator_lists_of operators)
are-ours station owned_desks operators locks all =
    All-map (λ (operator_list : List AtLock). locks_of operator_list ≡ locks_of owned_desks) (λ (o : AtStation). o.desks) operators
    (All-weaker (IsOurs station) (λ (o : AtStation). locks_of o.desks ≡ locks_of owned_desks) (λ o ours. ours.1 ∙ locks) operators all)

-- ---- new operators at the desks

pub arrival-settings : (owned_desks : List AtLock) → settings_of_desks (map arrival owned_desks) ≡ settings_of_desks owned_desks
arrival-settings owned_desks = map-map _ _ owned_desks

arrival-counts : (owned_desks : List AtLock) → counts_of (map arrival owned_desks) ≡ replicate (length owned_desks) 0
arrival-counts [] = refl
arrival-counts (p ∷ ps) = ap (λ (l : List ℕ). 0 ∷ l) (arrival-counts ps)

pub arrival-new : (owned_desks : List AtLock) → All (λ (d : AtLock). d.own.made ≡ []) (map arrival owned_desks)
arrival-new owned_desks = All-map (λ (d : AtLock). d.own.made ≡ []) arrival owned_desks (λ k d lt. refl)

tallies-replicate : (n : ℕ) (o : AtStation) → tallies (replicate n o) ≡ replicate n (tally o)
tallies-replicate zero o = refl
tallies-replicate (suc n) o = ap (λ (l : List Tally). tally o ∷ l) (tallies-replicate n o)

pub issued-fresh : (n : ℕ) (vcids : List ℕ) (owned_desks : List AtLock) (operators : List AtStation) → length owned_desks ≡ length vcids → operators ≡ replicate n (newcomer_at_desks vcids owned_desks) → map tally operators ≡ replicate n (fresh vcids)
issued-fresh n vcids owned_desks operators long is =
    let new : tally (newcomer_at_desks vcids owned_desks) ≡ fresh vcids = ap (λ (cs : List ℕ). record { vcids = vcids; counts = cs }) (arrival-counts owned_desks ∙ ap (λ (k : ℕ). replicate k 0) long) in
    ap tallies is ∙ (tallies-replicate n (newcomer_at_desks vcids owned_desks) ∙ ap (replicate n) new)

pub issued-all : (P : AtStation → Type 0) (n : ℕ) (o : AtStation) (operators : List AtStation) → operators ≡ replicate n o → P o → All P operators
issued-all P n o operators is one = All-same P operators (replicate n o) is (All-replicate P n o one)

-- at the place of a channel, the constant parts of the owned desk are those of the station's desk for this channel
pub desk-of : (station : Roster) (owned_desks : List AtLock) (place vcid : ℕ) (owned_desk : AtLock) → vcids_of (settings_of_desks owned_desks) ≡ station.vcids → heads_of owned_desks ≡ station.heads → owned_desk ≡ get_or owned_desks place owned_desk → position (λ v. v == vcid) station.vcids ≡ Some place
    → (owned_desk.own.seen.head.settings.vcid ≡ vcid) × IsDeskOf station vcid owned_desk.own.seen.head
desk-of station owned_desks place vcid owned_desk ids heads is at =
    let id = id-of station.vcids owned_desks place vcid owned_desk ids is at in
    let head : AtLock → Identity = λ o. o.own.seen.head in
    let read : head owned_desk ≡ get_or (heads_of owned_desks) place (head owned_desk) = ap head is ∙ sym (get_or-map head owned_desks place owned_desk (head owned_desk) id.0) in
    let inside : place < length (heads_of owned_desks) = omega (arith, id.0, length-map owned_desks head) in
    let here = slice_get_read (heads_of owned_desks) (length (heads_of owned_desks)) place (head owned_desk) refl inside read in
    (id.1, (place, at, ap (λ (l : List Identity). slice_get l place) (sym heads) ∙ here))

-- if `k` operators are issued from a slice over all owned desks, each desk of the whole list has issued `k` more
pub written-owned_desks : (n k : ℕ) (old new : List AtLock) → new ≡ issued_more k old → n ≡ length old → take n (new ++ drop (length new) old) ≡ issued_more k old
written-owned_desks n k old new is long = take_at new (drop (length new) old) n (ap (length {A = AtLock}) is ∙ (length-map old _ ∙ sym long)) ∙ is

pub more-issued : (station : Roster) (scid issued n more : ℕ) (vcids : List ℕ) (old new : List AtLock) → at_owned_desks scid vcids issued old ≡ station → new ≡ issued_more n old → more ≡ issued + n → at_owned_desks scid vcids more new ≡ record station { issued = station.issued + n }
more-issued station scid issued n more vcids old new is same sum =
    (λ i. at_owned_desks scid vcids (sum i) (same i)) ∙ (λ i. record { scid = scid; vcids = vcids; issued = issued + n; locks = locks-more n old i; heads = heads-more n old i }) ∙ ap (λ (r : Roster). record r { issued = r.issued + n }) is

settings-each : (owned_desks : List AtLock) (closed : List History) → length closed ≡ length owned_desks
    → ((place : ℕ) (owned_desk : AtLock) (channel : History) → slice_get owned_desks place ≡ Some owned_desk → slice_get closed place ≡ Some channel → channel.settings ≡ owned_desk.own.seen.head.settings) → map (λ (h : History). h.settings) closed ≡ settings_of_desks owned_desks
settings-each [] [] long each = refl
settings-each (p ∷ ps) (h ∷ hs) long each =
    let here = each zero p h refl refl in
    let rest = settings-each ps hs (omega arith) (λ place owned_desk channel at there. each (suc place) owned_desk channel at there) in
    cc
settings-each _ _ long each = absurd (omega arith)

-- closed channels have the settings of their desks
pub closed-settings : (owned_desks : List AtLock) (operator_lists : List (List AtLock)) (closed : List History) → AreClosed owned_desks operator_lists closed → map (λ (h : History). h.settings) closed ≡ settings_of_desks owned_desks
closed-settings owned_desks operator_lists closed are = settings-each owned_desks closed are.as_many (λ place owned_desk channel at there. (are.each place owned_desk channel at there).settings)

-- if all owned desks have issued `n` operators, the desk at each place has issued `n`
all-at : (n : ℕ) (owned_desks : List AtLock) (place : ℕ) (owned_desk : AtLock) → HaveIssued n owned_desks → slice_get owned_desks place ≡ Some owned_desk → owned_desk.own.issued ≡ n
all-at n owned_desks place owned_desk have at =
    let inside = slice_get_within owned_desks place owned_desk at in
    let issued : AtLock → ℕ = λ o. o.own.issued in
    let same : get_or (issued_of owned_desks) place 0 ≡ owned_desk.own.issued = get_or-map issued owned_desks place owned_desk 0 inside ∙ ap issued (get_or_from_slice_get owned_desks place owned_desk owned_desk at) in
    sym same ∙ have place 0 (omega (arith, inside, length-map owned_desks issued))

pub station-cause : (station : Roster) (owned_desks : List AtLock) (operators : List AtStation) → HaveIssued station.issued owned_desks → HasCause owned_desks (operator_lists_of operators) → IsCauseAtStation station operators
station-cause station owned_desks operators have cause =
    let place = cause.0 in
    let issued : cause.1.own.issued ≡ station.issued = all-at station.issued owned_desks place cause.1 have cause.2 in
    let many : length (accounts_of (column place (operator_lists_of operators))) ≡ length operators = length-map _ _ ∙ (length-map _ _ ∙ length-map operators _) in
    ⊎_elim
    (λ (missing : length (accounts_of (column place (operator_lists_of operators))) < cause.1.own.issued). inl (omega (arith, missing, issued, many)))
    (λ (over : 2 ^ 64 - 1 ≤ total_made (accounts_of (column place (operator_lists_of operators)))). inr (place, over))
    cause.3
