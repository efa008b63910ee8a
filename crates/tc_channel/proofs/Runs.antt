-- The run after one more event, or after several.
use Rattle.tc_channel.proofs.Names.{ℕ, ◌≡◌, List, [], ◌∷◌, ◌++◌, map, refl, subst, ◌∙◌, append_assoc, append-nil, Settings, Event, ChannelState, first_state_within, buffer, HasStep, step, run_from, AreRuns, Inside, HoldsWithin, stored, run_within, IsLawfulWithin}
use Rattle.tc_channel.specs.Run.{AreSteps}

pub run_from-append : (c : Settings) (b : ChannelState) (es fs : List Event) → run_from c b (es ++ fs) ≡ run_from c (run_from c b es) fs
run_from-append c b [] fs = refl
run_from-append c b (e ∷ es) fs = run_from-append c (step c b e) es fs

pub AreSteps-append : (c : Settings) (b : ChannelState) (es fs : List Event) → AreSteps c b es → AreSteps c (run_from c b es) fs → AreSteps c b (es ++ fs)
AreSteps-append c b [] fs past future = future
AreSteps-append c b (e ∷ es) fs past future = (past.0, AreSteps-append c (step c b e) es fs past.1 future)

pub AreSteps-before : (c : Settings) (b : ChannelState) (es fs : List Event) → AreSteps c b (es ++ fs) → AreSteps c b es
AreSteps-before c b [] fs all = tt
AreSteps-before c b (e ∷ es) fs all = (all.0, AreSteps-before c (step c b e) es fs all.1)

pub AreSteps-later : (c : Settings) (b : ChannelState) (es fs : List Event) → AreSteps c b (es ++ fs) → AreSteps c (run_from c b es) fs
AreSteps-later c b [] fs all = all
AreSteps-later c b (e ∷ es) fs all = AreSteps-later c (step c b e) es fs all.1

pub run-append : (limits : ℕ → ℕ) (c : Settings) (es fs : List Event) → run_within limits c (es ++ fs) ≡ run_from c (run_within limits c es) fs
unfolding run_within
run-append limits c es fs = run_from-append c (first_state_within limits c) es fs

pub run-push : (limits : ℕ → ℕ) (c : Settings) (journal : List Event) (e : Event) → run_within limits c (journal ++ e ∷ []) ≡ step c (run_within limits c journal) e
run-push limits c journal e = run-append limits c journal (e ∷ [])

pub lawful-push : (limits : ℕ → ℕ) (c : Settings) (journal : List Event) (e : Event) → IsLawfulWithin limits c journal → HasStep c (run_within limits c journal) e → IsLawfulWithin limits c (journal ++ e ∷ [])
unfolding run_within IsLawfulWithin
lawful-push limits c journal e past one = AreSteps-append c (first_state_within limits c) journal (e ∷ []) past (one, tt)

pub lawful-before : (limits : ℕ → ℕ) (c : Settings) (past future : List Event) → IsLawfulWithin limits c (past ++ future) → IsLawfulWithin limits c past
unfolding IsLawfulWithin
lawful-before limits c past future all = AreSteps-before c (first_state_within limits c) past future all

pub lawful-after : (limits : ℕ → ℕ) (c : Settings) (past future : List Event) → IsLawfulWithin limits c (past ++ future) → AreSteps c (run_within limits c past) future
unfolding run_within IsLawfulWithin
lawful-after limits c past future all = AreSteps-later c (first_state_within limits c) past future all

-- if the parts of a channel are those of the next state, they belong to the journal with one more event
pub step-keeps : {limits : ℕ → ℕ} {c : Settings} {j : List Event} {i : Inside} (e : Event) (later : Inside) → HoldsWithin limits c j i → HasStep c (run_within limits c j) e
    → later.farm.width ≡ i.farm.width → later.farm.report ≡ (step c (run_within limits c j) e).report → later.ring.capacity ≡ i.ring.capacity → later.ring.items ≡ buffer (step c (run_within limits c j) e)
    → AreRuns limits later.open_runs (step c (run_within limits c j) e).segmented (step c (run_within limits c j) e).passed → later.rings ≡ map stored (step c (run_within limits c j) e).queues
    → later.unit_rings ≡ map stored (step c (run_within limits c j) e).units → HoldsWithin limits c (j ++ e ∷ []) later
step-keeps {limits} {c} {j} e later k has width report capacity fields runs queues units =
    let pushed = run-push limits c j e in
    record {
      allowed = k.allowed;
      lawful = lawful-push limits c j e k.lawful has;
      width = width ∙ k.width;
      report = rw pushed report;
      capacity = capacity ∙ k.capacity;
      fields = rw pushed fields;
      runs = rw pushed runs;
      queues = rw pushed queues;
      units = rw pushed units;
    }

-- a property that one more event keeps is kept by any number of events
pub from-first : (P : List Event → Type 0) (push : (j : List Event) (e : Event) → P j → P (j ++ e ∷ [])) (done rest : List Event) → P done → P (done ++ rest)
from-first P push done [] h = rw (append-nil done) h
from-first P push done (e ∷ rest) h = subst P (append_assoc done (e ∷ []) rest) (from-first P push (done ++ e ∷ []) rest (push done e h))

keeps-from : (P : ChannelState → Type 0) (c : Settings) (b : ChannelState) (es : List Event) → AreSteps c b es → ((a : ChannelState) (e : Event) → HasStep c a e → P a → P (step c a e)) → P b → P (run_from c b es)
keeps-from P c b [] steps each h = h
keeps-from P c b (e ∷ es) steps each h = keeps-from P c (step c b e) es steps.1 each (each b e steps.0 h)

-- a property holds after each lawful journal if it holds at first and each step that can happen keeps it
pub keeps : (P : ChannelState → Type 0) (limits : ℕ → ℕ) (c : Settings) (journal : List Event) → IsLawfulWithin limits c journal → ((b : ChannelState) (e : Event) → HasStep c b e → P b → P (step c b e)) → P (first_state_within limits c) → P (run_within limits c journal)
unfolding run_within IsLawfulWithin
keeps P limits c journal lawful each h = keeps-from P c (first_state_within limits c) journal lawful each h

always-from : (P : ChannelState → Type 0) (c : Settings) (b : ChannelState) (es : List Event) → ((a : ChannelState) (e : Event) → P a → P (step c a e)) → P b → P (run_from c b es)
always-from P c b [] each h = h
always-from P c b (e ∷ es) each h = always-from P c (step c b e) es each (each b e h)

-- a property holds after each journal if it holds at first and each step keeps it
pub always : (P : ChannelState → Type 0) (limits : ℕ → ℕ) (c : Settings) (journal : List Event) → ((b : ChannelState) (e : Event) → P b → P (step c b e)) → P (first_state_within limits c) → P (run_within limits c journal)
unfolding run_within
always P limits c journal each h = always-from P c (first_state_within limits c) journal each h
