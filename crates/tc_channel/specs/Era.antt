-- The era of a journal: the events since the last Set V(R) that FARM-1 obeyed, or since the start.
use Rattle.std.specs.Prelude.{◌≡◌, ℕ, ◌+◌, ◌%◌, ◌<◌, false, List, [], ◌∷◌, ◌++◌, length, take, drop, ◌⊎◌, slice_get, Option, Some, None}
use Rattle.tc_link.specs.Frame.{header_of}
use Rattle.tc_link.specs.Farm.{Row, E8}
use Rattle.tc_link.specs.declared.State.{State}
use Rattle.tc_link.specs.declared.State.TheVariants.{S1, S2}
use Rattle.tc_queues.specs.declared.settings.Settings.{Settings}
use Rattle.tc_channel.specs.declared.event.Event.{Event}
use Rattle.tc_channel.specs.declared.event.Event.TheVariants.{Frame, Release, Take, TakeUnit}
use Rattle.tc_queues.specs.ChannelState.{ChannelState, Accepted, no_limits}
use Rattle.tc_channel.specs.Run.{field_of, row_of, run_within}

-- The number to which a Set V(R) sets V(R). The command is obeyed in S1 and in S2.
abbrev pub set_at : Row → State → Option ℕ
set_at (E8 x) S1 = Some x
set_at (E8 x) S2 = Some x
set_at _ _ = None

-- the number to which an event sets V(R), or `None` if the event isn't a Set V(R) that is obeyed
abbrev pub set_by : Settings → ChannelState → Event → Option ℕ
set_by s state (Frame octets) = set_at (row_of s state octets) state.report.state
set_by s state Release = None
set_by s state (Take apid) = None
set_by s state (TakeUnit map_id) = None

-- An era starts after the events `before`, with V(R) at `x`. Either there are no such events, or the last of them set
-- V(R) to `x`.
abbrev pub StartsWithin : (ℕ → ℕ) → Settings → List Event → ℕ → Type 0
StartsWithin limits s before x =
    ((before ≡ []) × (x ≡ s.first))
    ⊎ ((past : List Event) × (e : Event) × (before ≡ past ++ e ∷ []) × (set_by s (run_within limits s past) e ≡ Some x))

-- none of the later events is a Set V(R) that is obeyed
abbrev pub NoneSetsWithin : (ℕ → ℕ) → Settings → List Event → List Event → Type 0
NoneSetsWithin limits s before later = (i : ℕ) (e : Event) → slice_get later i ≡ Some e → set_by s (run_within limits s (before ++ take i later)) e ≡ None

-- `later` is the era of the journal, `before` are the events before the era, and `x` is V(R) at the start of the era
pub record IsEraWithin (limits : ℕ → ℕ) (s : Settings) (journal before later : List Event) (x : ℕ) : Type 0 where
  pub parts : journal ≡ before ++ later
  pub starts : StartsWithin limits s before x
  pub last : NoneSetsWithin limits s before later

-- the AD frames that were accepted after these events
abbrev pub accepted_since_within : (ℕ → ℕ) → Settings → List Event → List Event → List Accepted
accepted_since_within limits s before journal = drop (length (run_within limits s before).accepted) (run_within limits s journal).accepted

-- The accepted frames have consecutive numbers from `x` on, modulo 256. V(R) is the next number.
pub record CountsUpWithin (limits : ℕ → ℕ) (s : Settings) (journal before : List Event) (x : ℕ) : Type 0 where
  pub numbers : (i : ℕ) (a : Accepted) → slice_get (accepted_since_within limits s before journal) i ≡ Some a → a.ns ≡ (x + i) % 256
  pub vr : (run_within limits s journal).report.vr ≡ (x + length (accepted_since_within limits s before journal)) % 256

-- the frames accepted in the journal's era count up
abbrev pub CountsUpInItsEraWithin : (ℕ → ℕ) → Settings → List Event → Type 0
CountsUpInItsEraWithin limits s journal = (before later : List Event) (x : ℕ) → IsEraWithin limits s journal before later x → CountsUpWithin limits s journal before x

-- The frame is one of a sender whose frame i, counted from 0, has N(S) = x + i modulo 256 and the data field `sent i`.
-- Here i is the field `number`. The frame comes when i and the number of accepted frames differ by less than 256, so no
-- other frame has the N(S) of the frame that is expected next.
pub record IsSent (x : ℕ) (sent : ℕ → List ℕ) (accepted : ℕ) (octets : List ℕ) : Type 0 where
  pub number : ℕ
  pub ns : (header_of octets).ns ≡ (x + number) % 256
  pub field : field_of octets ≡ sent number
  pub not_old : accepted < number + 256
  pub not_new : number < accepted + 256

-- If the event is a Type-AD frame, it is the sender's. `accepted` frames of the era were accepted before it.
abbrev pub IsOfSender : ℕ → (ℕ → List ℕ) → ℕ → Event → Type 0
IsOfSender x sent accepted (Frame octets) = (header_of octets).bypass ≡ false → (header_of octets).control ≡ false → IsSent x sent accepted octets
IsOfSender x sent accepted Release = Unit {0}
IsOfSender x sent accepted (Take apid) = Unit {0}
IsOfSender x sent accepted (TakeUnit map_id) = Unit {0}

-- Each Type-AD frame that comes in the era is the sender's. Frames may be lost, repeated and put in another order, but
-- none comes 256 or more frames late or early.
abbrev pub ComesFromWithin : (ℕ → ℕ) → Settings → List Event → List Event → ℕ → (ℕ → List ℕ) → Type 0
ComesFromWithin limits s before later x sent = (place : ℕ) (e : Event) → slice_get later place ≡ Some e
    → IsOfSender x sent (length (accepted_since_within limits s before (before ++ take place later))) e

-- The definitions that follow are those above, for a channel without limits by MAP.

abbrev pub IsEra : Settings → List Event → List Event → List Event → ℕ → Type 0
IsEra s journal before later x = IsEraWithin no_limits s journal before later x

abbrev pub CountsUpInItsEra : Settings → List Event → Type 0
CountsUpInItsEra s journal = CountsUpInItsEraWithin no_limits s journal
