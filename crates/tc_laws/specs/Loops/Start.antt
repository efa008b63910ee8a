-- The start of an era. A sender sends Set V(R) itself, while earlier frames and CLCWs are still on their way. It
-- numbers its frames anew once it believes that Set V(R) was obeyed (CCSDS 232.1-B, FOP-1: initiation of the AD service
-- with Set V(R)).
use Rattle.std.specs.Prelude.{◌≡◌, ℕ, suc, ◌+◌, ◌-◌, ◌%◌, ◌≢◌, ◌<◌, ◌≤◌, List, [], ◌∷◌, drop, take, map, slice_get, Some, None, nat_le, nat_lt, if◌then◌else◌}
use Rattle.tc_link.specs.Frame.{header_of}
use Rattle.tc_link.specs.Command.{kind_of}
use Rattle.tc_link.specs.declared.Command.TheVariants.{SetVr}
use Rattle.tc_link.specs.declared.Kind.TheVariants.{Bc}
use Rattle.tc_channel.specs.declared.event.Event.{Event}
use Rattle.tc_channel.specs.declared.event.Event.TheVariants.{Frame}
use Rattle.tc_queues.specs.Settings.{IsAllowed}
use Rattle.tc_channel.specs.Run.{field_of, IsLawfulWithin}
use Rattle.tc_channel.specs.Era.{NoneSetsWithin, set_by}
use Rattle.tc_laws.specs.Loops.Loop.{Loop, Action, Send, Arrive, Hear, Other, Idle, events, journal, receiver, known, known_from, begun, IsNumbered, IsOther, KeepOrder}

-- A session around a start. The frames of `loop` below `directive` are earlier ones. Frame `directive` is the directive
-- Set V(R). The frames above it are the era's, which are numbered from `first` on.
pub record Start : Type 0 where
  pub loop : Loop
  pub directive : ℕ
  pub session : List Action
  -- `obeyed` is a moment at which Set V(R) was obeyed, and `again` is the last such moment. At the moment `believed`,
  -- the sender hears the CLCW that makes it believe that Set V(R) was obeyed.
  pub obeyed : ℕ
  pub again : ℕ
  pub believed : ℕ

-- the frame that arrives at this moment is Set V(R), and it is obeyed
abbrev pub IsObeyed : Start → ℕ → Type 0
IsObeyed s t = (sent : ℕ) × (slice_get s.session t ≡ Some (Arrive s.directive sent))
    × (set_by s.loop.settings (receiver s.loop (take t s.session)) (Frame (s.loop.frames s.directive)) ≡ Some s.loop.first)

-- the number of frames of the era that the sender knows to be accepted at a moment, from the CLCWs that it has heard
-- from the moment `believed` on
abbrev pub known_since : Start → ℕ → ℕ
known_since s t = known_from s.loop s.session 0 (drop s.believed (take t s.session))

-- the era as a loop, which begins when Set V(R) was obeyed for the last time
abbrev pub era : Start → Loop
era s = record s.loop { before = journal s.loop (take (suc s.again) s.session); frames = λ i. s.loop.frames (s.directive + 1 + i) }

-- an action of the session as an action of the era's loop
abbrev pub era_action : Start → ℕ → Action → Action
era_action s t (Send j) = if nat_lt s.directive j then Send (j - (s.directive + 1)) else Idle
era_action s t (Arrive j r) = if nat_le t s.again then Idle else if nat_lt s.directive j then Arrive (j - (s.directive + 1)) r else Other (Frame (s.loop.frames j))
era_action s t (Hear m) = if nat_lt t s.believed then Idle else Hear m
era_action s t (Other e) = if nat_le t s.again then Idle else Other e
era_action s t Idle = Idle

abbrev pub era_actions : Start → ℕ → List Action → List Action
era_actions s t [] = []
era_actions s t (action ∷ rest) = era_action s t action ∷ era_actions s (suc t) rest

abbrev pub era_session : Start → List Action
era_session s = era_actions s 0 s.session

-- The start follows FOP-1's rules. The sender believes that Set V(R) was obeyed only after it was obeyed.
pub record IsStart (s : Start) : Type 0 where
  pub window : s.loop.window < 256
  pub directive : kind_of (header_of (s.loop.frames s.directive)) (field_of (s.loop.frames s.directive)) ≡ Bc (SetVr s.loop.first)
  pub numbered : (i : ℕ) → IsNumbered (era s) i
  pub allowed : IsAllowed s.loop.settings
  pub lawful : IsLawfulWithin s.loop.limits s.loop.settings (journal s.loop s.session)
  pub obeyed : IsObeyed s s.obeyed
  pub again : (s.obeyed ≤ s.again) × IsObeyed s s.again
  pub last : NoneSetsWithin s.loop.limits s.loop.settings (journal s.loop (take (suc s.again) s.session)) (events s.loop (drop (suc s.again) s.session))
  -- Set V(R) was obeyed before the receiver made the CLCW that makes the sender believe that it was.
  pub believes : (made : ℕ) × (slice_get s.session s.believed ≡ Some (Hear made)) × (s.obeyed < made)
  -- From the directive on, the sender sends no earlier frame. Once it believes that Set V(R) was obeyed, it no longer
  -- sends the directive, and sends the era's frames by its window.
  pub stops : (t u j : ℕ) → slice_get s.session t ≡ Some (Send j) → j < s.directive → slice_get s.session u ≡ Some (Send s.directive) → t < u
  pub asks : (t : ℕ) → slice_get s.session t ≡ Some (Send s.directive) → t < s.believed
  pub sends : (t i : ℕ) → slice_get s.session t ≡ Some (Send (s.directive + 1 + i)) → (s.believed < t) × (known_since s t ≤ i) × (i < known_since s t + s.loop.window)
  pub links : KeepOrder s.session
  -- No other event sets V(R).
  pub others : (t : ℕ) (e : Event) → slice_get s.session t ≡ Some (Other e) → IsOther e × (set_by s.loop.settings (receiver s.loop (take t s.session)) e ≡ None)

-- The earlier era as a loop. Its sender numbers its frames from `first` on, and `window` is the width of its window.
-- `frames` has a frame for each index, also for those that the session never sends.
abbrev pub era_before : Start → ℕ → ℕ → (ℕ → List ℕ) → Loop
era_before s first window frames = record s.loop { first = first; window = window; frames = frames }

-- an action of the session as an action of the earlier loop, whose sender doesn't send Set V(R) as one of its frames
abbrev pub action_before : Start → Action → Action
action_before s (Send j) = if nat_lt j s.directive then Send j else Idle
action_before s (Arrive j r) = if nat_lt j s.directive then Arrive j r else Other (Frame (s.loop.frames j))
action_before s (Hear m) = Hear m
action_before s (Other e) = Other e
action_before s Idle = Idle

-- the session before the moment `obeyed`, as a session of the earlier loop
abbrev pub session_before : Start → List Action
session_before s = map (action_before s) (take s.obeyed s.session)

-- `asked` stands for the moment at which Set V(R) is first sent. Consider the numbers of the earlier frames, from the
-- first one that the sender doesn't know to be accepted at that moment to the one after the last one that it sent. Set
-- V(R) names none of these numbers.
abbrev pub NamesAnother : Start → ℕ → ℕ → (ℕ → List ℕ) → ℕ → Type 0
NamesAnother s first window frames asked =
    (a : ℕ) → known (era_before s first window frames) (session_before s) asked ≤ a → a ≤ begun (session_before s) s.obeyed → (first + a) % 256 ≢ s.loop.first
