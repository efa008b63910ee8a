-- Tracking a sender that keeps a window of K frames, by FARM-1 in a channel whose own window is twice as wide.
use Rattle.std.specs.Prelude.{ℕ, ◌*◌, Bool, true, false}
use Rattle.tc_link.specs.declared.Kind.TheVariants.{Ad}
use Rattle.tc_link.specs.Farm.{Row, E1, E2, E3, E4, frame_row}

-- the event of FARM-1's state table for a Type-AD frame with N(S) `ns`, if V(R) is `vr`; `room` is set if there is room
-- for the frame
abbrev pub event_at : ℕ → ℕ → ℕ → Bool → Row
event_at window vr ns room = frame_row (2 * window) vr (Ad ns) room

-- the flag that is set if a frame with this event is expected or in the positive part of the window
abbrev pub is_here_or_ahead : Row → Bool
is_here_or_ahead E1 = true
is_here_or_ahead E2 = true
is_here_or_ahead E3 = true
is_here_or_ahead _ = false

-- the flag that is set if a frame with this event is expected or in the negative part of the window
abbrev pub is_here_or_behind : Row → Bool
is_here_or_behind E1 = true
is_here_or_behind E2 = true
is_here_or_behind E4 = true
is_here_or_behind _ = false
