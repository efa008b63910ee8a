-- Sessions worked out by hand, to be read with the definitions.
use Rattle.std.specs.Prelude.{ℕ, zero, suc, ◌+◌, ◌%◌, List, [], ◌∷◌, ◌++◌}
unfoldable use Rattle.tc_queues.specs.ChannelState.{no_limits}
use Rattle.tc_channel.specs.Examples as example
use Rattle.tc_channel.specs.declared.event.Event.TheVariants.{Frame, Release, Take}
use Rattle.tc_laws.specs.Loops.Loop.{Loop, Action, Send, Arrive, Hear, Other, new_loop, smallest}
use Rattle.tc_laws.specs.Loops.Start.{Start}

-- a receiver with a window of 10, a buffer of 2 and V(R) 255, and a sender with a window of 5
abbrev pub five : Loop
five = new_loop no_limits (record (example.buffer_of 2) { first = 255 }) (λ m. example.link_up) 5

-- Frame 0 is lost, and frame 1 arrives. The sender hears that none is accepted, and sends frame 0 again, which comes
-- twice. Then the sender hears that one is accepted.
abbrev pub one_lost : List Action
one_lost = Send 0 ∷ Send 1 ∷ Arrive 1 1 ∷ Hear 3 ∷ Send 0 ∷ Arrive 0 4 ∷ Arrive 0 4 ∷ Hear 6 ∷ []

-- a receiver with room for 300 data fields and V(R) 0, and a sender with a window of this width
abbrev pub with_window : ℕ → Loop
with_window window = new_loop no_limits (example.buffer_of 300) (λ m. example.link_up) window

-- n frames are sent one by one, from frame i and moment t on. Each frame arrives before the next one is sent.
abbrev pub one_by_one : ℕ → ℕ → ℕ → List Action
one_by_one t i zero = []
one_by_one t i (suc n) = Send i ∷ Arrive i t ∷ one_by_one (t + 2) (i + 1) n

-- 256 frames are accepted, and no CLCW is heard. Then frame 0 is sent again, which a window of 256 allows.
abbrev pub sent_again : List Action
sent_again = one_by_one 0 0 256 ++ Send 0 ∷ Arrive 0 512 ∷ []

-- 255 frames are accepted, and the sender hears of them. Then frame 255 is accepted. Then frame 0 comes once more,
-- which was sent at moment 0.
abbrev pub overtaken : List Action
overtaken = one_by_one 0 0 255 ++ Hear 510 ∷ Send 255 ∷ Arrive 255 511 ∷ Arrive 0 0 ∷ []

-- Frame 0 is accepted, and the sender hears of it. Then it hears the CLCW that was made at first.
abbrev pub old_report : List Action
old_report = Send 0 ∷ Arrive 0 0 ∷ Hear 2 ∷ Hear 0 ∷ []

-- The frames of a start. Frame 0 is an earlier one, and frame 1 is Set V(R) to x. The later frames are numbered from x
-- on, and each of them carries a packet of application 5.
abbrev pub around : ℕ → ℕ → List ℕ
around x zero = smallest 0 0
around x (suc zero) = 0x30 ∷ 0x2a ∷ 0x04 ∷ 0x07 ∷ 0x00 ∷ 0x82 ∷ 0x00 ∷ x ∷ []
around x (suc (suc i)) = example.packet_octets ((x + i) % 256)

abbrev pub around_set_to : ℕ → Loop
around_set_to x = record (new_loop no_limits (example.buffer_of 2) (λ m. example.link_up) 5) { first = x; frames = around x }

-- V(R) was 0, and then 1. A Set V(R) to 0 is obeyed. Then two CLCWs come that were made before, with V(R) 0 and with
-- V(R) 1. The sender believes that Set V(R) was obeyed when it hears the first of them, because this CLCW has the
-- number 0. Frame 0 of the era is lost, but the second CLCW makes the sender take this frame for accepted.
abbrev pub trap : Start
trap = record {
  loop = around_set_to 0;
  directive = 1;
  session = Send 0 ∷ Arrive 0 0 ∷ Send 1 ∷ Arrive 1 2 ∷ Hear 0 ∷ Send 2 ∷ Hear 2 ∷ [];
  obeyed = 3;
  again = 3;
  believed = 4;
}

-- a Type-BD frame whose data field is a unit of one octet on MAP 1
abbrev pub by_bd : List ℕ
by_bd = 0x20 ∷ 0x2a ∷ 0x04 ∷ 0x06 ∷ 0x00 ∷ 0xc1 ∷ 0x00 ∷ []

-- A start with a Set V(R) to 9, a number that no earlier CLCW has. The sender sends Set V(R) again before it believes
-- that Set V(R) was obeyed. This second Set V(R) is lost, but the first one comes twice and is obeyed twice. Then frame
-- 0 of the era is accepted, a Type-BD frame comes, and the sender hears of frame 0 by a CLCW that comes twice. The data
-- fields of the earlier frame 0 and of the era's frame 0 are released, and the packet is taken.
abbrev pub learnt_by_9 : Start
learnt_by_9 = record {
  loop = around_set_to 9;
  directive = 1;
  session = Send 0 ∷ Arrive 0 0 ∷ Send 1 ∷ Hear 0 ∷ Arrive 1 2 ∷ Send 1 ∷ Hear 5 ∷ Send 2 ∷ Arrive 1 2 ∷ Arrive 2 7 ∷ Other (Frame by_bd) ∷ Hear 11 ∷ Hear 11 ∷ Other Release ∷ Other Release ∷ Other (Take 5) ∷ [];
  obeyed = 4;
  again = 8;
  believed = 6;
}

-- V(R) was 0, and then 1. The sender hears that its frame 0 is accepted, and sends a Set V(R) to a number x, which is
-- obeyed.
abbrev pub acknowledged : ℕ → Start
acknowledged x = record {
  loop = around_set_to x;
  directive = 1;
  session = Send 0 ∷ Arrive 0 0 ∷ Hear 2 ∷ Send 1 ∷ Arrive 1 3 ∷ [];
  obeyed = 4;
  again = 4;
  believed = 5;
}

-- A start of a new receiver, and of a sender with a window of this width. Set V(R) to 9 is obeyed once, and the sender
-- hears of it. Then an Unlock comes, which sets nothing.
abbrev pub plain_start : ℕ → Start
plain_start window = record {
  loop = record (around_set_to 9) { window = window };
  directive = 1;
  session = Send 1 ∷ Arrive 1 0 ∷ Hear 2 ∷ Other (Frame example.unlock) ∷ [];
  obeyed = 1;
  again = 1;
  believed = 2;
}
