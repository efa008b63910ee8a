-- Frames that are written (CCSDS 232.0-B, 4.1).
use Rattle.std.specs.Prelude.{◌≡◌, ℕ, ◌+◌, ◌%◌, [], ◌∷◌, true, List, drop, Option, Some, None, if◌then◌else◌}
use Rattle.tc_link.specs.declared.frame.Header.{Header}
use Rattle.tc_link.specs.Frame.{IsFrame}
use Rattle.tc_link.specs.Command.{command_of}
use Rattle.tc_link.specs.declared.command.Command.{Command}
use Rattle.tc_link.specs.declared.command.Command.TheVariants.{Unlock, SetVr}
use Rattle.tc_packet.specs.Segment.{header_of, body_of}
use Rattle.tc_packet.specs.declared.segment.Segment.{Segment}

-- the data field carries these octets, after this segment header or without one
abbrev pub Carries : Option Segment → List ℕ → List ℕ → Type 0
Carries None field octets = field ≡ octets
Carries (Some segment) field octets = (header_of field ≡ segment) × (body_of field ≡ octets)

-- the octets are a frame with this header, and its data field carries the octets `octets`
abbrev pub IsMadeFrame : List ℕ → Header → Option Segment → List ℕ → Type 0
IsMadeFrame frame header segment octets = IsFrame frame header (drop 5 frame) × Carries segment (drop 5 frame) octets

-- The header of the frame that comes `place` places after another. The N(S) of Type-AD frames counts up modulo 256.
abbrev pub header_later : Header → ℕ → Header
header_later header place = record header { ns = if header.bypass then header.ns else (header.ns + place) % 256 }

-- the header of a Type-BC frame, in which both flags are 1 and N(S) is 0 (4.1.2.3 and 4.1.2.8)
abbrev pub command_header : ℕ → ℕ → Header
command_header scid vcid = record { bypass = true; control = true; scid = scid; vcid = vcid; ns = 0 }

-- the octets are a frame for this channel with this control command
abbrev pub IsCommandFrame : List ℕ → ℕ → ℕ → Command → Type 0
IsCommandFrame frame scid vcid command = IsFrame frame (command_header scid vcid) (drop 5 frame) × (command_of (drop 5 frame) ≡ Some command)

-- the number of octets of a command (4.1.3.3)
abbrev pub command_length : Command → ℕ
command_length Unlock = 1
command_length (SetVr vr) = 3
