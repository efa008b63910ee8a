-- Space packets (CCSDS 133.0-B, 4.1), and the cutting of a unit into them.
use Rattle.std.specs.Prelude.{◌≡◌, ℕ, zero, suc, ◌+◌, ◌≤◌, Bool, ◌==◌, ◌&&◌, List, [], ◌∷◌, ◌++◌, length, take, drop, nat_le, if◌then◌else◌}
use Rattle.std.specs.List.{flat_map, AllByRecursion}
use Rattle.tc_packet.specs.Bits.{word_at, bits}

-- the largest number of octets that the data length field of a packet can name
abbrev pub largest_packet : ℕ
largest_packet = 65542

-- the version number (4.1.3.2)
abbrev pub version_of : List ℕ → ℕ
version_of octets = bits (word_at octets 0) 13 3

-- the number of octets that a packet's data length field names (4.1.3.5)
abbrev pub named_length : List ℕ → ℕ
named_length octets = word_at octets 4 + 7

-- the application process identifier (4.1.3.3)
abbrev pub apid_of : List ℕ → ℕ
apid_of octets = bits (word_at octets 0) 0 11

-- whether the packet type is telecommand (4.1.3.3)
abbrev pub is_telecommand : List ℕ → Bool
is_telecommand octets = bits (word_at octets 0) 12 1 == 1

-- the octets are one whole packet
pub record IsPacket (octets : List ℕ) : Type 0 where
  pub least : 7 ≤ length octets
  pub most : length octets ≤ largest_packet
  pub version : version_of octets ≡ 0
  pub named : named_length octets ≡ length octets

abbrev pub joined : List (List ℕ) → List ℕ
joined packets = flat_map (λ p. p) packets

-- a unit consists of these packets and this rest, and the rest doesn't begin with a packet
pub record IsCut (unit : List ℕ) (packets : List (List ℕ)) (rest : List ℕ) : Type 0 where
  pub parts : unit ≡ joined packets ++ rest
  pub each : AllByRecursion IsPacket packets
  pub ends : (n : ℕ) → IsPacket (take n rest) → ⊥

-- whether the octets begin with a packet
abbrev pub begins : List ℕ → Bool
begins octets = nat_le 7 (length octets) && (version_of octets == 0 && (nat_le (named_length octets) largest_packet && nat_le (named_length octets) (length octets)))

-- the first packets of the octets, at most `n` of them
abbrev pub packets_within : ℕ → List ℕ → List (List ℕ)
packets_within zero octets = []
packets_within (suc n) octets =
    if begins octets then take (named_length octets) octets ∷ packets_within n (drop (named_length octets) octets) else []

-- The packets of a unit's cut. A unit has no more packets than octets.
abbrev pub packets_of : List ℕ → List (List ℕ)
packets_of unit = packets_within (length unit) unit

-- the rest that a unit's cut leaves
abbrev pub rest_of : List ℕ → List ℕ
rest_of unit = drop (length (joined (packets_of unit))) unit
