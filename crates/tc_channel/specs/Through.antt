-- The way of packets and units through a channel: the items that the data fields passed to reassembly make, and the
-- fields that a sender sent.
use Rattle.std.specs.Prelude.{◌≡◌, ℕ, zero, suc, ◌-◌, Bool, List, [], ◌∷◌, ◌++◌, ◌⊎◌, length, map, drop, filter, is_some, Option}
use Rattle.tc_packet.specs.declared.Service.TheVariants.{Ad}
use Rattle.tc_packet.specs.Reassembly.{Passed, at_most, stream, unit_ended}
use Rattle.tc_channel.specs.declared.event.Event.{Event}
use Rattle.tc_queues.specs.declared.settings.Settings.{Settings}
use Rattle.tc_queues.specs.ChannelState.{queue_of, empty_unit_queue}
use Rattle.tc_queues.specs.Admission.{map_of, is_for, is_of_map, packets_offered, units_offered}
use Rattle.tc_channel.specs.Given.{fields_passed}
use Rattle.tc_channel.specs.Run.{run_within}

-- the first list is the second one, possibly with some items left out
abbrev pub IsPartOf : List (List ℕ) → List (List ℕ) → Type 0
IsPartOf [] all = Unit {0}
IsPartOf (x ∷ xs) [] = ⊥
IsPartOf (x ∷ xs) (y ∷ ys) = ((x ≡ y) × IsPartOf xs ys) ⊎ IsPartOf (x ∷ xs) ys

-- the unit that a data field ends after these fields were passed on, if the unit is within the limit of its MAP
abbrev pub unit_made : (ℕ → ℕ) → Settings → List Passed → Passed → Option (List ℕ)
unit_made limits s before p = at_most (limits (map_of p.field)) (unit_ended s.segmented (stream p.service (map_of p.field) before) p.field)

-- the MAP of this data field is chosen by the settings
abbrev pub is_chosen_by : Settings → List ℕ → Bool
is_chosen_by s field = is_some (queue_of (map_of field) (map empty_unit_queue s.maps))

-- The packets for an application that one more data field makes. They are cut from its unit, unless the unit is
-- delivered whole.
abbrev pub packets_ended : (ℕ → ℕ) → Settings → ℕ → List Passed → Passed → List (List ℕ)
packets_ended limits s apid before p = filter (is_for apid) (packets_offered (unit_made limits s before p) (is_chosen_by s p.field))

-- the unit of a MAP that one more data field makes, if it makes one
abbrev pub units_ended : (ℕ → ℕ) → Settings → ℕ → List Passed → Passed → List (List ℕ)
units_ended limits s map_id before p = filter (is_of_map (map_of p.field) map_id) (units_offered (unit_made limits s before p) (is_chosen_by s p.field))

-- all items that the data fields make after the fields `before`, one after the other
abbrev pub all_made : (List Passed → Passed → List (List ℕ)) → List Passed → List Passed → List (List ℕ)
all_made ended before [] = []
all_made ended before (p ∷ ps) = ended before p ++ all_made ended (before ++ p ∷ []) ps

-- the packets for an application that are made of the data fields passed to reassembly
abbrev pub packets_made : (ℕ → ℕ) → Settings → ℕ → List Passed → List (List ℕ)
packets_made limits s apid passed = all_made (packets_ended limits s apid) [] passed

-- the units of a chosen MAP that are made of the data fields passed to reassembly
abbrev pub units_made : (ℕ → ℕ) → Settings → ℕ → List Passed → List (List ℕ)
units_made limits s map_id passed = all_made (units_ended limits s map_id) [] passed

-- the given number of data fields of a sender, from number `k` on
abbrev pub sent_from : (ℕ → List ℕ) → ℕ → ℕ → List (List ℕ)
sent_from sent k zero = []
sent_from sent k (suc n) = sent k ∷ sent_from sent (suc k) n

-- The Type-AD fields of an era that were passed to reassembly. The fields that were accepted before the era are left
-- out.
abbrev pub passed_since : (ℕ → ℕ) → Settings → List Event → List Passed → List (List ℕ)
passed_since limits s before passed = drop (length (run_within limits s before).accepted) (fields_passed Ad passed)

-- the number of data fields accepted in an era that were released
abbrev pub released_since : (ℕ → ℕ) → Settings → List Event → List Event → ℕ
released_since limits s before journal = (run_within limits s journal).released - length (run_within limits s before).accepted
