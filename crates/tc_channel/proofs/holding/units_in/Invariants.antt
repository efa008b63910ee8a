use Rattle.tc_channel.proofs.Names.{◌≡◌, ◌≤◌, length, take, vec_len, vec_capacity, filter_map}
use Rattle.tc_channel.specs.Holding.{map_holding}
use Rattle.tc_channel.proofs.holding.units_in.Given as goal

abbrev pub invariant-loop-chosen : goal.invariant-loop-chosen
invariant-loop-chosen g l =
    (l.reported.items ≡ filter_map (map_holding l.channel.settings l.channel.journal) (take l.chosen-index l.maps))
    × (vec_len l.reported ≤ l.chosen-index) × (length l.maps ≤ vec_capacity l.reported)
