use Rattle.tc_rack.proofs.Names.{◌≡◌, ◌≤◌, ◌+◌, map, vec_len, vec_capacity, new_linked}
use Rattle.tc_rack.proofs.rack.make.Given as goal

abbrev pub invariant-loop-settings : goal.invariant-loop-settings
invariant-loop-settings l =
    (l.channels.items ≡ map new_linked l.yielded)
    × (vec_len l.channels + l.settings-iterator.rest.len ≡ vec_len l.fn.list)
    × (vec_len l.fn.list ≤ vec_capacity l.channels)
