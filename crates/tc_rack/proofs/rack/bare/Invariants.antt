use Rattle.tc_rack.proofs.Names.{◌≡◌, ◌≤◌, ◌+◌, map, vec_len, vec_capacity, Linked}
use Rattle.tc_rack.proofs.rack.bare.Given as goal

abbrev pub invariant-loop-channel : goal.invariant-loop-channel
invariant-loop-channel l =
    (l.bare.items ≡ map (λ (channel : Linked). channel.history) l.yielded)
    × (vec_len l.bare + l.channel-iterator.rest.len ≡ vec_len l.fn.channels)
    × (vec_len l.fn.channels ≤ vec_capacity l.bare)
