use Rattle.tc_station.proofs.Names.{◌≡◌, ◌≤◌, ◌+◌, map, vec_len, vec_capacity, Identity, heads_of, settings_of_desks, HaveIssued, vcids_of}
use Rattle.tc_station.proofs.station.start.Given as goal

abbrev pub invariant-loop-settings : goal.invariant-loop-settings
invariant-loop-settings g l =
    (l.vcids.items ≡ vcids_of l.yielded)
    × (settings_of_desks l.desks.items ≡ l.yielded)
    × HaveIssued 0 l.desks.items
    × (map (λ (h : Identity). h.settings) (heads_of l.desks.items) ≡ l.yielded)
    × (vec_len l.vcids + l.settings-iterator.rest.len ≡ vec_len l.fn.list)
    × (vec_len l.desks + l.settings-iterator.rest.len ≡ vec_len l.fn.list)
    × (vec_len l.fn.list ≤ vec_capacity l.vcids) × (vec_len l.fn.list ≤ vec_capacity l.desks)
