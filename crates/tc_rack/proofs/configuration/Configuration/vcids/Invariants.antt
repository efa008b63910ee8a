use Rattle.tc_rack.proofs.Names.{◌≡◌, ◌≤◌, length, take, vec_capacity, vcids_of}
use Rattle.tc_rack.proofs.configuration.Configuration.vcids.Given as goal

abbrev pub invariant-loop-settings : goal.invariant-loop-settings
invariant-loop-settings l =
    (l.vcids.items ≡ vcids_of (take l.settings-index l.settings-items)) × (l.settings-items ≡ l.self) × (length l.self ≤ vec_capacity l.vcids)
