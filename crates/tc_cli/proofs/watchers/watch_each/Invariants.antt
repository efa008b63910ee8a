use Rattle.std.proofs.Common.{◌≡◌, ◌≤◌, length, vec_len, vec_capacity}
use Rattle.tc_cli.specs.Watched.{AreWatching}
use Rattle.tc_cli.proofs.watchers.watch_each.Given as goal

-- there is a watcher for each channel that the loop has passed
abbrev pub invariant-loop-vcid : goal.invariant-loop-vcid
invariant-loop-vcid g l = record {
  each : AreWatching l.station l.watchers.items;
  count : vec_len l.watchers ≡ l.vcid-index;
  room : length l.vcids ≤ vec_capacity l.watchers;
}
