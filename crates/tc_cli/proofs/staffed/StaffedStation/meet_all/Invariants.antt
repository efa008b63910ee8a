use Rattle.std.proofs.Common.{◌≡◌, ◌≤◌, length}
use Rattle.tc_cli.specs.Staffed.{HaveMet}
use Rattle.tc_cli.proofs.staffed.StaffedStation.meet_all.Given as goal

-- the watchers before this place have met their desks
abbrev pub invariant-loop-place : goal.invariant-loop-place
invariant-loop-place g l = record {
  met : HaveMet l.place l.fn.self l.self;
  many : length l.self.watchers ≡ length l.fn.self.watchers;
  within : l.place ≤ length l.fn.self.watchers;
}
