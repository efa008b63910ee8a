use Rattle.tc_station.proofs.VcidTable.{HaveEntries}
use Rattle.tc_station.proofs.vcids.Vcids.new.Given as goal

-- the table has the places of the ids that the loop has passed
abbrev pub invariant-loop-place : goal.invariant-loop-place
invariant-loop-place l = HaveEntries l.vcid-items l.place l.table
