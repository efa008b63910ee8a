use Rattle.tc_desk.proofs.locked.DeskOperator.operate_met.Given as goal

-- the event that the call makes is the event of the operation
abbrev pub ghosts-operate_met_by : goal.ghosts-operate_met_by
ghosts-operate_met_by g a = record { event = g.O.Operation.event a.operation.now }
