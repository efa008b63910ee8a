use Rattle.tc_desk.proofs.locked.DeskOperator.operate.Given as goal

-- the event that the call makes is the event of the operation
abbrev pub ghosts-operate_by : goal.ghosts-operate_by
ghosts-operate_by g a = record { event = g.O.Operation.event a.operation.now }
