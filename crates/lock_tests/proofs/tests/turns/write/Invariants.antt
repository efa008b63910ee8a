use Rattle.lock_tests.proofs.tests.turns.write.Given as goal

-- the number that is written is the number of the call
abbrev pub ghosts-write_with : goal.ghosts-write_with
ghosts-write_with g a = record { number = a.number }
