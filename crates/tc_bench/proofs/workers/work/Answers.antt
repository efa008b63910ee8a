use Rattle.tc_bench.proofs.workers.work.Goals as goal

pub close-requires : goal.close-requires
close-requires g c = record { ours = λ k d inside. (c.do_lists.ensures k d inside).0 }
