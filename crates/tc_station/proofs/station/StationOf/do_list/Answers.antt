use Rattle.tc_station.proofs.Names.{◌∙◌, rules, tally}
use Rattle.tc_station.proofs.GoneOn.{on_by_both}
use Rattle.tc_station.proofs.Works.{one-more}
use Rattle.tc_station.proofs.Tried.{one-more-made}
use Rattle.tc_station.proofs.station.StationOf.do_list.Goals as goal

pub loop-job-preserved : goal.loop-job-preserved
loop-job-preserved g c =
    let i = c.loop-job.invariant in
    let is = rw c.as_slice-job-items.ensures at c.job-item.is in
    let done = c.in-Ok.ensures.done in (
      c.do_job.ensures.ours,
      c.do_job.ensures.knows ∙ i.1,
      one-more c.args.self.now c.args.list.now.vcid c.args.list.now.jobs c.loop-job.job-index c.job-item.result (tally c.args.operator.now) (tally c.loop-job.operator) (tally c.do_job.new.operator) (search rules) is i.2 done,
      one-more-made c.args.self.now c.args.list.now.vcid c.args.list.now.jobs c.loop-job.job-index c.job-item.result c.args.operator.now c.loop-job.operator c.do_job.new.operator (search rules) is i.3 c.in-Ok.ensures.made,
      on_by_both _ _ _ i.4 c.do_job.ensures.later,
    )

pub returns-in_default-clause-later : goal.returns-in_default-clause-later
returns-in_default-clause-later g c = on_by_both _ _ _ c.loop-job.invariant.4 c.do_job.ensures.later
