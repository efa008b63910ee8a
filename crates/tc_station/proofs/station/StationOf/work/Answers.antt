use Rattle.tc_station.proofs.Names.{◌∙◌, arith, drop, length, rules, subst, common_steps, take_at, AreWorked}
use Rattle.tc_station.proofs.Works.{work-goes-on, work-keeps, work-knows, work-ours, work-rises, work-raises, work-length}
use Rattle.tc_station.proofs.station.StationOf.work.Goals as goal

pub returns-in-None : goal.returns-in-None
returns-in-None g c =
    let old = c.args.operators.now.items in
    let new = c.work_all.new.operators in
    let w = subst (λ os. AreWorked c.args.self.now c.args.lists.now c.work_all.result os new) c.as_mut_slice.ensures.value c.work_all.ensures in
    let all = take_at new (drop (length new) old) c.args.operators.now.len (work-length _ _ _ _ _ w ∙ search rules) in
    record {
      worked = first_of (search rules, grind (arith, common_steps));
      kept = rw all (work-keeps _ _ _ _ _ w);
      ours = rw all (work-ours _ _ _ _ _ w);
      knows = rw all (work-knows _ _ _ _ _ w);
      later = rw all (work-goes-on _ _ _ _ _ w);
      risen = rw all (work-rises _ _ _ _ _ w);
      raised = rw all (work-raises _ _ _ _ _ c.in-None.is w);
    }

pub returns-in-Some : goal.returns-in-Some
returns-in-Some g c =
    let old = c.args.operators.now.items in
    let new = c.work_all.new.operators in
    let w = subst (λ os. AreWorked c.args.self.now c.args.lists.now c.work_all.result os new) c.as_mut_slice.ensures.value c.work_all.ensures in
    let all = take_at new (drop (length new) old) c.args.operators.now.len (work-length _ _ _ _ _ w ∙ search rules) in
    record {
      worked = grind (arith, common_steps);
      kept = rw all (work-keeps _ _ _ _ _ w);
      ours = rw all (work-ours _ _ _ _ _ w);
      knows = rw all (work-knows _ _ _ _ _ w);
      later = rw all (work-goes-on _ _ _ _ _ w);
      risen = rw all (work-rises _ _ _ _ _ w);
      raised = search rules;
    }
