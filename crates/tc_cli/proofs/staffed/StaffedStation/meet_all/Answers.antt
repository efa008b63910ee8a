use Rattle.std.proofs.Common.{◌≤◌, ◌∙◌, ℕ, arith, length, rules, subst}
use Rattle.tc_cli.specs.Staffed.{HaveMet}
use Rattle.tc_cli.proofs.Watching.{one-more-met}
use Rattle.tc_cli.proofs.staffed.StaffedStation.meet_all.Goals as goal

pub loop-place-preserved : goal.loop-place-preserved
loop-place-preserved g c =
    let i = c.loop-place.invariant in
    record {
      met = one-more-met c.loop-place.place c.args.self.now c.loop-place.self c.meet_at.new.self i.met c.meet_at.ensures.met;
      many = c.meet_at.ensures.as_many ∙ i.many;
      within = search rules;
    }

pub returns : goal.returns
returns g c =
    let i = c.loop-place.invariant in
    let past : length c.args.self.now.watchers ≤ c.loop-place.place = search rules in
    subst (λ (n : ℕ). HaveMet n c.args.self.now c.loop-place.self) (omega (arith, past, i.within)) i.met
