use Rattle.tc_channel.proofs.Names.{[], ap, ◌∙◌, run_within, IsLawfulWithin, Slotted}
use Rattle.tc_channel.proofs.AtWork.{none-open}
use Rattle.tc_channel.proofs.Sizes.{enough-at-start}
use Rattle.tc_channel.proofs.channel_core.ChannelCore.new.Goals as goal

pub returns : goal.returns
unfolding run_within IsLawfulWithin
returns g c = record {
  started = λ limits are. record {
    holds = record {
      allowed = c.requires.allowed;
      lawful = tt;
      width = c.new-2.ensures.width ∙ rw c.unwrap-window.ensures at c.new.ensures.width;
      report = c.new-2.ensures.report;
      capacity = ap (λ (x : Slotted). x.ring.capacity) c.in_ok-fields.ensures;
      runs = none-open limits c.args.runs _ c.requires.segmented c.requires.none;
      queues = rw c.as_slice.ensures at c.in_ok-queues.ensures.rings;
      units = rw c.as_slice-2.ensures at c.in_ok-units.ensures.rings;
      fields = ap (λ (x : Slotted). x.ring.items) c.in_ok-fields.ensures;
    };
    field_size = ap (λ (x : Slotted). x.size) c.in_ok-fields.ensures;
    fields_committed = ap (λ (x : Slotted). x.staged) c.in_ok-fields.ensures;
    committed = c.in_ok-queues.ensures.committed;
    units_committed = c.in_ok-units.ensures.committed;
    limits_are = are;
    small = c.requires.small;
    sizes = enough-at-start c.args.runs _ _ _ c.in_ok-queues.ensures.sizes c.requires.enough;
    unit_sizes = enough-at-start c.args.runs _ _ _ c.in_ok-units.ensures.sizes c.requires.enough;
  };
}

pub invariant_of-result : goal.invariant_of-result
invariant_of-result g c =
    let l = c.requires.limits in
    (l.0, c.args.settings.now, [], (returns g c).started l.0 l.1)
