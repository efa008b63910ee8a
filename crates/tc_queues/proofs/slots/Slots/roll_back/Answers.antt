use Rattle.std.proofs.Common.{◌≡◌, ◌+◌, ◌-◌, [], length, ap, ◌∙◌, subst, sym}
use Rattle.tc_queues.proofs.Names.{AreSlots, contents_of}
use Rattle.tc_queues.proofs.Waiting.{cleared-slots}
use Rattle.std.proofs.lemmas.List.{length-set}
use Rattle.tc_queues.proofs.slots.Slots.roll_back.Goals as goal

pub loop-self-preserved : goal.loop-self-preserved
loop-self-preserved g c =
    let i = c.loop-self.self-inside in
    let inv = c.loop-self.invariant in
    let later = c.clear.new.self in
    let same : length later ≡ length i.ring = ap length c.clear.ensures ∙ length-set i.ring (i.waiting + (i.staged - 1)) (contents_of [] i.size) in
    let both = cleared-slots (length i.ring) i.waiting i.staged i.size i.ring later inv.slots c.loop-self-test.true c.clear.ensures in
    record {
      slots = subst (λ n. AreSlots n i.waiting (i.staged - 1) i.size later) (sym same) both.0;
      places = same ∙ inv.places;
      waiting = inv.waiting;
      size = inv.size;
      items = both.1 ∙ inv.items;
    }
