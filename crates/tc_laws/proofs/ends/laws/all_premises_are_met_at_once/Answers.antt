use Rattle.tc_laws.proofs.EndsLemmas.Names.{correcting, each-premise, in_cltus, learnt_by_9, refl}
use Rattle.tc_laws.proofs.EndsLemmas.Arrived.{carried-unaltered, carried-whole}
use Rattle.tc_laws.proofs.EndsLemmas.Premises as met
use Rattle.tc_laws.proofs.ends.laws.all_premises_are_met_at_once.Goals as goal

pub returns : goal.returns
returns c = record {
  begins = each-premise;
  can_be_sent = met.can;
  can_be_in_small_segments = met.can-in-small;
  fields = met.with-fields;
  numbered = met.numbered;
  frames_sent = met.from-first;
  only = met.only-first;
  carried = met.carried;
  unaltered = carried-unaltered correcting learnt_by_9.loop.frames 0 learnt_by_9.session in_cltus met.carried;
  brought = carried-whole correcting learnt_by_9.loop.frames 0 learnt_by_9.session in_cltus met.carried;
  headers = refl;
  queue = met.queue;
  asked = refl;
  drops_none = met.drops_none;
  whole = met.whole-here;
  all = met.all-here;
  given = met.given;
}
