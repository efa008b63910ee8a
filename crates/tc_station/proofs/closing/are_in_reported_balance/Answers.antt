use Rattle.tc_station.proofs.Names.{◌∙◌, subst, below_more, arith, rules, refl, get_or_from_slice_get, slice_get_within, History, IsNumberReported, IsInBalance}
use Rattle.tc_station.proofs.closing.are_in_reported_balance.Goals as goal

pub loop-place-preserved : goal.loop-place-preserved
loop-place-preserved c =
    let i = c.loop-place.place in
    let here = c.index-channels-place.result in
    let good : IsInBalance c.args.vcids.now c.args.operators.now i here × IsNumberReported here = c.is_in_reported_balance.ensures.0 (search rules) in
    below_more _ _ c.loop-place.invariant
    (λ h e. subst (λ (k : History). IsInBalance c.args.vcids.now c.args.operators.now i k × IsNumberReported k) (c.index-channels-place.is ∙ get_or_from_slice_get c.args.channels.now i h here e) good)

pub returns : goal.returns
returns c = (λ _ place h e. let inside = slice_get_within c.args.channels.now place h e in c.loop-place.invariant place (omega arith) h e, λ _. refl)
