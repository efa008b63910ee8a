use Rattle.tc_rack.proofs.Names.{◌∙◌, ap, on_ok_weaker}
use Rattle.tc_rack.proofs.Written.{channel-written}
use Rattle.tc_rack.proofs.report.write_channel.Goals as goal

pub returns-clause-written : goal.returns-clause-written
returns-clause-written g c =
    let same = c.settings-settings.ensures.settings in
    on_ok_weaker c.write_maps.result (λ maps. channel-written c.args.channel.now _ _ _ _ _ _ (c.as_slice.ensures ∙ ap (λ s. s.queues) same) (c.as_slice-2.ensures ∙ ap (λ s. s.maps) same) c.in_ok-write_final.ensures c.in_ok-write_queues.ensures maps) c.write_maps.ensures
