use Rattle.tc_channel.proofs.Names.{◌∙◌, stream, run_within}
use Rattle.tc_packet.specs.Segment.{header_of}
use Rattle.tc_channel.proofs.Plain.{run-limit, run-segmented}
use Rattle.tc_channel.proofs.Limits.{plain-unit}
use Rattle.tc_channel.proofs.laws.a_plain_channel_takes_each_field_as_a_unit.Goals as goal

pub returns-clause-unit : goal.returns-clause-unit
returns-clause-unit c = λ limits s journal service field octets plain.
    let off = run-segmented limits s journal ∙ plain in
    plain-unit limits (run_within limits s journal) service field octets off (run-limit limits s journal)
    (c.a_plain_field_is_a_unit_by_itself.ensures.unit (stream service (header_of field).map (run_within limits s journal).passed) field octets)

pub returns-clause-run : goal.returns-clause-run
returns-clause-run c = λ limits s journal service map_id plain.
    rw (run-segmented limits s journal ∙ plain) (c.a_plain_field_is_a_unit_by_itself.ensures.run (stream service map_id (run_within limits s journal).passed))
