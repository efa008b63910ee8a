use Rattle.std.proofs.Common.{rules}
use Rattle.tc_cli.proofs.Names.{IsReportFault}
use Rattle.tc_cli.proofs.Written.{not-closed, reported, on-ok-both, on-ok-same}
use Rattle.tc_cli.proofs.script.report.Goals as goal

pub returns-clause-written : goal.returns-clause-written
returns-clause-written g c =
    let numbers = c.in_ok-channels.ensures in
    on-ok-same c.write_report.result c.map_err.result _ c.map_err.ensures.variant (
    on-ok-both c.write_report.result _ _ _ (λ lawful text. reported c.args.scid c.args.session _ _ c.into_parts-station.result.0 c.into_parts-station.result.1 _ _ _ _ _ c.deref.ensures.value c.in-Ok.ensures.found c.meet_all.ensures c.into_parts-station.ensures.station c.into_parts-station.ensures.operator c.into_parts-station.ensures.ours c.in-Ok-vec.ensures.items numbers.closed numbers.reported lawful text) c.write_report.ensures.lawful c.write_report.ensures.written
    )

pub returns-in_err-channels-clause-fault : goal.returns-in_err-channels-clause-fault
returns-in_err-channels-clause-fault g c =
    let why : IsReportFault c.args.scid c.args.session c.args.lines c.in_err-channels.field-0.0 =
    not-closed c.args.scid c.args.session _ _ c.into_parts-station.result.0 c.into_parts-station.result.1 _ c.args.lines _ c.in-Ok.ensures.found c.meet_all.ensures c.into_parts-station.ensures.station c.into_parts-station.ensures.operator c.in-Ok-vec.ensures.items c.in_err-channels.ensures.fault in
    search rules
