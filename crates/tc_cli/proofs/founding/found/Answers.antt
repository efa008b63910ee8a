use Rattle.tc_cli.proofs.Stations.{no-double, no-refusal}
use Rattle.tc_cli.proofs.founding.found.Goals as goal

pub unreachable-requires-in-Err-DoubleVcid : goal.unreachable-requires-in-Err-DoubleVcid
unreachable-requires-in-Err-DoubleVcid c =
    no-double c.into_channels.result.items c.in-Err-DoubleVcid.field-0-0 c.into_channels.ensures.configuration.distinct (rw c.in-Err-DoubleVcid.field-0-is at c.in-Err-DoubleVcid.ensures.fault).2

pub unreachable-requires-in-Err-Settings : goal.unreachable-requires-in-Err-Settings
unreachable-requires-in-Err-Settings c =
    no-refusal c.allowed_settings_have_no_fault.ensures c.into_channels.result.items c.in-Err-Settings.field-0-0 c.in-Err-Settings.field-0-1 c.into_channels.ensures.configuration.allowed (rw c.in-Err-Settings.field-0-is at c.in-Err-Settings.ensures.fault).3
