-- The reasons why no channel can have the settings of a line.
use Rattle.tc_queues.specs.declared.settings.SettingsFault.{SettingsFault}
use Rattle.tc_queues.specs.declared.settings.SettingsFault.TheVariants as faults
use Rattle.tc_text.specs.declared.fault.Reason.{Reason}
use Rattle.tc_text.specs.declared.fault.Reason.TheVariants.{BadVcid, BadWindow, BadBuffer, BadApid, DoubleApid, BadCapacity, BadMap, DoubleMap, BadUnits, PlainMap, NoMemory}

-- the reason that reports a fault of the settings
abbrev pub reason_of : SettingsFault → Reason
reason_of faults.BadVcid = BadVcid
reason_of faults.BadWindow = BadWindow
reason_of faults.BadBuffer = BadBuffer
reason_of faults.BadApid = BadApid
reason_of faults.DoubleApid = DoubleApid
reason_of faults.BadCapacity = BadCapacity
reason_of faults.BadMap = BadMap
reason_of faults.DoubleMap = DoubleMap
reason_of faults.BadUnits = BadUnits
reason_of faults.PlainMap = PlainMap
reason_of faults.NoMemory = NoMemory
