-- The statuses of faults.
use Rattle.tc_link.specs.declared.frame.FrameFault.{FrameFault}
use Rattle.tc_link.specs.declared.frame.FrameFault.TheVariants as frames
use Rattle.tc_link.specs.declared.location.LocateFault.{LocateFault}
use Rattle.tc_link.specs.declared.location.LocateFault.TheVariants as locations
use Rattle.tc_link.specs.declared.writing.WriteFault.{WriteFault}
use Rattle.tc_link.specs.declared.writing.WriteFault.TheVariants as writing
use Rattle.tc_edges.specs.declared.fecf.frames.FieldFault.{FieldFault}
use Rattle.tc_edges.specs.declared.fecf.frames.FieldFault.TheVariants as fields
use Rattle.tc_queues.specs.declared.settings.SettingsFault.{SettingsFault}
use Rattle.tc_queues.specs.declared.settings.SettingsFault.TheVariants as settings
use Rattle.tc_fixed.specs.declared.limits.LimitsFault.{LimitsFault}
use Rattle.tc_fixed.specs.declared.limits.LimitsFault.TheVariants as limits
use Rattle.tc_c_base.specs.declared.status.Status.{Status}
use Rattle.tc_c_base.specs.declared.status.Status.TheVariants as st

-- the status for octets that begin with no frame, by their fault
abbrev pub frame_status : FrameFault → Status
frame_status frames.Short = st.Short
frame_status frames.Version = st.Version
frame_status frames.Spare = st.Spare
frame_status frames.LengthSmall = st.LengthSmall
frame_status frames.Truncated = st.Truncated

-- the status for octets that are for none of the channels, by the reason
abbrev pub locate_status : LocateFault → Status
locate_status (locations.Frame fault) = frame_status fault
locate_status locations.OtherSpacecraft = st.OtherSpacecraft
locate_status locations.UnknownChannel = st.UnknownChannel

abbrev pub write_status : WriteFault → Status
write_status writing.BadField = st.BadField
write_status writing.EmptyData = st.EmptyData
write_status writing.TooLong = st.TooLong
write_status writing.NoMemory = st.NoMemory

-- the status for octets to which no frame error control field is added, or from which none is taken off, by the reason
abbrev pub field_status : FieldFault → Status
field_status (fields.NoFrame fault) = frame_status fault
field_status fields.Fill = st.Fill
field_status fields.TooLong = st.LongFrame
field_status fields.TooShort = st.NoFecf
field_status fields.WrongSum = st.WrongFecf
field_status fields.NoMemory = st.NoMemory

-- the status for settings from which no channel is created, by the reason
abbrev pub settings_status : SettingsFault → Status
settings_status settings.BadVcid = st.BadVcid
settings_status settings.BadWindow = st.BadWidth
settings_status settings.BadBuffer = st.BadBuffer
settings_status settings.BadApid = st.BadApid
settings_status settings.DoubleApid = st.DoubleApid
settings_status settings.BadCapacity = st.BadCapacity
settings_status settings.BadMap = st.BadMap
settings_status settings.DoubleMap = st.DoubleMap
settings_status settings.BadUnits = st.BadUnits
settings_status settings.PlainMap = st.PlainMap
settings_status settings.NoMemory = st.NoMemory

-- the status for settings and limits from which no channel is created, by the reason
abbrev pub limits_status : LimitsFault → Status
limits_status (limits.Settings fault) = settings_status fault
limits_status limits.BadOthers = st.BadOthers
limits_status limits.BadMap = st.BadLimitMap
limits_status limits.DoubleMap = st.DoubleLimit
limits_status limits.BadLimit = st.BadLimit
limits_status limits.PlainMap = st.PlainLimit
limits_status limits.UnlistedMap = st.UnlistedMap
