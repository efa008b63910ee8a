-- Each fault is compared with each fault. Two different faults have different statuses.
use Rattle.tc_link.specs.declared.frame.FrameFault.TheVariants as frames
use Rattle.tc_link.specs.declared.location.LocateFault.TheVariants as locations
use Rattle.tc_link.specs.declared.writing.WriteFault.TheVariants as writing
use Rattle.tc_edges.specs.declared.fecf.frames.FieldFault.TheVariants as fields
use Rattle.tc_queues.specs.declared.settings.SettingsFault.TheVariants as settings
use Rattle.tc_fixed.specs.declared.limits.LimitsFault.TheVariants as limits
use Rattle.std.proofs.Common.{refl}
use Rattle.tc_c.proofs.laws.each_fault_has_a_status_of_its_own.Goals as goal

pub returns-clause-frames : goal.returns-clause-frames
returns-clause-frames c frames.Short frames.Short e = refl
returns-clause-frames c _ frames.Short e = cc
returns-clause-frames c _ _ e = cc

pub returns-clause-locations : goal.returns-clause-locations
returns-clause-locations c (locations.Frame frames.Short) (locations.Frame frames.Short) e = refl
returns-clause-locations c _ (locations.Frame frames.Short) e = cc
returns-clause-locations c _ _ e = cc

pub returns-clause-writing : goal.returns-clause-writing
returns-clause-writing c writing.BadField writing.BadField e = refl
returns-clause-writing c _ writing.BadField e = cc
returns-clause-writing c _ _ e = cc

pub returns-clause-fields : goal.returns-clause-fields
returns-clause-fields c (fields.NoFrame frames.Short) (fields.NoFrame frames.Short) e = refl
returns-clause-fields c _ (fields.NoFrame frames.Short) e = cc
returns-clause-fields c _ _ e = cc

pub returns-clause-settings : goal.returns-clause-settings
returns-clause-settings c settings.BadVcid settings.BadVcid e = refl
returns-clause-settings c _ settings.BadVcid e = cc
returns-clause-settings c _ _ e = cc

pub returns-clause-limits : goal.returns-clause-limits
returns-clause-limits c (limits.Settings settings.BadVcid) (limits.Settings settings.BadVcid) e = refl
returns-clause-limits c _ (limits.Settings settings.BadVcid) e = cc
returns-clause-limits c _ _ e = cc
