-- The statuses for the reasons why no CLTU is written.
use Rattle.tc_edges.specs.declared.cltu.writer.CltuFault.{CltuFault}
use Rattle.tc_edges.specs.declared.cltu.writer.CltuFault.TheVariants as cltus
use Rattle.tc_c_base.specs.declared.status.Status.{Status}
use Rattle.tc_c_base.specs.declared.status.Status.TheVariants as st

abbrev pub cltu_status : CltuFault → Status
cltu_status cltus.Empty = st.EmptyData
cltu_status cltus.TooLong = st.LongCltu
cltu_status cltus.NoMemory = st.NoMemory
