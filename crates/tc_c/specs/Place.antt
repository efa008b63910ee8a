-- A place owns nothing if no channel is there. Otherwise it owns the same memory as a box.
use base.Fml.{Fml, ftrue}
use base.Stored.{Coded}
use denote.RattleType.{RattleType}
use denote.RawPtr.{Ptr}
use Rattle.std.specs.Prelude.{Option, Some, None}
use Rattle.std.specs.Coded.{coded_option}
use Rattle.std.specs.Box.Ownership.{box_owns}
use Rattle.std.specs.Global.{Global}
use Rattle.std.specs.contracts.impls.GlobalAllocator.TheImpl.{ghosts}
use Rattle.tc_channel.specs.contracts.unrecorded.Unrecorded as Unrecorded
use Rattle.tc_fixed.specs.History.{LimitedHistory}
use Rattle.tc_fixed.specs.contracts.channel.FixedChannelWith as Channel
use Rattle.tc_fixed.specs.contracts.noted.UnrecordedNoted.TheImpl as journal

abbrev pub channel_row : RattleType
channel_row = Channel.the_row Unrecorded.the_row journal.ghosts

abbrev pub history_coded : Coded (Option LimitedHistory)
history_coded = coded_option channel_row.coded

abbrev pub place_owns : Global → Ptr → Option LimitedHistory → Fml
place_owns alloc at None = ftrue
place_owns alloc at (Some history) = box_owns (ghosts.dealloc_token alloc) channel_row at history
