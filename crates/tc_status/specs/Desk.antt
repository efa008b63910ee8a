-- The view of a desk in contracts: its channel, and the board on which the channel is published.
use Rattle.atomic_table.specs.Seated.{TableId}
use Rattle.tc_channel.specs.Journal.{History}

pub record AtDesk : Type 0 where
  pub channel : History
  pub board : TableId
