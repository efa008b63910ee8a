-- A receiver of spacecraft 42, worked out by hand. Its frames have no frame error control field.
use Rattle.std.specs.Prelude.{false, [], ◌∷◌}
use Rattle.tc_link.specs.declared.clcw.Link.{Link}
use Rattle.tc_queues.specs.declared.settings.Settings.{Settings}
use Rattle.tc_rack.specs.declared.stage.Stage.TheVariants.{Operating}
use Rattle.tc_live.specs.Receiver.{Receiving}
use Rattle.tc_live.specs.declared.check.FrameCheck.TheVariants.{Nothing}
use Rattle.tc_live.specs.declared.ends.FrameEnds.TheVariants.{NoFrame}

-- channel 1 without segment headers, with a window of 10, a buffer for one data field and V(R) 0
abbrev pub plain_channel : Settings
plain_channel = record { vcid = 1; width = 10; buffer = 1; first = 0; segmented = false; queues = []; maps = [] }

-- the receiver with this channel before any frame, and with these flags of the channel's link
abbrev pub receiver_with : Link → Receiving
receiver_with link = record { check = Nothing; ends = NoFrame; scid = 42; stage = Operating (record { scid = 42; channels = record { history = record { settings = plain_channel; journal = [] }; link = link } ∷ [] }) }
