-- The state before the first line.
use Rattle.tc_edges.specs.Tm.Counting.{none_yet}
use Rattle.tc_make.specs.Decoders.{no_decoders}
use Rattle.tc_make.specs.declared.ending.Ending.{Ending}
use Rattle.tc_make.specs.declared.maker.Maker.{Maker}

-- the state in which no telemetry frame was made and no stream has a decoder
abbrev pub new_maker : Ending → Maker
new_maker ending = record { ending = ending; counts = none_yet; decoders = no_decoders }
