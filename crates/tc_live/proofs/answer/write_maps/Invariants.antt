use Rattle.tc_live.proofs.Names.{take, HasWritten, IsPlainFormatter, flat_map, map_text}
use Rattle.tc_live.proofs.answer.write_maps.Given as goal

-- the text of the MAPs so far is written
abbrev pub invariant-loop-chosen : goal.invariant-loop-chosen
invariant-loop-chosen g l =
    IsPlainFormatter l.initial.f → HasWritten g.W.Write.write_str_gives l.initial.f (flat_map map_text (take l.chosen-index l.maps)) l.f
