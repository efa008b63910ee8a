use Rattle.tc_rack.proofs.Names.{take, Appends, flat_map, map_line}
use Rattle.tc_rack.proofs.report.write_maps.Given as goal

-- the lines of the chosen MAPs so far are written
abbrev pub invariant-loop-chosen : goal.invariant-loop-chosen
invariant-loop-chosen g l =
    Appends (g.W.Write.contents l.fn.writer) (g.W.Write.contents l.writer) (flat_map (map_line l.channel) (take l.chosen-index l.maps))
