-- Instructions, which are the meanings of the lines of a script.
use Rattle.std.specs.Prelude.{[]}
use Rattle.tc_text.specs.declared.line.Line.{Line}
use Rattle.tc_text.specs.declared.line.Line.TheVariants.{Blank, Channel, Queue, Map, Frame, Release, Take, Unit as TakeUnit, Clcw}
use Rattle.tc_rack.specs.declared.instruction.Addition.TheVariants as additions
use Rattle.tc_rack.specs.declared.instruction.Instruction.{Instruction}
use Rattle.tc_rack.specs.declared.instruction.Instruction.TheVariants as instructions

-- The instruction of a line. A channel line sets up a channel with the settings of the line, without queues and without
-- chosen MAPs. A blank line does nothing.
abbrev pub instruction_of : Line → Instruction
instruction_of Blank = instructions.Nothing
instruction_of (Channel vcid width buffer first segmented) =
    instructions.Channel (record { vcid = vcid; width = width; buffer = buffer; first = first; segmented = segmented; queues = []; maps = [] })
instruction_of (Queue vcid apid capacity) = instructions.Add vcid (additions.Queue (record { apid = apid; capacity = capacity }))
instruction_of (Map vcid map_id capacity) = instructions.Add vcid (additions.Map (record { map = map_id; capacity = capacity }))
instruction_of (Frame octets) = instructions.Frame octets
instruction_of (Release vcid) = instructions.Release vcid
instruction_of (Take vcid apid) = instructions.Take vcid apid
instruction_of (TakeUnit vcid map_id) = instructions.Unit vcid map_id
instruction_of (Clcw vcid) = instructions.Clcw vcid
