-- The texts of answers, reasons and faults, which docs/reference/scripts.md shows under "Answers" and "Faults".
use Rattle.std.specs.Prelude.{ℕ, ◌==◌, if◌then◌else◌, List, ◌++◌, length, codes, decimal}
use Rattle.std.specs.Int.{to_be_bytes, w32}
use Rattle.tc_queues.specs.declared.reply.Delivery.{Delivery}
pub use Rattle.tc_lines.specs.Printed.{octets_text, flag_text}
use Rattle.tc_text.specs.declared.fault.Reason.{Reason}
use Rattle.tc_text.specs.declared.fault.Reason.TheVariants.{UnknownCommand, WordCount, BadNumber, BadHex, TooLate, NoChannel, DoubleChannel, UnknownChannel, BadVcid, BadWindow, BadBuffer, BadApid, DoubleApid, BadCapacity, NoMemory, BadOption, BadMap, DoubleMap, BadUnits, PlainMap}
use Rattle.tc_text.specs.declared.fault.ScriptFault.{ScriptFault}
use Rattle.tc_text.specs.declared.fault.ScriptFault.TheVariants as faults

-- the hexadecimal digits of a unit, or `-` if it has no octets
abbrev pub unit_text : List ℕ → List ℕ
unit_text octets = if length octets == 0 then codes "-" else octets_text octets

-- the hexadecimal digits of the four octets of a control word, the most significant octet first
abbrev pub word_text : ℕ → List ℕ
word_text word = octets_text (to_be_bytes w32 word)

-- the text of a delivery: `queued Q dropped D rest R`
abbrev pub delivery_text : Delivery → List ℕ
delivery_text delivery =
    codes "queued " ++ decimal delivery.queued ++ codes " dropped " ++ decimal delivery.dropped ++ codes " rest " ++ flag_text delivery.rest

-- the text of a reason why a line is bad
abbrev pub reason_text : Reason → List ℕ
reason_text UnknownCommand = codes "unknown command"
reason_text WordCount = codes "wrong number of words"
reason_text BadNumber = codes "bad number"
reason_text BadHex = codes "bad hex"
reason_text TooLate = codes "too late"
reason_text NoChannel = codes "no channel"
reason_text DoubleChannel = codes "double channel"
reason_text UnknownChannel = codes "unknown channel"
reason_text BadVcid = codes "bad channel"
reason_text BadWindow = codes "bad window"
reason_text BadBuffer = codes "bad buffer"
reason_text BadApid = codes "bad application"
reason_text DoubleApid = codes "double application"
reason_text BadCapacity = codes "bad capacity"
reason_text NoMemory = codes "no memory"
reason_text BadOption = codes "bad option"
reason_text BadMap = codes "bad map"
reason_text DoubleMap = codes "double map"
reason_text BadUnits = codes "bad units"
reason_text PlainMap = codes "map on plain channel"

-- The text of a fault that ended a script early: `line N: ` and the reason. The number 0 stands for the whole script.
abbrev pub fault_text : ScriptFault → List ℕ
fault_text (faults.Line number reason) = codes "line " ++ decimal number ++ codes ": " ++ reason_text reason
fault_text faults.Read = codes "line 0: cannot read"
fault_text faults.TooLong = codes "line 0: too long"
fault_text faults.Write = codes "line 0: cannot write"
fault_text faults.Unbalanced = codes "line 0: unbalanced"
