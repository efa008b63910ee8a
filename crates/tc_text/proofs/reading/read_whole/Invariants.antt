use Rattle.std.proofs.Common.{◌≤◌, vec_len}
use Rattle.std.specs.Io.KnownBytes.{Consumes}
use Rattle.tc_text.specs.declared.reading.TheConstants.{MAX_OCTETS}
use Rattle.tc_text.proofs.reading.read_whole.Given as goal

-- each read so far gave at least one octet, and the script is the octets that were read
abbrev pub invariant-loop-read : goal.invariant-loop-read
invariant-loop-read g l = record {
  within : vec_len l.script ≤ MAX_OCTETS;
  filled : l._read ≤ vec_len l.script;
  read : Consumes (g.R.Read.remaining l.fn.reader) (g.R.Read.remaining l.reader) l.script.items;
}
