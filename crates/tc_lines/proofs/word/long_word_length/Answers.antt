use Rattle.std.proofs.Common.{subst}
use Rattle.memchr.specs.Find.{IsFirstByte, is_byte3}
use Rattle.tc_lines.proofs.Words.{word-to-separator, last-word}
use Rattle.tc_lines.proofs.word.long_word_length.Goals as goal

pub returns-in-Some : goal.returns-in-Some
returns-in-Some c =
    word-to-separator c.args.octets.now c.in-Some.place (subst (λ place. IsFirstByte (is_byte3 32 9 13) c.args.octets.now place) c.in-Some.is c.memchr3.ensures)

pub returns-in-None : goal.returns-in-None
returns-in-None c =
    last-word c.args.octets.now (subst (λ place. IsFirstByte (is_byte3 32 9 13) c.args.octets.now place) c.in-None.is c.memchr3.ensures)
