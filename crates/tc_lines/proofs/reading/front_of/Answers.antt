use Rattle.std.proofs.Common.{subst}
use Rattle.memchr.specs.Find.{IsFirstByte, is_byte}
use Rattle.tc_lines.proofs.Fronts.{front-to-feed, front-whole}
use Rattle.tc_lines.proofs.reading.front_of.Goals as goal

pub returns-in-Some : goal.returns-in-Some
returns-in-Some c =
    front-to-feed c.args.octets.now c.in-Some.line (subst (λ place. IsFirstByte (is_byte 10) c.args.octets.now place) c.in-Some.is c.memchr.ensures)

pub returns-in-None : goal.returns-in-None
returns-in-None c = front-whole c.args.octets.now (subst (λ place. IsFirstByte (is_byte 10) c.args.octets.now place) c.in-None.is c.memchr.ensures)
