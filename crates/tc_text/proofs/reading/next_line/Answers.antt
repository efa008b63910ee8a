use Rattle.std.proofs.Common.{arith, ◌<◌, length, refl, subst}
use Rattle.std.proofs.lemmas.Bool.Decides.{nat_tests}
use Rattle.memchr.specs.Find.{IsFirstByte, is_byte}
use Rattle.tc_text.proofs.Feeds.{line-to-feed, last-line}
use Rattle.tc_text.proofs.reading.next_line.Goals as goal

pub returns-in-Some : goal.returns-in-Some
returns-in-Some c =
    line-to-feed _ _ _ _ _ (subst (λ place. IsFirstByte (is_byte 10) c.args.octets.now place) c.in-Some.is c.memchr.ensures)
    c.split_at.ensures.front c.split_at.ensures.back c.split_at-in-Some.ensures.back

pub returns-in-None : goal.returns-in-None
returns-in-None c =
    let some : 0 < length c.args.octets.now = grind (arith, nat_tests) in
    last-line _ _ (subst (λ place. IsFirstByte (is_byte 10) c.args.octets.now place) c.in-None.is c.memchr.ensures) some refl
