use Rattle.std.proofs.Common.{◌≡◌, ◌≤◌, ◌+◌, ◌++◌, rules, arith, refl, sym, ap, subst, ◌∙◌, length, take, take_all}
use Rattle.std.specs.Io.KnownBytes.{Consumes, IsAtEnd}
use Rattle.std.specs.Io.BufRead.{FillKeeps, DropsConsumable}
use Rattle.std.proofs.BufReadLemmas.{Consumes_shown}
use Rattle.tc_lines.proofs.Parts.{read-again}
use Rattle.tc_lines.proofs.reading.read_part.Goals as goal

pub returns-in-Err : goal.returns-in-Err
returns-in-Err g c = read-again _ _ _ _ _ c.after_error.ensures c.requires c.fill_buf.follows.holds-at-none.0

pub returns : goal.returns
returns g c =
    let front = c.front_of-front in
    let rested = c.fill_buf.follows.lender-at-none in
    let filled = subst (FillKeeps _ (g.R.Read.remaining rested) (g.R.BufRead.consumable_len rested)) c.in-Ok.is c.fill_buf.follows.holds-at-none in
    let moved = Consumes_shown _ _ _ _ c.in-Ok.available.now front.result.all front.ensures.all_within c.in-Ok.ensures.front c.in-Ok.ensures.end filled.0 filled.1 c.consume.ensures.bytes in
    record {
      octets = take front.result.line c.in-Ok.available.now;
      one = front.ensures.one;
      lost = subst (Consumes _ _) front.ensures.all_is moved.0;
      more = c.goes_on.ensures.more;
      end = λ no not. moved.1 (sym (front.ensures.whole not) ∙ c.goes_on.ensures.end no not);
      after_is = c.in_ok-over.ensures.kept;
      over_is = c.in_ok-over.ensures.over;
    }
