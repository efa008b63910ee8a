use Rattle.std.proofs.lemmas.Result.{on_ok_weaker}
use Rattle.tc_lines.specs.Word.{words}
use Rattle.tc_make.specs.Line.{maker_line_of}
use Rattle.tc_make.proofs.Lines.{line-done, line-refused}
use Rattle.tc_make.proofs.answer.answer_line.Goals as goal

pub returns-in-Ok : goal.returns-in-Ok
returns-in-Ok g c = record {
  answer = on_ok_weaker c.answer.result
      (line-done c.args.maker.now c.answer.new.maker (maker_line_of (words c.args.octets.now)) c.in-Ok.line _ _ c.in-Ok.ensures.line c.answer.ensures.kept)
      c.answer.ensures.said;
}

pub returns-in-Err : goal.returns-in-Err
returns-in-Err g c = record {
  answer = on_ok_weaker c.write_bad.result
      (line-refused c.args.maker.now (maker_line_of (words c.args.octets.now)) c.in-Err.reason _ _ c.in-Err.ensures.reason)
      c.write_bad.ensures;
}
