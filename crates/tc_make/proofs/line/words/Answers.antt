use Rattle.std.proofs.Common.{rules, tests, ap, ◌∙◌}
use Rattle.std.specs.Slice.Iter.{split_rest, split_done, split_callee}
use Rattle.std.proofs.lemmas.Iterator.Consumers.{YieldsList-from_filter, map_from_collect}
use Rattle.std.proofs.lemmas.Iterator.Splits.{YieldsList-from_slice_split}
use Rattle.tc_lines.specs.Word.{is_separator, is_filled, words}
use Rattle.tc_make.proofs.line.words.Goals as goal

pub returns : goal.returns
unfolding words
returns c =
    map_from_collect _ c.collect.ensures.ran
    (YieldsList-from_filter _ is_filled
    (YieldsList-from_slice_split _ is_separator c.args.line.now
    (ap split_rest c.filter.ensures.source ∙ c.split.ensures.rest) (ap split_done c.filter.ensures.source ∙ c.split.ensures.done)
    (ap split_callee c.filter.ensures.source ∙ c.split.ensures.closure) (λ x r q k. search (rules, tests)))
    c.filter.ensures.closure (λ x r q k. search (rules, tests)))
