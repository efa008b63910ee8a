use Rattle.tc_cli.proofs.Joined.{worked-report}
use Rattle.tc_cli.proofs.laws.the_workers_report_is_that_of_the_lines_in_order.Goals as goal

pub returns : goal.returns
returns c = worked-report
    (record {
      frame = c.each_input_begins_with_one_frame_at_most.ensures;
      event = c.one_alone_is_answered_after_its_own_events.ensures.event;
      look = c.one_alone_is_answered_after_its_own_events.ensures.look;
      seen = c.one_alone_is_answered_after_its_own_events.ensures.seen;
      maker = c.the_only_maker_made_the_whole_journal.ensures;
    })
