use Rattle.std.proofs.Common.{rules}
use Rattle.tc_status.proofs.Steps.{opens}
use Rattle.tc_status.proofs.publisher.Publisher.new.Goals as goal

pub of_words-requires : goal.of_words-requires
of_words-requires g c = rw c.past.ensures.past (opens _ c.args.channel.now (search rules) (search rules) c.clcw.ensures.lawful)
