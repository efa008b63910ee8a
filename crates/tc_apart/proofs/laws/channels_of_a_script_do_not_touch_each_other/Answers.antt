use Rattle.tc_apart.proofs.Names.{refl}
use Rattle.tc_apart.proofs.Scripted.{all-performed, both-performed}
use Rattle.tc_apart.proofs.laws.channels_of_a_script_do_not_touch_each_other.Goals as goal

pub returns-clause-has : goal.returns-clause-has
returns-clause-has c = λ scid vcid script rest answers progress channel lines of. (answers, progress, rest, lines, refl, of)

pub returns-clause-performed : goal.returns-clause-performed
returns-clause-performed c = λ scid script rest answers progress lines. all-performed scid script answers progress rest lines

pub returns-clause-answers : goal.returns-clause-answers
returns-clause-answers c = λ scid vcid script another one other channel last a b settings same. (both-performed c.each_input_begins_with_one_frame_at_most.ensures scid vcid script another one other channel last a b settings same).0

pub returns-clause-channel : goal.returns-clause-channel
returns-clause-channel c = λ scid vcid script another one other channel last a b settings same. (both-performed c.each_input_begins_with_one_frame_at_most.ensures scid vcid script another one other channel last a b settings same).1
