use Rattle.tc_judge.specs.Account.{sent}
use Rattle.tc_judge.proofs.Silent.{sent-later}
use Rattle.tc_judge.proofs.laws.a_frame_that_is_sent_is_on_its_way.Goals as goal

pub returns : goal.returns
returns c = λ rules way r frame items. (sent-later rules way r frame items, λ e. sent e)
