use Rattle.tc_channel.proofs.Names.{◌≡◌, [], ◌∷◌, ap, refl, ◌∙◌, Row, E8, after, Frame, ChannelState, row_of, run_within, step}
use Rattle.tc_link.specs.Farm.{E7}
use Rattle.tc_channel.proofs.Runs.{run-append}
use Rattle.tc_channel.proofs.Sound.{state-sound}
use Rattle.tc_channel.proofs.laws.unlock_and_set_v_r_open_a_channel.Goals as goal

pub returns : goal.returns
returns c = λ limits s journal unlock set_v_r x is_unlock is_set.
    let b = run_within limits s journal in
    let sound = state-sound limits s journal in
    let first : row_of s b unlock ≡ E7 = rw is_unlock refl in
    let second : row_of s (step s b (Frame unlock)) set_v_r ≡ E8 x = rw is_set refl in
    ap (λ (state : ChannelState). state.report) (run-append limits s journal (Frame unlock ∷ Frame set_v_r ∷ []))
    ∙ ap (λ (row : Row). after row (after (row_of s b unlock) b.report)) second
    ∙ ap (λ (row : Row). after (E8 x) (after row b.report)) first
    ∙ c.unlock_and_set_v_r_open_farm_1.ensures b.report x sound.locked sound.never_open
