-- No event changes whether there are segment headers, or the limits.
use Rattle.tc_channel.proofs.Names.{◌≡◌, ℕ, List, refl, ◌∙◌, accepts, Settings, Event, Frame, ChannelState, step, row_of, passed_on, run_within}
use Rattle.tc_channel.proofs.StateQueues.{kept-either}
use Rattle.tc_channel.proofs.Runs.{always}

step-segmented : (s : Settings) (b : ChannelState) (e : Event) → (step s b e).segmented ≡ b.segmented
unfolding passed_on
step-segmented s b (Frame octets) = kept-either (λ x. x.segmented ≡ b.segmented) (row_of s b octets) (accepts (row_of s b octets) b.report) octets b refl refl refl
step-segmented s b _ = refl

pub run-segmented : (limits : ℕ → ℕ) (s : Settings) (journal : List Event) → (run_within limits s journal).segmented ≡ s.segmented
run-segmented limits s journal = always (λ b. b.segmented ≡ s.segmented) limits s journal (λ b e h. step-segmented s b e ∙ h) refl

step-limit : (s : Settings) (b : ChannelState) (e : Event) → (step s b e).limit ≡ b.limit
unfolding passed_on
step-limit s b (Frame octets) = kept-either (λ x. x.limit ≡ b.limit) (row_of s b octets) (accepts (row_of s b octets) b.report) octets b refl refl refl
step-limit s b _ = refl

pub run-limit : (limits : ℕ → ℕ) (s : Settings) (journal : List Event) → (run_within limits s journal).limit ≡ limits
run-limit limits s journal = always (λ b. b.limit ≡ limits) limits s journal (λ b e h. step-limit s b e ∙ h) refl
