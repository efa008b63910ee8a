-- A FARM-1 that starts can be read from its record, and so can the FARM-1 of a channel after each lawful journal.
use Rattle.tc_c.proofs.Names.{◌≡◌, ℕ, Bool, true, false, List, [], ◌∷◌, Ok, Err, refl, if◌then◌else◌, arith, IsSome, Report, header_of, Machine, E10, row_of, entry_at, entry, first_report, BadWidth, IsFarm, is_width, first_farm, left}
use Rattle.tc_link.specs.declared.farm.Arrival.{Arrival}
use Rattle.tc_link.specs.declared.farm.Arrival.TheVariants as arrivals
use Rattle.tc_link.specs.declared.farm.State.{State}
use Rattle.tc_link.specs.declared.farm.State.TheVariants.{S1}
use Rattle.tc_link.specs.Command.{kind_of}
use Rattle.tc_queues.specs.declared.settings.Settings.{Settings}
use Rattle.tc_channel.specs.declared.event.Event.{Event}
use Rattle.tc_channel.specs.declared.event.Event.TheVariants.{Frame, Release}
use Rattle.tc_queues.specs.ChannelState.{ChannelState, first_state_within, has_room}
use Rattle.tc_queues.specs.Settings.{IsAllowed}
use Rattle.tc_channel.specs.Run.{field_of, HasStep, AreSteps, IsLawfulWithin, step, passed_on, run_from, run_within}
use Rattle.tc_c.proofs.Records.{wide}

-- the statement of this crate's law `a_step_leaves_a_farm`
abbrev pub StepsLeaveFarms : Type 0
StepsLeaveFarms = (farm : Machine) (arrival : Arrival) → IsFarm farm → IsSome (entry (row_of farm.width farm.report.vr arrival) farm.report)
    → IsFarm (left farm arrival)

abbrev farm_at : Settings → ChannelState → Machine
farm_at s state = record { width = s.width; report = state.report }

released : (st : State) (r : Report) → IsSome (entry_at E10 st r)
released S1 r = refl
released _ r = refl

step-farm : StepsLeaveFarms → (s : Settings) (state : ChannelState) (e : Event) → IsFarm (farm_at s state) → HasStep s state e → IsFarm (farm_at s (step s state e))
unfolding passed_on
step-farm steps s state (Frame octets) farm has = steps (farm_at s state) (arrivals.Frame (kind_of (header_of octets) (field_of octets)) (has_room s state)) farm has.1
step-farm steps s state Release farm has = steps (farm_at s state) arrivals.Release farm (released state.report.state state.report)
step-farm steps s state _ farm has = farm

run_from-farm : StepsLeaveFarms → (s : Settings) (state : ChannelState) (es : List Event) → IsFarm (farm_at s state) → AreSteps s state es → IsFarm (farm_at s (run_from s state es))
run_from-farm steps s state [] farm are = farm
run_from-farm steps s state (e ∷ es) farm are = run_from-farm steps s (step s state e) es (step-farm steps s state e farm are.0) are.1

pub run-farm : StepsLeaveFarms → (limits : ℕ → ℕ) (s : Settings) (journal : List Event) → IsAllowed s → IsLawfulWithin limits s journal → IsFarm (farm_at s (run_within limits s journal))
unfolding run_within IsLawfulWithin
run-farm steps limits s journal allowed lawful = run_from-farm steps s (first_state_within limits s) journal (record { width = allowed.width; farm_b = omega arith; flags = refl }) lawful

abbrev started : ℕ → ℕ → Machine
started width first = record { width = width; report = first_report first }

begun : (w : Bool) (width first : ℕ) (farm : Machine) → (if w then Ok (started width first) else Err BadWidth) ≡ Ok farm → (w ≡ true) × (farm ≡ started width first)
begun false width first farm e = absurd cc
begun true width first farm e = (refl, cc)

pub starts-farm : (width first : ℕ) (farm : Machine) → first_farm width first ≡ Ok farm → IsFarm farm
starts-farm width first farm e =
    let b = begun (is_width width) width first farm e in
    rw b.1 (record { width = wide width b.0; farm_b = omega arith; flags = refl })
