use Rattle.tc_live.proofs.Names.{◌<◌, ◌≤◌, ℕ, true, false, List, [], ◌∷◌, ◌++◌, refl, sym, inl, inr, lit<, lit≤, arith, codes, Some, None, Script, Link as LinkOf, Racked, SettingUp, Receiving, new_receiver, IsLineSaid}
use Rattle.std.specs.Fmt.{digits}
use Rattle.std.proofs.lemmas.List.{append-nil}
use Rattle.std.proofs.lemmas.List.Elements.{All-nil}
use Rattle.tc_link.specs.declared.clcw.Link.{Link}
use Rattle.tc_queues.specs.declared.settings.MapSetting.{MapSetting}
use Rattle.tc_queues.specs.declared.settings.QueueSetting.{QueueSetting}
use Rattle.tc_queues.specs.ChannelState.{no_limits}
use Rattle.tc_channel.specs.Reply.{clcw_within}
use Rattle.tc_channel.specs.Run.{run_within}
use Rattle.tc_queues.specs.Settings.{IsAllowed}
use Rattle.tc_text.specs.Line.{line_of}
use Rattle.tc_text.specs.LiveLine.{live_line_of}
use Rattle.tc_text.specs.Printed.{word_text}
use Rattle.tc_text.specs.Word.{words}
use Rattle.tc_text.specs.declared.line.Line.TheVariants as said
use Rattle.tc_rack.specs.Linked.{Linked, no_flag}
use Rattle.tc_rack.specs.declared.answer.Answer.TheVariants as answers
use Rattle.tc_live.specs.Examples.{plain_channel, receiver_with}
use Rattle.tc_live.specs.declared.answer.LiveAnswer.TheVariants as reported
use Rattle.tc_live.specs.declared.check.FrameCheck.TheVariants.{Nothing}
use Rattle.tc_live.specs.declared.ends.FrameEnds.TheVariants.{NoFrame}
use Rattle.tc_live.proofs.laws.lines_are_answered_so.Goals as goal

allowed : IsAllowed plain_channel
allowed = record {
  vcid = lit≤ tt;
  width = record { least = lit≤ tt; most = lit≤ tt; even = refl };
  buffer = (lit≤ tt, lit≤ tt);
  first = lit< tt;
  apids = All-nil (λ (q : QueueSetting). q.apid ≤ 2046);
  apart = λ i j d before inside. absurd (omega arith);
  capacities = All-nil (λ (q : QueueSetting). (1 ≤ q.capacity) × (q.capacity ≤ 256));
  maps = All-nil (λ (m : MapSetting). m.map ≤ 63);
  maps_apart = λ i j d before inside. absurd (omega arith);
  unit_capacities = All-nil (λ (m : MapSetting). (1 ≤ m.capacity) × (m.capacity ≤ 256));
  by_headers = λ plain. refl;
}

-- the receiver after the channel is set up
abbrev set_up : Receiving
set_up = record { check = Nothing; ends = NoFrame; scid = 42; stage = SettingUp (plain_channel ∷ []) }

abbrev no_signal : Link
no_signal = record { no_rf = true; no_bit_lock = false }

abbrev channel : Link → Linked
channel link = record { history = record { settings = plain_channel; journal = [] }; link = link }

abbrev rack : Link → Racked
rack link = record { scid = 42; channels = channel link ∷ [] }

channel-line : IsLineSaid (new_receiver Nothing 42) (codes "channel 1 10 1 0 plain") set_up []
unfolding live_line_of line_of words
channel-line = inl (
  reported.Nothing,
  set_up,
  (
    Script (said.Channel 1 10 1 0 false),
    refl,
    inl (said.Channel 1 10 1 0 false, refl, (set_up, ((None, refl, refl, refl), ([], plain_channel ∷ [], refl, ((λ there. (let inside : there.0 < 0 = there.2 in omega arith)), allowed, refl), refl)), refl)),
  ),
  ([], (refl, refl), refl),
)

link-line : IsLineSaid set_up (codes "link 1 1 0") (receiver_with no_signal) (codes "link 1 1 0\n")
unfolding live_line_of words digits
link-line = inl (reported.Link 1 no_signal, receiver_with no_signal, (LinkOf 1 no_signal, refl, ((true, rack no_signal, (0, channel no_flag, channel no_signal, (refl, refl), refl, refl), refl, refl), ((λ e. cc), refl))), ([], (refl, refl), sym (append-nil (codes "link 1 1 0\n"))))

-- The answer to the last line. In the CLCW, the No RF Available Flag is set, which is bit 16 if the most significant
-- bit is bit 0.
abbrev clcw_text : List ℕ
clcw_text = codes "clcw 1 " ++ word_text 0x01048000 ++ codes "\n"

clcw-line : IsLineSaid (receiver_with no_signal) (codes "clcw 1") (receiver_with no_signal) clcw_text
unfolding live_line_of line_of words digits clcw_within run_within no_limits
clcw-line = inl (
  reported.Operation (answers.Clcw 1 0x01048000),
  receiver_with no_signal,
  (
    Script (said.Clcw 1),
    refl,
    inl (
      said.Clcw 1,
      refl,
      (
        receiver_with no_signal,
        (
          (
            Some (answers.Clcw 1 0x01048000),
            (answers.Clcw 1 0x01048000, (rack no_signal, rack no_signal, refl, (inl (0, channel no_signal, (refl, refl), refl), refl), refl), refl),
            refl,
            refl,
          ),
          ((λ e. cc), refl),
        ),
        refl,
      ),
    ),
  ),
  ([], (refl, refl), sym (append-nil clcw_text)),
)

pub returns : goal.returns
returns c = (
  set_up,
  [],
  codes "link 1 1 0\n" ++ clcw_text,
  inr (lit≤ tt, channel-line),
  (
    receiver_with no_signal,
    codes "link 1 1 0\n",
    clcw_text,
    inr (lit≤ tt, link-line),
    (receiver_with no_signal, clcw_text, [], inr (lit≤ tt, clcw-line), (refl, refl), sym (append-nil clcw_text)),
    refl,
  ),
  refl,
)
