use Rattle.std.proofs.Common.{take, drop, get_or, ◌≡◌, ◌≢◌, ℕ, zero, suc, ◌+◌, ◌<◌, ◌≤◌, Bool, true, false, eqb, ltb, ◌&&◌, List, [], ◌∷◌, ◌++◌, Option, Some, None, refl, sym, ◌∙◌, subst, inl, inr, lit<, lit≤, arith, All, AllPairs, codes, not}
use Rattle.tc_cli.proofs.Names.{Answer, AreAnswers, AreNonDecreasing, Empty, Event, History, IsFirstLine, IsLawfulHistory, IsLineAnswered, IsNumberReported, IsPerformed, IsScriptReport, Linked, NoMap, NoQueue, Operating, Progress, Racked, SettingUp, Settings, at_first, length-append, one_more}
use Rattle.std.specs.Fmt.{digits}
use Rattle.std.specs.List.{flat_map}
use Rattle.std.proofs.lemmas.Bool.{eq-eqb}
use Rattle.std.proofs.lemmas.Bool.Decides.{nat_tests}
use Rattle.std.proofs.lemmas.List.{append_assoc, at_drop_more, take_more}
use Rattle.std.proofs.lemmas.List.Elements.{All-cons, All-nil}
use Rattle.hex.specs.Hex.{encode_with}
use Rattle.hex.proofs.OnLiterals.{hex_on_literals}
use Rattle.tc_link.specs.Frame.{IsOctets, IsWhole}
use Rattle.tc_link.specs.Window.{some_of_first}
use Rattle.tc_queues.specs.declared.settings.MapSetting.{MapSetting}
use Rattle.tc_queues.specs.declared.settings.QueueSetting.{QueueSetting}
use Rattle.tc_channel.specs.declared.event.Event.TheVariants as events
use Rattle.tc_queues.specs.ChannelState.{Queue, no_limits}
use Rattle.tc_channel.specs.Reply.{frame_reply_within, release_reply_within, waiting_packets_within, waiting_units_within, buffered_fields_within, clcw_within}
use Rattle.tc_channel.specs.Run.{IsLawful, IsLawfulWithin, run_within, passed_on}
use Rattle.tc_queues.specs.Settings.{IsAllowed}
use Rattle.tc_text.specs.Line.{line_of}
use Rattle.tc_text.specs.Word.{words}
use Rattle.tc_text.specs.declared.line.Line.TheVariants as said
use Rattle.tc_rack.specs.Linked.{no_flag}
use Rattle.tc_rack.specs.declared.answer.Answer.TheVariants as answers
use Rattle.tc_cli.specs.Examples as example
use Rattle.tc_cli.proofs.worked.a_script_writes_this.Goals as goal

-- ---- the channel as it is set up, and after events

abbrev settings : List QueueSetting → List MapSetting → Settings
settings queues maps = record { vcid = 1; width = 10; buffer = 2; first = 0; segmented = true; queues = queues; maps = maps }

abbrev queue : QueueSetting
queue = record { apid = 5; capacity = 1 }

abbrev chosen : MapSetting
chosen = record { map = 3; capacity = 1 }

abbrev all : Settings
all = settings (queue ∷ []) (chosen ∷ [])

abbrev channel : List Event → Linked
channel journal = record { history = record { settings = all; journal = journal }; link = no_flag }

abbrev rack : List Event → Racked
rack journal = record { scid = 42; channels = channel journal ∷ [] }

abbrev at : List Event → Progress
at journal = Operating (rack journal)

-- ---- facts about short lists

one-of : {A : Type 0} (P : A → Type 0) (one : A) → P one → All P (one ∷ [])
one-of P one p = All-cons P one [] p (All-nil P)

none-apart : {A : Type 0} (R : A → A → Type 0) → AllPairs R []
none-apart R i j d before inside = absurd (omega arith)

one-apart : {A : Type 0} (R : A → A → Type 0) (one : A) → AllPairs R (one ∷ [])
one-apart R one i j d before inside = absurd (omega arith)

one-rising : (one : History) → AreNonDecreasing (one ∷ [])
one-rising one zero zero d le inside = omega arith
one-rising one (suc i) zero d le inside = absurd (omega arith)
one-rising one i (suc j) d le inside = absurd (omega arith)

abbrev has_apid : QueueSetting → Type 0
has_apid q = q.apid ≤ 2046

abbrev are_apart : QueueSetting → QueueSetting → Type 0
are_apart p q = p.apid ≢ q.apid

abbrev has_room : QueueSetting → Type 0
has_room q = (1 ≤ q.capacity) × (q.capacity ≤ 256)

abbrev has_map : MapSetting → Type 0
has_map m = m.map ≤ 63

abbrev are_maps_apart : MapSetting → MapSetting → Type 0
are_maps_apart m n = m.map ≢ n.map

abbrev has_units : MapSetting → Type 0
has_units m = (1 ≤ m.capacity) × (m.capacity ≤ 256)

allowed-with : (queues : List QueueSetting) (maps : List MapSetting) → All has_apid queues → AllPairs are_apart queues
    → All has_room queues → All has_map maps → AllPairs are_maps_apart maps → All has_units maps → IsAllowed (settings queues maps)
allowed-with queues maps apids apart capacities ids ids_apart units = record {
  vcid = lit≤ tt;
  width = record { least = lit≤ tt; most = lit≤ tt; even = refl };
  buffer = (lit≤ tt, lit≤ tt);
  first = lit< tt;
  apids = apids;
  apart = apart;
  capacities = capacities;
  maps = ids;
  maps_apart = ids_apart;
  unit_capacities = units;
  by_headers = λ plain. absurd cc;
}

allowed-none : IsAllowed (settings [] [])
allowed-none = allowed-with [] [] (All-nil has_apid) (none-apart are_apart) (All-nil has_room) (All-nil has_map) (none-apart are_maps_apart) (All-nil has_units)

allowed-queue : IsAllowed (settings (queue ∷ []) [])
allowed-queue = allowed-with (queue ∷ []) [] (one-of has_apid queue (lit≤ tt)) (one-apart are_apart queue) (one-of has_room queue (lit≤ tt, lit≤ tt)) (All-nil has_map) (none-apart are_maps_apart) (All-nil has_units)

allowed-all : IsAllowed all
allowed-all = allowed-with (queue ∷ []) (chosen ∷ []) (one-of has_apid queue (lit≤ tt)) (one-apart are_apart queue) (one-of has_room queue (lit≤ tt, lit≤ tt)) (one-of has_map chosen (lit≤ tt)) (one-apart are_maps_apart chosen) (one-of has_units chosen (lit≤ tt, lit≤ tt))

-- ---- the frames

both-true : (a b : Bool) → (a && b) ≡ true → (a ≡ true) × (b ≡ true)
both-true true b h = (refl, h)
both-true false b h = absurd cc

abbrev are_octets : List ℕ → Bool
are_octets [] = true
are_octets (x ∷ xs) = ltb x 256 && are_octets xs

octets : (xs : List ℕ) → are_octets xs ≡ true → IsOctets xs
octets [] h i = lit< tt
octets (x ∷ xs) h zero = let small = (both-true (ltb x 256) (are_octets xs) h).0 in grind (arith, nat_tests)
octets (x ∷ xs) h (suc i) = octets xs (both-true (ltb x 256) (are_octets xs) h).1 i

abbrev packet : List ℕ
packet = 0x10 ∷ 0x05 ∷ 0xc0 ∷ 0x00 ∷ 0x00 ∷ 0x00 ∷ 0xaa ∷ []

abbrev expected : ℕ → List ℕ
expected ns = 0x00 ∷ 0x2a ∷ 0x04 ∷ 0x0c ∷ ns ∷ 0xc0 ∷ packet

abbrev bypassing : List ℕ
bypassing = 0x20 ∷ 0x2a ∷ 0x04 ∷ 0x07 ∷ 0x00 ∷ 0xc3 ∷ 0xaa ∷ 0xbb ∷ []

whole-first : IsWhole (expected 0)
whole-first = record { each = octets (expected 0) refl; least = lit≤ tt; most = lit≤ tt; version = refl; spare = refl; named = refl }

whole-second : IsWhole (expected 1)
whole-second = record { each = octets (expected 1) refl; least = lit≤ tt; most = lit≤ tt; version = refl; spare = refl; named = refl }

whole-bypassing : IsWhole bypassing
whole-bypassing = record { each = octets bypassing refl; least = lit≤ tt; most = lit≤ tt; version = refl; spare = refl; named = refl }

-- ---- the journals

abbrev first : List Event
first = events.Frame (expected 0) ∷ []

abbrev released : List Event
released = events.Frame (expected 0) ∷ events.Release ∷ []

abbrev taken : List Event
taken = events.Frame (expected 0) ∷ events.Release ∷ events.Take 5 ∷ []

abbrev bypassed : List Event
bypassed = events.Frame (expected 0) ∷ events.Release ∷ events.Take 5 ∷ events.Frame bypassing ∷ []

abbrev last : List Event
last = events.Frame (expected 0) ∷ events.Release ∷ events.Take 5 ∷ events.Frame bypassing ∷ events.Frame (expected 1) ∷ []

-- ---- the lines

abbrev no_feed : List ℕ → Bool
no_feed [] = true
no_feed (x ∷ xs) = not (eqb x 10) && no_feed xs

one-line : (xs : List ℕ) → no_feed xs ≡ true → All (λ octet. octet ≢ 10) xs
one-line [] h k d inside = absurd (omega arith)
one-line (x ∷ xs) h zero d inside = λ e. (let is = eq-eqb x 10 e in let no = (both-true (not (eqb x 10)) (no_feed xs) h).0 in cc)
one-line (x ∷ xs) h (suc k) d inside = one-line xs (both-true (not (eqb x 10)) (no_feed xs) h).1 k d (omega arith)

line : (octets after : List ℕ) → no_feed octets ≡ true → IsFirstLine (octets ++ 10 ∷ after) octets after
line octets after h = record { one = one-line octets h; parts = inl refl; shorter = omega (arith, length-append octets (10 ∷ after)) }

abbrev IsDone : Progress → List ℕ → Progress → Option Answer → Type 0
IsDone old octets new answer = IsLineAnswered (IsPerformed 42) old octets new answer

abbrev framed : ℕ → ℕ → Answer
framed event queued = answers.Frame 1 (record { act = record { event = event; accepted = true }; delivery = record { queued = queued; dropped = 0; rest = false } })

abbrev release : Answer
release = answers.Release 1 (record { queued = 1; dropped = 0; rest = false })

channel-line : IsDone (SettingUp []) (codes "channel 1 10 2 0") (SettingUp (settings [] [] ∷ [])) None
unfolding line_of words
channel-line = (said.Channel 1 10 2 0 true, refl, ([], settings [] [] ∷ [], refl, (λ there. (let inside : there.0 < 0 = there.2 in omega arith), allowed-none, refl), refl), refl)

queue-line : IsDone (SettingUp (settings [] [] ∷ [])) (codes "queue 1 5 1") (SettingUp (settings (queue ∷ []) [] ∷ [])) None
unfolding line_of words
queue-line = (said.Queue 1 5 1, refl, (settings [] [] ∷ [], settings (queue ∷ []) [] ∷ [], refl, (0, settings [] [], (refl, refl), allowed-queue, refl), refl), refl)

map-line : IsDone (SettingUp (settings (queue ∷ []) [] ∷ [])) (codes "map 1 3 1") (SettingUp (all ∷ [])) None
unfolding line_of words
map-line = (said.Map 1 3 1, refl, (settings (queue ∷ []) [] ∷ [], all ∷ [], refl, (0, settings (queue ∷ []) [], (refl, refl), allowed-all, refl), refl), refl)

empty-line : IsDone (SettingUp (all ∷ [])) (codes "release 1") (at []) (Some (answers.Refused Empty))
unfolding line_of words run_within no_limits buffered_fields_within
empty-line = (said.Release 1, refl, ((λ e. cc), refl), (answers.Refused Empty, (rack [], rack [], refl, inl (0, channel [], channel [], (refl, refl), inr (refl, refl, refl), refl), refl), refl))

first-line : IsDone (at []) (codes "frame 002a040c00c01005c0000000aa") (at first) (Some (framed 1 0))
unfolding line_of words hex_on_literals run_within no_limits passed_on frame_reply_within
first-line = (said.Frame (expected 0), refl, ((λ e. cc), refl), (framed 1 0, (rack [], rack first, refl, inl (expected 0, (whole-first, refl), refl, (0, channel [], channel first, (refl, refl), (refl, refl), refl)), refl), refl))

release-line : IsDone (at first) (codes "release 1") (at released) (Some release)
unfolding line_of words run_within no_limits passed_on release_reply_within buffered_fields_within
release-line = (said.Release 1, refl, ((λ e. cc), refl), (release, (rack first, rack released, refl, inl (0, channel first, channel released, (refl, refl), inl ((λ e. (let one : (0xc0 ∷ packet) ∷ [] ≡ [] = e in cc)), refl, refl), refl), refl), refl))

take-line : IsDone (at released) (codes "take 1 5") (at taken) (Some (answers.Take 1 5 packet))
unfolding line_of words run_within no_limits passed_on waiting_packets_within
take-line = (said.Take 1 5, refl, ((λ e. cc), refl), (answers.Take 1 5 packet, (rack released, rack taken, refl, inl (0, channel released, channel taken, (refl, refl), inl (packet, refl, refl, refl), refl), refl), refl))

no-queue-line : IsDone (at taken) (codes "take 1 6") (at taken) (Some (answers.Refused NoQueue))
unfolding line_of words run_within no_limits passed_on waiting_packets_within
no-queue-line = (said.Take 1 6, refl, ((λ e. cc), refl), (answers.Refused NoQueue, (rack taken, rack taken, refl, inl (0, channel taken, channel taken, (refl, refl), inr (inl (refl, refl), refl), refl), refl), refl))

no-map-line : IsDone (at taken) (codes "unit 1 4") (at taken) (Some (answers.Refused NoMap))
unfolding line_of words run_within no_limits passed_on waiting_units_within
no-map-line = (said.Unit 1 4, refl, ((λ e. cc), refl), (answers.Refused NoMap, (rack taken, rack taken, refl, inl (0, channel taken, channel taken, (refl, refl), inr (inl (refl, refl), refl), refl), refl), refl))

bypass-line : IsDone (at taken) (codes "frame 202a040700c3aabb") (at bypassed) (Some (framed 6 1))
unfolding line_of words hex_on_literals run_within no_limits passed_on frame_reply_within
bypass-line = (said.Frame bypassing, refl, ((λ e. cc), refl), (framed 6 1, (rack taken, rack bypassed, refl, inl (bypassing, (whole-bypassing, refl), refl, (0, channel taken, channel bypassed, (refl, refl), (refl, refl), refl)), refl), refl))

second-line : IsDone (at bypassed) (codes "frame 002a040c01c01005c0000000aa") (at last) (Some (framed 1 0))
unfolding line_of words hex_on_literals run_within no_limits passed_on frame_reply_within
second-line = (said.Frame (expected 1), refl, ((λ e. cc), refl), (framed 1 0, (rack bypassed, rack last, refl, inl (expected 1, (whole-second, refl), refl, (0, channel bypassed, channel last, (refl, refl), (refl, refl), refl)), refl), refl))

-- ---- the report

-- the queue of packets before the take
abbrev waiting : Queue
waiting = record { key = 5; capacity = 1; admitted = packet ∷ []; taken = 0 }

lawful : IsLawful all last
unfolding IsLawfulWithin no_limits passed_on some_of_first
lawful = ((whole-first, refl), (lit< tt, ((0, waiting, lit< tt, refl, (refl, lit< tt)), ((whole-bypassing, refl), ((whole-second, refl), tt)))))

reported : IsScriptReport 42 (at last) (codes "final 1 01040202 events 5 buffered 1\nqueue 1 5 0\nmap 1 3 1\n")
unfolding run_within no_limits passed_on waiting_packets_within waiting_units_within buffered_fields_within clcw_within digits encode_with
reported =
    let own : History = record { settings = all; journal = last } in
    inr (
      own ∷ [],
      record { moves = []; below = tt; is = refl },
      record {
        ordered = one-rising own;
        reported = one-of IsNumberReported own (lit< tt);
        lawful = one-of IsLawfulHistory own (allowed-all, lawful);
        written = refl;
      },
    )

-- ---- the lines, and the octets of the script that are left after each number of them

abbrev lines : List (List ℕ)
lines =
    codes "channel 1 10 2 0" ∷ codes "queue 1 5 1" ∷ codes "map 1 3 1" ∷ codes "release 1" ∷ codes "frame 002a040c00c01005c0000000aa" ∷ codes "release 1"
    ∷ codes "take 1 5" ∷ codes "take 1 6" ∷ codes "unit 1 4" ∷ codes "frame 202a040700c3aabb" ∷ codes "frame 002a040c01c01005c0000000aa" ∷ []

abbrev ended : List ℕ → List ℕ
ended octets = octets ++ 10 ∷ []

abbrev from : ℕ → List ℕ
from count = flat_map ended (drop count lines)

abbrev all_answers : List (Option Answer)
all_answers =
    None ∷ None ∷ None ∷ Some (answers.Refused Empty) ∷ Some (framed 1 0) ∷ Some release ∷ Some (answers.Take 1 5 packet)
    ∷ Some (answers.Refused NoQueue) ∷ Some (answers.Refused NoMap) ∷ Some (framed 6 1) ∷ Some (framed 1 0) ∷ []

-- the first `count` lines are answered

abbrev AreDone : ℕ → Progress → Type 0
AreDone count stage = AreAnswers (IsPerformed 42) example.script (take count all_answers) stage (from count)

one-more-done : (count : ℕ) (old new : Progress) → count < 11 → no_feed (get_or lines count []) ≡ true → AreDone count old → IsDone old (get_or lines count []) new (get_or all_answers count None) → AreDone (count + 1) new
one-more-done count old new lt plain before answered =
    let after = from (count + 1) in
    let left : from count ≡ get_or lines count [] ++ 10 ∷ from (count + 1) = at_drop_more (flat_map ended) lines count [] lt ∙ append_assoc (get_or lines count []) (10 ∷ []) after in
    let next : IsFirstLine (from count) (get_or lines count []) (from (count + 1)) = subst (λ (rest : List ℕ). IsFirstLine rest (get_or lines count []) after) (sym left) (line (get_or lines count []) after plain) in
    subst (λ (reported : List (Option Answer)). AreAnswers (IsPerformed 42) example.script reported new after) (sym (take_more all_answers count None lt))
    (one_more {answers = take count all_answers} {answer = get_or all_answers count None} before next answered)

done : AreDone 11 (at last)
done =
    one-more-done 10 (at bypassed) (at last) (lit< tt) refl
    (one-more-done 9 (at taken) (at bypassed) (lit< tt) refl
    (one-more-done 8 (at taken) (at taken) (lit< tt) refl
    (one-more-done 7 (at taken) (at taken) (lit< tt) refl
    (one-more-done 6 (at released) (at taken) (lit< tt) refl
    (one-more-done 5 (at first) (at released) (lit< tt) refl
    (one-more-done 4 (at []) (at first) (lit< tt) refl
    (one-more-done 3 (SettingUp (all ∷ [])) (at []) (lit< tt) refl
    (one-more-done 2 (SettingUp (settings (queue ∷ []) [] ∷ [])) (SettingUp (all ∷ [])) (lit< tt) refl
    (one-more-done 1 (SettingUp (settings [] [] ∷ [])) (SettingUp (settings (queue ∷ []) [] ∷ [])) (lit< tt) refl
    (one-more-done 0 (SettingUp []) (SettingUp (settings [] [] ∷ [])) (lit< tt) refl at_first channel-line)
    queue-line) map-line) empty-line) first-line) release-line) take-line) no-queue-line) no-map-line) bypass-line) second-line

pub returns : goal.returns
unfolding digits encode_with
returns c = (all_answers, at last, codes "final 1 01040202 events 5 buffered 1\nqueue 1 5 0\nmap 1 3 1\n", done, reported, refl)
