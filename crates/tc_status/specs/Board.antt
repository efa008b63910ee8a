-- The board of a channel: one word, which is the CLCW (CCSDS 232.0-B, 4.2) of the published history, and the histories
-- that are known at each seat.
use Rattle.std.specs.Prelude.{◌≡◌, ℕ, List, [], ◌∷◌, true, false}
use mathlib.Core.Option.{some}
use mathlib.Core.List.{IsPrefix}
use lib.ListN.{get_elem?}
use Rattle.atomic_table.specs.Table.{Me}
use Rattle.atomic_table.specs.Seated.{TableId}
use Rattle.tc_link.specs.declared.Link.{Link}
use Rattle.tc_queues.specs.Settings.{IsAllowed}
use Rattle.tc_channel.specs.Journal.{History}
use Rattle.tc_channel.specs.Run.{IsLawful}
use Rattle.tc_channel.specs.Reply.{clcw}
use Rattle.tc_status.specs.declared.board.View.{View}

-- the view of a publisher in contracts: its board, and the settings and the journal that it has published
pub record Publishing : Type 0 where
  pub board : TableId
  pub published : History

-- the view of a watcher in contracts: its board, and the settings and the journal that it has seen
pub record Watching : Type 0 where
  pub board : TableId
  pub seen : History

-- the settings are equal, and the old journal is a beginning of the new one
abbrev pub IsEarlier : History → History → Type 0
IsEarlier old new = (new.settings ≡ old.settings) × IsPrefix old.journal new.journal

-- The flags of the link, both 0. The reader of the word knows these flags, and the channel doesn't.
abbrev pub no_flag : Link
no_flag = record { no_rf = false; no_bit_lock = false }

-- the CLCW with both link flags 0
abbrev pub status_word : History → ℕ
status_word h = clcw h.settings h.journal no_flag

-- the view of a seat that has seen this history, and to which no other was reported
abbrev pub view : History → View
view h = record { live = true; seen = h; reported = h }

-- a blank history, which fills a field that has no history to hold
abbrev pub no_history : History
no_history = record { settings = record { vcid = 0; width = 0; buffer = 0; first = 0; segmented = true; queues = []; maps = [] }; journal = [] }

-- the view that is left of a seat that was joined to another
abbrev pub spent : View
spent = record { live = false; seen = no_history; reported = no_history }

-- the view of the first seat after it learned the history that the second has seen
abbrev pub with_reported : View → View → View
with_reported v w = record v { reported = w.seen }

-- the histories that a live seat has seen, and that were reported to it, are beginnings of the published one
abbrev pub IsBehind : History → View → Type 0
IsBehind published v = v.live ≡ true → IsEarlier v.seen published × IsEarlier v.reported published

-- The facts about a board that hold at every moment. The first seat is the publisher's, the word is that of the
-- published history, and no live seat is ahead of this history.
pub record IsBoard (words : List ℕ) (views : List View) : Type 0 where
  pub publisher : View
  pub first : get_elem? views 0 ≡ some publisher
  pub live : publisher.live ≡ true
  pub allowed : IsAllowed publisher.seen.settings
  pub lawful : IsLawful publisher.seen.settings publisher.seen.journal
  pub word : words ≡ status_word publisher.seen ∷ []
  pub behind : (id : ℕ) (v : View) → get_elem? views id ≡ some v → IsBehind publisher.seen v

-- A load found the word of a lawful history that begins with the one that the seat had seen. The seat has then seen
-- this history.
pub record IsRead (before : Me Unit View) (found : ℕ) (after : Me Unit View) : Type 0 where
  pub seat : after ≡ (view after.0.seen, before.1)
  pub allowed : IsAllowed after.0.seen.settings
  pub lawful : IsLawful after.0.seen.settings after.0.seen.journal
  pub word : found ≡ status_word after.0.seen
  pub later : IsEarlier before.0.seen after.0.seen

-- The reported history is a beginning of the history that was seen. The history that was seen then replaces the
-- reported one.
pub record IsCompared (before after : Me Unit View) : Type 0 where
  pub seat : after ≡ (view before.0.seen, before.1)
  pub later : IsEarlier before.0.reported before.0.seen

-- The board has one word. The seat is at this board, is live and has no slot. Its reported history is the one that it
-- has seen.
pub record IsSeated (board seat : TableId) (me : Me Unit View) : Type 0 where
  pub same : seat ≡ board
  pub one_word : board.words ≡ 1
  pub view : me ≡ (view me.0.seen, [])
