-- The two flags of the link have bits of their own, so that another crate can set them in a word that was read.
use Rattle.std.proofs.Common.{◌≡◌, ℕ, ◌+◌, ◌*◌, ◌^◌, refl, arith}
use Rattle.tc_link.specs.declared.farm.Report.{Report}
use Rattle.tc_link.specs.declared.clcw.Link.{Link}
use Rattle.tc_link.specs.Bits.{bit}
use Rattle.tc_link.specs.Clcw.{word_of}
use Rattle.tc_channel.specs.Journal.{History}
use Rattle.tc_channel.specs.Run.{run}
use Rattle.tc_channel.specs.Reply.{clcw, clcw_within}
use Rattle.tc_status.specs.Board.{no_flag, status_word}

word-flags : (r : Report) (vcid : ℕ) (link none : Link) → bit none.no_rf ≡ 0 → bit none.no_bit_lock ≡ 0 → word_of r vcid link ≡ word_of r vcid none + bit link.no_rf * 2 ^ 15 + bit link.no_bit_lock * 2 ^ 14
word-flags r vcid link none no_rf no_bit_lock = omega arith

pub clcw-flags : (h : History) (link : Link) → clcw h.settings h.journal link ≡ status_word h + bit link.no_rf * 2 ^ 15 + bit link.no_bit_lock * 2 ^ 14
unfolding clcw_within
clcw-flags h link = word-flags (run h.settings h.journal).report h.settings.vcid link no_flag refl refl
