-- The report value of a CLCW shows how many Type-AD frames were accepted in its era.
use Rattle.tc_channel.proofs.Names.{◌≡◌, ℕ, ◌+◌, ◌<◌, List, length, ap, ◌∙◌, arith, Report, Settings, Event, run_within, IsLawfulWithin}
use Rattle.std.specs.Prelude.{◌%◌}
use Rattle.tc_link.specs.declared.Link.{Link}
use Rattle.tc_link.specs.declared.ClcwFields.{ClcwFields}
use Rattle.tc_link.specs.Clcw.{word_of, fields_of, reported}
use Rattle.tc_queues.specs.Settings.{IsAllowed}
use Rattle.tc_channel.specs.Reply.{clcw_within}
use Rattle.tc_channel.specs.Era.{IsEraWithin, accepted_since_within}
use Rattle.tc_channel.proofs.Eras.{era-law}
use Rattle.tc_channel.proofs.Small.{vr-below, run-counter}

pub acknowledged : ((r : Report) (vcid : ℕ) (link : Link) → vcid < 64 → r.farm_b < 4 → r.vr < 256 → fields_of (word_of r vcid link) ≡ reported r vcid link)
    → (limits : ℕ → ℕ) (s : Settings) (journal before later : List Event) (x : ℕ) (link : Link) → IsAllowed s → IsLawfulWithin limits s journal → IsEraWithin limits s journal before later x
    → (fields_of (clcw_within limits s journal link)).vr ≡ (x + length (accepted_since_within limits s before journal)) % 256
unfolding clcw_within
acknowledged back limits s journal before later x link allowed lawful era =
    let id = allowed.vcid in
    ap (λ (f : ClcwFields). f.vr) (back (run_within limits s journal).report s.vcid link (omega arith) (run-counter limits s journal) (vr-below limits s journal allowed.first lawful))
    ∙ (era-law limits s journal allowed lawful before later x era).vr
