-- The cells of the table of FARM-1 (CCSDS 232.1-B, 6.3) that a unit may fill otherwise than this project does.
use Rattle.std.specs.Prelude.{◌≡◌, ◌⊎◌, ℕ, Bool, true, false, Option, Some, None}
use Rattle.tc_link.specs.declared.command.Kind.TheVariants.{Invalid}
use Rattle.tc_link.specs.declared.farm.State.{State}
use Rattle.tc_link.specs.declared.farm.State.TheVariants.{S1, S2, S3}
use Rattle.tc_link.specs.declared.farm.Report.{Report}
use Rattle.tc_link.specs.Farm.{Row, E3, E7, E8, entry, counted, frame_row}
use Rattle.tc_judge.specs.declared.account.Rules.{Rules}
use Rattle.tc_judge.specs.declared.account.SentFrame.{SentFrame}
use Rattle.tc_judge.specs.declared.account.SentFrame.TheVariants.{Known, OtherCommand}

-- The other entry of a cell, if there is one. In S2 a frame ahead may set Retransmit. Unlock may leave Retransmit as it
-- is. In S3 the FARM-B counter may stay as it is at a Set V(R). In S3 a release may also leave Wait as it is. This
-- needs no entry here, because the components are then the same as without a release.
abbrev pub other_at : Row → State → Report → Option Report
other_at E3 S2 r = Some (record r { retransmit = true })
other_at E7 S1 r = Some (counted r)
other_at E7 S2 r = Some (record (counted r) { state = S1; wait = false })
other_at E7 S3 r = Some (record (counted r) { state = S1; wait = false; lockout = false })
other_at (E8 x) S3 r = Some r
other_at _ _ r = None

-- the components after a frame, by this project's table, if it has an entry
abbrev pub usual : ℕ → SentFrame → Bool → Report → Option Report
usual width (Known kind) room r = entry (frame_row width r.vr kind room) r
usual width OtherCommand room r = entry (frame_row width r.vr Invalid room) r

-- The components after a frame, by the other entry of its cell, if there is one. The cells of E1 and E2 have none, so it
-- doesn't matter whether there is room.
abbrev pub other : ℕ → SentFrame → Report → Option Report
other width (Known kind) r = other_at (frame_row width r.vr kind false) r.state r
other width OtherCommand r = Some (counted r)

-- a frame that comes may lead from components `r` to components `new`
abbrev pub Leads : Rules → SentFrame → Bool → Report → Report → Type 0
Leads rules frame room r new =
    (usual rules.window frame room r ≡ Some new) ⊎ ((rules.profile ≡ false) × (other rules.window frame r ≡ Some new))
