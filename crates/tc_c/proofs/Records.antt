-- If a FARM-1 can be read from a record, it is the record of that FARM-1.
use Rattle.tc_c.proofs.Names.{rules, arith, ◌≡◌, ℕ, ◌<◌, Bool, true, Result, Ok, Err, refl, if◌then◌else◌, common_steps, Report, Machine, BadWidth, IsFarm, is_width, with_ok, report_of, farm_of, agrees}
use Rattle.tc_link.specs.Window.{IsWidth}
use Rattle.tc_c_base.specs.declared.status.Status.{Status}
use Rattle.tc_c.specs.declared.farm.FarmRecord.{FarmRecord}

pub few : (kept : FarmRecord) (report : Report) → report_of kept ≡ Ok report → report.farm_b < 4
few kept report e = search (rules, arith) steps 1000000

pub agreed : (kept : FarmRecord) (report : Report) → report_of kept ≡ Ok report → agrees report.state report.lockout report.wait report.retransmit ≡ true
agreed kept report e = grind (arith, common_steps) steps 1000000

-- if a FARM-1 can be read, its width is the given one and is allowed, and its components can be read
parted : (w : Bool) (r : Result Report Status) (width : ℕ) (farm : Machine)
    → (if w then with_ok r (λ report. Ok (record { width = width; report = report })) else Err BadWidth) ≡ Ok farm
    → (w ≡ true) × (r ≡ Ok farm.report) × (farm.width ≡ width)
parted true (Ok report) width farm e = (refl, cc, cc)
parted _ _ width farm e = absurd cc

pub wide : (width : ℕ) → is_width width ≡ true → IsWidth width
wide width e = grind (arith, common_steps) steps 1000000

pub read : (kept : FarmRecord) (farm : Machine) → farm_of kept ≡ Ok farm → IsFarm farm
read kept farm e =
    let parts = parted (is_width kept.width) (report_of kept) kept.width farm e in
    record { width = rw parts.2 (wide kept.width parts.0); farm_b = few kept farm.report parts.1; flags = agreed kept farm.report parts.1 }
