-- CLCWs of a record of FARM-1, and their fields as a record of numbers.
use Rattle.std.specs.Prelude.{ℕ, Result, Ok, Err, nat_lt, if◌then◌else◌}
use Rattle.tc_link.specs.Bits.{bit}
use Rattle.tc_link.specs.declared.clcw.ClcwFields.{ClcwFields}
use Rattle.tc_link.specs.Clcw.{word_of}
use Rattle.tc_c_base.specs.declared.status.Status.{Status}
use Rattle.tc_c_base.specs.declared.status.Status.TheVariants.{Done, BadVcid, NoClcw}
use Rattle.tc_c.specs.declared.farm.FarmRecord.{FarmRecord}
use Rattle.tc_c.specs.declared.clcw.ClcwFieldsRecord.{ClcwFieldsRecord}
use Rattle.tc_c_base.specs.Status.{code_of}
use Rattle.tc_c.specs.Farm.{with_ok, flag_of, farm_of}

-- the CLCW, or the first reason why there is none, in the order below
abbrev pub clcw_or_status : FarmRecord → ℕ → ℕ → ℕ → Result ℕ Status
clcw_or_status kept vcid no_rf no_bit_lock =
    with_ok (farm_of kept) (λ farm.
    if nat_lt 63 vcid then Err BadVcid else
    with_ok (flag_of no_rf) (λ rf.
    with_ok (flag_of no_bit_lock) (λ lock.
    Ok (word_of farm.report vcid (record { no_rf = rf; no_bit_lock = lock })))))

abbrev pub fields_record : ClcwFields → ClcwFieldsRecord
fields_record fields = record {
  status = code_of Done;
  status_field = fields.status;
  vcid = fields.vcid;
  no_rf = bit fields.link.no_rf;
  no_bit_lock = bit fields.link.no_bit_lock;
  lockout = bit fields.lockout;
  wait = bit fields.wait;
  retransmit = bit fields.retransmit;
  farm_b = fields.farm_b;
  vr = fields.vr;
}

abbrev pub no_clcw : ClcwFieldsRecord
no_clcw = record {
  status = code_of NoClcw;
  status_field = 0;
  vcid = 0;
  no_rf = 0;
  no_bit_lock = 0;
  lockout = 0;
  wait = 0;
  retransmit = 0;
  farm_b = 0;
  vr = 0;
}
