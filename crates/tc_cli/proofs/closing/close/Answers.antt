use Rattle.std.proofs.Common.{◌≡◌, ℕ, List, inl, inr, refl, rules, subst, sym}
use Rattle.std.proofs.lemmas.List.Sorted.{IsNonDecreasingBy-from_sort_by_key, All-permutation}
use Rattle.tc_rack.specs.Report.{vcid_of}
use Rattle.tc_channel.specs.Journal.{IsNumberReported}
use Rattle.tc_cli.proofs.Names.{AtStation, IsScriptCloseFault, Roster, ScriptFault}
use Rattle.tc_cli.proofs.Sessions.{closed-reported}
use Rattle.tc_cli.specs.Script.{close_fault}
use Rattle.tc_desk.specs.declared.together.Refusal.{Refusal}
use Rattle.tc_desk.specs.declared.together.Refusal.TheVariants as refusals
use Rattle.tc_station.specs.Together.{IsCauseAtStation}
use Rattle.tc_cli.proofs.closing.close.Goals as goal

pub returns-in-Ok-clause-closed : goal.returns-in-Ok-clause-closed
returns-in-Ok-clause-closed c = record {
  there = c.in-Ok.channels.items;
  closed = c.in-Ok.ensures.closed;
  all = c.sort_unstable_by_key.ensures.permutation;
  ordered = IsNonDecreasingBy-from_sort_by_key vcid_of _ c.sort_unstable_by_key.ensures.sorted (λ a r q k. search rules);
}

pub returns-in-Ok-clause-reported : goal.returns-in-Ok-clause-reported
returns-in-Ok-clause-reported c =
    All-permutation IsNumberReported _ _ c.sort_unstable_by_key.ensures.permutation (closed-reported c.args.station c.args.operators.items c.in-Ok.channels.items c.in-Ok.ensures.closed)

-- a refusal is reported as a fault of the script
reported-so : (station : Roster) (operators : List AtStation) (lines : ℕ) (refusal : Refusal) → (refusal ≡ refusals.Unbalanced → IsCauseAtStation station operators)
    → IsScriptCloseFault station operators lines (close_fault lines refusal)
reported-so station operators lines refusals.NoMemory cause = inr refl
reported-so station operators lines refusals.InUse cause = inr refl
reported-so station operators lines refusals.Unbalanced cause = inl (refl, cause refl)

pub returns-in-Err-clause-fault : goal.returns-in-Err-clause-fault
returns-in-Err-clause-fault c =
    subst (IsScriptCloseFault c.args.station c.args.operators.items c.args.lines) (sym c.fault_of.ensures)
    (reported-so c.args.station c.args.operators.items c.args.lines c.in-Err.left.refusal c.in-Err.ensures.cause)
