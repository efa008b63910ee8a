-- A configuration has none of the faults that the settings of a station may have, except that it may be empty. A new
-- station has the ids of its settings.
use Rattle.std.proofs.Common.{◌≡◌, ℕ, ◌<◌, List, length, get_or, sym, ap, ◌∙◌, subst, arith, All}
use Rattle.tc_cli.proofs.Names.{Roster, Settings, get_or_from_slice_get, length-map, slice_get_within}
use Rattle.std.proofs.lemmas.List.{get_or-map, get_or-take, get_or_default, length-take}
use Rattle.tc_queues.specs.declared.settings.SettingsFault.{SettingsFault}
use Rattle.tc_queues.specs.Settings.{IsAllowed, IsFault}
use Rattle.tc_station.specs.StationSettings.{HaveDistinctVcids, IsFirstDouble, IsFirstRefused, vcids_of}
use Rattle.tc_cli.specs.Parting.{IsNewStation}
use Rattle.tc_cli.specs.Watched.{IsOrdered}
use Rattle.tc_cli.proofs.Lists.{element}

-- in a list with distinct ids, no entry repeats the id of an earlier one
pub no-double : (list : List Settings) (vcid : ℕ) → HaveDistinctVcids list → IsFirstDouble list vcid → ⊥
no-double list vcid distinct (i, s, at, v, before, (k, t, kt, is, tv)) =
    let ki : k < i = omega (arith, length-take i list) in
    let il : i < length list = slice_get_within list i s at in
    let there : get_or list k s ≡ t = get_or_default list k s t (omega arith) ∙ (sym (get_or-take i list k t ki) ∙ is) in
    distinct k i s ki il (ap (λ (u : Settings). u.vcid) there ∙ (tv ∙ (sym v ∙ sym (ap (λ (u : Settings). u.vcid) (get_or_from_slice_get list i s s at)))))

-- if allowed settings have no fault, a list of them has no first refused entry
pub no-refusal : (no_fault : (s : Settings) (f : SettingsFault) → IsAllowed s → IsFault s f → ⊥) (list : List Settings) (vcid : ℕ) (f : SettingsFault) → All IsAllowed list → IsFirstRefused list vcid f → ⊥
no-refusal no_fault list vcid f allowed (i, s, at, v, fault, before) =
    no_fault s f (subst IsAllowed (get_or_from_slice_get list i s s at) (allowed i s (slice_get_within list i s at))) fault

-- a new station has the ids of its settings, which are all different
pub new-ordered : (scid : ℕ) (list : List Settings) (station : Roster) → IsNewStation scid list station → IsOrdered station
new-ordered scid list station new = record {
  named = ap vcids_of new.settings ∙ sym new.vcids;
  distinct = λ i j d lt inside same.
      let within : j < length list = omega (arith, inside, ap (length {A = ℕ}) new.vcids, length-map list (λ (s : Settings). s.vcid)) in
      let there = element list j within in
      let at : (k : ℕ) → k < length list → get_or station.vcids k d ≡ (get_or list k there.0).vcid =
      λ k lt'. ap (λ (l : List ℕ). get_or l k d) new.vcids ∙ get_or-map (λ (s : Settings). s.vcid) list k there.0 d lt' in
      new.distinct i j there.0 lt within (sym (at i (omega (arith, lt, within))) ∙ (same ∙ at j within));
}
