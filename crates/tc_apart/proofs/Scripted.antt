-- The effect of a script's lines on one of its channels.
use Rattle.tc_apart.proofs.Names.{Answer, Answered, AreAnswers, AreApart, ArePerformed, Does, HasPerformed, IsAnswerOf, IsDoneSo, IsInstructionAnswered, IsOf, IsOneAtMost, IsPerformed, LeadsTo, Line, Linked, List, Operating, Operation, Option, Progress, Racked, SettingUp, Settings, Some, [], all-apart, ap, append-nil, at_first, filter, instruction_of, is_own, map, mapped-at, new_linked, new_rack, one_more, operation-ids, operation_in, operation_of, operations_of, performed-at, phase_of, rack-ids, rack_for, refl, same_Some, set-up, slice_get, subst, sym, unmapped, vcid_of, with_answer, ℕ, ◌++◌, ◌∙◌, ◌∷◌, ◌≡◌}
use Rattle.tc_apart.proofs.OneChannel.{AreAnsweredOn, all-kept, determined-all, seen-from}
use Rattle.tc_rack.specs.declared.operation.Operation.TheVariants as operations
use Rattle.tc_text.specs.declared.line.Line.TheVariants as asks

performed-more : (done : List Answered) (d : Answered) (old mid new : Racked) → ArePerformed done old mid → IsAnswerOf d.operation mid d.answer new → ArePerformed (done ++ d ∷ []) old new
performed-more [] d old mid new is a = (new, subst (λ (r : Racked). IsAnswerOf d.operation r d.answer new) is a, refl)
performed-more (x ∷ done) d old mid new (next, first, rest) a = (next, first, performed-more done d next mid new rest a)

performed-ids : (done : List Answered) (old new : Racked) → ArePerformed done old new → map vcid_of new.channels ≡ map vcid_of old.channels
performed-ids [] old new is = ap (λ (r : Racked). map vcid_of r.channels) is
performed-ids (d ∷ done) old new (next, first, rest) = performed-ids done next new rest ∙ operation-ids d.operation old next d.answer first

module _ (scid : ℕ) (script : List ℕ) where
  -- these are the operations that the script has performed so far
  abbrev IsSoFar : List Answered → Progress → Type 0
  IsSoFar done (SettingUp list) = done ≡ []
  IsSoFar done (Operating rack) = (list : List Settings) × LeadsTo scid script (SettingUp list) × ArePerformed done (new_rack scid list) rack

  on-new : (done : List Answered) (progress : Progress) → LeadsTo scid script progress → IsSoFar done progress
      → (list : List Settings) × LeadsTo scid script (SettingUp list) × ArePerformed done (new_rack scid list) (rack_for scid progress)
  on-new done (SettingUp list) way none = (list, way, subst (λ (ds : List Answered). ArePerformed ds (new_rack scid list) (new_rack scid list)) (sym none) refl)
  on-new done (Operating rack) way so = so

  -- lines that set channels up perform no operation
  set : (done : List Answered) (old new : Progress) (list longer : List Settings) → old ≡ SettingUp list → new ≡ SettingUp longer → IsSoFar done old → IsSoFar (done ++ []) new
  set done old new list longer was is so = subst (IsSoFar (done ++ [])) (sym is) (append-nil done ∙ subst (IsSoFar done) was so)

  operated : (done : List Answered) (operation : Operation) (old new : Progress) (answer : Option Answer) → LeadsTo scid script old → IsDoneSo (IsPerformed scid) operation old answer new → IsSoFar done old
      → IsSoFar (done ++ with_answer operation answer) new
  operated done operation old new answer way (a, performed, reported) so =
      let (rack, answered, is) = performed-at scid operation old new a performed in
      let (list, first, before) = on-new done old way so in
      let d : Answered = record { operation = operation; answer = a } in
      subst (λ (x : Option Answer). IsSoFar (done ++ with_answer operation x) new) (sym reported)
      (subst (IsSoFar (done ++ d ∷ [])) (sym is) (list, first, performed-more done d (new_rack scid list) (rack_for scid old) rack before answered))

  line-performed : (done : List Answered) (said : Line) (old new : Progress) (answer : Option Answer) → LeadsTo scid script old → Does (phase_of old) (instruction_of said) (phase_of new)
      → IsInstructionAnswered (IsPerformed scid) old (instruction_of said) new answer → IsSoFar done old → IsSoFar (done ++ operation_in said answer) new
  line-performed done asks.Blank old new answer way does a so = subst (IsSoFar (done ++ [])) (sym a.1) (subst (λ (ds : List Answered). IsSoFar ds old) (sym (append-nil done)) so)
  line-performed done (asks.Channel vcid width buffer first segmented) old new answer way (list, longer, was, adds, is) a so = set done old new list longer (set-up old list was) (set-up new longer is) so
  line-performed done (asks.Queue vcid apid capacity) old new answer way (list, longer, was, adds, is) a so = set done old new list longer (set-up old list was) (set-up new longer is) so
  line-performed done (asks.Map vcid map_id capacity) old new answer way (list, longer, was, adds, is) a so = set done old new list longer (set-up old list was) (set-up new longer is) so
  line-performed done (asks.Frame octets) old new answer way does a so = operated done (operations.Frame octets) old new answer way a so
  line-performed done (asks.Release vcid) old new answer way does a so = operated done (operations.Release vcid) old new answer way a so
  line-performed done (asks.Take vcid apid) old new answer way does a so = operated done (operations.Take vcid apid) old new answer way a so
  line-performed done (asks.Unit vcid map_id) old new answer way does a so = operated done (operations.Unit vcid map_id) old new answer way a so
  line-performed done (asks.Clcw vcid) old new answer way does a so = operated done (operations.Clcw vcid) old new answer way a so

  so-far : (answers : List (Option Answer)) (progress : Progress) (rest : List ℕ) (lines : AreAnswers (IsPerformed scid) script answers progress rest) → IsSoFar (operations_of lines) progress
  so-far answers progress rest at_first = refl
  so-far answers progress rest (one_more {answers = before} {stage = old} {rest = from} {answer = answer} lines next (said, is, does, a)) =
      line-performed (operations_of lines) said old progress answer (before, from, lines) does a (so-far before old from lines)

  -- the operations on a channel lead from a new channel with the same settings to this channel
  from-new : (all : List Answered) (list : List Settings) (rack : Racked) (vcid : ℕ) (channel : Linked) → ArePerformed all (new_rack scid list) rack → AreApart (map vcid_of rack.channels) → IsOf rack vcid (λ c. c ≡ channel)
      → AreAnsweredOn (filter (is_own vcid) all) (new_linked channel.history.settings) channel
  from-new all list rack vcid channel performed apart (p, last, at, is) =
      let ids = performed-ids all (new_rack scid list) rack performed in
      let (x, here, named) = unmapped vcid_of (map new_linked list) p vcid (ap (λ (l : List ℕ). slice_get l p) (sym ids) ∙ mapped-at vcid_of rack.channels p last at.0 ∙ ap (λ (v : ℕ). Some v) at.1) in
      let (s, listed, made) = unmapped new_linked list p x here in
      let (end, there, seen) = seen-from all (new_rack scid list) rack vcid p x (subst AreApart ids apart) (here, named) performed in
      let changes = subst (AreAnsweredOn (filter (is_own vcid) all) x) (same_Some end last (sym there.0 ∙ at.0) ∙ is) seen in
      let settings : s ≡ channel.history.settings = ap (λ (c : Linked). c.history.settings) made ∙ sym (all-kept (filter (is_own vcid) all) x channel changes) in
      subst (λ (c : Linked). AreAnsweredOn (filter (is_own vcid) all) c channel) (sym made ∙ ap new_linked settings) changes

  pub all-performed : (answers : List (Option Answer)) (progress : Progress) (rest : List ℕ) (lines : AreAnswers (IsPerformed scid) script answers progress rest)
      → (list : List Settings) × LeadsTo scid script (SettingUp list) × ArePerformed (operations_of lines) (new_rack scid list) (rack_for scid progress)
  all-performed answers progress rest lines = on-new (operations_of lines) progress (answers, rest, lines) (so-far answers progress rest lines)

  has-made : IsOneAtMost → (vcid : ℕ) (done : List Answered) (channel : Linked) → HasPerformed scid script vcid done channel → AreAnsweredOn done (new_linked channel.history.settings) channel
  has-made only vcid done channel (answers, progress, rest, lines, own, of) =
      let (list, first, performed) = all-performed answers progress rest lines in
      let apart = subst AreApart (sym (rack-ids scid progress)) (all-apart only scid script answers progress rest lines) in
      subst (λ (ds : List Answered). AreAnsweredOn ds (new_linked channel.history.settings) channel) (sym own) (from-new (operations_of lines) list (rack_for scid progress) vcid channel performed apart of)

pub both-performed : IsOneAtMost → (scid vcid : ℕ) (script another : List ℕ) (one other : List Answered) (channel last : Linked) → HasPerformed scid script vcid one channel
    → HasPerformed scid another vcid other last → channel.history.settings ≡ last.history.settings → map operation_of one ≡ map operation_of other → (one ≡ other) × (channel ≡ last)
both-performed only scid vcid script another one other channel last a b settings same =
    determined-all only one other (new_linked last.history.settings) channel last
    (subst (λ (s : Settings). AreAnsweredOn one (new_linked s) channel) settings (has-made scid script only vcid one channel a)) (has-made scid another only vcid other last b) same
