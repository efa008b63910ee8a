-- The results of taking an item, which depend on the items that wait.
use Rattle.std.proofs.Common.{◌≡◌, ℕ, ◌<◌, ◌≤◌, Bool, true, false, cond, List, [], ◌∷◌, length, nat_lt, Option, Some, None, refl, sym, ap, arith}
use Rattle.std.proofs.lemmas.Bool.Decides.{nat_tests}
use Rattle.std.specs.Prelude.{slice_get, ◌↔◌, IsErrAnd, IsErrOf, Result, Ok, Err}
use Rattle.std.specs.Option.{option_and_then}
use Rattle.tc_queues.specs.Copying.{copied_out}
use Rattle.tc_queues.specs.declared.reply.NotCopied.{NotCopied}
use Rattle.tc_queues.specs.declared.reply.NotCopied.TheVariants.{NoRoom}
use Rattle.tc_fixed.specs.Taking.{IsOver, packet_fault_of, unit_fault_of}
use Rattle.tc_fixed.specs.declared.faults.NothingTaken.{NothingTaken}
use Rattle.tc_fixed.specs.declared.faults.NothingTaken.TheVariants as taking
use Rattle.tc_fixed.specs.declared.faults.NoUnitTaken.{NoUnitTaken}
use Rattle.tc_fixed.specs.declared.faults.NoUnitTaken.TheVariants as unit_taking

-- the oldest of the items that wait, if there is a queue and an item in it
abbrev pub oldest : Option (List (List ℕ)) → Option (List ℕ)
oldest items = option_and_then (λ xs. slice_get xs 0) items

-- the result of taking an item, from the result of copying it
abbrev pub answer_by : {F : Type 0} → (NotCopied → F) → Result ℕ NotCopied → Result ℕ F
answer_by fault (Ok count) = Ok count
answer_by fault (Err why) = Err (fault why)

pub fault-answered : {F : Type 0} (fault : NotCopied → F) (reply : Result ℕ NotCopied) (why : NotCopied) (answer : Result ℕ F) → reply ≡ Err why → IsErrAnd answer (λ e. e ≡ fault why) → answer ≡ answer_by fault reply
fault-answered fault reply why (Err e) was is = rw was (ap (λ x. Err x) is)
fault-answered fault reply why (Ok count) was is = absurd is

-- `NoQueue` is returned if and only if there is no queue, `Empty` if and only if the queue is empty, and `NoRoom` if and
-- only if the oldest packet is longer than the room. `NoRoom` gives the length of this packet.
pub record Says (room : ℕ) (waiting : Option (List (List ℕ))) (answer : Result ℕ NothingTaken) : Type 0 where
  pub no_queue : IsErrOf answer taking.NoQueue ↔ (waiting ≡ None)
  pub empty : IsErrOf answer taking.Empty ↔ (waiting ≡ Some [])
  pub no_room : (needed : ℕ) → IsErrOf answer (taking.NoRoom needed) ↔ IsOver room needed (oldest waiting)

by-packet : (room : ℕ) (waiting : Option (List (List ℕ))) → Says room waiting (answer_by packet_fault_of (copied_out room waiting))
by-packet room None = record { no_queue = (λ e. refl, λ e. refl); empty = (λ e. absurd cc, λ e. absurd cc); no_room = λ needed. (λ e. absurd cc, λ over. absurd over) }
by-packet room (Some []) = record { no_queue = (λ e. absurd cc, λ e. absurd cc); empty = (λ e. refl, λ e. refl); no_room = λ needed. (λ e. absurd cc, λ over. absurd over) }
by-packet room (Some (item ∷ later)) = by (nat_lt room (length item)) refl where
  by : (t : Bool) → nat_lt room (length item) ≡ t → Says room (Some (item ∷ later)) (answer_by packet_fault_of (cond t (Err (NoRoom (length item))) (Ok (length item))))
  by true is =
      let less : room < length item = grind (arith, nat_tests) in
      record { no_queue = (λ e. absurd cc, λ e. absurd cc); empty = (λ e. absurd cc, λ e. absurd cc); no_room = λ needed. (λ e. (less, let same : length item ≡ needed = cc in sym same), λ over. rw over.1 refl) }
  by false is =
      let most : length item ≤ room = grind (arith, nat_tests) in
      record { no_queue = (λ e. absurd cc, λ e. absurd cc); empty = (λ e. absurd cc, λ e. absurd cc); no_room = λ needed. (λ e. absurd cc, λ over. absurd (omega (arith, over.0, most))) }

pub packet-says : (room : ℕ) (waiting : Option (List (List ℕ))) (reply : Result ℕ NotCopied) (answer : Result ℕ NothingTaken) → reply ≡ copied_out room waiting → answer ≡ answer_by packet_fault_of reply → Says room waiting answer
packet-says room waiting reply answer reply_is is = rw (is, reply_is) (by-packet room waiting)

-- `NoMap` is returned if and only if there is no queue, `Empty` if and only if the queue is empty, and `NoRoom` if and
-- only if the oldest unit is longer than the room. `NoRoom` gives the length of this unit.
pub record SaysOfUnit (room : ℕ) (waiting : Option (List (List ℕ))) (answer : Result ℕ NoUnitTaken) : Type 0 where
  pub no_map : IsErrOf answer unit_taking.NoMap ↔ (waiting ≡ None)
  pub empty : IsErrOf answer unit_taking.Empty ↔ (waiting ≡ Some [])
  pub no_room : (needed : ℕ) → IsErrOf answer (unit_taking.NoRoom needed) ↔ IsOver room needed (oldest waiting)

by-unit : (room : ℕ) (waiting : Option (List (List ℕ))) → SaysOfUnit room waiting (answer_by unit_fault_of (copied_out room waiting))
by-unit room None = record { no_map = (λ e. refl, λ e. refl); empty = (λ e. absurd cc, λ e. absurd cc); no_room = λ needed. (λ e. absurd cc, λ over. absurd over) }
by-unit room (Some []) = record { no_map = (λ e. absurd cc, λ e. absurd cc); empty = (λ e. refl, λ e. refl); no_room = λ needed. (λ e. absurd cc, λ over. absurd over) }
by-unit room (Some (item ∷ later)) = by (nat_lt room (length item)) refl where
  by : (t : Bool) → nat_lt room (length item) ≡ t → SaysOfUnit room (Some (item ∷ later)) (answer_by unit_fault_of (cond t (Err (NoRoom (length item))) (Ok (length item))))
  by true is =
      let less : room < length item = grind (arith, nat_tests) in
      record { no_map = (λ e. absurd cc, λ e. absurd cc); empty = (λ e. absurd cc, λ e. absurd cc); no_room = λ needed. (λ e. (less, let same : length item ≡ needed = cc in sym same), λ over. rw over.1 refl) }
  by false is =
      let most : length item ≤ room = grind (arith, nat_tests) in
      record { no_map = (λ e. absurd cc, λ e. absurd cc); empty = (λ e. absurd cc, λ e. absurd cc); no_room = λ needed. (λ e. absurd cc, λ over. absurd (omega (arith, over.0, most))) }

pub unit-says : (room : ℕ) (waiting : Option (List (List ℕ))) (reply : Result ℕ NotCopied) (answer : Result ℕ NoUnitTaken) → reply ≡ copied_out room waiting → answer ≡ answer_by unit_fault_of reply → SaysOfUnit room waiting answer
unit-says room waiting reply answer reply_is is = rw (is, reply_is) (by-unit room waiting)
