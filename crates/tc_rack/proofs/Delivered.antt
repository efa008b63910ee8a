-- Queues are emptied one after the other, and each item that is taken is reported.
use Rattle.tc_rack.proofs.Names.{◌≡◌, ◌≢◌, ℕ, ◌+◌, ◌<◌, List, [], ◌∷◌, ◌++◌, length, take, get_or, Option, refl, sym, ap, ◌∙◌, subst, append_assoc, append-nil, arith, Appends-nil, Appends-trans, get_or-map, length-map, take_more, Appends, Answer, QueueId, Packets, Units, Settings, QueueSetting, MapSetting, AreEmptied, AreEmpty, AreTakenFrom, AreAnswersWritten, IsHandedOn, IsTakenFrom, packet_queues, queues_of, reported_line, reported_lines, unit_queues, waiting_in, Linked, reported_word}
use Rattle.std.proofs.lemmas.Grind.{flat_map-append}
use Rattle.tc_rack.proofs.Waiting.{stays-empty}

-- ---- the lines that are written

reported-more : (a b c : Option (List ℕ)) (one two : List Answer) → Appends a b (reported_lines one) → Appends b c (reported_lines two) → Appends a c (reported_lines (one ++ two))
reported-more a b c one two first second = subst (Appends a c) (sym (flat_map-append reported_line one two)) (Appends-trans a b c _ _ first second)

one-reported : (a b : Option (List ℕ)) (answer : Answer) → Appends a b (reported_line answer) → Appends a b (reported_lines (answer ∷ []))
one-reported a b answer written = subst (Appends a b) (sym (append-nil (reported_line answer))) written

-- ---- one queue

taken-more : (queue : QueueId) (old between new : Linked) (answers : List Answer) (answer : Answer)
    → AreTakenFrom queue old answers between → IsTakenFrom queue between answer new → AreTakenFrom queue old (answers ++ answer ∷ []) new
taken-more queue old between new [] answer none one = (new, subst (λ x. IsTakenFrom queue x answer new) none one, refl)
taken-more queue old between new (first ∷ answers) answer (next, here, rest) one = (next, here, taken-more queue next between new answers answer rest one)

-- `count` items of the queue were taken, and the answers to the takes were written
pub record IsSoFar (queue : QueueId) (first now : Linked) (a b : Option (List ℕ)) (count : ℕ) : Type 0 where
  pub reported : AreAnswersWritten a b (λ answers. AreTakenFrom queue first answers now)
  pub left : length (waiting_in queue now) + count ≡ length (waiting_in queue first)
  pub settings : now.history.settings ≡ first.history.settings

pub none-taken : (queue : QueueId) (first : Linked) (a : Option (List ℕ)) → IsSoFar queue first first a a 0
none-taken queue first a = record { reported = ([], refl, Appends-nil a); left = omega arith; settings = refl }

pub one-more-taken : (queue : QueueId) (first now new : Linked) (a b c : Option (List ℕ)) (count : ℕ) (answer : Answer) → IsSoFar queue first now a b count
    → IsTakenFrom queue now answer new → length (waiting_in queue new) + 1 ≡ length (waiting_in queue now) → new.history.settings ≡ now.history.settings
    → Appends b c (reported_line answer) → IsSoFar queue first new a c (count + 1)
one-more-taken queue first now new a b c count answer so_far one less settings written =
    let reported = so_far.reported in
    let left = so_far.left in
    record {
      reported = (reported.0 ++ answer ∷ [], taken-more queue first now new reported.0 answer reported.1 one, reported-more a b c reported.0 (answer ∷ []) reported.2 (one-reported b c answer written));
      left = omega arith;
      settings = settings ∙ so_far.settings;
    }

none-long : (items : List (List ℕ)) → length items ≡ 0 → items ≡ []
none-long [] e = refl
none-long (item ∷ items) e = absurd (omega arith)

pub all-taken : (queue : QueueId) (first now : Linked) (a b : Option (List ℕ)) (count : ℕ) → IsSoFar queue first now a b count → count ≡ length (waiting_in queue first)
    → AreAnswersWritten a b (λ answers. AreTakenFrom queue first answers now × (waiting_in queue now ≡ []))
all-taken queue first now a b count so_far all =
    let reported = so_far.reported in
    let left = so_far.left in
    (reported.0, (reported.1, none-long (waiting_in queue now) (omega arith)), reported.2)

pub some-left : (queue : QueueId) (first now : Linked) (a b : Option (List ℕ)) (count : ℕ) → IsSoFar queue first now a b count → count < length (waiting_in queue first) → waiting_in queue now ≢ []
some-left queue first now a b count so_far less = λ none. let left = so_far.left in let zero : length (waiting_in queue now) ≡ 0 = ap length none in absurd (omega arith)

-- ---- one queue after the other

emptied-one : (queue : QueueId) (old new : Linked) (answers : List Answer) → AreTakenFrom queue old answers new → waiting_in queue new ≡ [] → AreEmptied (queue ∷ []) old answers new
emptied-one queue old new answers taken empty = (new, answers, [], taken, empty, (refl, refl), sym (append-nil answers))

emptied-more : (queues more : List QueueId) (old between new : Linked) (one two : List Answer)
    → AreEmptied queues old one between → AreEmptied more between two new → AreEmptied (queues ++ more) old (one ++ two) new
emptied-more [] more old between new one two (none, same) rest =
    subst (λ (xs : List Answer). AreEmptied more old (xs ++ two) new) (sym none) (subst (λ x. AreEmptied more x two new) same rest)
emptied-more (queue ∷ queues) more old between new one two (next, first, later, taken, empty, emptied, is) rest = (
  next,
  first,
  later ++ two,
  taken,
  empty,
  emptied-more queues more next between new later two emptied rest,
  ap (λ (xs : List Answer). xs ++ two) is ∙ append_assoc first later two,
)

-- the queues before this place were emptied, and the answers to the takes were written
pub record AreSoFar (queues : List QueueId) (first now : Linked) (a b : Option (List ℕ)) (place : ℕ) : Type 0 where
  pub reported : AreAnswersWritten a b (λ answers. AreEmptied (take place queues) first answers now)
  pub settings : now.history.settings ≡ first.history.settings

pub none-emptied : (queues : List QueueId) (first : Linked) (a : Option (List ℕ)) → AreSoFar queues first first a a 0
none-emptied queues first a = record { reported = ([], (refl, refl), Appends-nil a); settings = refl }

pub one-more-emptied : (queues : List QueueId) (queue : QueueId) (first now new : Linked) (a b c : Option (List ℕ)) (place : ℕ) → AreSoFar queues first now a b place
    → place < length queues → get_or queues place queue ≡ queue → AreAnswersWritten b c (λ answers. AreTakenFrom queue now answers new × (waiting_in queue new ≡ []))
    → new.history.settings ≡ now.history.settings → AreSoFar queues first new a c (place + 1)
one-more-emptied queues queue first now new a b c place so_far less is (two, (taken, empty), written) settings =
    let reported = so_far.reported in
    let longer : take (place + 1) queues ≡ take place queues ++ queue ∷ [] = take_more queues place queue less ∙ ap (λ (x : QueueId). take place queues ++ x ∷ []) is in
    record {
      reported = (
        reported.0 ++ two,
        subst (λ (qs : List QueueId). AreEmptied qs first (reported.0 ++ two) new) (sym longer)
            (emptied-more (take place queues) (queue ∷ []) first now new reported.0 two reported.1 (emptied-one queue now new two taken empty)),
        reported-more a b c reported.0 two reported.2 written,
      );
      settings = settings ∙ so_far.settings;
    }

-- ---- the next packet queue is emptied, or the next unit queue

pub packets-emptied : (settings : Settings) (list : List QueueSetting) (place : ℕ) (d : QueueSetting) (first now new : Linked) (a b c : Option (List ℕ)) → AreSoFar (packet_queues settings) first now a b place
    → list ≡ settings.queues → place < length settings.queues → AreAnswersWritten b c (λ answers. AreTakenFrom (Packets (get_or list place d).apid) now answers new × (waiting_in (Packets (get_or list place d).apid) new ≡ []))
    → new.history.settings ≡ now.history.settings → AreSoFar (packet_queues settings) first new a c (place + 1)
packets-emptied settings list place d first now new a b c so_far is less reported same =
    let queue : QueueId = Packets (get_or list place d).apid in
    let found : get_or (packet_queues settings) place queue ≡ queue =
    get_or-map (λ (q : QueueSetting). Packets q.apid) settings.queues place d queue less ∙ ap (λ (l : List QueueSetting). Packets (get_or l place d).apid) (sym is) in
    one-more-emptied (packet_queues settings) queue first now new a b c place so_far (omega (arith, length-map settings.queues (λ (q : QueueSetting). Packets q.apid), less)) found reported same

pub units-emptied : (settings : Settings) (list : List MapSetting) (place : ℕ) (d : MapSetting) (first now new : Linked) (a b c : Option (List ℕ)) → AreSoFar (unit_queues settings) first now a b place
    → list ≡ settings.maps → place < length settings.maps → AreAnswersWritten b c (λ answers. AreTakenFrom (Units (get_or list place d).map) now answers new × (waiting_in (Units (get_or list place d).map) new ≡ []))
    → new.history.settings ≡ now.history.settings → AreSoFar (unit_queues settings) first new a c (place + 1)
units-emptied settings list place d first now new a b c so_far is less reported same =
    let queue : QueueId = Units (get_or list place d).map in
    let found : get_or (unit_queues settings) place queue ≡ queue =
    get_or-map (λ (q : MapSetting). Units q.map) settings.maps place d queue less ∙ ap (λ (l : List MapSetting). Units (get_or l place d).map) (sym is) in
    one-more-emptied (unit_queues settings) queue first now new a b c place so_far (omega (arith, length-map settings.maps (λ (q : MapSetting). Units q.map), less)) found reported same

-- ---- no item is left

chain-stays-empty : (queue other : QueueId) (old new : Linked) (answers : List Answer) → AreTakenFrom queue old answers new → waiting_in other old ≡ [] → waiting_in other new ≡ []
chain-stays-empty queue other old new [] same empty = ap (waiting_in other) same ∙ empty
chain-stays-empty queue other old new (answer ∷ answers) (next, one, rest) empty =
    chain-stays-empty queue other next new answers rest (stays-empty queue other old answer next one empty)

others-stay-empty : (queues : List QueueId) (other : QueueId) (old new : Linked) (answers : List Answer) → AreEmptied queues old answers new → waiting_in other old ≡ [] → waiting_in other new ≡ []
others-stay-empty [] other old new answers (none, same) empty = ap (waiting_in other) same ∙ empty
others-stay-empty (queue ∷ queues) other old new answers (next, first, later, taken, out, emptied, is) empty =
    others-stay-empty queues other next new later emptied (chain-stays-empty queue other old next first taken empty)

nothing-left : (queues : List QueueId) (old new : Linked) (answers : List Answer) → AreEmptied queues old answers new → AreEmpty queues new
nothing-left [] old new answers emptied = tt
nothing-left (queue ∷ queues) old new answers (next, first, later, taken, out, emptied, is) =
    (others-stay-empty queues queue next new later emptied out, nothing-left queues next new later emptied)

-- if the packets, then the units and then the CLCW are written, everything is handed on
pub all-handed-on : (old between new : Linked) (a b c d : Option (List ℕ)) (word : Answer) → between.history.settings ≡ old.history.settings
    → AreAnswersWritten a b (λ answers. AreEmptied (packet_queues old.history.settings) old answers between)
    → AreAnswersWritten b c (λ answers. AreEmptied (unit_queues between.history.settings) between answers new)
    → word ≡ reported_word new → Appends c d (reported_line word) → AreAnswersWritten a d (λ answers. IsHandedOn old answers new)
all-handed-on old between new a b c d word settings (one, packets, first) (two, units, second) is last =
    let emptied : AreEmptied (queues_of old.history.settings) old (one ++ two) new =
    emptied-more (packet_queues old.history.settings) (unit_queues old.history.settings) old between new one two packets
    (subst (λ s. AreEmptied (unit_queues s) between two new) settings units) in (
      (one ++ two) ++ word ∷ [],
      (one ++ two, emptied, nothing-left (queues_of old.history.settings) old new (one ++ two) emptied, ap (λ (x : Answer). (one ++ two) ++ x ∷ []) is),
      reported-more a c d (one ++ two) (word ∷ []) (reported-more a b c one two first second) (one-reported c d word last),
    )
