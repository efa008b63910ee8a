-- The buffer never holds more data fields than its size.
use Rattle.tc_channel.proofs.Names.{◌≡◌, ℕ, ◌<◌, ◌≤◌, Bool, true, List, [], ◌∷◌, ◌++◌, length, refl, arith, nat_tests, length-append, length-drop, length-map, Row, E1, E6, accepts, Settings, Event, Frame, Release, ChannelState, Accepted, buffer, has_room, step, row_of, kept, passed_on, run_within}
use Rattle.tc_channel.proofs.Sound.{room-at_E1}
use Rattle.tc_channel.proofs.Runs.{always}

abbrev Fits : Settings → ChannelState → Type 0
Fits c b = length (buffer b) ≤ c.buffer

one-more : (c : Settings) (b : ChannelState) (a : Accepted) → has_room c b ≡ true → Fits c (record b { accepted = b.accepted ++ a ∷ [] })
one-more c b a room =
    let some : length (buffer b) < c.buffer = grind (arith, nat_tests) in
    omega (arith, length-map {A = Accepted} {B = List ℕ}, length-drop {A = Accepted}, length-append {A = Accepted})

kept-fits : (c : Settings) (b : ChannelState) (octets : List ℕ) (row : Row) (accepted : Bool) → row_of c b octets ≡ row → Fits c b → Fits c (kept row accepted octets b)
unfolding passed_on
kept-fits c b octets E1 true e h = one-more c b _ (room-at_E1 c b octets e)
kept-fits c b octets E6 true e h = h
kept-fits c b octets _ _ e h = h

step-fits : (c : Settings) (b : ChannelState) (e : Event) → Fits c b → Fits c (step c b e)
unfolding passed_on
step-fits c b (Frame octets) h = kept-fits c b octets (row_of c b octets) (accepts (row_of c b octets) b.report) refl h
step-fits c b Release h = omega (arith, length-map {A = Accepted} {B = List ℕ}, length-drop {A = Accepted})
step-fits c b _ h = h

pub buffer-fits : (limits : ℕ → ℕ) (c : Settings) (journal : List Event) → Fits c (run_within limits c journal)
buffer-fits limits c journal = always (Fits c) limits c journal (step-fits c) (omega arith)
