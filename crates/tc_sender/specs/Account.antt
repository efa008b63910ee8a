-- A sender of Type-AD frames, and the histories of a sender, two links and a receiver that explain an account of the
-- receiving end (CCSDS 232.1-B, FOP-1 and FARM-1).
use Rattle.std.specs.Prelude.{◌≡◌, ℕ, ◌+◌, ◌-◌, ◌%◌, ◌<◌, ◌≤◌, Bool, true, false, List, [], ◌∷◌, ◌++◌, nat_le, if◌then◌else◌}

-- how far a number is above another one, modulo 256
abbrev pub distance : ℕ → ℕ → ℕ
distance from number = (number + 256 - from) % 256

-- The N(S) of the first frame that a sender doesn't know to be accepted, after it reads N(R) in a CLCW. Before, it was
-- `next`. If N(R) is one of the K + 1 numbers from `next` on, the sender then knows the frames before that number to be
-- accepted. Otherwise it knows no more than before.
abbrev pub next_after : ℕ → ℕ → ℕ → ℕ
next_after window next report = if nat_le (distance next report) window then report else next

-- An item of an account of the receiving end.
pub data Seen : Type 0 where
  -- A Type-AD frame arrived, with this N(S) and this data field. The flag is set if the receiver accepted it.
  Arrived : ℕ → Bool → List ℕ → Seen
  -- The receiver made a CLCW with this V(R).
  Made : ℕ → Seen
  -- A Set V(R) to this number was obeyed.
  Set : ℕ → Seen

-- V(R) after a Type-AD frame, which was accepted if the flag is set
abbrev pub vr_after : Bool → ℕ → ℕ
vr_after true vr = (vr + 1) % 256
vr_after false vr = vr

-- A history of a sender with a window of `window` frames, of links that keep order, and of a receiver, which explains
-- the items from now on. `next` is the N(S) of the first frame that the sender doesn't know to be accepted. `way` are
-- the report values on their way to the sender, the oldest first, and `vr` is V(R). A frame that arrives was sent
-- earlier. So the sender is always considered as it was when it sent the frame that arrives next: it may have read
-- less than it has read by now.
pub data SenderExplains (window : ℕ) : ℕ → List ℕ → ℕ → List Seen → Type 0 where
  -- the account ends, whatever is on its way
  ended : {next vr : ℕ} {way : List ℕ} → SenderExplains window next way vr []
  -- A frame arrives that is among the K frames which the sender may send. Only the frame with the number V(R) may be
  -- accepted.
  arrived : {next vr ns : ℕ} {way : List ℕ} {accepted : Bool} {field : List ℕ} {items : List Seen}
      → ns < 256 → distance next ns < window → (accepted ≡ true → ns ≡ vr)
      → SenderExplains window next way (vr_after accepted vr) items → SenderExplains window next way vr (Arrived ns accepted field ∷ items)
  -- the receiver makes a CLCW
  made : {next vr : ℕ} {way : List ℕ} {items : List Seen}
      → SenderExplains window next (way ++ vr ∷ []) vr items → SenderExplains window next way vr (Made vr ∷ items)
  -- the oldest CLCW on its way is lost
  lost : {next vr report : ℕ} {way : List ℕ} {items : List Seen}
      → SenderExplains window next way vr items → SenderExplains window next (report ∷ way) vr items
  -- the sender reads the oldest CLCW on its way
  read : {next vr report : ℕ} {way : List ℕ} {items : List Seen}
      → SenderExplains window (next_after window next report) way vr items → SenderExplains window next (report ∷ way) vr items
  -- A Set V(R) was obeyed. The sender numbers its frames anew, and reads no CLCW that was made before.
  set : {next vr number : ℕ} {way : List ℕ} {items : List Seen}
      → number < 256 → SenderExplains window number [] number items → SenderExplains window next way vr (Set number ∷ items)

-- A judge's knowledge of a sender. `numbers` begins with the N(S) of the first frame that the sender may not have known
-- to be accepted when it sent the frame that arrived last. Then come the report values of CLCWs made since, which it may
-- have read or not.
pub record SenderKnowledge : Type 0 where
  pub window : ℕ
  pub numbers : List ℕ
  pub vr : ℕ

abbrev pub ExplainsFrom : ℕ → List ℕ → ℕ → List Seen → Type 0
ExplainsFrom window [] vr items = ⊥
ExplainsFrom window (next ∷ way) vr items = SenderExplains window next way vr items

-- from this knowledge on, a history explains the items that are noted next
abbrev pub SenderAllows : SenderKnowledge → List Seen → Type 0
SenderAllows k items = ExplainsFrom k.window k.numbers k.vr items

-- each number is closer to V(R) than the one before
abbrev pub Approach : ℕ → List ℕ → ℕ → Type 0
Approach next [] vr = Unit {0}
Approach next (report ∷ way) vr =
    (report < 256) × (1 ≤ distance next report) × (distance next report + distance report vr ≡ distance next vr) × Approach report way vr

-- numbers that a judge can know: V(R) is at most K above each of them
abbrev pub IsKnown : ℕ → List ℕ → ℕ → Type 0
IsKnown window [] vr = ⊥
IsKnown window (next ∷ way) vr = (next < 256) × (vr < 256) × (distance next vr ≤ window) × Approach next way vr

-- the frame with number `ns` is in the window of a sender that knows the frames before number `next` to be accepted
abbrev pub IsWithin : ℕ → ℕ → ℕ → Type 0
IsWithin window next ns = distance next ns < window

-- the number of frames that were accepted, after a Type-AD frame that was accepted if the flag is set
abbrev pub counted : Bool → ℕ → ℕ
counted true accepted = accepted + 1
counted false accepted = accepted

-- Each Type-AD frame of an account is a frame of one sequence, which is numbered from `first` on. Frame i of the sequence
-- comes when i and the number of accepted frames differ by less than 256. A frame that is accepted is the next one that
-- wasn't accepted yet, and each CLCW reports its number. A Set V(R) starts a new sequence.
abbrev pub InTime : ℕ → ℕ → List Seen → Type 0
InTime first accepted [] = Unit {0}
InTime first accepted (Arrived ns flag field ∷ items) =
    ((i : ℕ) × (ns ≡ (first + i) % 256) × (accepted < i + 256) × (i < accepted + 256) × (flag ≡ true → i ≡ accepted))
    × InTime first (counted flag accepted) items
InTime first accepted (Made vr ∷ items) = (vr ≡ (first + accepted) % 256) × InTime first accepted items
InTime first accepted (Set number ∷ items) = InTime number 0 items
