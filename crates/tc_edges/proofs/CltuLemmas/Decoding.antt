-- The candidate frames that the receiving end yields.
use Rattle.std.proofs.Common.{◌≡◌, ℕ, zero, suc, ◌+◌, ◌-◌, ◌*◌, ◌/◌, ◌<◌, ◌≤◌, Bool, true, false, List, [], ◌∷◌, ◌++◌, Option, Some, None, bit_xor, length, length-append, append_assoc, add_assoc, take, set, drop, nat_lt, if◌then◌else◌, subst, refl, ap, sym, ◌∙◌, arith, inl, inr}
use Rattle.tc_edges.proofs.CltuLemmas.Names.{Correct, Detect, IsInformation, IsOctets, Mode, block_times_x, cases_lt, code_block, decoded, flipped, le-ltb, lt-ltb, nat_tests, octet_bits, parity_of, xor_self}
use Rattle.std.proofs.lemmas.List.{append-nil, drop-drop, drop-take, length-drop, length-take-le, take-append-drop, take-take}
use Rattle.tc_edges.specs.Cltu.Cltu.{cltu, start_sequence, tail_sequence, code_blocks, fill, filled, cltu_fault_of}
use Rattle.tc_edges.specs.Cltu.Reception.{IsTaken, StopsShort, Receiver, Reception, Searching, Decoding, Step, is_start, reception_step, after_block, fate_of, fate_after, corrections_of, rejections_of, overruns_of, counted_in, state_after, frames_of, HasNoStart, IsSearching, IsReception, idle}
use Rattle.tc_edges.specs.declared.cltu.block.Fate.{Fate}
use Rattle.tc_edges.specs.declared.cltu.block.Fate.TheVariants.{Right, Corrected, Tail, Rejected, Overlong}
use Rattle.tc_link.proofs.Frames.{octets-append}
use Rattle.tc_edges.proofs.FecfLemmas.Plain.{octets-take}
use Rattle.tc_edges.proofs.CltuLemmas.Words.{parity-fits}
use Rattle.tc_edges.proofs.CltuLemmas.Distance.{placed}
use Rattle.tc_edges.proofs.CltuLemmas.Starting.{start-far, start-same, first-far, idle-far, one-off}
use Rattle.tc_edges.proofs.CltuLemmas.Taking.{syndrome, none-wrong, some-wrong, more-wrong}

pub state-append : (mode : Mode) (room : ℕ) (xs ys : List ℕ) (s : Reception) → state_after mode room s (xs ++ ys) ≡ state_after mode room (state_after mode room s xs) ys
state-append mode room [] ys s = refl
state-append mode room (x ∷ xs) ys s = state-append mode room xs ys (reception_step mode room s x).0

pub frames-append : (mode : Mode) (room : ℕ) (xs ys : List ℕ) (s : Reception)
    → frames_of mode room s (xs ++ ys) ≡ frames_of mode room s xs ++ frames_of mode room (state_after mode room s xs) ys
frames-append mode room [] ys s = refl
frames-append mode room (x ∷ xs) ys s =
    ap (λ (fs : List (List ℕ)). (reception_step mode room s x).1 ++ fs) (frames-append mode room xs ys (reception_step mode room s x).0)
    ∙ sym (append_assoc (reception_step mode room s x).1 (frames_of mode room (reception_step mode room s x).0 xs) (frames_of mode room (state_after mode room (reception_step mode room s x).0 xs) ys))

pub counted-append : (count : Option Fate → ℕ) (mode : Mode) (room : ℕ) (xs ys : List ℕ) (s : Reception)
    → counted_in count mode room s (xs ++ ys) ≡ counted_in count mode room s xs + counted_in count mode room (state_after mode room s xs) ys
counted-append count mode room [] ys s = omega arith
counted-append count mode room (x ∷ xs) ys s =
    ap (λ (n : ℕ). count (fate_of mode room s x) + n) (counted-append count mode room xs ys (reception_step mode room s x).0)
    ∙ sym (add_assoc (count (fate_of mode room s x)) (counted_in count mode room (reception_step mode room s x).0 xs) (counted_in count mode room (state_after mode room (reception_step mode room s x).0 xs) ys))

-- over the eight octets of a code block, its fate is counted once
pub block-counted : (count : Option Fate → ℕ) (mode : Mode) (room : ℕ) (frame block : List ℕ) → count None ≡ 0 → length block ≡ 8
    → count (Some (fate_after mode room frame block)) ≡ counted_in count mode room (Decoding frame []) block
block-counted count mode room frame (a ∷ b ∷ c ∷ d ∷ e ∷ f ∷ g ∷ h ∷ []) none eight = omega (arith, none)
block-counted count mode room frame _ none eight = absurd (omega arith)

pub block-state : (mode : Mode) (room : ℕ) (frame block : List ℕ) → length block ≡ 8 → state_after mode room (Decoding frame []) block ≡ (after_block room frame (decoded mode block)).0
block-state mode room frame (a ∷ b ∷ c ∷ d ∷ e ∷ f ∷ g ∷ h ∷ []) eight = refl
block-state mode room frame _ eight = absurd (omega arith)

pub block-frames : (mode : Mode) (room : ℕ) (frame block : List ℕ) → length block ≡ 8 → frames_of mode room (Decoding frame []) block ≡ (after_block room frame (decoded mode block)).1
block-frames mode room frame (a ∷ b ∷ c ∷ d ∷ e ∷ f ∷ g ∷ h ∷ []) eight = append-nil (after_block room frame (decoded mode (a ∷ b ∷ c ∷ d ∷ e ∷ f ∷ g ∷ h ∷ []))).1
block-frames mode room frame _ eight = absurd (omega arith)

frames-block : (mode : Mode) (room : ℕ) (frame : List ℕ) (a b c d e f g h : ℕ) (rest : List ℕ)
    → frames_of mode room (Decoding frame []) (a ∷ b ∷ c ∷ d ∷ e ∷ f ∷ g ∷ h ∷ rest)
    ≡ (after_block room frame (decoded mode (a ∷ b ∷ c ∷ d ∷ e ∷ f ∷ g ∷ h ∷ []))).1
    ++ frames_of mode room (after_block room frame (decoded mode (a ∷ b ∷ c ∷ d ∷ e ∷ f ∷ g ∷ h ∷ []))).0 rest
frames-block mode room frame a b c d e f g h rest = refl

-- the syndrome of a code block without errors is 0
own-syndrome : (information : List ℕ) → syndrome information (parity_of information * 2) ≡ 0
unfolding syndrome
own-syndrome information =
    let e : parity_of information * 2 / 2 ≡ parity_of information = omega arith in
    ap (bit_xor (parity_of information)) e ∙ xor_self (parity_of information)

own-decoded : (mode : Mode) (information : List ℕ) → IsInformation information → decoded mode (code_block information) ≡ Some information
own-decoded mode information is =
    let fits = parity-fits information in
    none-wrong mode information (parity_of information * 2) is (omega arith) (own-syndrome information)

-- ---- lists whose length is a multiple of seven
abbrev pub AreSevens : List ℕ → Type 0
AreSevens [] = Unit {0}
AreSevens (a ∷ b ∷ c ∷ d ∷ e ∷ f ∷ g ∷ rest) = AreSevens rest
AreSevens _ = ⊥

filled-sevens : (fs : List ℕ) → AreSevens (filled fs)
filled-sevens (a ∷ b ∷ c ∷ d ∷ e ∷ f ∷ g ∷ rest) = filled-sevens rest
filled-sevens _ = tt

-- filled octets begin with the octets themselves, followed by at most six octets of fill
pub filled-front : (fs : List ℕ) → (k : ℕ) × (k < 7) × (filled fs ≡ fs ++ take k fill)
filled-front [] = (0, omega arith, refl)
filled-front (a ∷ []) = (6, omega arith, refl)
filled-front (a ∷ b ∷ []) = (5, omega arith, refl)
filled-front (a ∷ b ∷ c ∷ []) = (4, omega arith, refl)
filled-front (a ∷ b ∷ c ∷ d ∷ []) = (3, omega arith, refl)
filled-front (a ∷ b ∷ c ∷ d ∷ e ∷ []) = (2, omega arith, refl)
filled-front (a ∷ b ∷ c ∷ d ∷ e ∷ f ∷ []) = (1, omega arith, refl)
filled-front (a ∷ b ∷ c ∷ d ∷ e ∷ f ∷ g ∷ rest) =
    let more = filled-front rest in (more.0, more.1, ap (λ (x : List ℕ). a ∷ b ∷ c ∷ d ∷ e ∷ f ∷ g ∷ x) more.2)

abbrev alike : ℕ → List ℕ
alike o = o ∷ o ∷ o ∷ o ∷ o ∷ o ∷ o ∷ []

alike-octets : (o : ℕ) → o < 256 → IsOctets (alike o)
alike-octets o fits (suc (suc (suc (suc (suc (suc (suc i))))))) = omega arith
alike-octets o fits _ = omega arith

filled-octets : (fs : List ℕ) → IsOctets fs → IsOctets (filled fs)
filled-octets fs each =
    let f = filled-front fs in
    let fills : IsOctets fill = octets-take 6 (alike 0x55) (alike-octets 0x55 (omega arith)) in
    subst IsOctets (sym f.2) (octets-append fs (take f.0 fill) each (octets-take f.0 fill fills))

pub some-octets : (fs : List ℕ) → cltu_fault_of fs ≡ None → 0 < length fs
some-octets fs none = grind (arith, nat_tests)

few-octets : (fs : List ℕ) → cltu_fault_of fs ≡ None → length fs ≤ 1029
few-octets fs none = grind (arith, nat_tests)

sevens-count : (fs : List ℕ) → AreSevens fs → (m : ℕ) × (length fs ≡ 7 * m)
sevens-count [] p = (0, refl)
sevens-count (a ∷ b ∷ c ∷ d ∷ e ∷ f ∷ g ∷ rest) p = let more = sevens-count rest p in let l = more.1 in (suc more.0, omega arith)
sevens-count _ p = absurd p

pub filled-fits : (fs : List ℕ) → cltu_fault_of fs ≡ None → length (filled fs) ≤ 1029
filled-fits fs none =
    let most = few-octets fs none in
    let f = filled-front fs in
    let few = f.1 in
    let l : length (filled fs) ≡ length fs + length (take f.0 fill) = ap length f.2 ∙ length-append fs (take f.0 fill) in
    let t : length (take f.0 fill) ≡ f.0 = length-take-le f.0 fill (omega arith) in
    let s = sevens-count (filled fs) (filled-sevens fs) in
    let e : length (filled fs) ≡ 7 * s.0 = s.1 in
    omega arith

pub after-fits : (room : ℕ) (frame information : List ℕ) → length frame + 7 ≤ room → after_block room frame (Some information) ≡ (Decoding (frame ++ information) [], [])
after-fits room frame information fits =
    ap (λ (t : Bool). if t then (Searching 0, []) else (Decoding (frame ++ information) [], [])) (le-ltb room (length frame + 7) fits)

pub after-over : (room : ℕ) (frame information : List ℕ) → room < length frame + 7 → after_block room frame (Some information) ≡ (Searching 0, [])
after-over room frame information over =
    ap (λ (t : Bool). if t then (Searching 0, []) else (Decoding (frame ++ information) [], [])) (lt-ltb room (length frame + 7) over)

-- code blocks without errors are accepted, if there is room for all octets that they carry
blocks-taken : (mode : Mode) (room : ℕ) (fs frame rest : List ℕ) → IsOctets fs → AreSevens fs → length frame + length fs ≤ room
    → frames_of mode room (Decoding frame []) (code_blocks fs ++ rest) ≡ frames_of mode room (Decoding (frame ++ fs) []) rest
blocks-taken mode room [] frame rest p q fits = ap (λ (x : List ℕ). frames_of mode room (Decoding x []) rest) (sym (append-nil frame))
blocks-taken mode room (a ∷ b ∷ c ∷ d ∷ e ∷ f ∷ g ∷ fs) frame rest p q fits =
    let information = a ∷ b ∷ c ∷ d ∷ e ∷ f ∷ g ∷ [] in
    let is : IsInformation information = record { each = octets-take 7 (a ∷ b ∷ c ∷ d ∷ e ∷ f ∷ g ∷ fs) p; seven = refl } in
    let more = code_blocks fs ++ rest in
    let long : length (frame ++ information) ≡ length frame + 7 = length-append frame information in
    frames-block mode room frame a b c d e f g (parity_of information * 2) more
    ∙ ap (λ (o : Option (List ℕ)). (after_block room frame o).1 ++ frames_of mode room (after_block room frame o).0 more) (own-decoded mode information is)
    ∙ ap (λ (s : Step). s.1 ++ frames_of mode room s.0 more) (after-fits room frame information (omega arith))
    ∙ blocks-taken mode room fs (frame ++ information) rest (λ i. p (suc (suc (suc (suc (suc (suc (suc i)))))))) q (omega arith)
    ∙ ap (λ (x : List ℕ). frames_of mode room (Decoding x []) rest) (append_assoc frame information fs)
blocks-taken mode room _ frame rest p q fits = absurd q

-- a block of seven equal octets and a last one is rejected, if its syndrome isn't 0 and isn't left by a single wrong bit
alike-rejected : (mode : Mode) (o last s : ℕ) → o < 256 → last < 256 → syndrome (alike o) last ≡ s → 0 < s → placed s ≡ 63 → decoded mode (alike o ++ last ∷ []) ≡ None
alike-rejected Detect o last s fits small is some place = some-wrong (alike o) last (record { each = alike-octets o fits; seven = refl }) small (λ z. omega arith)
alike-rejected Correct o last s fits small is some place =
    let p : placed (syndrome (alike o) last) ≡ 63 = ap placed is ∙ place in
    more-wrong (alike o) last (record { each = alike-octets o fits; seven = refl }) small (λ z. omega arith) (omega arith)

-- ---- the tail sequence
tail-syndrome : syndrome (alike 0xC5) 0x79 ≡ 67
unfolding syndrome octet_bits block_times_x
tail-syndrome = refl

tail-rejected : (mode : Mode) → decoded mode tail_sequence ≡ None
unfolding placed octet_bits
tail-rejected mode = alike-rejected mode 0xC5 0x79 67 (omega arith) (omega arith) tail-syndrome (omega arith) refl

tail-ends : (mode : Mode) (room f : ℕ) (fs rest : List ℕ) → frames_of mode room (Decoding (f ∷ fs) []) (tail_sequence ++ rest) ≡ (f ∷ fs) ∷ frames_of mode room (Searching 0) rest
tail-ends mode room f fs rest =
    frames-block mode room (f ∷ fs) 0xC5 0xC5 0xC5 0xC5 0xC5 0xC5 0xC5 0x79 rest
    ∙ ap (λ (o : Option (List ℕ)). (after_block room (f ∷ fs) o).1 ++ frames_of mode room (after_block room (f ∷ fs) o).0 rest) (tail-rejected mode)

-- ---- the search for a start sequence
quiet-step : (mode : Mode) (room last o : ℕ) → is_start mode last o ≡ false → reception_step mode room (Searching last) o ≡ (Searching o, [])
quiet-step mode room last o h = ap (λ (t : Bool). if t then (Decoding [] [], []) else (Searching o, [])) h

found-step : (mode : Mode) (room last o : ℕ) → is_start mode last o ≡ true → reception_step mode room (Searching last) o ≡ (Decoding [] [], [])
found-step mode room last o h = ap (λ (t : Bool). if t then (Decoding [] [], []) else (Searching o, [])) h

-- two octets that count as the start sequence are found, if the octet before them and the first of them don't also do so
pair-found : (mode : Mode) (room last a b : ℕ) (rest : List ℕ) → is_start mode last a ≡ false → is_start mode a b ≡ true
    → frames_of mode room (Searching last) (a ∷ b ∷ rest) ≡ frames_of mode room (Decoding [] []) rest
pair-found mode room last a b rest first second =
    ap (λ (s : Step). s.1 ++ frames_of mode room s.0 (b ∷ rest)) (quiet-step mode room last a first)
    ∙ ap (λ (s : Step). s.1 ++ frames_of mode room s.0 rest) (found-step mode room a b second)

start-found : (mode : Mode) (room last : ℕ) (rest : List ℕ) → frames_of mode room (Searching last) (start_sequence ++ rest) ≡ frames_of mode room (Decoding [] []) rest
start-found mode room last rest = pair-found mode room last 0xEB 0x90 rest (start-far mode last 0xEB first-far) (start-same mode)

tail-ends-some : (mode : Mode) (room : ℕ) (fs rest : List ℕ) → 0 < length fs
    → frames_of mode room (Decoding fs []) (tail_sequence ++ rest) ≡ fs ∷ frames_of mode room (Searching 0) rest
tail-ends-some mode room [] rest some = absurd (omega arith)
tail-ends-some mode room (f ∷ fs) rest some = tail-ends mode room f fs rest

filled-some : (frame : List ℕ) → 0 < length frame → 0 < length (filled frame)
filled-some frame some =
    let f = filled-front frame in
    let e : length (filled frame) ≡ length frame + length (take f.0 fill) = ap length f.2 ∙ length-append frame (take f.0 fill) in
    omega arith

-- after a start sequence, the rest of a CLTU yields the frame that it carries, with its fill, and the search continues
body-given : (mode : Mode) (room : ℕ) (frame rest : List ℕ) → IsOctets frame → 0 < length frame → length (filled frame) ≤ room
    → frames_of mode room (Decoding [] []) ((code_blocks (filled frame) ++ tail_sequence) ++ rest) ≡ filled frame ∷ frames_of mode room (Searching 0) rest
body-given mode room frame rest each some fits =
    ap (frames_of mode room (Decoding [] [])) (append_assoc (code_blocks (filled frame)) tail_sequence rest)
    ∙ blocks-taken mode room (filled frame) [] (tail_sequence ++ rest) (filled-octets frame each) (filled-sevens frame) (omega arith)
    ∙ tail-ends-some mode room (filled frame) rest (filled-some frame some)

-- while the receiving end searches, a CLTU yields its frame, with its fill, whatever octet came before it
pub cltu-given : (mode : Mode) (room last : ℕ) (frame rest : List ℕ) → IsOctets frame → 0 < length frame → length (filled frame) ≤ room
    → frames_of mode room (Searching last) (cltu frame ++ rest) ≡ filled frame ∷ frames_of mode room (Searching 0) rest
cltu-given mode room last frame rest each some fits =
    start-found mode room last ((code_blocks (filled frame) ++ tail_sequence) ++ rest) ∙ body-given mode room frame rest each some fits

-- with correction, a CLTU with one wrong bit in its start sequence also yields its frame
pub cltu-begun : (room last k : ℕ) (frame rest : List ℕ) → k < 16 → IsOctets frame → 0 < length frame → length (filled frame) ≤ room
    → frames_of Correct room (Searching last) (flipped (cltu frame) k ++ rest) ≡ filled frame ∷ frames_of Correct room (Searching 0) rest
cltu-begun room last k frame rest less each some fits =
    let body = code_blocks (filled frame) ++ tail_sequence in
    let s = one-off k body less in
    ap (λ (x : List ℕ). frames_of Correct room (Searching last) (x ++ rest)) s.2
    ∙ pair-found Correct room last s.0 s.1 (body ++ rest) (start-far Correct last s.0 s.3) s.4
    ∙ body-given Correct room frame rest each some fits

-- ---- octets without a start sequence yield nothing
quiet : (mode : Mode) (room last : ℕ) (os rest : List ℕ) → HasNoStart mode last os
    → (l : ℕ) × (frames_of mode room (Searching last) (os ++ rest) ≡ frames_of mode room (Searching l) rest)
quiet mode room last [] rest h = (last, refl)
quiet mode room last (o ∷ os) rest h =
    let more = quiet mode room o os rest h.1 in
    (more.0, ap (λ (s : Step). s.1 ++ frames_of mode room s.0 (os ++ rest)) (quiet-step mode room last o h.0) ∙ more.1)

-- octets before a CLTU don't hide it, if nothing in them counts as a start sequence
pub found-after : (mode : Mode) (room last : ℕ) (before frame rest : List ℕ) → HasNoStart mode last before → IsOctets frame → 0 < length frame → length (filled frame) ≤ room
    → frames_of mode room (Searching last) (before ++ (cltu frame ++ rest)) ≡ filled frame ∷ frames_of mode room (Searching 0) rest
found-after mode room last before frame rest quietly each some fits =
    let q = quiet mode room last before (cltu frame ++ rest) quietly in
    q.1 ∙ cltu-given mode room q.0 frame rest each some fits

-- ---- the idle sequence leads back to the search from any state
idle-syndrome : syndrome (alike 0x55) 0x55 ≡ 65
unfolding syndrome octet_bits block_times_x
idle-syndrome = refl

idle-rejected : (mode : Mode) → decoded mode (alike 0x55 ++ 0x55 ∷ []) ≡ None
unfolding placed octet_bits
idle-rejected mode = alike-rejected mode 0x55 0x55 65 (omega arith) (omega arith) idle-syndrome (omega arith) refl

idle-searching : (mode : Mode) (room n l : ℕ) → IsSearching (state_after mode room (Searching l) (idle n))
idle-searching mode room zero l = tt
idle-searching mode room (suc n) l =
    subst (λ (s : Step). IsSearching (state_after mode room s.0 (idle n))) (sym (quiet-step mode room l 0x55 (start-far mode l 0x55 idle-far))) (idle-searching mode room n 0x55)

pub ended : (room : ℕ) (frame : List ℕ) → (after_block room frame None).0 ≡ Searching 0
ended room [] = refl
ended room (f ∷ fs) = refl

-- eight octets of the idle sequence in the place of a code block end a CLTU
idle-block : (mode : Mode) (room : ℕ) (frame more : List ℕ)
    → state_after mode room (Decoding frame []) (0x55 ∷ 0x55 ∷ 0x55 ∷ 0x55 ∷ 0x55 ∷ 0x55 ∷ 0x55 ∷ 0x55 ∷ more) ≡ state_after mode room (Searching 0) more
idle-block mode room frame more =
    ap (λ (o : Option (List ℕ)). state_after mode room (after_block room frame o).0 more) (idle-rejected mode)
    ∙ ap (λ (s : Reception). state_after mode room s more) (ended room frame)

idle-decoding : (mode : Mode) (room n : ℕ) (frame : List ℕ) → IsSearching (state_after mode room (Decoding frame []) (idle (8 + n)))
idle-decoding mode room n frame =
    let e : 8 + n ≡ suc (suc (suc (suc (suc (suc (suc (suc n))))))) = omega arith in
    subst (λ (m : ℕ). IsSearching (state_after mode room (Decoding frame []) (idle m))) (sym e)
    (subst IsSearching (sym (idle-block mode room frame (idle n))) (idle-searching mode room n 0))

idle-after : (mode : Mode) (room n : ℕ) (frame : List ℕ) (o : Option (List ℕ)) → IsSearching (state_after mode room (after_block room frame o).0 (idle (8 + n)))
idle-after mode room n frame (Some information) =
    elim (cases_lt room (length frame + 7)) [
      | inl over ↦ subst (λ (s : Step). IsSearching (state_after mode room s.0 (idle (8 + n)))) (sym (after-over room frame information over)) (idle-searching mode room (8 + n) 0)
      | inr fits ↦ subst (λ (s : Step). IsSearching (state_after mode room s.0 (idle (8 + n)))) (sym (after-fits room frame information fits)) (idle-decoding mode room n (frame ++ information))
    ]
idle-after mode room n [] None = idle-searching mode room (8 + n) 0
idle-after mode room n (f ∷ fs) None = idle-searching mode room (8 + n) 0

pub idle-ends : (mode : Mode) (room : ℕ) (state : Reception) → IsReception state → IsSearching (state_after mode room state (idle 15))
idle-ends mode room (Searching l) short = idle-searching mode room 15 l
idle-ends mode room (Decoding frame []) short = idle-decoding mode room 7 frame
idle-ends mode room (Decoding frame (a ∷ [])) short = idle-after mode room 0 frame (decoded mode (a ∷ idle 7))
idle-ends mode room (Decoding frame (a ∷ b ∷ [])) short = idle-after mode room 1 frame (decoded mode (a ∷ b ∷ idle 6))
idle-ends mode room (Decoding frame (a ∷ b ∷ c ∷ [])) short = idle-after mode room 2 frame (decoded mode (a ∷ b ∷ c ∷ idle 5))
idle-ends mode room (Decoding frame (a ∷ b ∷ c ∷ d ∷ [])) short = idle-after mode room 3 frame (decoded mode (a ∷ b ∷ c ∷ d ∷ idle 4))
idle-ends mode room (Decoding frame (a ∷ b ∷ c ∷ d ∷ e ∷ [])) short = idle-after mode room 4 frame (decoded mode (a ∷ b ∷ c ∷ d ∷ e ∷ idle 3))
idle-ends mode room (Decoding frame (a ∷ b ∷ c ∷ d ∷ e ∷ f ∷ [])) short = idle-after mode room 5 frame (decoded mode (a ∷ b ∷ c ∷ d ∷ e ∷ f ∷ idle 2))
idle-ends mode room (Decoding frame (a ∷ b ∷ c ∷ d ∷ e ∷ f ∷ g ∷ [])) short = idle-after mode room 6 frame (decoded mode (a ∷ b ∷ c ∷ d ∷ e ∷ f ∷ g ∷ idle 1))
idle-ends mode room (Decoding frame (a ∷ b ∷ c ∷ d ∷ e ∷ f ∷ g ∷ h ∷ more)) short = absurd (omega arith)

-- ---- octets lead only to states that satisfy `IsReception`
whole-step : (mode : Mode) (room octet : ℕ) (frame block : List ℕ) → 7 ≤ length block → reception_step mode room (Decoding frame block) octet ≡ after_block room frame (decoded mode (block ++ octet ∷ []))
whole-step mode room octet frame block long =
    ap (λ (t : Bool). if t then (Decoding frame (block ++ octet ∷ []), []) else after_block room frame (decoded mode (block ++ octet ∷ []))) (le-ltb (length block) 7 long)

part-step : (mode : Mode) (room octet : ℕ) (frame block : List ℕ) → length block < 7 → reception_step mode room (Decoding frame block) octet ≡ (Decoding frame (block ++ octet ∷ []), [])
part-step mode room octet frame block short =
    ap (λ (t : Bool). if t then (Decoding frame (block ++ octet ∷ []), []) else after_block room frame (decoded mode (block ++ octet ∷ []))) (lt-ltb (length block) 7 short)

one-more : (block : List ℕ) (octet : ℕ) → length block < 7 → length (block ++ octet ∷ []) < 8
one-more block octet short = let l = length-append block (octet ∷ []) in omega arith

none-waits : 0 < 8
none-waits = omega arith

after-kept : (room : ℕ) (frame : List ℕ) (o : Option (List ℕ)) → IsReception (after_block room frame o).0
after-kept room frame (Some information) =
    elim (cases_lt room (length frame + 7)) [
      | inl over ↦ subst (λ (s : Step). IsReception s.0) (sym (after-over room frame information over)) tt
      | inr fits ↦ subst (λ (s : Step). IsReception s.0) (sym (after-fits room frame information fits)) none-waits
    ]
after-kept room [] None = tt
after-kept room (f ∷ fs) None = tt

search-kept : (mode : Mode) (room last octet : ℕ) (found : Bool) → is_start mode last octet ≡ found → IsReception (reception_step mode room (Searching last) octet).0
search-kept mode room last octet true is = subst (λ (s : Step). IsReception s.0) (sym (found-step mode room last octet is)) none-waits
search-kept mode room last octet false is = subst (λ (s : Step). IsReception s.0) (sym (quiet-step mode room last octet is)) tt

step-kept : (mode : Mode) (room octet : ℕ) (state : Reception) → IsReception state → IsReception (reception_step mode room state octet).0
step-kept mode room octet (Searching last) short = search-kept mode room last octet (is_start mode last octet) refl
step-kept mode room octet (Decoding frame block) short =
    elim (cases_lt (length block) 7) [
      | inl less ↦ subst (λ (s : Step). IsReception s.0) (sym (part-step mode room octet frame block less)) (one-more block octet less)
      | inr whole ↦ subst (λ (s : Step). IsReception s.0) (sym (whole-step mode room octet frame block whole)) (after-kept room frame (decoded mode (block ++ octet ∷ [])))
    ]

pub state-kept : (mode : Mode) (room : ℕ) (os : List ℕ) (state : Reception) → IsReception state → IsReception (state_after mode room state os)
state-kept mode room [] state short = short
state-kept mode room (o ∷ os) state short = state-kept mode room os (reception_step mode room state o).0 (step-kept mode room o state short)

-- while the receiving end searches, the next CLTU is found
search-given : (mode : Mode) (room : ℕ) (state : Reception) (frame rest : List ℕ) → IsSearching state → IsOctets frame → 0 < length frame → length (filled frame) ≤ room
    → frames_of mode room state (cltu frame ++ rest) ≡ filled frame ∷ frames_of mode room (Searching 0) rest
search-given mode room (Searching last) frame rest searching each some fits = cltu-given mode room last frame rest each some fits
search-given mode room (Decoding got block) frame rest searching each some fits = absurd searching

pub found-after-idle : (mode : Mode) (room : ℕ) (state : Reception) (before frame rest : List ℕ) → IsReception state → IsOctets frame → 0 < length frame → length (filled frame) ≤ room
    → frames_of mode room state (before ++ idle 15 ++ (cltu frame ++ rest)) ≡ frames_of mode room state (before ++ idle 15) ++ filled frame ∷ frames_of mode room (Searching 0) rest
found-after-idle mode room state before frame rest short each some fits =
    let back : IsSearching (state_after mode room state (before ++ idle 15)) =
    subst IsSearching (sym (state-append mode room before (idle 15) state)) (idle-ends mode room (state_after mode room state before) (state-kept mode room before state short)) in
    frames-append mode room (before ++ idle 15) (cltu frame ++ rest) state
    ∙ ap (λ (fs : List (List ℕ)). frames_of mode room state (before ++ idle 15) ++ fs) (search-given mode room (state_after mode room state (before ++ idle 15)) frame rest back each some fits)

-- ---- the decoder's own step
set-last : (block : List ℕ) (octet : ℕ) → length block ≡ 8 → (set block 7 octet ≡ take 7 block ++ octet ∷ []) × (length (take 7 block) ≡ 7)
set-last (a ∷ b ∷ c ∷ d ∷ e ∷ f ∷ g ∷ h ∷ []) octet l = (refl, refl)
set-last _ octet l = absurd (omega arith)

pub last-step : (mode : Mode) (room octet last count : ℕ) (frame block : List ℕ) (decoding : Bool) (value : Receiver) (o : Option (List ℕ))
    → decoding ≡ true → 7 ≤ count → count < 8 → length block ≡ 8
    → record { mode = mode; state = (if decoding then Decoding frame (take count block) else Searching last); carried = frame } ≡ value
    → o ≡ decoded mode (set block count octet) → reception_step value.mode room value.state octet ≡ after_block room frame o
last-step mode room octet last count frame block decoding value o on more less l view h =
    let at : 7 ≡ count = omega arith in
    let s = set-last block octet l in
    let s1 = s.1 in
    let state : (if decoding then Decoding frame (take count block) else Searching last) ≡ Decoding frame (take 7 block) =
    ap (λ (t : Bool). if t then Decoding frame (take count block) else Searching last) on ∙ ap (λ (n : ℕ). Decoding frame (take n block)) (sym at) in
    let is : o ≡ decoded mode (take 7 block ++ octet ∷ []) = h ∙ ap (λ (n : ℕ). decoded mode (set block n octet)) (sym at) ∙ ap (decoded mode) s.0 in
    subst (λ (v : Receiver). reception_step v.mode room v.state octet ≡ after_block room frame o) view
    (ap (λ (x : Reception). reception_step mode room x octet) state ∙ whole-step mode room octet frame (take 7 block) (omega arith) ∙ ap (after_block room frame) (sym is))

pub last-fate : (mode : Mode) (room octet last count : ℕ) (frame block : List ℕ) (decoding : Bool) (value : Receiver) (f : Fate)
    → decoding ≡ true → 7 ≤ count → count < 8 → length block ≡ 8
    → record { mode = mode; state = (if decoding then Decoding frame (take count block) else Searching last); carried = frame } ≡ value
    → f ≡ fate_after mode room frame (set block count octet) → Some f ≡ fate_of value.mode room value.state octet
last-fate mode room octet last count frame block decoding value f on more less l view h =
    let at : 7 ≡ count = omega arith in
    let s = set-last block octet l in
    let s1 = s.1 in
    let state : (if decoding then Decoding frame (take count block) else Searching last) ≡ Decoding frame (take 7 block) =
    ap (λ (t : Bool). if t then Decoding frame (take count block) else Searching last) on ∙ ap (λ (n : ℕ). Decoding frame (take n block)) (sym at) in
    let is : f ≡ fate_after mode room frame (take 7 block ++ octet ∷ []) = h ∙ ap (λ (n : ℕ). fate_after mode room frame (set block n octet)) (sym at) ∙ ap (fate_after mode room frame) s.0 in
    let whole : nat_lt (length (take 7 block)) 7 ≡ false = ap (λ (n : ℕ). nat_lt n 7) s1 in
    subst (λ (v : Receiver). Some f ≡ fate_of v.mode room v.state octet) view
    (sym (ap (λ (x : Reception). fate_of mode room x octet) state ∙ ap (λ (t : Bool). if t then None else Some (fate_after mode room frame (take 7 block ++ octet ∷ []))) whole ∙ ap Some (sym is)))

pub one-counted : (fate : Option Fate) → (corrections_of fate ≤ 1) × (rejections_of fate ≤ 1) × (overruns_of fate ≤ 1)
one-counted None = (omega arith, omega arith, omega arith)
one-counted (Some Right) = (omega arith, omega arith, omega arith)
one-counted (Some Corrected) = (omega arith, omega arith, omega arith)
one-counted (Some Tail) = (omega arith, omega arith, omega arith)
one-counted (Some Rejected) = (omega arith, omega arith, omega arith)
one-counted (Some Overlong) = (omega arith, omega arith, omega arith)

-- ---- the front of a piece is a code block or an octet
pub taken_block : (room : ℕ) (before after : Receiver) (os rest block : List ℕ) (given : List (List ℕ)) → block ≡ take 8 os → rest ≡ drop 8 os → length rest + 8 ≡ length os
    → after.state ≡ state_after before.mode room before.state block → given ≡ frames_of before.mode room before.state block → IsTaken room before after os rest given
taken_block room before after os rest block given is left long state frames = record {
  count = 8;
  within = omega (arith, long);
  left = left;
  state = state ∙ ap (state_after before.mode room before.state) is;
  frames = ap (frames_of before.mode room before.state) (sym is) ∙ sym frames;
}

pub taken_octet : (room : ℕ) (before after : Receiver) (os rest : List ℕ) (o : ℕ) (given : List (List ℕ)) → os ≡ o ∷ rest
    → after.state ≡ (reception_step before.mode room before.state o).0 → given ≡ (reception_step before.mode room before.state o).1 → IsTaken room before after os rest given
taken_octet room before after os rest o given whole state frames = record {
  count = 1;
  within = let long = ap length whole in omega (arith, long);
  left = sym (ap (drop 1) whole);
  state = state ∙ sym (ap (λ (x : List ℕ). state_after before.mode room before.state (take 1 x)) whole);
  frames = ap (λ (x : List ℕ). frames_of before.mode room before.state (take 1 x)) whole ∙ append-nil (reception_step before.mode room before.state o).1 ∙ sym frames;
}

pub take-both : (i n : ℕ) (os : List ℕ) → take (i + n) os ≡ take i os ++ take n (drop i os)
take-both i n os = sym (take-append-drop i (take (i + n) os)) ∙ rw (take-take i (i + n) os (omega arith), drop-take i n os) refl

-- processing the front of a piece, and then the front of the rest, processes a longer front of the piece
pub taken-more : (room : ℕ) (first before after : Receiver) (os left rest : List ℕ) (given more : List (List ℕ)) → before.mode ≡ first.mode
    → IsTaken room first before os left given → IsTaken room before after left rest more → IsTaken room first after os rest (given ++ more)
taken-more room first before after os left rest given more mode t u =
    let i = t.count in let k = u.count in
    let within = t.within in let fits = u.within in let long : length left ≡ length os - i = ap length t.left ∙ length-drop i os in
    let front : take k left ≡ take k (drop i os) = ap (take k) t.left in
    record {
      count = i + k;
      within = omega (arith, within, fits, long);
      left = u.left ∙ ap (drop k) t.left ∙ drop-drop k i os;
      state = u.state ∙ ap (λ (m : Mode). state_after m room before.state (take k left)) mode
          ∙ ap (λ (s : Reception). state_after first.mode room s (take k left)) t.state
          ∙ ap (state_after first.mode room (state_after first.mode room first.state (take i os))) front
          ∙ sym (ap (state_after first.mode room first.state) (take-both i k os) ∙ state-append first.mode room (take i os) (take k (drop i os)) first.state);
      frames = ap (frames_of first.mode room first.state) (take-both i k os) ∙ frames-append first.mode room (take i os) (take k (drop i os)) first.state
          ∙ ap (λ (x : List (List ℕ)). x ++ frames_of first.mode room (state_after first.mode room first.state (take i os)) (take k (drop i os))) t.frames
          ∙ ap (λ (x : List (List ℕ)). given ++ x) (sym (ap (frames_of first.mode room (state_after first.mode room first.state (take i os))) front)
          ∙ sym (ap (λ (s : Reception). frames_of first.mode room s (take k left)) t.state)
          ∙ sym (ap (λ (m : Mode). frames_of m room before.state (take k left)) mode) ∙ u.frames);
    }

pub taken-none : (room : ℕ) (first : Receiver) (os : List ℕ) → IsTaken room first first os os []
taken-none room first os = record { count = 0; within = omega arith; left = refl; state = refl; frames = refl }

pub taken-all : (room : ℕ) (first after : Receiver) (os rest : List ℕ) (given : List (List ℕ)) → rest ≡ [] → IsTaken room first after os rest given
    → (after.state ≡ state_after first.mode room first.state os) × (frames_of first.mode room first.state os ≡ given)
taken-all room first after os rest given none t =
    let whole : take t.count os ≡ os = sym (append-nil (take t.count os)) ∙ ap (λ (x : List ℕ). take t.count os ++ x) (sym none ∙ t.left) ∙ take-append-drop t.count os in
    (t.state ∙ ap (state_after first.mode room first.state) whole, sym (ap (frames_of first.mode room first.state) whole) ∙ t.frames)

pub taken-short : (room : ℕ) (first after : Receiver) (os rest : List ℕ) (given : List (List ℕ)) → IsTaken room first after os rest (given ++ after.carried ∷ [])
    → StopsShort room first after os given
taken-short room first after os rest given t = record { count = t.count; within = t.within; state = t.state; frames = t.frames }
