-- The session that meets all premises at once: `learnt_by_9` of `Loops`, with its frames in CLTUs.
use Rattle.tc_laws.proofs.EndsLemmas.Names.{AreGivenOf, AreTakenOut, ap, checksum_of, frame_with_field-passes, journal, of_wrong, packets_made, passed_before, released_since, units_on, with_wrong_field, IsInformation, times_x, Action, AllByRecursion, AreCarriedOrLost, AreFrom, AreNearBlocks, AreNumbered, Arrive, CanBeSent, CarriesWell, Correct, Frame, Hear, IsLost, IsMadeFrame, IsNearCltu, IsPacket, IsWhole, List, Other, Queue, Release, Send, SendsOnly, Some, Take, [], all_enclosed, append-nil, arith, around, block_times_x, by_bd, correcting, decoded, enclosed, enclosing, era, era_session, errors, events, filled, first-far, first_frame, first_header, first_state_within, frame_with_field, frame_with_field-frame, get_or, header_later, idle, idle-far, in_cltus, in_small_segments, inl, inr, learnt_by_9, length, no_limits, octet_bits, octets-by, octets_before_field, of_before, of_both, of_nothing, of_set_v_r, one_unit, packet, packets_given, passed_on, piece_at, queue_of, receiver, refl, run_within, segment_at, small, so-at, some_of_first, start-far, start-same, subst, suc, sym, true, whole-0, whole-1, whole-2, whole-bd, zero, ℕ, ◌++◌, ◌<◌, ◌∙◌, ◌∷◌, ◌≡◌, ◌≤◌}
use Rattle.tc_channel.specs.Lossless.{DropsNone}
use Rattle.tc_laws.proofs.EndsLemmas.Arrived.{cut-lost, idle-lost, refused-lost}
use Rattle.tc_laws.proofs.LoopsLemmas.Starts.{allowed-2}
use Rattle.tc_queues.specs.ChannelState.{waiting}

is-packet : IsPacket packet
is-packet = record { least = omega arith; most = omega arith; version = refl; named = refl }

pub can : AllByRecursion (CanBeSent learnt_by_9.loop.limits true) one_unit
unfolding no_limits
can = (record { map_id = omega arith; one_stream = λ e. refl; size = omega arith; packets = (is-packet, tt); sendable = (omega arith, omega arith, omega arith) }, tt)

pub can-in-small : CanBeSent no_limits true in_small_segments
unfolding no_limits
can-in-small = record { map_id = omega arith; one_stream = λ e. absurd cc; size = omega arith; packets = (is-packet, (is-packet, tt)); sendable = (omega arith, omega arith, omega arith) }

written : (k : ℕ) → k < 1 → IsMadeFrame (get_or (first_frame ∷ []) k []) (header_later first_header k) (Some (segment_at 0 249 k packet)) (piece_at 249 packet k)
written zero low = (record { whole = whole-2 0; header_bits = refl; rest = refl }, (refl, refl))
written (suc k) low = absurd (omega arith)

pub numbered : AreNumbered true first_header one_unit (first_frame ∷ [])
numbered = (first_frame ∷ [], [], refl, record { count = refl; each = written }, refl)

pub from-first : AreFrom (era learnt_by_9).frames (first_frame ∷ [])
from-first zero frame e = let q : first_frame ≡ frame = cc in q
from-first (suc i) frame e = absurd cc

abbrev IsFirst : ℕ → Action → Type 0
IsFirst t (Send i) = i < 1
IsFirst t _ = Unit {0}

pub only-first : SendsOnly 1 (era_session learnt_by_9)
only-first t i e = so-at IsFirst (era_session learnt_by_9) t (Send i) (tt, (tt, (tt, (tt, (tt, (tt, (tt, (omega arith, (tt, (tt, (tt, (tt, (tt, (tt, (tt, (tt, tt)))))))))))))))) e

-- ---- the CLTUs

near-cltu : (last : ℕ) (carried blocks : List ℕ) → AreNearBlocks Correct (filled carried) blocks → IsNearCltu Correct last carried (enclosing blocks)
unfolding decoded block_times_x octet_bits
near-cltu last carried blocks near = record {
  one = 0xEB;
  two = 0x90;
  blocks = blocks;
  tail = 0xC5 ∷ 0xC5 ∷ 0xC5 ∷ 0xC5 ∷ 0xC5 ∷ 0xC5 ∷ 0xC5 ∷ [];
  end = 0x79;
  parts = refl;
  no_start_yet = start-far Correct last 0xEB first-far;
  start = start-same Correct;
  near = near;
  long = refl;
  rejected = refl;
}

few : (block information : List ℕ) (n : ℕ) → errors block information ≡ n → n ≤ 1 → errors block information ≤ 1
few block information n is less = subst (λ m. m ≤ 1) (sym is) less

seven : (xs : List ℕ) → small xs ≡ true → length xs ≡ 7 → IsInformation xs
seven xs each long = record { each = octets-by xs each; seven = long }

-- the frames of the session are these octets once their frame error control fields are appended
pub with-fields : (enclosed true (around 9 0) ≡ 0x00 ∷ 0x00 ∷ 0x00 ∷ 0x07 ∷ 0x00 ∷ 0x00 ∷ 0x8b ∷ 0x80 ∷ [])
    × (enclosed true (around 9 1) ≡ 0x30 ∷ 0x2a ∷ 0x04 ∷ 0x09 ∷ 0x00 ∷ 0x82 ∷ 0x00 ∷ 0x09 ∷ 0x80 ∷ 0x94 ∷ [])
    × (enclosed true first_frame ≡ 0x00 ∷ 0x2a ∷ 0x04 ∷ 0x0e ∷ 0x09 ∷ 0xc0 ∷ 0x10 ∷ 0x05 ∷ 0xc0 ∷ 0x00 ∷ 0x00 ∷ 0x00 ∷ 0xaa ∷ 0xa9 ∷ 0xb2 ∷ [])
    × (enclosed true by_bd ≡ 0x20 ∷ 0x2a ∷ 0x04 ∷ 0x08 ∷ 0x00 ∷ 0xc1 ∷ 0x00 ∷ 0x05 ∷ 0x92 ∷ [])
unfolding frame_with_field octets_before_field octet_bits times_x
with-fields = (refl, refl, refl, refl)

fits : (frame : List ℕ) → IsWhole frame → length frame ≤ 1022 → IsWhole (enclosed true frame)
fits frame whole most = (frame_with_field-frame frame whole most).whole

-- if code blocks differ in few bits from the octets of one frame, or of two, a CLTU of these blocks carries the frames
-- well
one-carried : (last : ℕ) (frame sent blocks : List ℕ) → IsWhole frame → length frame ≤ 1022 → enclosed true frame ≡ sent → length sent ≤ 1029 → AreNearBlocks Correct (filled sent) blocks → CarriesWell correcting last (frame ∷ []) (enclosing blocks)
one-carried last frame sent blocks whole most is short near =
    let all : all_enclosed true (frame ∷ []) ≡ sent = append-nil (enclosed true frame) ∙ is in
    record {
      whole = (whole, tt);
      fitting = (fits frame whole most, tt);
      some = omega arith;
      one = λ e. absurd cc;
      few = subst (λ (x : List ℕ). length x ≤ 1029) (sym all) short;
      near = subst (λ (x : List ℕ). IsNearCltu Correct last x (enclosing blocks)) (sym all) (near-cltu last sent blocks near);
    }

two-carried : (last : ℕ) (one two first second blocks : List ℕ) → IsWhole one → IsWhole two → length one ≤ 1022 → length two ≤ 1022 → enclosed true one ≡ first → enclosed true two ≡ second → length (first ++ second) ≤ 1029
    → AreNearBlocks Correct (filled (first ++ second)) blocks → CarriesWell correcting last (one ∷ two ∷ []) (enclosing blocks)
two-carried last one two first second blocks w v most also is so short near =
    let all : all_enclosed true (one ∷ two ∷ []) ≡ first ++ second = (λ i. is i ++ append-nil (so i) i) in
    record {
      whole = (w, (v, tt));
      fitting = (fits one w most, (fits two v also, tt));
      some = omega arith;
      one = λ e. absurd cc;
      few = subst (λ (x : List ℕ). length x ≤ 1029) (sym all) short;
      near = subst (λ (x : List ℕ). IsNearCltu Correct last x (enclosing blocks)) (sym all) (near-cltu last (first ++ second) blocks near);
    }

before-carried : (last : ℕ) → CarriesWell correcting last (around 9 0 ∷ []) of_before
unfolding block_times_x octet_bits
before-carried last =
    let own_0 : List ℕ = 0x80 ∷ 0x00 ∷ 0x00 ∷ 0x07 ∷ 0x00 ∷ 0x00 ∷ 0x8b ∷ [] in
    let sent_0 : List ℕ = 0x00 ∷ 0x00 ∷ 0x00 ∷ 0x07 ∷ 0x00 ∷ 0x00 ∷ 0x8b ∷ [] in
    let own_1 : List ℕ = 0x80 ∷ 0x55 ∷ 0x55 ∷ 0x55 ∷ 0x55 ∷ 0x55 ∷ 0x55 ∷ [] in
    one-carried last (around 9 0) (0x00 ∷ 0x00 ∷ 0x00 ∷ 0x07 ∷ 0x00 ∷ 0x00 ∷ 0x8b ∷ 0x80 ∷ []) _ whole-0 (omega arith) with-fields.0 (omega arith)
    (own_0, 0xde, own_1 ++ 0xac ∷ [], seven own_0 refl refl, refl, seven sent_0 refl refl, few (own_0 ++ 0xde ∷ []) sent_0 1 refl (omega arith), (own_1, 0xac, [], seven own_1 refl refl, refl, seven own_1 refl refl, few (own_1 ++ 0xac ∷ []) own_1 0 refl (omega arith), refl))

set-carried : (last : ℕ) → CarriesWell correcting last (around 9 1 ∷ []) of_set_v_r
unfolding block_times_x octet_bits
set-carried last =
    let own_0 : List ℕ = 0x30 ∷ 0x2a ∷ 0x04 ∷ 0x09 ∷ 0x00 ∷ 0x82 ∷ 0x00 ∷ [] in
    let own_1 : List ℕ = 0x09 ∷ 0x80 ∷ 0x94 ∷ 0x55 ∷ 0x55 ∷ 0x55 ∷ 0x55 ∷ [] in
    one-carried last (around 9 1) (0x30 ∷ 0x2a ∷ 0x04 ∷ 0x09 ∷ 0x00 ∷ 0x82 ∷ 0x00 ∷ 0x09 ∷ 0x80 ∷ 0x94 ∷ []) _ whole-1 (omega arith) with-fields.1 (omega arith)
    (own_0, 0xda, own_1 ++ 0x26 ∷ [], seven own_0 refl refl, refl, seven own_0 refl refl, few (own_0 ++ 0xda ∷ []) own_0 0 refl (omega arith), (own_1, 0x26, [], seven own_1 refl refl, refl, seven own_1 refl refl, few (own_1 ++ 0x26 ∷ []) own_1 0 refl (omega arith), refl))

both-carried : (last : ℕ) → CarriesWell correcting last (around 9 2 ∷ by_bd ∷ []) of_both
unfolding block_times_x octet_bits
both-carried last =
    let own_0 : List ℕ = 0x00 ∷ 0x2b ∷ 0x04 ∷ 0x0e ∷ 0x09 ∷ 0xc0 ∷ 0x10 ∷ [] in
    let sent_0 : List ℕ = 0x00 ∷ 0x2a ∷ 0x04 ∷ 0x0e ∷ 0x09 ∷ 0xc0 ∷ 0x10 ∷ [] in
    let own_1 : List ℕ = 0x05 ∷ 0xc0 ∷ 0x00 ∷ 0x00 ∷ 0x00 ∷ 0xaa ∷ 0xa9 ∷ [] in
    let own_2 : List ℕ = 0xb2 ∷ 0x20 ∷ 0x2a ∷ 0x04 ∷ 0x08 ∷ 0x00 ∷ 0xc1 ∷ [] in
    let own_3 : List ℕ = 0x00 ∷ 0x05 ∷ 0x92 ∷ 0x55 ∷ 0x55 ∷ 0x55 ∷ 0x55 ∷ [] in
    two-carried last (around 9 2) by_bd (0x00 ∷ 0x2a ∷ 0x04 ∷ 0x0e ∷ 0x09 ∷ 0xc0 ∷ 0x10 ∷ 0x05 ∷ 0xc0 ∷ 0x00 ∷ 0x00 ∷ 0x00 ∷ 0xaa ∷ 0xa9 ∷ 0xb2 ∷ []) (0x20 ∷ 0x2a ∷ 0x04 ∷ 0x08 ∷ 0x00 ∷ 0xc1 ∷ 0x00 ∷ 0x05 ∷ 0x92 ∷ []) _ (whole-2 0) whole-bd (omega arith) (omega arith) with-fields.2 with-fields.3 (omega arith)
    (own_0, 0x62, own_1 ++ 0x44 ∷ own_2 ++ 0xca ∷ own_3 ++ 0xb2 ∷ [], seven own_0 refl refl, refl, seven sent_0 refl refl, few (own_0 ++ 0x62 ∷ []) sent_0 1 refl (omega arith), (own_1, 0x44, own_2 ++ 0xca ∷ own_3 ++ 0xb2 ∷ [], seven own_1 refl refl, refl, seven own_1 refl refl, few (own_1 ++ 0x44 ∷ []) own_1 1 refl (omega arith), (own_2, 0xca, own_3 ++ 0xb2 ∷ [], seven own_2 refl refl, refl, seven own_2 refl refl, few (own_2 ++ 0xca ∷ []) own_2 0 refl (omega arith), (own_3, 0xb2, [], seven own_3 refl refl, refl, seven own_3 refl refl, few (own_3 ++ 0xb2 ∷ []) own_3 0 refl (omega arith), refl))))

nothing-lost : (last : ℕ) → IsLost correcting last of_nothing 0
unfolding decoded block_times_x octet_bits
nothing-lost last = cut-lost correcting last 0xEB 0x90 (0x33 ∷ 0x2a ∷ 0x04 ∷ 0x09 ∷ 0x00 ∷ 0x82 ∷ 0x00 ∷ []) 0xda (start-far Correct last 0xEB first-far) (start-same Correct) refl refl

-- `with_wrong_field` isn't a frame with its frame error control field, since the check sum over it isn't 0
refused : (frame : List ℕ) → IsWhole frame → with_wrong_field ≡ enclosed true frame → ⊥
unfolding octet_bits times_x
refused frame whole e =
    let zero : checksum_of with_wrong_field ≡ 0 = ap checksum_of e ∙ frame_with_field-passes frame in
    let other : checksum_of with_wrong_field ≡ 4129 = refl in
    absurd cc

wrong-lost : (last : ℕ) → IsLost correcting last of_wrong 0
unfolding block_times_x octet_bits
wrong-lost last =
    let own_0 : List ℕ = 0x30 ∷ 0x2a ∷ 0x04 ∷ 0x09 ∷ 0x00 ∷ 0x82 ∷ 0x00 ∷ [] in
    let own_1 : List ℕ = 0x09 ∷ 0x80 ∷ 0x95 ∷ 0x55 ∷ 0x55 ∷ 0x55 ∷ 0x55 ∷ [] in
    let near : AreNearBlocks Correct (filled with_wrong_field) (own_0 ++ 0xda ∷ own_1 ++ 0xcc ∷ []) = (
      own_0,
      0xda,
      own_1 ++ 0xcc ∷ [],
      seven own_0 refl refl,
      refl,
      seven own_0 refl refl,
      few (own_0 ++ 0xda ∷ []) own_0 0 refl (omega arith),
      (own_1, 0xcc, [], seven own_1 refl refl, refl, seven own_1 refl refl, few (own_1 ++ 0xcc ∷ []) own_1 0 refl (omega arith), refl),
    ) in
    let whole : IsWhole with_wrong_field = record { each = octets-by with_wrong_field refl; least = omega arith; most = omega arith; version = refl; spare = refl; named = refl } in
    let taken : AreTakenOut true (filled with_wrong_field) (with_wrong_field ∷ []) = (0x55 ∷ 0x55 ∷ 0x55 ∷ 0x55 ∷ [], record { each = (whole, tt); parts = refl; few = omega arith; ended = inr refl }) in
    refused-lost correcting last with_wrong_field of_wrong refl (near-cltu last with_wrong_field _ near) (with_wrong_field ∷ [], [], [], taken, inr (refused, refl), refl, refl)

pub carried : AreCarriedOrLost correcting learnt_by_9.loop.frames 0 learnt_by_9.session in_cltus
carried =
    let quiet = idle-lost correcting 0 (idle 2) (start-far Correct 0 0x55 idle-far, (start-far Correct 0x55 0x55 idle-far, tt)) in (
      Send 0 ∷ [],
      _,
      quiet.0,
      refl,
      inl (refl, quiet.1),
      (
        Arrive 0 0 ∷ Send 1 ∷ Hear 0 ∷ [],
        _,
        0,
        refl,
        inr (around 9 0 ∷ [], refl, before-carried quiet.0, refl),
        (
          Arrive 1 2 ∷ Send 1 ∷ Hear 5 ∷ Send 2 ∷ [],
          _,
          0,
          refl,
          inr (around 9 1 ∷ [], refl, set-carried 0, refl),
          (
            [],
            _,
            0,
            refl,
            inl (refl, nothing-lost 0),
            (
              [],
              _,
              0,
              refl,
              inl (refl, wrong-lost 0),
              (
                Arrive 1 2 ∷ [],
                _,
                0,
                refl,
                inr (around 9 1 ∷ [], refl, set-carried 0, refl),
                (
                  Arrive 2 7 ∷ Other (Frame by_bd) ∷ Hear 11 ∷ Hear 11 ∷ [],
                  _,
                  0,
                  refl,
                  inr (around 9 2 ∷ by_bd ∷ [], refl, both-carried 0, refl),
                  (
                    Other Release ∷ [],
                    _,
                    0,
                    refl,
                    (refl, refl),
                    (Other Release ∷ [], _, 0, refl, (refl, refl), (Other (Take 5) ∷ [], [], 0, refl, (refl, refl), refl)),
                  ),
                ),
              ),
            ),
          ),
        ),
      ),
    )

pub queue : (q : Queue) × (queue_of 5 (receiver learnt_by_9.loop learnt_by_9.session).queues ≡ Some q)
unfolding run_within some_of_first passed_on no_limits
queue = (_, refl)

pub given : packets_given learnt_by_9.loop.settings 5 (first_state_within learnt_by_9.loop.limits learnt_by_9.loop.settings) (events learnt_by_9.loop learnt_by_9.session) ≡ packet ∷ []
unfolding passed_on some_of_first no_limits
given = refl

pub drops_none : DropsNone learnt_by_9.loop.settings (first_state_within learnt_by_9.loop.limits learnt_by_9.loop.settings) (events learnt_by_9.loop learnt_by_9.session)
unfolding passed_on some_of_first no_limits
drops_none = (refl, (refl, (refl, (refl, (refl, (refl, (refl, (refl, tt))))))))

-- the law's conclusion for this session
abbrev IsGivenHere : Type 0
IsGivenHere = AreGivenOf learnt_by_9.loop.limits learnt_by_9.loop.settings 5 (era learnt_by_9).before (journal learnt_by_9.loop learnt_by_9.session) 1 (units_on one_unit)

released : released_since learnt_by_9.loop.limits learnt_by_9.loop.settings (era learnt_by_9).before (journal learnt_by_9.loop learnt_by_9.session) ≡ 1
unfolding run_within some_of_first passed_on no_limits
released = refl

pub whole-here : (g : IsGivenHere) → packets_made learnt_by_9.loop.limits learnt_by_9.loop.settings 5 (receiver learnt_by_9.loop learnt_by_9.session).passed
    ≡ packets_made learnt_by_9.loop.limits learnt_by_9.loop.settings 5 (passed_before learnt_by_9.loop.limits learnt_by_9.loop.settings (era learnt_by_9).before (journal learnt_by_9.loop learnt_by_9.session)) ++ g.merged
whole-here g = g.whole released

none-waits : waiting queue.0 ≡ []
unfolding run_within some_of_first passed_on no_limits queue
none-waits = refl

pub all-here : (g : IsGivenHere) → packets_given learnt_by_9.loop.settings 5 (first_state_within learnt_by_9.loop.limits learnt_by_9.loop.settings) (journal learnt_by_9.loop learnt_by_9.session)
    ≡ packets_made learnt_by_9.loop.limits learnt_by_9.loop.settings 5 (passed_before learnt_by_9.loop.limits learnt_by_9.loop.settings (era learnt_by_9).before (journal learnt_by_9.loop learnt_by_9.session)) ++ g.merged
all-here g = g.all queue.0 allowed-2 drops_none released queue.1 none-waits
