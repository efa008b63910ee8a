use Rattle.tc_queues.proofs.Names.{◌≡◌, length, get_or, subst, take, refl, sym, ap, ◌∙◌, arith, get_or_default, take_all, keys_of, rings_in, AreFirst}
use Rattle.tc_queues.proofs.Tables.{no-queue, next-place, kept-place, skip-place, keys-length}
use Rattle.tc_queues.proofs.places.see_places.Goals.{then-key-lt-KEYS+then-index-none, else-key-lt-KEYS, else-key-lt-KEYS-via-then-key-lt-KEYS+else-index-none, else-key-lt-KEYS-via-else-key-lt-KEYS}
use Rattle.tc_queues.proofs.places.see_places.Goals as goal

pub loop-place-init : goal.loop-place-init
loop-place-init g c = no-queue c.in_ok-table.table.items (length c.args.queues.now) (length c.args.queues.now) (c.in_ok-table.ensures.items_if_clones_equal (λ y e. e)) refl

pub loop-place-preserved : goal.loop-place-preserved
loop-place-preserved g c =
    let qs = c.args.queues.now in
    let i = c.loop-place.place in
    let q = c.index-queues-place.result in
    let old = c.loop-place.table.items in
    let is = c.key_with_steps-key.ensures.key in
    let size = c.loop-place.invariant.size in
    elim c.if-key-lt-KEYS.branch [
      | then-key-lt-KEYS+then-index-none w ↦ (
          let lt = w.if-key-lt-KEYS.true in
          let free : get_or old q.key 0 ≡ length qs = ap (λ k. get_or old k 0) (sym is) ∙ get_or_default old c.key_with_steps-key.result 0 w.index.result.now (omega arith) ∙ sym w.index.ensures ∙ w.if-index-none.true in
          rw (w.table-is, is) (next-place qs i (length qs) q old c.loop-place-test.true (omega arith) c.index-queues-place.is (omega arith) free c.loop-place.invariant))
      | else-key-lt-KEYS w ↦ rw w.table-is (elim w.else-key-lt-KEYS.branch [
        | else-key-lt-KEYS-via-then-key-lt-KEYS+else-index-none w' ↦ (
            let lt = w'.if-key-lt-KEYS.true in
            let reported : get_or old q.key 0 ≡ w'.index.result.now = ap (λ k. get_or old k 0) (sym is) ∙ get_or_default old c.key_with_steps-key.result 0 w'.index.result.now (omega arith) ∙ sym w'.index.ensures in
            kept-place qs i (length qs) q old c.loop-place-test.true c.index-queues-place.is (λ e. w'.if-index-none.false (sym reported ∙ e)) c.loop-place.invariant)
        | else-key-lt-KEYS-via-else-key-lt-KEYS w' ↦ (
            let far = w'.if-key-lt-KEYS.false in
            skip-place qs i (length qs) q old c.loop-place-test.true c.index-queues-place.is (omega arith) c.loop-place.invariant)
      ])
    ]

pub returns : goal.returns
returns g c =
    let qs = c.args.queues.now in
    let size = c.loop-place.invariant.size in
    let count = keys-length qs in
    let table : c.into_boxed_slice-2.result.items.items ≡ c.loop-place.table.items = c.into_boxed_slice-2.ensures.items in
    let keys = keys_of (rings_in qs) in
    let items = c.loop-place.table.items in
    let whole : take c.loop-place.place qs ≡ qs = take_all c.loop-place.place qs c.loop-place-test.false in
    let all : AreFirst keys (length qs) items = subst (λ x. AreFirst (keys_of (rings_in x)) (length qs) items) whole c.loop-place.invariant in
    record {
      reported = λ some. rw (table, count) all;
      few = λ some. omega arith;
      many = λ least most none. (let e : length items ≡ 0 = sym (ap length table) ∙ none in absurd (omega arith));
    }
