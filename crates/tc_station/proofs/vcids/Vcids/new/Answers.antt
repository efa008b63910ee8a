use Rattle.tc_station.proofs.Names.{◌≡◌, ℕ, length, ap, subst, refl, arith}
use Rattle.tc_station.proofs.VcidTable.{HaveEntries, few-ids, none-entered, table-of}
use Rattle.tc_station.proofs.vcids.Vcids.new.Goals as goal

pub loop-place-init : goal.loop-place-init
loop-place-init c = none-entered c.deref-vcid-items.result.now _ refl

pub overflow_cast-table : goal.overflow_cast-table
overflow_cast-table c =
    let few = few-ids c.args.ids.items c.requires.distinct c.requires.allowed in
    let same = ap (length {A = ℕ}) c.deref-vcid-items.ensures.value in
    let lt = c.loop-place-test.true in omega (arith, few, same, lt)

pub invariant_of-result : goal.invariant_of-result
invariant_of-result c =
    let few = few-ids c.args.ids.items c.requires.distinct c.requires.allowed in
    let same = c.deref-vcid-items.ensures.value in
    let far = c.loop-place-test.false in
    let end = c.loop-place.auto.place-end in
    let all : c.loop-place.place ≡ length c.deref-vcid-items.result.now = omega (arith, far, end) in
    table-of c.args.ids.items c.loop-place.table few
    (subst (λ x. HaveEntries x (length x) c.loop-place.table) same (subst (λ n. HaveEntries c.deref-vcid-items.result.now n c.loop-place.table) all c.loop-place.invariant))
