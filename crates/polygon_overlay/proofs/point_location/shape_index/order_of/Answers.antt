use Rattle.std.proofs.Common.{◌≡◌, ◌+◌, ◌<◌, ℕ, length, map, All, Contains, IsPermutation, refl, sym, subst, arith}
use Rattle.std.proofs.lemmas.List.Sorted.{length_permutation}
use Rattle.polygon_overlay.specs.Stretches.{number_of}
use Rattle.polygon_overlay.specs.declared.point_location.shape_index.Placed.{Placed}
use Rattle.polygon_overlay.proofs.Locating.IndexLaws.{AreNumbered, none_numbered, one_numbered_more, all_inside, each_stands}
use Rattle.polygon_overlay.proofs.Locating.LocationLaws.{written_back}
use Rattle.polygon_overlay.proofs.point_location.shape_index.order_of.Goals as goal

pub loop-number-init : goal.loop-number-init
loop-number-init g c = rw c.in_ok-order.ensures.items none_numbered

pub loop-number-preserved : goal.loop-number-preserved
loop-number-preserved g c =
    subst (λ order. AreNumbered order (c.loop-number.number + 1)) (sym c.in_ok-push.ensures.items)
    (one_numbered_more c.loop-number.order.items c.loop-number.number _ refl c.loop-number.invariant)

pub returns-clause-inside : goal.returns-clause-inside
returns-clause-inside g c =
    let items = c.loop-number.order.items in
    let new = c.sort_by_key.new.order in
    let many = length c.args.outlines.now in
    let moved : IsPermutation items new = subst (λ order. IsPermutation order new) c.deref_mut.ensures.value c.sort_by_key.ensures in
    let all : c.loop-number.number ≡ many = omega (arith, c.loop-number-test.false, c.loop-number.auto.number-end) in
    let back = written_back new items c.loop-number.order.len (omega (arith, length_permutation _ new c.sort_by_key.ensures, c.deref_mut.ensures.len)) in
    subst (All (λ (s : Placed). s.number < many)) (sym back) (all_inside items new many (subst (AreNumbered items) all c.loop-number.invariant) moved)

pub returns-clause-each : goal.returns-clause-each
returns-clause-each g c =
    let items = c.loop-number.order.items in
    let new = c.sort_by_key.new.order in
    let many = length c.args.outlines.now in
    let moved : IsPermutation items new = subst (λ order. IsPermutation order new) c.deref_mut.ensures.value c.sort_by_key.ensures in
    let all : c.loop-number.number ≡ many = omega (arith, c.loop-number-test.false, c.loop-number.auto.number-end) in
    let back = written_back new items c.loop-number.order.len (omega (arith, length_permutation _ new c.sort_by_key.ensures, c.deref_mut.ensures.len)) in
    subst (λ order. (n : ℕ) → n < many → Contains (map number_of order) n) (sym back)
    (each_stands items new many (subst (AreNumbered items) all c.loop-number.invariant) moved)
