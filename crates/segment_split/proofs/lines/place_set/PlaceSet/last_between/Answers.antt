use Rattle.std.proofs.Common.{subst, Option, IfNone, None, Some, arith}
use Rattle.segment_split.specs.PlaceSet.{IsLastBefore, IsNoneBefore}
use Rattle.segment_split.proofs.PlaceSet.{is_set-members}
use Rattle.segment_split.proofs.lines.place_set.PlaceSet.last_between.Goals as goal

if_none : {X : Type 0} {P : Type 0} (r : Option X) → P → IfNone r P
if_none None h = h
if_none (Some x) h = tt

pub returns-in_err-place-clause-none : goal.returns-in_err-place-clause-none
returns-in_err-place-clause-none c =
    let old = c.self.inside in
    let none = rw c.deref.ensures.value at c.in_err-place.ensures.none in
    if_none c.from_residual.result
    (λ k _ l. subst (λ passes. IsNoneBefore passes c.args.before) (is_set-members old.places old.words.items c.args.self.now c.self.view_is c.self.invariant.none_past) none k l)

pub returns-then-low-place-clause-last : goal.returns-then-low-place-clause-last
returns-then-low-place-clause-last c =
    let old = c.self.inside in
    let last = rw c.deref.ensures.value at c.in_ok-place.ensures.last in
    (c.if-low-place.true, subst (λ passes. IsLastBefore passes c.args.before c.in_ok-place.place) (is_set-members old.places old.words.items c.args.self.now c.self.view_is c.self.invariant.none_past) last)

pub returns-else-low-place-clause-none : goal.returns-else-low-place-clause-none
returns-else-low-place-clause-none c = λ k l m.
    let old = c.self.inside in
    let last = rw c.deref.ensures.value at c.in_ok-place.ensures.last in
    let member = subst (λ passes. IsLastBefore passes c.args.before c.in_ok-place.place) (is_set-members old.places old.words.items c.args.self.now c.self.view_is c.self.invariant.none_past) last in
    member.between k (omega (arith, l, c.if-low-place.false)) m
