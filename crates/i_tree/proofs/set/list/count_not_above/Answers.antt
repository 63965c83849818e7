use Rattle.std.proofs.Common.{◌<◌, length}
use Rattle.std.proofs.Common.{◌≡◌, sym, ◌∙◌, arith}
use Rattle.std.proofs.lemmas.List.Elements.{All-rest}
use Rattle.std.specs.Fn.{FnReturnsAt}
use Rattle.std.specs.declared.cmp.Ordering.{Ordering}
use Rattle.i_tree.proofs.Keys.LiveParts.{All-first}
use Rattle.i_tree.proofs.Sets.Laws.{leading-here, leading-past}
use Rattle.i_tree.proofs.set.list.count_not_above.Goals as goal

pub f-requires : goal.f-requires
f-requires g c =
    let first = c.in-Some.ensures.cases.0 in
    All-first (λ value. (k : _) → k.now ≡ g.V.KeyValue.key_of value → goal.F-pre g c.args.f k) c.in-Some.value.now c.in-Some.later.now c.loop-value.rest.now first c.loop-value.invariant.callable c.key.result c.key.ensures

pub returns-then-is_gt-clause-count : goal.returns-then-is_gt-clause-count
returns-then-is_gt-clause-count g c = λ by depends.
    let first = c.in-Some.ensures.cases.0 in
    let said : FnReturnsAt g.F.Fn c.args.f (g.V.KeyValue.key_of c.in-Some.value.now) c.f.result = record { shown = c.key.result; shows = c.key.ensures; says = record { met = c.f.ensures } } in
    let told = All-first (λ value. (r : Ordering) → FnReturnsAt g.F.Fn c.args.f (g.V.KeyValue.key_of value) r → r ≡ by (g.V.KeyValue.key_of value)) c.in-Some.value.now c.in-Some.later.now c.loop-value.rest.now first (c.loop-value.invariant.depends by depends) _ said in
    let none = leading-here g.V.KeyValue.key_of by c.loop-value.rest.now c.in-Some.value.now c.in-Some.later.now first c.f.result told (sym c.is_gt.ensures ∙ c.if-is_gt.true) in
    omega (arith, c.loop-value.invariant.count by depends, none)

pub loop-value-preserved : goal.loop-value-preserved
loop-value-preserved g c =
    let first = c.in-Some.ensures.cases in
    record {
      callable = All-rest (λ value. (k : _) → k.now ≡ g.V.KeyValue.key_of value → goal.F-pre g c.args.f k) c.in-Some.value.now c.in-Some.later.now c.loop-value.rest.now first.0 c.loop-value.invariant.callable;
      depends = λ by depends. All-rest (λ value. (r : Ordering) → FnReturnsAt g.F.Fn c.args.f (g.V.KeyValue.key_of value) r → r ≡ by (g.V.KeyValue.key_of value)) c.in-Some.value.now c.in-Some.later.now c.loop-value.rest.now first.0 (c.loop-value.invariant.depends by depends);
      count = λ by depends.
          let said : FnReturnsAt g.F.Fn c.args.f (g.V.KeyValue.key_of c.in-Some.value.now) c.f.result = record { shown = c.key.result; shows = c.key.ensures; says = record { met = c.f.ensures } } in
          let told = All-first (λ value. (r : Ordering) → FnReturnsAt g.F.Fn c.args.f (g.V.KeyValue.key_of value) r → r ≡ by (g.V.KeyValue.key_of value)) c.in-Some.value.now c.in-Some.later.now c.loop-value.rest.now first.0 (c.loop-value.invariant.depends by depends) _ said in
          let more = leading-past g.V.KeyValue.key_of by c.loop-value.rest.now c.in-Some.value.now c.in-Some.later.now first.0 c.f.result told (sym c.is_gt.ensures ∙ c.if-is_gt.false) in
          omega (arith, c.loop-value.invariant.count by depends, more);
      within = omega (arith, c.loop-value.invariant.within, first.1);
      comparisons = omega (arith, c.tick_comparison.ensures.comparisons, c.loop-value.invariant.comparisons);
      pairs = c.tick_comparison.ensures.pairs ∙ c.loop-value.invariant.pairs;
    }

pub returns-then-is_gt-clause-within : goal.returns-then-is_gt-clause-within
returns-then-is_gt-clause-within g c = omega (arith, c.loop-value.invariant.within, c.in-Some.ensures.cases.1)

pub loop-value-smaller : goal.loop-value-smaller
loop-value-smaller g c =
    let less : length c.in-Some.later.now < length c.loop-value.rest.now = omega (arith, c.in-Some.ensures.cases.1) in
    less

pub tick_comparison-requires : goal.tick_comparison-requires
tick_comparison-requires g c κs = λ h. h
