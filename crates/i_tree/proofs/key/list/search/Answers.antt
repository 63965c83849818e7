use Rattle.std.proofs.Common.{◌<◌, length}
use Rattle.std.proofs.Common.{◌≡◌, arith, ◌∙◌, sym}
use Rattle.std.specs.declared.cmp.Ordering.{Ordering}
use Rattle.std.proofs.lemmas.List.Elements.{All-rest}
use Rattle.i_tree.proofs.Keys.LiveParts.{All-first}
use Rattle.i_tree.proofs.Keys.Places.{further-Less, further-Equal, further-Greater}
use Rattle.i_tree.proofs.key.list.search.Goals as goal

pub f-requires : goal.f-requires
f-requires g c =
    let first = c.in-Some.ensures.cases.0 in
    All-first (λ entry. goal.F-pre g c.args.f entry.0) c.in-Some.entry.now c.in-Some.later.now c.loop-entry.rest.now first c.loop-entry.invariant.callable

pub loop-entry-preserved : goal.loop-entry-preserved
loop-entry-preserved g c =
    let first = c.in-Some.ensures.cases in
    record {
      callable = All-rest (λ entry. goal.F-pre g c.args.f entry.0) c.in-Some.entry.now c.in-Some.later.now c.loop-entry.rest.now first.0 c.loop-entry.invariant.callable;
      depends = λ by depends. All-rest (λ entry. (r : Ordering) → goal.F-post g c.args.f entry.0 r → r ≡ by entry.0) c.in-Some.entry.now c.in-Some.later.now c.loop-entry.rest.now first.0 (c.loop-entry.invariant.depends by depends);
      place = λ by depends. c.loop-entry.invariant.place by depends ∙ further-Less by c.loop-entry.at c.in-Some.entry.now c.loop-entry.rest.now c.in-Some.later.now first.0 (All-first (λ entry. (r : Ordering) → goal.F-post g c.args.f entry.0 r → r ≡ by entry.0) _ _ _ first.0 (c.loop-entry.invariant.depends by depends) _ c.in-Less.ensures);
      within = omega (arith, first.1);
      comparisons = omega arith;
      pairs = c.tick_comparison.ensures.pairs ∙ c.loop-entry.invariant.pairs;
    }

pub returns-in-Equal-clause-place : goal.returns-in-Equal-clause-place
returns-in-Equal-clause-place g c = λ by depends.
    let first = c.in-Some.ensures.cases.0 in
    further-Equal by c.loop-entry.at c.in-Some.entry.now c.loop-entry.rest.now c.in-Some.later.now first (All-first (λ entry. (r : Ordering) → goal.F-post g c.args.f entry.0 r → r ≡ by entry.0) _ _ _ first (c.loop-entry.invariant.depends by depends) _ c.in-Equal.ensures) ∙ sym (c.loop-entry.invariant.place by depends)

pub returns-in-Greater-clause-place : goal.returns-in-Greater-clause-place
returns-in-Greater-clause-place g c = λ by depends.
    let first = c.in-Some.ensures.cases.0 in
    further-Greater by c.loop-entry.at c.in-Some.entry.now c.loop-entry.rest.now c.in-Some.later.now first (All-first (λ entry. (r : Ordering) → goal.F-post g c.args.f entry.0 r → r ≡ by entry.0) _ _ _ first (c.loop-entry.invariant.depends by depends) _ c.in-Greater.ensures) ∙ sym (c.loop-entry.invariant.place by depends)

pub returns-in-Equal-clause-found_within : goal.returns-in-Equal-clause-found_within
returns-in-Equal-clause-found_within g c = omega (arith, c.loop-entry.invariant.within, c.in-Some.ensures.cases.1)

pub returns-in-Equal-clause-within : goal.returns-in-Equal-clause-within
returns-in-Equal-clause-within g c = omega (arith, c.loop-entry.invariant.within, c.in-Some.ensures.cases.1)

pub returns-in-Greater-clause-within : goal.returns-in-Greater-clause-within
returns-in-Greater-clause-within g c = omega (arith, c.loop-entry.invariant.within, c.in-Some.ensures.cases.1)

pub returns-in-Greater-clause-found_within : goal.returns-in-Greater-clause-found_within
returns-in-Greater-clause-found_within g c = tt

pub returns-clause-found_within : goal.returns-clause-found_within
returns-clause-found_within g c = tt

pub loop-entry-smaller : goal.loop-entry-smaller
loop-entry-smaller g c =
    let less : length c.in-Some.later.now < length c.loop-entry.rest.now = omega (arith, c.in-Some.ensures.cases.1) in
    less

pub tick_comparison-requires : goal.tick_comparison-requires
tick_comparison-requires g c κs = λ h. h
