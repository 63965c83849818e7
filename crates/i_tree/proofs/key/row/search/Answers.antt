use Rattle.std.proofs.Common.{refl}
use Rattle.i_tree.specs.Row.{IsParted}
use Rattle.std.proofs.Common.{◌≡◌, ◌-◌, ◌+◌, ◌<◌, ◌/◌, length, drop, sym, ◌∙◌, arith, subst}
use Rattle.std.proofs.lemmas.List.{get_or_default}
use Rattle.std.specs.declared.cmp.Ordering.{Ordering}
use Rattle.std.specs.declared.cmp.Ordering.TheVariants.{Less, Equal, Greater}
use Rattle.i_tree.specs.LiveList.{live_at}
use Rattle.i_tree.proofs.Keys.Rows.{All-kept, live, IsParted-none, IsParted-Less, IsParted-Greater, no_more, few-looked, bound-looked, halved-looked}
use Rattle.i_tree.proofs.key.row.search.Goals as goal

pub loop-low-preserved-then-at-high : goal.loop-low-preserved-then-at-high
loop-low-preserved-then-at-high g c =
    let i = c.loop-low.invariant in
    let middle = c.loop-low.low + (c.loop-low.high - c.loop-low.low) / 2 in
    let same = subst (λ n. live_at g.E.Ord.cmp g.K.ExpiredKey.expires c.args.time (drop middle c.args.entries.now) ≡ live_at g.E.Ord.cmp g.K.ExpiredKey.expires c.args.time (drop n c.args.entries.now)) c.if-at-high.true c.first_live-at.ensures.same in
    record {
      order = omega arith;
      beyond = i.beyond;
      within = omega (arith, i.within);
      last = i.last;
      parted = λ by depends mono parted. IsParted-none g.E.Ord.cmp g.K.ExpiredKey.expires by c.args.time c.args.entries.now c.loop-low.low middle c.loop-low.high (i.parted by depends mono parted) same;
      never_falls = i.never_falls;
      few = i.few;
      halved = no_more (c.loop-low.steps.comparisons - c.args.steps.now.comparisons) (c.loop-low.high - c.loop-low.low) _ _ (omega arith) i.halved;
      pairs = i.pairs;
    }

pub f-requires : goal.f-requires
f-requires g c =
    let inside : c.first_live-at.result < c.loop-low.high = omega (arith, c.first_live-at.ensures.within, c.if-at-high.false) in
    let below : c.first_live-at.result < length c.args.entries.now = omega (arith, inside, c.loop-low.invariant.within, c.requires.within) in
    All-kept (live g.E.Ord.cmp g.K.ExpiredKey.expires c.args.time) (λ entry. goal.F-pre g c.args.f entry.0) c.args.entries.now c.first_live-at.result c.index-entries-at.result c.requires.callable below (c.first_live-at.ensures.live c.index-entries-at.result inside)

pub loop-low-preserved-in-Less : goal.loop-low-preserved-in-Less
loop-low-preserved-in-Less g c =
    let i = c.loop-low.invariant in
    let inside : c.first_live-at.result < c.loop-low.high = omega (arith, c.first_live-at.ensures.within, c.if-at-high.false) in
    let below : c.first_live-at.result < length c.args.entries.now = omega (arith, inside, i.within, c.requires.within) in
    let is = c.first_live-at.ensures.live c.index-entries-at.result inside in
    record {
      order = omega (arith, inside);
      beyond = omega (arith, i.beyond, c.first_live-at.ensures.beyond);
      within = i.within;
      last = λ d past. let back : c.first_live-at.result + 1 - 1 ≡ c.first_live-at.result = omega arith in rw back (c.first_live-at.ensures.live d inside);
      parted = λ by depends mono parted.
          IsParted-Less g.E.Ord.cmp g.K.ExpiredKey.expires by c.args.time c.args.entries.now c.loop-low.low c.loop-low.high c.first_live-at.result c.index-entries-at.result mono below is (i.parted by depends mono parted)
          (sym (All-kept (live g.E.Ord.cmp g.K.ExpiredKey.expires c.args.time) (λ entry. (r : Ordering) → goal.F-post g c.args.f entry.0 r → r ≡ by entry.0) c.args.entries.now c.first_live-at.result c.index-entries-at.result depends below is Less c.in-Less.ensures));
      never_falls = omega (arith, i.never_falls, c.tick_comparison.ensures.comparisons);
      few = few-looked _ _ _ _ _ i.never_falls c.tick_comparison.ensures.comparisons i.halved (omega (arith, c.loop-low-test.true));
      halved = halved-looked _ _ _ _ _ i.never_falls c.tick_comparison.ensures.comparisons i.halved _ (omega (arith, c.first_live-at.ensures.beyond, inside));
      pairs = c.tick_comparison.ensures.pairs ∙ i.pairs;
    }

pub returns-in-Equal-clause-equal : goal.returns-in-Equal-clause-equal
returns-in-Equal-clause-equal g c = λ by depends d.
    let inside : c.first_live-at.result < c.loop-low.high = omega (arith, c.first_live-at.ensures.within, c.if-at-high.false) in
    let below : c.first_live-at.result < length c.args.entries.now = omega (arith, inside, c.loop-low.invariant.within, c.requires.within) in
    let same = get_or_default c.args.entries.now c.first_live-at.result c.index-entries-at.result d below in
    sym (All-kept (live g.E.Ord.cmp g.K.ExpiredKey.expires c.args.time) (λ entry. (r : Ordering) → goal.F-post g c.args.f entry.0 r → r ≡ by entry.0) c.args.entries.now c.first_live-at.result d depends below (c.first_live-at.ensures.live d inside)
    Equal (subst (λ entry. goal.F-post g c.args.f entry.0 Equal) same c.in-Equal.ensures))

pub returns-in-Equal-clause-cost : goal.returns-in-Equal-clause-cost
returns-in-Equal-clause-cost g c =
    let i = c.loop-low.invariant in
    record {
      never_falls = omega (arith, i.never_falls, c.tick_comparison.ensures.comparisons);
      bound = bound-looked _ _ _ _ _ i.never_falls c.tick_comparison.ensures.comparisons i.halved (omega (arith, c.loop-low-test.true));
      pairs = c.tick_comparison.ensures.pairs ∙ i.pairs;
    }

pub loop-low-preserved : goal.loop-low-preserved
loop-low-preserved g c =
    let i = c.loop-low.invariant in
    let middle = c.loop-low.low + (c.loop-low.high - c.loop-low.low) / 2 in
    let inside : c.first_live-at.result < c.loop-low.high = omega (arith, c.first_live-at.ensures.within, c.if-at-high.false) in
    let below : c.first_live-at.result < length c.args.entries.now = omega (arith, inside, i.within, c.requires.within) in
    let is = c.first_live-at.ensures.live c.index-entries-at.result inside in
    record {
      order = omega arith;
      beyond = i.beyond;
      within = omega (arith, i.within);
      last = i.last;
      parted = λ by depends mono parted.
          IsParted-Greater g.E.Ord.cmp g.K.ExpiredKey.expires by c.args.time c.args.entries.now c.loop-low.low c.loop-low.high middle c.first_live-at.result c.index-entries-at.result mono below is
          c.first_live-at.ensures.same (i.parted by depends mono parted)
          (sym (All-kept (live g.E.Ord.cmp g.K.ExpiredKey.expires c.args.time) (λ entry. (r : Ordering) → goal.F-post g c.args.f entry.0 r → r ≡ by entry.0) c.args.entries.now c.first_live-at.result c.index-entries-at.result depends below is Greater c.in-Greater.ensures));
      never_falls = omega (arith, i.never_falls, c.tick_comparison.ensures.comparisons);
      few = few-looked _ _ _ _ _ i.never_falls c.tick_comparison.ensures.comparisons i.halved (omega (arith, c.loop-low-test.true));
      halved = halved-looked _ _ _ _ _ i.never_falls c.tick_comparison.ensures.comparisons i.halved _ (omega (arith, c.loop-low-test.true));
      pairs = c.tick_comparison.ensures.pairs ∙ i.pairs;
    }

pub returns-in-Equal-clause-found : goal.returns-in-Equal-clause-found
returns-in-Equal-clause-found g c = λ d.
    c.first_live-at.ensures.live d (omega (arith, c.first_live-at.ensures.within, c.if-at-high.false))

pub bounds-entries-at : goal.bounds-entries-at
bounds-entries-at g c =
    omega (arith, c.first_live-at.ensures.within, c.if-at-high.false, c.loop-low.invariant.within, c.requires.within)

pub bounds-entries-at-else-at-high : goal.bounds-entries-at-else-at-high
bounds-entries-at-else-at-high g c =
    omega (arith, c.first_live-at.ensures.within, c.if-at-high.false, c.loop-low.invariant.within, c.requires.within)

pub loop-low-smaller-in-Less : goal.loop-low-smaller-in-Less
loop-low-smaller-in-Less g c =
    let less : c.loop-low.high - (c.first_live-at.result + 1) < c.loop-low.high - c.loop-low.low = omega (arith, c.first_live-at.ensures.beyond, c.first_live-at.ensures.within, c.if-at-high.false) in
    less

pub loop-low-smaller-then-at-high : goal.loop-low-smaller-then-at-high
loop-low-smaller-then-at-high g c =
    let less : c.loop-low.low + (c.loop-low.high - c.loop-low.low) / 2 - c.loop-low.low < c.loop-low.high - c.loop-low.low = omega (arith, c.loop-low-test.true) in
    less

pub loop-low-smaller : goal.loop-low-smaller
loop-low-smaller g c =
    let less : c.loop-low.low + (c.loop-low.high - c.loop-low.low) / 2 - c.loop-low.low < c.loop-low.high - c.loop-low.low = omega (arith, c.loop-low-test.true) in
    less

pub tick_comparison-requires : goal.tick_comparison-requires
tick_comparison-requires g c κs = λ h. h

pub returns-clause-parted : goal.returns-clause-parted
returns-clause-parted g c = λ by depends mono parted.
    let i = c.loop-low.invariant in
    let met : c.loop-low.high ≡ c.loop-low.low = omega (arith, i.order, c.loop-low-test.false) in
    subst (λ n. IsParted g.E.Ord.cmp g.K.ExpiredKey.expires by c.args.time c.args.entries.now c.loop-low.low n) met (i.parted by depends mono parted)

pub returns-in-Equal-clause-last : goal.returns-in-Equal-clause-last
returns-in-Equal-clause-last g c = tt

pub returns-in-Equal-clause-within : goal.returns-in-Equal-clause-within
returns-in-Equal-clause-within g c = tt

pub returns-in-Equal-clause-parted : goal.returns-in-Equal-clause-parted
returns-in-Equal-clause-parted g c = λ by depends mono parted. tt

pub returns-in-Equal-clause-found_within : goal.returns-in-Equal-clause-found_within
returns-in-Equal-clause-found_within g c =
    omega (arith, c.first_live-at.ensures.within, c.if-at-high.false, c.loop-low.invariant.within, c.requires.within)

pub returns-clause-found : goal.returns-clause-found
returns-clause-found g c = tt

pub returns-clause-found_within : goal.returns-clause-found_within
returns-clause-found_within g c = tt

pub returns-clause-equal : goal.returns-clause-equal
returns-clause-equal g c = λ by depends. tt

pub returns-clause-last : goal.returns-clause-last
returns-clause-last g c = c.loop-low.invariant.last

pub returns-clause-within : goal.returns-clause-within
returns-clause-within g c = (c.loop-low.invariant.beyond, omega (arith, c.loop-low.invariant.order, c.loop-low.invariant.within))

pub returns-clause-cost : goal.returns-clause-cost
returns-clause-cost g c =
    let i = c.loop-low.invariant in
    record { never_falls = i.never_falls; bound = omega (arith, i.few, i.never_falls); pairs = i.pairs }

pub first_live-at-requires-clause-order : goal.first_live-at-requires-clause-order
first_live-at-requires-clause-order g c = omega (arith, c.loop-low-test.true)

pub first_live-at-requires-clause-within : goal.first_live-at-requires-clause-within
first_live-at-requires-clause-within g c = omega (arith, c.loop-low.invariant.within, c.requires.within)

pub overflow_sub-at : goal.overflow_sub-at
overflow_sub-at g c = c.first_live-at.ensures.beyond

pub overflow_sub-middle : goal.overflow_sub-middle
overflow_sub-middle g c = omega (arith, c.loop-low-test.true)

pub loop-low-init : goal.loop-low-init
loop-low-init g c =
    let none : c.args.steps.now.comparisons - c.args.steps.now.comparisons ≡ 0 = omega arith in
    record {
      order = c.requires.order;
      beyond = omega arith;
      within = omega arith;
      last = λ d less. absurd (omega (arith, less));
      parted = λ by depends mono parted. parted;
      never_falls = omega arith;
      few = omega arith;
      halved = rw none (omega (arith, c.requires.within));
      pairs = refl;
    }
