use Rattle.std.proofs.Common.{arith, ◌≡◌, ◌*◌, ◌/◌, ◌<◌, inl, inr}
use Rattle.i_tree.specs.Ranges.Masks.{is_met}
use Rattle.i_tree.proofs.Ranges.Masks.{bits_of_run, run_ordered}
use Rattle.i_tree.proofs.Ranges.Levels.{is_level-leaves, is_level-half, level_parity, BeginsUntil-leaves, EndsFrom-leaves, BeginsUntil-half, EndsFrom-half}
use Rattle.i_tree.proofs.Ranges.MaskLoops.{IsDone-none, IsDone-all, IsDone-more, met_here}
use Rattle.i_tree.proofs.seg.mask.range_to_intersect_mask.Goals as goal

pub loop-level-init : goal.loop-level-init
loop-level-init c = record {
  level = is_level-leaves;
  small = omega arith;
  ordered = omega arith;
  right = omega arith;
  starts = omega arith;
  stops = λ h. omega arith;
  begins = BeginsUntil-leaves c.args.last;
  ends = EndsFrom-leaves c.args.first;
  done = IsDone-none (is_met c.args.first c.args.last);
}

pub loop-level-preserved : goal.loop-level-preserved
loop-level-preserved c =
    let l = c.loop-level in
    let now = c.loop-level.invariant in
    let some = c.loop-level-test.true in
    let even = level_parity l.level now.small some now.level in
    let here = met_here c.args.first c.args.last l.level l.left l.right some now.starts (now.stops some) now.begins now.ends in
    record {
      level = is_level-half l.level now.small now.level;
      small = omega (arith, now.small);
      ordered = omega (arith, now.ordered);
      right = omega (arith, now.right);
      starts = omega (arith, now.starts);
      stops = λ h. let stop = now.stops some in elim even as (λ _. l.right / 2 < 2 * (l.level / 2)) [ inl e ↦ omega arith | inr e ↦ omega arith ];
      begins = BeginsUntil-half c.args.last l.level now.small even l.right now.begins;
      ends = EndsFrom-half c.args.first l.level now.small even l.left now.ends;
      done = IsDone-more (is_met c.args.first c.args.last) _ l.level l.mask _ now.small some even here (λ i. bits_of_run l.left l.right i (omega (arith, now.starts, some)) now.ordered (omega (arith, now.right))) now.done;
    }

pub returns : goal.returns
returns c =
    let last : c.loop-level.level ≡ 0 = omega arith in
    IsDone-all _ _ (rw last at c.loop-level.invariant.done)

pub overflow_sub-mask-in-loop-level : goal.overflow_sub-mask-in-loop-level
overflow_sub-mask-in-loop-level c =
    let now = c.loop-level.invariant in
    run_ordered c.loop-level.left c.loop-level.right (omega (arith, now.starts)) now.ordered (omega (arith, now.right))
