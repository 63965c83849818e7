use Rattle.std.proofs.Common.{arith, ◌≡◌, ◌*◌, ◌/◌, ◌≤◌, inl, inr}
use Rattle.i_tree.specs.Ranges.Masks.{is_placed}
use Rattle.i_tree.proofs.Ranges.Levels.{is_level-leaves, is_level-half, level_parity, BeginsFrom-leaves, EndsBefore-leaves, BeginsFrom-half, EndsBefore-half}
use Rattle.i_tree.proofs.Ranges.MaskLoops.{IsDone-none, IsDone-all, IsDone-more, IsDone-skip, bits_some_ends, no_ends, placed_here}
use Rattle.i_tree.proofs.Ranges.Shares.{share_iff_overlap}
use Rattle.i_tree.proofs.Ranges.Fewest.{IsFewest-place_mask}
use Rattle.i_tree.proofs.seg.mask.range_to_place_mask.Goals as goal
use Rattle.i_tree.proofs.seg.mask.range_to_place_mask.Goals.{then-left-right, else-left-right}

pub loop-level-init : goal.loop-level-init
loop-level-init c = record {
  level = is_level-leaves;
  small = omega arith;
  some = omega arith;
  left = omega arith;
  right = omega arith;
  starts = omega arith;
  stops = λ h. omega arith;
  begins = BeginsFrom-leaves c.args.first;
  ends = EndsBefore-leaves c.args.last;
  done = IsDone-none (is_placed c.args.first c.args.last);
}

pub loop-level-preserved : goal.loop-level-preserved
loop-level-preserved c =
    let l = c.loop-level in
    let now = c.loop-level.invariant in
    let some = c.loop-level-test.true in
    let even = level_parity l.level now.small some now.level in
    let here = placed_here c.args.first c.args.last l.level l.left l.right now.small some even now.some now.starts (now.stops some) now.begins now.ends in
    record {
      level = is_level-half l.level now.small now.level;
      small = omega (arith, now.small);
      some = omega (arith, now.some);
      left = omega (arith, now.left);
      right = omega (arith, now.right);
      starts = omega (arith, now.starts);
      stops = λ h. let stop = now.stops some in elim even as (λ _. l.right / 2 ≤ 2 * (l.level / 2)) [ inl e ↦ omega arith | inr e ↦ omega arith ];
      begins = BeginsFrom-half c.args.first l.level now.small even l.left now.begins;
      ends = EndsBefore-half c.args.last l.level now.small even l.right now.ends;
      done = elim c.if-left-right.branch [
        | then-left-right w ↦ rw w.mask-is (IsDone-more (is_placed c.args.first c.args.last) _ l.level l.mask w.ends_without_parent-mask.result now.small some even here (bits_some_ends l.left l.right _ w.if-left-right.true w.ends_without_parent-mask.ensures) now.done)
        | else-left-right w ↦ rw w.mask-is (IsDone-skip (is_placed c.args.first c.args.last) _ l.level l.mask now.small some even here (no_ends l.left l.right w.if-left-right.false) now.done)
      ];
    }

pub returns-clause-nodes : goal.returns-clause-nodes
returns-clause-nodes c =
    let last : c.loop-level.level ≡ 0 = omega arith in
    IsDone-all _ _ (rw last at c.loop-level.invariant.done)

pub returns-clause-fewest : goal.returns-clause-fewest
returns-clause-fewest c = rw (returns-clause-nodes c) (IsFewest-place_mask c.args.first c.args.last c.requires.inside)

pub returns-clause-shares : goal.returns-clause-shares
returns-clause-shares c = rw (returns-clause-nodes c) (λ low high h k. share_iff_overlap c.args.first c.args.last low high c.requires.ordered c.requires.inside h k)
