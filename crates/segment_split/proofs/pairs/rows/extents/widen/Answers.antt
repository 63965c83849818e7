use Rattle.std.proofs.Common.{◌≡◌, ◌∙◌, ◌<◌, ◌≤ℤ◌, length, subst, pos, to_z, of_z, w64, arith}
use Rattle.std.proofs.lemmas.List.{get_or_default, length-set}
use Rattle.segment_split.specs.Rows.{extent_at}
use Rattle.segment_split.proofs.Rows.Extents.{covers_more, covers_kept}
use Rattle.segment_split.proofs.pairs.rows.extents.widen.Goals as goal

pub loop-row-preserved : goal.loop-row-preserved
loop-row-preserved c =
    let now = c.loop-row.extents.items in
    let row = c.loop-row.row in
    let e = c.with.result in
    let within : row < length now = omega (arith, c.loop-row-test.true, c.loop-row.invariant.2) in
    let here : c.index.result.now ≡ extent_at now row = c.index.ensures ∙ get_or_default now row c.index.result.now (record { left = pos 0; right = pos 0 }) within in
    let left : e.left ≤ℤ (extent_at now row).left = subst (λ x. e.left ≤ℤ x.left) here c.with.ensures.left.0 in
    let right : (extent_at now row).right ≤ℤ e.right = subst (λ x. x.right ≤ℤ e.right) here c.with.ensures.right.0 in (
      covers_more now row e within left right c.args.low (to_z w64 (of_z w64 c.args.left)) (to_z w64 (of_z w64 c.args.right)) c.with.ensures.left.1 c.with.ensures.right.1 c.loop-row.invariant.0,
      λ r a b h. covers_kept now row e within left right r a b (c.loop-row.invariant.1 r a b h),
      omega (arith, c.loop-row.invariant.2, length-set now row e),
    )

pub returns-clause-keeps : goal.returns-clause-keeps
returns-clause-keeps c = λ r l h covers. c.loop-row.invariant.1 r l h (c.in_ok-lengthen.ensures.keeps r l h covers)
