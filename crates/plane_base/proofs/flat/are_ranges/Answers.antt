use Rattle.std.proofs.Common.{◌≡◌, refl, take, arith}
use Rattle.std.proofs.lemmas.List.{take_all, take_more}
use Rattle.std.proofs.lemmas.List.Elements.{All-push}
use Rattle.plane_base.specs.Flat.{IsRangeOf}
use Rattle.plane_base.proofs.flat.are_ranges.Goals as goal

pub loop-range-preserved : goal.loop-range-preserved
loop-range-preserved c =
    rw (take_more c.args.ranges.now c.loop-range.range-index (record { start = 0; end = 0 }) c.loop-range-test.true)
    (All-push (IsRangeOf c.args.len) _ _ c.loop-range.invariant (c.is_range.ensures.0 c.if-not-is_range.false))

pub returns : goal.returns
returns c =
    let all : take c.loop-range.range-index c.args.ranges.now ≡ c.args.ranges.now = take_all c.loop-range.range-index c.args.ranges.now (omega (arith, c.loop-range-test.false)) in
    (λ e. rw all at c.loop-range.invariant, λ h. refl)
