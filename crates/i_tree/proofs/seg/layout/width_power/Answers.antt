use Rattle.std.proofs.Common.{◌≤◌, arith}
use Rattle.i_tree.proofs.Ranges.Layouts.{IsWidth-power, short_span, long_span}
use Rattle.i_tree.proofs.seg.layout.width_power.Goals as goal
use Rattle.i_tree.proofs.seg.layout.width_power.Goals.{else-power-eq4-via-then-power-eq4+else-to_u32-lt-LEAST_SPAN, else-power-eq4-via-else-power-eq4}

pub returns-then-power-lt4-clause-none : goal.returns-then-power-lt4-clause-none
returns-then-power-lt4-clause-none g c = short_span _ c.ilog2-power.result c.if-power-lt4.true c.ilog2-power.ensures.next_power_gt

pub returns-clause-some : goal.returns-clause-some
returns-clause-some g c =
    let long : 31 ≤ g.U.LayoutUInt.number c.args.span = elim c.else-power-eq4.branch [
      | else-power-eq4-via-then-power-eq4+else-to_u32-lt-LEAST_SPAN w ↦ omega (arith, w.to_u32.ensures, w.if-to_u32-lt-LEAST_SPAN.false)
      | else-power-eq4-via-else-power-eq4 w ↦ long_span _ c.ilog2-power.result (omega (arith, c.if-power-lt4.false, w.if-power-eq4.false)) c.ilog2-power.ensures.power_le
    ] in
    (long, (omega (arith, c.ilog2-power.ensures.bound), IsWidth-power _ c.ilog2-power.result (omega (arith, c.if-power-lt4.false)) c.ilog2-power.ensures.power_le c.ilog2-power.ensures.next_power_gt))
