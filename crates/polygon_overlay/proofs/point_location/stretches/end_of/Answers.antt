use Rattle.std.proofs.Common.{◌≡◌, ◌∙◌, ◌-◌, ◌<◌, suc, length, sym, ap, arith}
use Rattle.polygon_overlay.specs.Stretches.{end_before}
use Rattle.polygon_overlay.proofs.Locating.StretchLaws.{end_at}
use Rattle.polygon_overlay.proofs.point_location.stretches.end_of.Goals as goal

pub returns-then-count-eq0 : goal.returns-then-count-eq0
returns-then-count-eq0 g c = sym (ap (end_before c.args.stretches.now) c.if-count-eq0.true)

pub returns : goal.returns
returns g c =
    let all = c.args.stretches.now in
    let n = length all - 1 in
    let long : suc n ≡ length all = omega (arith, c.if-count-eq0.false) in
    let inside : n < length all = omega (arith, long) in
    let s = c.index-stretches-count.result in
    sym (end_at all n s inside) ∙ ap (end_before all) long
