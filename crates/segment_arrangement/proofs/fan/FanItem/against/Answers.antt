use Rattle.std.proofs.Common.{◌≡◌, ◌∙◌, ap, ap₂, pos, ◌-ℤ◌, ◌*ℤ◌, int_cmp, w64, to_z, of_z, arith}
use Rattle.std.proofs.lemmas.Int.{ints}
use Rattle.plane_base.proofs.Facts.Numbers.Signs.{level_order, above_order, below_order}
use Rattle.segment_arrangement.proofs.fan.FanItem.against.Given.{Over}
use Rattle.segment_arrangement.proofs.fan.FanItem.against.Goals as goal
use Rattle.segment_arrangement.proofs.fan.FanItem.against.Goals.{After-cross_product-turn}

pub cross_product-turn-requires-clause-x_fits : goal.cross_product-turn-requires-clause-x_fits
cross_product-turn-requires-clause-x_fits g c = let same : to_z w64 (of_z w64 c.args.self.width) ≡ c.args.self.width = omega (arith, ints) in rw same c.args.self.forward.width_fits

pub cross_product-turn-requires-clause-y_fits : goal.cross_product-turn-requires-clause-y_fits
cross_product-turn-requires-clause-y_fits g c = let same : to_z w64 (of_z w64 c.args.self.climb) ≡ c.args.self.climb = omega (arith, ints) in rw same c.args.self.forward.climb_fits

pub cross_product-turn-requires-clause-other_x_fits : goal.cross_product-turn-requires-clause-other_x_fits
cross_product-turn-requires-clause-other_x_fits g c = let same : to_z w64 (of_z w64 c.args.other.width) ≡ c.args.other.width = omega (arith, ints) in rw same c.args.other.forward.width_fits

pub cross_product-turn-requires-clause-other_y_fits : goal.cross_product-turn-requires-clause-other_y_fits
cross_product-turn-requires-clause-other_y_fits g c = let same : to_z w64 (of_z w64 c.args.other.climb) ≡ c.args.other.climb = omega (arith, ints) in rw same c.args.other.forward.climb_fits

turn_is :
    (g : Over) (c : After-cross_product-turn g)
    → g.I.Wide.WideIntNumber.number c.cross_product-turn.result ≡ (c.args.self.width *ℤ c.args.other.climb) -ℤ (c.args.self.climb *ℤ c.args.other.width)
turn_is g c =
    let width : to_z w64 (of_z w64 c.args.self.width) ≡ c.args.self.width = omega (arith, ints) in
    let climb : to_z w64 (of_z w64 c.args.self.climb) ≡ c.args.self.climb = omega (arith, ints) in
    let other_width : to_z w64 (of_z w64 c.args.other.width) ≡ c.args.other.width = omega (arith, ints) in
    let other_climb : to_z w64 (of_z w64 c.args.other.climb) ≡ c.args.other.climb = omega (arith, ints) in
    c.cross_product-turn.ensures.is ∙ ap₂ (λ a b. a -ℤ b) (ap₂ (λ a b. a *ℤ b) width other_climb) (ap₂ (λ a b. a *ℤ b) climb other_width)

pub returns-then-is_zero : goal.returns-then-is_zero
returns-then-is_zero g c = level_order (g.I.Wide.WideIntNumber.number c.cross_product-turn.result) c.is_zero.result c.is_zero.ensures c.if-is_zero.true ∙ ap (λ n. int_cmp (pos 0) n) (turn_is g (goal.at.returns-then-is_zero g c).After-cross_product-turn)

pub returns-then-is_positive : goal.returns-then-is_positive
returns-then-is_positive g c =
    above_order (g.I.Wide.WideIntNumber.number c.cross_product-turn.result) c.is_positive.result c.is_positive.ensures c.if-is_positive.true ∙ ap (λ n. int_cmp (pos 0) n) (turn_is g (goal.at.returns-then-is_positive g c).After-cross_product-turn)

pub returns-else-is_positive : goal.returns-else-is_positive
returns-else-is_positive g c =
    below_order (g.I.Wide.WideIntNumber.number c.cross_product-turn.result) c.is_zero.result c.is_positive.result c.is_zero.ensures c.if-is_zero.false c.is_positive.ensures c.if-is_positive.false
    ∙ ap (λ n. int_cmp (pos 0) n) (turn_is g (goal.at.returns-else-is_positive g c).After-cross_product-turn)
