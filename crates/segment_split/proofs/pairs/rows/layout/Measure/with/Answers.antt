use Rattle.std.proofs.Common.{◌≡◌, ◌∙◌, ap₂, to_z, of_z, w64, arith}
use Rattle.std.proofs.lemmas.Int.{ints}
use Rattle.std.specs.Int.{int_min, int_max}
use Rattle.segment_split.proofs.pairs.rows.layout.Measure.with.Goals as goal

pub returns-clause-least : goal.returns-clause-least
returns-clause-least g c =
    let whole : to_z w64 (of_z w64 c.min.result) ≡ c.min.result = omega (arith, ints) in
    let one : to_z w64 (of_z w64 c.args.self.least) ≡ c.args.self.least = omega (arith, ints) in
    let other : to_z w64 (of_z w64 c.rows-low.result.0) ≡ c.rows-low.result.0 = omega (arith, ints) in
    whole ∙ (c.min.ensures.value ∙ ap₂ int_min one (other ∙ c.rows-low.ensures.least))

pub returns-clause-greatest : goal.returns-clause-greatest
returns-clause-greatest g c =
    let whole : to_z w64 (of_z w64 c.max.result) ≡ c.max.result = omega (arith, ints) in
    let one : to_z w64 (of_z w64 c.args.self.greatest) ≡ c.args.self.greatest = omega (arith, ints) in
    let other : to_z w64 (of_z w64 c.rows-low.result.1) ≡ c.rows-low.result.1 = omega (arith, ints) in
    whole ∙ (c.max.ensures.value ∙ ap₂ int_max one (other ∙ c.rows-low.ensures.greatest))
