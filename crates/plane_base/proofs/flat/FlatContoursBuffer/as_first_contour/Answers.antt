use Rattle.std.proofs.Common.{◌≡◌, ℕ, List, [], ◌∷◌, length, get_or, arith}
use Rattle.std.specs.declared.ops.Range.{Range}
use Rattle.plane_base.specs.Flat.{part, parts}
use Rattle.plane_base.proofs.flat.FlatContoursBuffer.as_first_contour.Goals as goal

-- one range marks out one part
first_part : {A : Type 0} (xs ys : List A) (rs : List (Range ℕ)) (r : Range ℕ) → length rs ≡ 1 → r ≡ get_or rs 0 r → ys ≡ xs → parts xs rs ≡ part ys r ∷ []
first_part xs ys [] r h e f = absurd (omega arith)
first_part xs ys (s ∷ []) r h e f = rw (e, f)
first_part xs ys (s ∷ t ∷ rs) r h e f = absurd (omega arith)

pub returns : goal.returns
returns g c = first_part c.args.self.now.points.items c.deref.result.now c.args.self.now.ranges.items c.index-range.result.now c.requires.single.0 c.index-range.ensures c.deref.ensures.value
