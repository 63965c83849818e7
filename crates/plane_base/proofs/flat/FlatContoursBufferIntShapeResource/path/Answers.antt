use Rattle.std.proofs.Common.{◌≡◌, ◌<◌, ◌∙◌, sym, ap, ℕ, List, [], length, get_or, arith}
use Rattle.std.specs.declared.ops.Range.{Range}
use Rattle.std.proofs.lemmas.List.{get_or-map, length-map}
use Rattle.plane_base.specs.Flat.{part, parts, IsRangeOf}
use Rattle.plane_base.proofs.Facts.Lists.Taken.{range_at, start_within, end_within}
use Rattle.plane_base.proofs.flat.FlatContoursBufferIntShapeResource.path.Goals as goal
use Rattle.plane_base.proofs.flat.FlatContoursBufferIntShapeResource.path.Given.{Over}
use Rattle.plane_base.proofs.flat.FlatContoursBufferIntShapeResource.path.Goals.{After-deref}

inside : (g : Over) (c : After-deref g) → c.args.index < length c.args.self.now.ranges.items
inside g c = omega (arith, c.requires.inside, length-map c.args.self.now.ranges.items (part c.args.self.now.points.items))

lies : (g : Over) (c : After-deref g) → IsRangeOf (length c.args.self.now.points.items) c.index-range.result.now
lies g c = range_at (length c.args.self.now.points.items) c.args.self.now.ranges.items c.args.index c.index-range.result.now c.requires.ready (inside g c) c.index-range.ensures

-- the part that the range at a place marks out
part_at : {A : Type 0} (xs ys : List A) (rs : List (Range ℕ)) (i : ℕ) (r : Range ℕ) → i < length (parts xs rs) → r ≡ get_or rs i r → ys ≡ xs → part ys r ≡ get_or (parts xs rs) i []
part_at xs ys rs i r h e f =
    let inside : i < length rs = omega (arith, h, length-map rs (part xs)) in
    ap (λ zs. part zs r) f ∙ (ap (part xs) e ∙ sym (get_or-map (part xs) rs i r [] inside))

pub returns : goal.returns
returns g c = part_at c.args.self.now.points.items c.deref.result.now c.args.self.now.ranges.items c.args.index c.index-range.result.now c.requires.inside c.index-range.ensures c.deref.ensures.value

pub index-range-requires : goal.index-range-requires
index-range-requires g c =
    omega (arith, c.requires.inside, length-map c.args.self.now.ranges.items (part c.args.self.now.points.items))

pub offset_bounds-deref-range : goal.offset_bounds-deref-range
offset_bounds-deref-range g c = start_within (length c.deref.result.now) (length c.args.self.now.points.items) c.index-range.result.now (lies g c) (ap length c.deref.ensures.value)

pub slice_bounds-result-count : goal.slice_bounds-result-count
slice_bounds-result-count g c = (lies g c).0

pub slice_bounds-result-start : goal.slice_bounds-result-start
slice_bounds-result-start g c = (lies g c).0

pub slice_bounds-result-end : goal.slice_bounds-result-end
slice_bounds-result-end g c = end_within (length c.deref.result.now) (length c.args.self.now.points.items) c.index-range.result.now (lies g c) (ap length c.deref.ensures.value)
