-- What a flat buffer ends as, where its one contour is lent to be written over.
use Rattle.std.specs.Prelude.{List, slice_index_or}
use Rattle.std.specs.Borrow.{Lends, Fml, RattleType, MutBor, Array}
use Rattle.std.specs.Vec.{with_items_from}
use Rattle.plane_base.specs.declared.point.IntPoint.{IntPoint}
use Rattle.plane_base.specs.declared.flat.FlatContoursBuffer.{FlatContoursBuffer}
use Rattle.plane_base.specs.contracts.flat.FlatContoursBuffer.{the_row}
use Rattle.plane_base.specs.contracts.point.IntPoint.{the_row as point_row}

-- the buffer with these points written over those of its first contour
abbrev pub with_contour : {I : Type 0} → FlatContoursBuffer I → List (IntPoint I) → FlatContoursBuffer I
with_contour buffer points =
    record buffer { points = with_items_from buffer.points (slice_index_or buffer.ranges.items 0 (record { start = 0; end = 0 })).start points }

-- once the borrow r ends, the contour has the points that r shows last
abbrev pub LendsContour : (I : RattleType) → MutBor (FlatContoursBuffer I.Denot) → MutBor (List (IntPoint I.Denot)) → Fml
LendsContour I buffer r = Lends (the_row I) (Array (point_row I) 0) buffer r (with_contour buffer.now)
