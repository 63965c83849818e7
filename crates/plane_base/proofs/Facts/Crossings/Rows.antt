-- Worked pairs, by computation.
use Rattle.std.proofs.Common.{◌≡◌, ℤ, pos, negsuc, refl, [], ◌∷◌}
use Rattle.plane_base.specs.Plane.{Point, Edge}
use Rattle.plane_base.specs.Crossing.{apart, pure, target_end, other_end, overlay, cross_meeting, late_meeting, cross_marks}

abbrev at : ℤ → ℤ → Point
at x y = record { x = x; y = y }

abbrev from : ℤ → ℤ → ℤ → ℤ → Edge
from x y z w = record { a = at x y; b = at z w }

-- ---- near an end: the rounded crossing lies 5 from (0,3), squared

abbrev rising : Edge
rising = from (pos 0) (pos 0) (pos 5) (pos 5)

abbrev falling : Edge
falling = from (pos 0) (pos 3) (pos 5) (negsuc 1)

near_an_end_below : cross_meeting rising falling 4 ≡ pure (at (pos 2) (pos 2))
near_an_end_below = refl

near_an_end_within : cross_meeting rising falling 5 ≡ other_end (at (pos 0) (pos 3))
near_an_end_within = refl

near_an_end_late : late_meeting rising falling ≡ pure (at (pos 2) (pos 2))
near_an_end_late = refl

-- ---- a horizontal target: 5/2 goes toward its first end, and late up

abbrev flat : Edge
flat = from (pos 0) (pos 0) (pos 10) (pos 0)

abbrev steep : Edge
steep = from (pos 1) (negsuc 0) (pos 4) (pos 1)

truncated : cross_meeting flat steep 1 ≡ pure (at (pos 2) (pos 0))
truncated = refl

truncated_late : late_meeting flat steep ≡ pure (at (pos 3) (pos 0))
truncated_late = refl

-- ---- a mark outside its own segment's box, whoever finds the pair

abbrev slanted : Edge
slanted = from (pos 0) (pos 0) (pos 10) (pos 1)

abbrev vertical : Edge
vertical = from (pos 1) (negsuc 7) (pos 1) (pos 8)

snapped : cross_marks slanted vertical 1 ≡ record { first = []; second = at (pos 0) (pos 0) ∷ [] }
snapped = refl

snapped_exchanged : cross_marks vertical slanted 1 ≡ record { first = at (pos 0) (pos 0) ∷ []; second = [] }
snapped_exchanged = refl

-- ---- on one line, ends inside, shared ends

overlapping : cross_marks (from (pos 0) (pos 0) (pos 4) (pos 4)) (from (pos 1) (pos 1) (pos 6) (pos 6)) 1 ≡ record { first = at (pos 1) (pos 1) ∷ []; second = at (pos 4) (pos 4) ∷ [] }
overlapping = refl

within : cross_meeting (from (pos 0) (pos 0) (pos 4) (pos 4)) (from (pos 1) (pos 1) (pos 3) (pos 3)) 1 ≡ overlay (at (pos 1) (pos 1))
within = refl

end_inside : cross_meeting (from (pos 0) (pos 0) (pos 4) (pos 4)) (from (pos 2) (pos 2) (pos 6) (pos 0)) 1 ≡ other_end (at (pos 2) (pos 2))
end_inside = refl

target_inside : cross_meeting (from (pos 0) (pos 0) (pos 4) (pos 0)) (from (pos 4) (negsuc 2) (pos 4) (pos 3)) 1 ≡ target_end (at (pos 4) (pos 0))
target_inside = refl

shared_end : cross_meeting (from (pos 0) (pos 0) (pos 4) (pos 4)) (from (pos 0) (pos 0) (pos 6) (pos 0)) 100 ≡ apart
shared_end = refl
