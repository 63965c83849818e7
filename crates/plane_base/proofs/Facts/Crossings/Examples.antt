-- Examples of how two segments meet, worked out by hand and computed by the prover.
use Rattle.std.proofs.Common.{◌≡◌, ℤ, pos, negsuc, true, false, [], ◌∷◌, refl, ◌≤ℤ◌, arith}
use Rattle.std.proofs.lemmas.Int.{ints}
use Rattle.plane_base.specs.Plane.{Point, Edge}
use Rattle.plane_base.specs.Segments.{cross_properly}
use Rattle.plane_base.specs.Crossing.{nearest, rounded, is_whole, crossing, no_marks, cross_marks, late_marks}
use Rattle.plane_base.specs.RoundingLaws.{IsAlong, IsRoundedOn}
use Rattle.plane_base.specs.WholeLaws.{IsPiece, IsSamePlace}
use Rattle.plane_base.specs.MarkingLaws.{both_at, lesser_edge}

abbrev at : ℤ → ℤ → Point
at x y = record { x = x; y = y }

abbrev from_to : Point → Point → Edge
from_to a b = record { a = a; b = b }

-- ---- rounding

third : nearest (pos 1) 3 ≡ pos 0
third = refl

half_up : nearest (pos 3) 2 ≡ pos 2
half_up = refl

half_up_below : nearest (negsuc 2) 2 ≡ negsuc 0
half_up_below = refl

-- ---- a crossing off the grid, at (3/2, 3/2)

abbrev rising : Edge
rising = from_to (at (pos 0) (pos 0)) (at (pos 5) (pos 5))

abbrev falling : Edge
falling = from_to (at (pos 0) (pos 3)) (at (pos 5) (negsuc 1))

they_cross : cross_properly rising falling ≡ true
they_cross = refl

off_the_grid : is_whole (crossing rising falling) ≡ false
off_the_grid = refl

to_the_nearest : rounded (crossing rising falling) ≡ at (pos 2) (pos 2)
to_the_nearest = refl

along_the_lesser : lesser_edge falling rising ≡ rising
along_the_lesser = refl

-- the squared distance to (0, 3) is 5
near_an_end : cross_marks rising falling 5 ≡ record { first = at (pos 0) (pos 3) ∷ []; second = [] }
near_an_end = refl

near_an_end_turned : cross_marks falling rising 5 ≡ record { first = []; second = at (pos 0) (pos 3) ∷ [] }
near_an_end_turned = refl

beyond_all_ends : cross_marks rising falling 4 ≡ both_at (at (pos 2) (pos 2))
beyond_all_ends = refl

late : late_marks rising falling ≡ both_at (at (pos 2) (pos 2))
late = refl

-- ---- a crossing at (1/3, 2/3), which late goes to an own end of the second

late_at_an_end : late_marks (from_to (at (pos 0) (pos 0)) (at (pos 1) (pos 2))) (from_to (at (pos 0) (pos 1)) (at (pos 1) (pos 0))) ≡ record { first = at (pos 0) (pos 1) ∷ []; second = [] }
late_at_an_end = refl

-- ---- a crossing at a whole point, marked there at every radius

abbrev diagonal : Edge
diagonal = from_to (at (pos 0) (pos 0)) (at (pos 10) (pos 10))

abbrev other_diagonal : Edge
other_diagonal = from_to (at (pos 0) (pos 10)) (at (pos 10) (pos 0))

whole_crossing : is_whole (crossing diagonal other_diagonal) ≡ true
whole_crossing = refl

marked_near_ends : cross_marks diagonal other_diagonal 100 ≡ both_at (at (pos 5) (pos 5))
marked_near_ends = refl

-- ---- ends inside

abbrev south : Edge
south = from_to (at (pos 0) (pos 0)) (at (pos 10) (pos 0))

vertical_touches : cross_marks south (from_to (at (pos 4) (pos 0)) (at (pos 4) (pos 5))) 1 ≡ record { first = at (pos 4) (pos 0) ∷ []; second = [] }
vertical_touches = refl

overlaid_south : late_marks south (from_to (at (pos 4) (pos 0)) (at (pos 12) (pos 0))) ≡ record { first = at (pos 4) (pos 0) ∷ []; second = at (pos 10) (pos 0) ∷ [] }
overlaid_south = refl

common_start : cross_marks south diagonal 1 ≡ no_marks
common_start = refl

-- ---- parts

piece : IsPiece (from_to (at (pos 1) (pos 1)) (at (pos 2) (pos 2))) rising
piece = record { first_on = refl; second_on = refl; from = refl; forward = refl; to = refl }

same_place : IsSamePlace (crossing (from_to (at (pos 1) (pos 1)) (at (pos 2) (pos 2))) (from_to (at (pos 1) (pos 2)) (at (pos 2) (pos 1)))) (crossing rising falling)
same_place = record { x = refl; y = refl }

-- ---- along a segment that falls

down_the_stairs : IsAlong falling (at (pos 1) (pos 2)) (at (pos 2) (pos 1))
down_the_stairs = record { right = omega (arith, ints); up = λ h. absurd (omega (arith, ints)); down = λ h. omega (arith, ints) }

not_upward : IsAlong falling (at (pos 1) (pos 2)) (at (pos 2) (pos 3)) → ⊥
not_upward h = let f : pos 3 ≤ℤ pos 2 = h.down (omega (arith, ints)) in absurd (omega (arith, ints))

rounded_there : IsRoundedOn rising (at (pos 2) (pos 2))
rounded_there = record { place = record { x = pos 3; y = pos 3; q = 2 }; is_rational = omega arith; lies = refl; is = refl }
