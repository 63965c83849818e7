-- The definitions at worked examples: each line computes.
use Rattle.std.proofs.Common.{◌≡◌, refl, ℤ, pos, negsuc, true, false, List, [], ◌∷◌, Less, Equal, Greater, Some, None, inl, inr, sym, ap, ◌∙◌, subst, ◌++◌, length, ◌⊎◌, arith, ◌<ℤ◌, All}
use Rattle.std.proofs.lemmas.Int.{ints}
use Rattle.std.proofs.lemmas.Bool.{false≢true}
use Rattle.std.proofs.lemmas.List.{length-append}
use Rattle.std.proofs.lemmas.List.Elements.{All-nil, All-cons, All-head, All-tail}
use Rattle.std.proofs.lemmas.List.Kept.{AllPairs-cons}
use Rattle.plane_base.specs.Plane.{Point, RationalPoint, point_order, is_before, edge_order, turn, side, spans, lies_on}
use Rattle.plane_base.specs.Counts.{Count, Entry, boolean, one_subject, one_clip, lay, count_at, IsNormal}
use Rattle.plane_base.specs.Given.{given}
use Rattle.plane_base.specs.Balance.{mark, fall, IsBalanced}
use Rattle.plane_base.specs.Windings.{winding, contour_winding, IsOff}
use Rattle.plane_base.specs.Regions.{EvenOdd, NonZero, Positive, Negative, AtLeast, Subject, Clip, Intersect, Union, Difference, InverseDifference, Xor, region}
use Rattle.plane_base.specs.Areas.{area}
use Rattle.plane_base.specs.Thinning.{TakesOut, Reaches, same, step, IsBare, IsThinned, bare, empty}
use Rattle.plane_base.specs.Convexity.{IsLeftConvex, IsRightConvex, IsConvex}
use Rattle.plane_base.proofs.Facts.Lists.Cycles.{IsElsewhere, cycle_places, cycle_refl}
use Rattle.plane_base.proofs.Facts.Thinning.Steps.{bare_from_corners}

abbrev at : ℤ → ℤ → Point
at x y = record { x = x; y = y }

abbrev whole : ℤ → ℤ → RationalPoint
whole x y = record { x = x; y = y; q = 1 }

abbrev o : Point
o = at (pos 0) (pos 0)

abbrev east : Point
east = at (pos 10) (pos 0)

abbrev corner : Point
corner = at (pos 10) (pos 10)

abbrev north : Point
north = at (pos 0) (pos 10)

-- counterclockwise, clockwise, and crossing itself
abbrev square : List Point
square = o ∷ east ∷ corner ∷ north ∷ []

abbrev clockwise : List Point
clockwise = o ∷ north ∷ corner ∷ east ∷ []

abbrev bow_tie : List Point
bow_tie = o ∷ corner ∷ east ∷ north ∷ []

-- ---- turns and order

left : turn o east corner ≡ pos 100
left = refl

right : turn o corner east ≡ negsuc 99
right = refl

straight : turn o (at (pos 2) (pos 1)) (at (pos 4) (pos 2)) ≡ pos 0
straight = refl

by_x : point_order (at (pos 0) (pos 5)) (at (pos 1) (negsuc 4)) ≡ Less
by_x = refl

then_by_y : point_order (at (pos 2) (pos 4)) (at (pos 2) (pos 3)) ≡ Greater
then_by_y = refl

equal : point_order corner corner ≡ Equal
equal = refl

-- ---- sides and columns

above_an_edge : side o east (whole (pos 5) (pos 5)) ≡ pos 50
above_an_edge = refl

below_an_edge : side o east (whole (pos 5) (negsuc 4)) ≡ negsuc 49
below_an_edge = refl

on_its_line : side o east (whole (pos 20) (pos 0)) ≡ pos 0
on_its_line = refl

-- at (1/2, 19/2), twice the side
above_the_diagonal : side o corner (record { x = pos 1; y = pos 19; q = 2 }) ≡ pos 180
above_the_diagonal = refl

spans_its_first_column : spans o east (whole (pos 0) (pos 5)) ≡ true
spans_its_first_column = refl

not_its_last : spans o east (whole (pos 10) (pos 5)) ≡ false
not_its_last = refl

spans_leftward_nothing : spans east o (whole (pos 5) (pos 5)) ≡ false
spans_leftward_nothing = refl

vertical_nothing : spans o north (whole (pos 0) (pos 5)) ≡ false
vertical_nothing = refl

by_first_end : edge_order (record { a = o; b = corner }) (record { a = north; b = east }) ≡ Less
by_first_end = refl

-- ---- maps

laid_on : lay boolean o east one_subject ≡ record { edge = record { a = o; b = east }; count = one_subject } ∷ []
laid_on = refl

laid_turned : lay boolean east o one_clip ≡ record { edge = record { a = o; b = east }; count = record { subject = pos 0; clip = negsuc 0 } } ∷ []
laid_turned = refl

laid_nowhere : lay boolean o o one_subject ≡ []
laid_nowhere = refl

-- so many subject edges from a to b
abbrev counted : Point → Point → ℤ → Entry Count
counted a b n = record { edge = record { a = a; b = b }; count = record { subject = n; clip = pos 0 } }

-- by rising edge, the western and the northern one turned
square_map : given (square ∷ []) [] ≡ counted o north (negsuc 0) ∷ counted o east (pos 1) ∷ counted north corner (negsuc 0) ∷ counted east corner (pos 1) ∷ []
square_map = refl

doubled_square_map : given (square ∷ square ∷ []) [] ≡ counted o north (negsuc 1) ∷ counted o east (pos 2) ∷ counted north corner (negsuc 1) ∷ counted east corner (pos 2) ∷ []
doubled_square_map = refl

-- once round and once back is nothing
cancelled : given (square ∷ clockwise ∷ []) [] ≡ []
cancelled = refl

-- subject and clip on one edge are one count of both
both : count_at (given (square ∷ []) (square ∷ [])) (record { a = o; b = east }) ≡ Some (record { subject = pos 1; clip = pos 1 })
both = refl

neither : count_at (given (square ∷ []) []) (record { a = o; b = corner }) ≡ None
neither = refl

-- the southern and the northern edge of the square, and what holds of both
abbrev south : Entry Count
south = counted o east (pos 1)

abbrev northern : Entry Count
northern = counted north corner (negsuc 0)

of_both : (P : Entry Count → Type 0) → P south → P northern → All P (south ∷ northern ∷ [])
of_both P h k = All-cons P south (northern ∷ []) h (All-cons P northern [] k (All-nil P))

abbrev Rises : Entry Count → Entry Count → Type 0
Rises e f = edge_order e.edge f.edge ≡ Less

two_edges_normal : IsNormal boolean (south ∷ northern ∷ [])
two_edges_normal = record {
  directed = of_both (λ e. is_before e.edge.a e.edge.b ≡ true) refl refl;
  rising = AllPairs-cons Rises south (northern ∷ []) (All-cons (Rises south) northern [] refl (All-nil (Rises south))) (AllPairs-cons Rises northern [] (All-nil (Rises northern)) (λ i j d h l. absurd (omega arith)));
  counted = of_both (λ e. boolean.is_empty e.count ≡ false) refl refl;
}

empty_count_not_normal : IsNormal boolean (counted o east (pos 0) ∷ []) → ⊥
empty_count_not_normal h = false≢true (sym (All-head (λ e. boolean.is_empty e.count ≡ false) (counted o east (pos 0)) [] h.counted))

turned_edge_not_normal : IsNormal boolean (counted east o (pos 1) ∷ []) → ⊥
turned_edge_not_normal h = false≢true (All-head (λ e. is_before e.edge.a e.edge.b ≡ true) (counted east o (pos 1)) [] h.directed)

-- ---- balance

-- at the eastern corner one edge of the square ends and one begins
square_balanced_there : fall (λ c. c.subject) (mark east) (given (square ∷ []) []) ≡ pos 0
square_balanced_there = refl

-- one edge alone begins at a point where none ends
edge_unbalanced : IsBalanced (λ (c : Count). c.subject) (counted o east (pos 1) ∷ []) → ⊥
edge_unbalanced h = one_is_not_nothing (h o)
  where
    one_is_not_nothing : pos 1 ≡ pos 0 → ⊥
    one_is_not_nothing e = absurd (omega (arith, ints))

-- ---- windings

inside : contour_winding (square ∷ []) (whole (pos 5) (pos 5)) ≡ pos 1
inside = refl

above : contour_winding (square ∷ []) (whole (pos 5) (pos 15)) ≡ pos 0
above = refl

beside : contour_winding (square ∷ []) (whole (negsuc 0) (pos 5)) ≡ pos 0
beside = refl

-- in the column of the western corners, whose edges begin there, and of the eastern ones, whose edges end there
western_column : contour_winding (square ∷ []) (whole (pos 0) (pos 5)) ≡ pos 1
western_column = refl

eastern_column : contour_winding (square ∷ []) (whole (pos 10) (pos 5)) ≡ pos 0
eastern_column = refl

-- at (1/2, 19/2)
between : contour_winding (square ∷ []) (record { x = pos 1; y = pos 19; q = 2 }) ≡ pos 1
between = refl

clockwise_inside : contour_winding (clockwise ∷ []) (whole (pos 5) (pos 5)) ≡ negsuc 0
clockwise_inside = refl

doubled_inside : contour_winding (square ∷ square ∷ []) (whole (pos 5) (pos 5)) ≡ pos 2
doubled_inside = refl

bow_tie_west : contour_winding (bow_tie ∷ []) (whole (pos 1) (pos 5)) ≡ pos 1
bow_tie_west = refl

bow_tie_east : contour_winding (bow_tie ∷ []) (whole (pos 9) (pos 5)) ≡ negsuc 0
bow_tie_east = refl

bow_tie_north : contour_winding (bow_tie ∷ []) (whole (pos 5) (pos 9)) ≡ pos 0
bow_tie_north = refl

-- the square as subject and, clockwise, as clip
wound_both : winding (given (square ∷ []) (clockwise ∷ [])) (whole (pos 5) (pos 5)) ≡ record { subject = pos 1; clip = negsuc 0 }
wound_both = refl

wound_by_clip : winding (given [] (square ∷ square ∷ [])) (whole (pos 5) (pos 5)) ≡ record { subject = pos 0; clip = pos 2 }
wound_by_clip = refl

on_the_diagonal : lies_on (record { a = o; b = corner }) (record { x = pos 7; y = pos 7; q = 2 }) ≡ true
on_the_diagonal = refl

on_its_end : lies_on (record { a = o; b = corner }) (whole (pos 10) (pos 10)) ≡ true
on_its_end = refl

past_its_end : lies_on (record { a = o; b = corner }) (whole (pos 11) (pos 11)) ≡ false
past_its_end = refl

beside_it : lies_on (record { a = o; b = corner }) (whole (pos 5) (pos 4)) ≡ false
beside_it = refl

off_two_edges : IsOff (south ∷ northern ∷ []) (whole (pos 5) (pos 5))
off_two_edges = of_both (λ e. lies_on e.edge (whole (pos 5) (pos 5)) ≡ false) refl refl

off_past_the_end : IsOff (south ∷ northern ∷ []) (whole (pos 11) (pos 0))
off_past_the_end = of_both (λ e. lies_on e.edge (whole (pos 11) (pos 0)) ≡ false) refl refl

not_off_at_the_end : IsOff (south ∷ northern ∷ []) (whole (pos 10) (pos 0)) → ⊥
not_off_at_the_end h = false≢true (sym (All-head (λ e. lies_on e.edge (whole (pos 10) (pos 0)) ≡ false) south (northern ∷ []) h))

-- ---- regions

-- a winding of 1, of 2 and of -1, by each fill rule
abbrev wound : ℤ → Count
wound w = record { subject = w; clip = pos 0 }

once_even_odd : region EvenOdd Subject (wound (pos 1)) ≡ true
once_even_odd = refl

twice_even_odd : region EvenOdd Subject (wound (pos 2)) ≡ false
twice_even_odd = refl

twice_non_zero : region NonZero Subject (wound (pos 2)) ≡ true
twice_non_zero = refl

back_positive : region Positive Subject (wound (negsuc 0)) ≡ false
back_positive = refl

back_negative : region Negative Subject (wound (negsuc 0)) ≡ true
back_negative = refl

once_at_least_twice : region (AtLeast (pos 2)) Subject (wound (pos 1)) ≡ false
once_at_least_twice = refl

twice_at_least_twice : region (AtLeast (pos 2)) Subject (wound (pos 2)) ≡ true
twice_at_least_twice = refl

back_at_least_once : region (AtLeast (pos 1)) Subject (wound (negsuc 0)) ≡ false
back_at_least_once = refl

back_even_odd : region EvenOdd Subject (wound (negsuc 0)) ≡ true
back_even_odd = refl

-- where both are filled, and the subject alone
abbrev both_wound : Count
both_wound = record { subject = pos 1; clip = pos 1 }

intersect_both : region NonZero Intersect both_wound ≡ true
intersect_both = refl

difference_both : region NonZero Difference both_wound ≡ false
difference_both = refl

inverse_both : region NonZero InverseDifference both_wound ≡ false
inverse_both = refl

xor_both : region NonZero Xor both_wound ≡ false
xor_both = refl

union_both : region NonZero Union both_wound ≡ true
union_both = refl

union_one : region NonZero Union (wound (pos 1)) ≡ true
union_one = refl

intersect_one : region NonZero Intersect (wound (pos 1)) ≡ false
intersect_one = refl

difference_one : region NonZero Difference (wound (pos 1)) ≡ true
difference_one = refl

inverse_one : region NonZero InverseDifference (wound (pos 1)) ≡ false
inverse_one = refl

clip_one : region NonZero Clip (wound (pos 1)) ≡ false
clip_one = refl

xor_one : region NonZero Xor (wound (pos 1)) ≡ true
xor_one = refl

-- ---- areas

square_area : area square ≡ pos 200
square_area = refl

clockwise_area : area clockwise ≡ negsuc 199
clockwise_area = refl

bow_tie_area : area bow_tie ≡ pos 0
bow_tie_area = refl

-- ---- thinning

-- the tip of a spike at the corner of a triangle goes, and the corner, doubled then, once more
abbrev tip : Point
tip = at (pos 10) (pos 20)

tip_goes : TakesOut (o ∷ east ∷ tip ∷ east ∷ north ∷ []) (o ∷ east ∷ east ∷ north ∷ [])
tip_goes = record {
  before = east;
  p = tip;
  after = east;
  others = north ∷ o ∷ [];
  was = record { front = o ∷ []; back = east ∷ tip ∷ east ∷ north ∷ []; first = refl; second = refl };
  straight = refl;
  is = record { front = o ∷ []; back = east ∷ east ∷ north ∷ []; first = refl; second = refl };
}

corner_goes : TakesOut (o ∷ east ∷ east ∷ north ∷ []) (o ∷ east ∷ north ∷ [])
corner_goes = record {
  before = o;
  p = east;
  after = east;
  others = north ∷ [];
  was = record { front = []; back = o ∷ east ∷ east ∷ north ∷ []; first = refl; second = refl };
  straight = refl;
  is = record { front = []; back = o ∷ east ∷ north ∷ []; first = refl; second = refl };
}

spike_goes : Reaches (o ∷ east ∷ tip ∷ east ∷ north ∷ []) (east ∷ north ∷ o ∷ [])
spike_goes = step tip_goes (step corner_goes (same (record { front = o ∷ []; back = east ∷ north ∷ []; first = refl; second = refl })))

-- a triangle with a point on an edge
abbrev apex : Point
apex = at (pos 2) (pos 3)

abbrev foot : Point
foot = at (pos 4) (pos 0)

abbrev mid : Point
mid = at (pos 2) (pos 0)

mid_goes : TakesOut (foot ∷ apex ∷ o ∷ mid ∷ []) (foot ∷ apex ∷ o ∷ [])
mid_goes = record {
  before = o;
  p = mid;
  after = foot;
  others = apex ∷ [];
  was = record { front = foot ∷ apex ∷ []; back = o ∷ mid ∷ []; first = refl; second = refl };
  straight = refl;
  is = record { front = foot ∷ apex ∷ []; back = o ∷ []; first = refl; second = refl };
}

-- at each corner the turn is 12
triangle_bare : IsBare (foot ∷ apex ∷ o ∷ [])
triangle_bare = bare_from_corners foot apex (o ∷ []) (foot ∷ []) apex o refl refl (turns, tt) turns turns
  where
    turns : pos 12 ≡ pos 0 → ⊥
    turns e = absurd (omega (arith, ints))

triangle_thinned : IsThinned (foot ∷ apex ∷ o ∷ mid ∷ []) (foot ∷ apex ∷ o ∷ [])
triangle_thinned = bare (step mid_goes (same (record { front = []; back = foot ∷ apex ∷ o ∷ []; first = refl; second = refl }))) (omega arith) triangle_bare

-- what goes there and back is thinned away
there_and_back : IsThinned (o ∷ corner ∷ []) []
there_and_back = empty (same (record { front = []; back = o ∷ corner ∷ []; first = refl; second = refl })) (omega arith)

-- ---- a convex triangle, and a bow tie

-- left of the way from a to the first point lie the others
abbrev LeftOf : Point → List Point → Type 0
LeftOf a [] = Unit
LeftOf a (b ∷ others) = All (λ p. pos 0 <ℤ turn a b p) others

one_left : (a b p : Point) → pos 0 <ℤ turn a b p → LeftOf a (b ∷ p ∷ [])
one_left a b p h = All-cons (λ p. pos 0 <ℤ turn a b p) p [] h (All-nil (λ p. pos 0 <ℤ turn a b p))

triangle_left : IsLeftConvex (o ∷ east ∷ north ∷ [])
triangle_left a b others s = by (cycle_places s)
  where
    elsewhere : (to from : List Point) → east ∷ north ∷ [] ≡ to ++ a ∷ from → b ∷ others ≡ from ++ o ∷ to → LeftOf a (b ∷ others)
    elsewhere [] from e f =
        let here : east ≡ a = cc in
        let rest : north ∷ [] ≡ from = cc in
        let others_are : b ∷ others ≡ north ∷ o ∷ [] = f ∙ ap (λ l. l ++ o ∷ []) (sym rest) in
        subst (λ v. LeftOf v (b ∷ others)) here (subst (LeftOf east) (sym others_are) (one_left east north o (omega (arith, ints))))
    elsewhere (t ∷ []) from e f =
        let here : north ≡ a = cc in
        let first : east ≡ t = cc in
        let rest : [] ≡ from = cc in
        let others_are : b ∷ others ≡ o ∷ east ∷ [] = f ∙ (ap (λ l. l ++ o ∷ t ∷ []) (sym rest) ∙ ap (λ u. o ∷ u ∷ []) (sym first)) in
        subst (λ v. LeftOf v (b ∷ others)) here (subst (LeftOf north) (sym others_are) (one_left north o east (omega (arith, ints))))
    elsewhere (t ∷ u ∷ to) from e f =
        let lengths = ap length e in
        let longer = length-append to (a ∷ from) in
        absurd (omega arith)

    by : ((o ≡ a) × (east ∷ north ∷ [] ≡ b ∷ others)) ⊎ IsElsewhere o (east ∷ north ∷ []) a (b ∷ others) → LeftOf a (b ∷ others)
    by (inl h) = subst (λ v. LeftOf v (b ∷ others)) h.0 (subst (LeftOf o) h.1 (one_left o east north (omega (arith, ints))))
    by (inr h) = elsewhere h.to h.from h.first h.second

triangle_convex : IsConvex (o ∷ east ∷ north ∷ [])
triangle_convex = (omega arith, inl triangle_left)

-- right of its first edge lies one point, left of it the other
bow_tie_not_convex : IsConvex bow_tie → ⊥
bow_tie_not_convex h = by h.1
  where
    right_of_it : pos 0 <ℤ negsuc 99 → ⊥
    right_of_it h = absurd (omega (arith, ints))

    left_of_it : pos 100 <ℤ pos 0 → ⊥
    left_of_it h = absurd (omega (arith, ints))

    by : IsLeftConvex bow_tie ⊎ IsRightConvex bow_tie → ⊥
    by (inl l) = right_of_it (All-head (λ p. pos 0 <ℤ turn o corner p) east (north ∷ []) (l o corner (east ∷ north ∷ []) (cycle_refl bow_tie)))
    by (inr r) = left_of_it (All-head (λ p. turn o corner p <ℤ pos 0) north [] (All-tail (λ p. turn o corner p <ℤ pos 0) east (north ∷ []) (r o corner (east ∷ north ∷ []) (cycle_refl bow_tie))))
