-- The definitions at the map of a square: each line computes.
use Rattle.std.proofs.Common.{◌≡◌, refl, ℤ, pos, negsuc, true, false, [], ◌∷◌, List, map, filter, All, ap, ◌∙◌, arith}
use Rattle.std.proofs.lemmas.Int.{ints}
use Rattle.std.proofs.lemmas.List.Elements.{All-nil, All-cons, All-contains}
use Rattle.plane_base.specs.Plane.{Point, Edge}
use Rattle.plane_base.specs.Segments.{parted}
use Rattle.plane_base.proofs.Facts.Maps.Laying.{given_is_normal}
use Rattle.plane_base.proofs.Facts.Maps.Balance.{given_is_balanced}
use Rattle.segment_arrangement.specs.SideLaws.{IsArrangement, IsInner}
use Rattle.segment_arrangement.proofs.Facts.ConstantSides.{sides_are_constant}
use Rattle.segment_arrangement.proofs.Facts.GreatestEntry.{Contains-head}
use Rattle.plane_base.specs.Counts.{Count, Entry, IsNormal, boolean}
use Rattle.plane_base.specs.Given.{given}
use Rattle.plane_base.specs.Regions.{EvenOdd, NonZero, Subject, Clip}
use Rattle.plane_base.specs.Windings.{winding}
use Rattle.segment_arrangement.specs.Columns.{sum_of, no_count, is_live, below}
use Rattle.segment_arrangement.specs.EdgeSides.{middle, lower_side, upper_side, fill_of, boundary, sign}
use Rattle.segment_arrangement.specs.Graphs.{boundary_links, nodes_of}
use Rattle.segment_arrangement.specs.FanLaws.{whole, sum_of_counts, starts_at}
use Rattle.segment_arrangement.specs.Rings.{ends_at, right_side, left_side, boundary_ring}

abbrev at : ℤ → ℤ → Point
at x y = record { x = x; y = y }

abbrev o : Point
o = at (pos 0) (pos 0)

abbrev east : Point
east = at (pos 10) (pos 0)

abbrev corner : Point
corner = at (pos 10) (pos 10)

abbrev north : Point
north = at (pos 0) (pos 10)

abbrev count : ℤ → Count
count n = record { subject = n; clip = pos 0 }

abbrev entry : Point → Point → ℤ → Entry Count
entry a b n = record { edge = record { a = a; b = b }; count = count n }

abbrev left : Entry Count
left = entry o north (negsuc 0)

abbrev bottom : Entry Count
bottom = entry o east (pos 1)

abbrev top : Entry Count
top = entry north corner (negsuc 0)

abbrev right : Entry Count
right = entry east corner (pos 1)

abbrev square : List (Entry Count)
square = left ∷ bottom ∷ top ∷ right ∷ []

the_map : given ((o ∷ east ∷ corner ∷ north ∷ []) ∷ []) [] ≡ square
the_map = refl

-- ---- columns

live : is_live (pos 4) bottom.edge ≡ true
live = refl

ended : is_live (pos 10) bottom.edge ≡ false
ended = refl

vertical_never : is_live (pos 0) left.edge ≡ false
vertical_never = refl

below_top : below square top.edge (pos 4) ≡ count (pos 1)
below_top = refl

below_bottom : below square bottom.edge (pos 4) ≡ no_count
below_bottom = refl

spanning : sum_of (is_live (pos 4)) square ≡ no_count
spanning = refl

-- ---- sides

middle_of_bottom : middle bottom.edge ≡ record { x = pos 10; y = pos 0; q = 2 }
middle_of_bottom = refl

under_bottom : lower_side square bottom.edge ≡ no_count
under_bottom = refl

over_bottom : upper_side square bottom ≡ count (pos 1)
over_bottom = refl

right_of_left : lower_side square left.edge ≡ count (pos 1)
right_of_left = refl

left_of_left : upper_side square left ≡ no_count
left_of_left = refl

bottom_fill : fill_of NonZero square bottom ≡ 1
bottom_fill = refl

left_fill : fill_of NonZero square left ≡ 2
left_fill = refl

all_bound : boundary EvenOdd Subject square ≡ square
all_bound = refl

none_bounds_the_clip : boundary EvenOdd Clip square ≡ []
none_bounds_the_clip = refl

rising : sign EvenOdd Subject square bottom ≡ pos 1
rising = refl

falling : sign EvenOdd Subject square top ≡ negsuc 0
falling = refl

-- ---- graphs

nodes : nodes_of (map (λ l. l.edge) (boundary_links NonZero Subject square)) ≡ record { point = o; starts = 0 ∷ 1 ∷ []; ends = [] } ∷ record { point = north; starts = 2 ∷ []; ends = 0 ∷ [] } ∷ record { point = east; starts = 3 ∷ []; ends = 1 ∷ [] } ∷ record { point = corner; starts = []; ends = 2 ∷ 3 ∷ [] } ∷ []
nodes = refl

-- ---- fans and rings

fan : filter (starts_at o) square ≡ left ∷ bottom ∷ []
fan = refl

counts_of_fan : sum_of_counts (bottom ∷ left ∷ []) ≡ no_count
counts_of_fan = refl

below_the_point : winding square (whole north) ≡ count (pos 1)
below_the_point = refl

ends_at_corner : filter (ends_at corner) square ≡ top ∷ right ∷ []
ends_at_corner = refl

-- from (10, 10): first along the top, the square on the left hand, then down the right side, the square on the right hand
right_of_top : right_side square corner top ≡ no_count
right_of_top = refl

left_of_top : left_side square corner top ≡ count (pos 1)
left_of_top = refl

right_of_right : right_side square corner right ≡ count (pos 1)
right_of_right = refl

left_of_right : left_side square corner right ≡ no_count
left_of_right = refl

ring : boundary_ring NonZero Subject square [] (top ∷ right ∷ []) ≡ top ∷ right ∷ []
ring = refl

-- ---- the map of the square is an arrangement

parted_from_all : (s : Edge) → parted s left.edge ≡ true → parted s bottom.edge ≡ true → parted s top.edge ≡ true → parted s right.edge ≡ true → All (λ t. parted s t ≡ true) (map (λ e. e.edge) square)
parted_from_all s e f g h =
    All-cons (λ t. parted s t ≡ true) left.edge (bottom.edge ∷ top.edge ∷ right.edge ∷ []) e
    (All-cons (λ t. parted s t ≡ true) bottom.edge (top.edge ∷ right.edge ∷ []) f
    (All-cons (λ t. parted s t ≡ true) top.edge (right.edge ∷ []) g (All-cons (λ t. parted s t ≡ true) right.edge [] h (All-nil (λ t. parted s t ≡ true)))))

all_parted : All (λ s. All (λ t. parted s t ≡ true) (map (λ e. e.edge) square)) (map (λ e. e.edge) square)
all_parted =
    All-cons (λ s. All (λ t. parted s t ≡ true) (map (λ e. e.edge) square)) left.edge (bottom.edge ∷ top.edge ∷ right.edge ∷ []) (parted_from_all left.edge refl refl refl refl)
    (All-cons (λ s. All (λ t. parted s t ≡ true) (map (λ e. e.edge) square)) bottom.edge (top.edge ∷ right.edge ∷ []) (parted_from_all bottom.edge refl refl refl refl)
    (All-cons (λ s. All (λ t. parted s t ≡ true) (map (λ e. e.edge) square)) top.edge (right.edge ∷ []) (parted_from_all top.edge refl refl refl refl)
    (All-cons (λ s. All (λ t. parted s t ≡ true) (map (λ e. e.edge) square)) right.edge [] (parted_from_all right.edge refl refl refl refl)
    (All-nil (λ s. All (λ t. parted s t ≡ true) (map (λ e. e.edge) square))))))

is_normal : IsNormal boolean square
is_normal = given_is_normal ((o ∷ east ∷ corner ∷ north ∷ []) ∷ []) []

is_arrangement : IsArrangement square
is_arrangement = record {
  directed = is_normal.directed;
  rising = is_normal.rising;
  in_ends = λ s t here there differ.
      All-contains (λ t. parted s t ≡ true) (map (λ e. e.edge) square) t (All-contains (λ s. All (λ t. parted s t ≡ true) (map (λ e. e.edge) square)) (map (λ e. e.edge) square) s all_parted here) there;
  balanced = given_is_balanced ((o ∷ east ∷ corner ∷ north ∷ []) ∷ []) [];
}

-- and so its sides are told at any inner points
near_the_end : IsInner left.edge (record { x = pos 0; y = pos 1; q = 7 })
near_the_end = record { rational = omega arith; on = refl; not_first = λ e. apart e; not_second = λ e. apart_up e }
  where
    apart : at (pos 0) (pos 1) ≡ at (pos 0) (pos 0) → ⊥
    apart e = let y = ap (λ p. p.y) e in absurd (omega (arith, ints))

    apart_up : at (pos 0) (pos 1) ≡ at (pos 0) (pos 70) → ⊥
    apart_up e = let y = ap (λ p. p.y) e in absurd (omega (arith, ints))

seen_there : winding square (record { x = pos 0; y = pos 1; q = 7 }) ≡ count (pos 1)
seen_there = sides_are_constant square left (record { x = pos 0; y = pos 1; q = 7 }) is_arrangement (Contains-head left (bottom ∷ top ∷ right ∷ [])) near_the_end ∙ right_of_left
