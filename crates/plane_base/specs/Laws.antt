-- Laws of maps, balance and windings, as public functions promise them.
use Rattle.std.specs.Prelude.{◌≡◌, ℤ, pos, ◌+ℤ◌, ◌*ℤ◌, Bool, true, cond, ◌&&◌, ◌↔◌, ◌⊎◌, int_le, int_lt, List, [], ◌∷◌, All, IsPermutation, reverse}
use Rattle.std.specs.declared.cmp.Ordering.{Ordering}
use Rattle.std.specs.declared.cmp.Ordering.TheVariants.{Equal}
use Rattle.plane_base.specs.Plane.{Point, Edge, RationalPoint, is_before, step_winding}
use Rattle.plane_base.specs.Totals.{total}
use Rattle.plane_base.specs.Counts.{Count, Counting, Entry, boolean, normal, count_at, IsNormal}
use Rattle.plane_base.specs.Given.{given}
use Rattle.plane_base.specs.Balance.{IsBalanced}
use Rattle.plane_base.specs.Windings.{winding, contour_winding}
use Rattle.plane_base.specs.Regions.{EvenOdd, Subject}
use Rattle.plane_base.specs.Cycles.{SameCycle}
use Rattle.plane_base.specs.Thinning.{IsThinned}
use Rattle.plane_base.specs.Convexity.{IsLeftConvex}
use Rattle.plane_base.specs.RegionAnswers.{WindsOnce}

-- the order says `Equal` of equal things alone
abbrev pub TellsApart : {A : Type 0} → (A → A → Ordering) → Type 0
TellsApart {A} order = (a b : A) → (order a b ≡ Equal) ↔ (a ≡ b)

-- Maps with equal look-ups are equal lists.
abbrev pub KnownByLookups : {C : Type 0} → Counting C → Type 0
KnownByLookups {C} kind =
    (es fs : List (Entry C)) → IsNormal kind es → IsNormal kind fs → ((s : Edge) → count_at es s ≡ count_at fs s) → es ≡ fs

-- The order of entries doesn't matter to the map that they stand for, where they have the counts of overlays.
abbrev pub OrderIsLost : Type 0
OrderIsLost = (es fs : List (Entry Count)) → IsPermutation es fs → normal boolean fs ≡ normal boolean es

-- A sum that is linear in the counts is the same over the entries and over their map.
abbrev pub KeepsLinearSums : {C : Type 0} → Counting C → (C → ℤ) → Type 0
KeepsLinearSums {C} kind n =
    (weight : Edge → ℤ) (es : List (Entry C)) → total (λ e. n e.count *ℤ weight e.edge) (normal kind es) ≡ total (λ e. n e.count *ℤ weight e.edge) es

-- So is a sum of the counts of the edges that pass a test.
abbrev pub KeepsPassingSums : {C : Type 0} → Counting C → (C → ℤ) → Type 0
KeepsPassingSums {C} kind n =
    (test : Edge → Bool) (es : List (Entry C)) →
    total (λ e. cond (test e.edge) (n e.count) (pos 0)) (normal kind es) ≡ total (λ e. cond (test e.edge) (n e.count) (pos 0)) es

-- In balanced entries, each with its lesser end first, the counts of the edges that span a column sum to 0.
abbrev pub ColumnsSumToZero : {C : Type 0} → (C → ℤ) → Type 0
ColumnsSumToZero {C} n =
    (x : ℤ) (es : List (Entry C)) → All (λ e. is_before e.edge.a e.edge.b ≡ true) es → IsBalanced n es
    → total (λ e. cond (int_le e.edge.a.x x && int_lt x e.edge.b.x) (n e.count) (pos 0)) es ≡ pos 0

-- The windings of a given map are those of its contours.
abbrev pub WindsAsContours : List (List Point) → List (List Point) → RationalPoint → Type 0
WindsAsContours subjects clips p =
    winding (given subjects clips) p ≡ record { subject = contour_winding subjects p; clip = contour_winding clips p }

-- Two steps through a point of the line of their ends wind as the one step that leads past it.
abbrev pub StepsAddUp : Point → Point → Point → RationalPoint → Type 0
StepsAddUp u m v p = step_winding u m p +ℤ step_winding m v p ≡ step_winding u v p

-- A thinned convex contour, counterclockwise, is the even-odd answer for the contour that it was thinned from.
abbrev pub ConvexIsAnswer : Type 0
ConvexIsAnswer =
    (contour c d : List Point) → IsThinned contour c → IsLeftConvex d → SameCycle c d ⊎ SameCycle (reverse c) d
    → WindsOnce EvenOdd Subject (given (contour ∷ []) []) (d ∷ [])

-- The answer for a contour that is thinned away is no contour.
abbrev pub ThinnedAwayIsNothing : Type 0
ThinnedAwayIsNothing = (contour : List Point) → IsThinned contour [] → WindsOnce EvenOdd Subject (given (contour ∷ []) []) []

-- All thinned cycles of one contour are one cycle: empty, or begun at different points.
abbrev pub OneThinnedCycle : Type 0
OneThinnedCycle = (contour c d : List Point) → IsThinned contour c → IsThinned contour d → SameCycle c d

-- A thinned cycle winds round each point as often as the contour, round those on the edges too.
abbrev pub ThinnedWindsAsContour : Type 0
ThinnedWindsAsContour =
    (contour c : List Point) (p : RationalPoint) → IsThinned contour c → contour_winding (c ∷ []) p ≡ contour_winding (contour ∷ []) p
