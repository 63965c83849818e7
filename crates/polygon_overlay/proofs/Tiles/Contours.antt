-- A contour clamped into a tile winds in the tile as before, where its steps keep to the tile, and nowhere else.
use Rattle.std.proofs.Common.{◌≡◌, Bool, true, false, cond, ◌&&◌, List, [], ◌∷◌, ◌++◌, map, get_or, All, ℤ, pos, negsuc, ◌+ℤ◌, ◌-ℤ◌, ◌*ℤ◌, ◌≤ℤ◌, ◌<ℤ◌, int_lt, int_le, refl, sym, ap, ap₂, ◌∙◌, arith}
use Rattle.std.proofs.lemmas.Int.{ints}
use Rattle.std.proofs.lemmas.Bool.{false≢true}
use Rattle.std.proofs.lemmas.List.Elements.{All-head, All-tail, All-map, All-weaker}
use Rattle.plane_base.specs.Plane.{Point, RationalPoint, step_winding}
use Rattle.plane_base.specs.Totals.{total}
use Rattle.plane_base.specs.Windings.{contour_winding, path_winding, cycle_winding}
use Rattle.plane_base.proofs.Facts.Lists.Totals.{total_map, total_pointwise_on, total_zero}
use Rattle.plane_base.proofs.Facts.Points.OneLine.{contribution, at_or_before, is_above, step_winding_is}
use Rattle.plane_base.proofs.Facts.Windings.Sums.{contour_winding_is, contour_winding_one}
use Rattle.segment_split.specs.Groups.{Bounds, LiesWithin}
use Rattle.segment_arrangement.proofs.Facts.ColumnPlaces.{lt_tells_not, le_holds, le_fails}
use Rattle.contour_walk.specs.WalkLaws.{steps_to, contour_steps}
use Rattle.polygon_overlay.specs.Tiles.{in_tile, IsTile, clamped_point, clamped, KeepsTo, IsIn}
use Rattle.polygon_overlay.specs.TileLaws.{ClampedWindsAlike}
use Rattle.polygon_overlay.proofs.Tiles.Steps.{at_most, at_most_below, below_at_most, le_tells_not, times_le, clamped_one, clamped_from, clamped_to, passes_below, passes_above, IsInside, inside_told, step_kept}

-- ---- in the tile

module _ (tile : Bounds) (p : RationalPoint) (inside : IsInside tile p) where
  path_kept : (first u : Point) (rest : List Point) → All (KeepsTo tile) (steps_to first (u ∷ rest))
      → path_winding (clamped tile (u ∷ rest) ++ clamped_point tile first ∷ []) p ≡ path_winding (u ∷ rest ++ first ∷ []) p
  path_kept first u [] h = ap (λ n. n +ℤ pos 0) (step_kept tile p inside u first (All-head (KeepsTo tile) (record { a = u; b = first }) [] h))
  path_kept first u (r ∷ rest) h =
      ap₂ (λ m n. m +ℤ n) (step_kept tile p inside u r (All-head (KeepsTo tile) (record { a = u; b = r }) (steps_to first (r ∷ rest)) h))
      (path_kept first r rest (All-tail (KeepsTo tile) (record { a = u; b = r }) (steps_to first (r ∷ rest)) h))

  cycle_kept : (c : List Point) → All (KeepsTo tile) (contour_steps c) → cycle_winding (clamped tile c) p ≡ cycle_winding c p
  cycle_kept [] h = refl
  cycle_kept (u ∷ rest) h = path_kept u u rest h

-- ---- contours along which a function falls by what steps add

alone : (s x y : ℤ) → s ≡ x -ℤ y → s +ℤ pos 0 ≡ x -ℤ y
alone s x y e = omega (arith, ints)

through : (s t x y z : ℤ) → s ≡ x -ℤ y → t ≡ y -ℤ z → s +ℤ t ≡ x -ℤ z
through s t x y z e f = omega (arith, ints)

itself : (x : ℤ) → x -ℤ x ≡ pos 0
itself x = omega (arith, ints)

module _ (p : RationalPoint) (P : Point → Type 0) (f : Point → ℤ) (falls : (u v : Point) → P u → P v → step_winding u v p ≡ f u -ℤ f v) where
  path_falls : (u : Point) (rest : List Point) (v : Point) → P u → All P rest → P v → path_winding (u ∷ rest ++ v ∷ []) p ≡ f u -ℤ f v
  path_falls u [] v hu all hv = alone (step_winding u v p) (f u) (f v) (falls u v hu hv)
  path_falls u (w ∷ rest) v hu all hv =
      through (step_winding u w p) (path_winding (w ∷ rest ++ v ∷ []) p) (f u) (f w) (f v) (falls u w hu (All-head P w rest all))
      (path_falls w rest v (All-head P w rest all) (All-tail P w rest all) hv)

  cycle_falls : (c : List Point) → All P c → cycle_winding c p ≡ pos 0
  cycle_falls [] all = refl
  cycle_falls (u ∷ rest) all = path_falls u rest u (All-head P u rest all) (All-tail P u rest all) (All-head P u rest all) ∙ itself (f u)

-- ---- off the tile

module _ (tile : Bounds) (p : RationalPoint) where
  -- left of the tile nothing has begun, and right of it all has ended
  left_of_all : p.x <ℤ (pos p.q *ℤ tile.left) → (u v : Point) → LiesWithin tile u → LiesWithin tile v → step_winding u v p ≡ pos 0 -ℤ pos 0
  left_of_all l u v h k =
      step_winding_is u v p ∙ ap₂ (λ a b. contribution a b (is_above u v p) (is_above v u p)) (unbegun u h) (unbegun v k)
    where
      unbegun : (w : Point) → LiesWithin tile w → at_or_before w p ≡ false
      unbegun w h = le_fails (pos p.q *ℤ w.x) p.x (below_at_most p.x (pos p.q *ℤ tile.left) (pos p.q *ℤ w.x) l (times_le p.q tile.left w.x h.left))

  right_of_all : (pos p.q *ℤ tile.right) ≤ℤ p.x → (u v : Point) → LiesWithin tile u → LiesWithin tile v → step_winding u v p ≡ pos 0 -ℤ pos 0
  right_of_all l u v h k =
      step_winding_is u v p ∙ ap₂ (λ a b. contribution a b (is_above u v p) (is_above v u p)) (begun u h) (begun v k)
    where
      begun : (w : Point) → LiesWithin tile w → at_or_before w p ≡ true
      begun w h = le_holds (pos p.q *ℤ w.x) p.x (at_most (pos p.q *ℤ w.x) (pos p.q *ℤ tile.right) p.x (times_le p.q w.x tile.right h.right) l)

  -- under it nothing passes below p, and over it all that reaches over its column does
  under_all : p.y ≤ℤ (pos p.q *ℤ tile.bottom) → (u v : Point) → LiesWithin tile u → LiesWithin tile v → step_winding u v p ≡ pos 0 -ℤ pos 0
  under_all l u v h k = step_winding_is u v p ∙ by (at_or_before u p) (at_or_before v p) refl refl
    where
      under : (w : Point) → LiesWithin tile w → p.y ≤ℤ (pos p.q *ℤ w.y)
      under w h = at_most p.y (pos p.q *ℤ tile.bottom) (pos p.q *ℤ w.y) l (times_le p.q tile.bottom w.y h.bottom)

      by : (a b : Bool) → at_or_before u p ≡ a → at_or_before v p ≡ b → contribution a b (is_above u v p) (is_above v u p) ≡ pos 0 -ℤ pos 0
      by true true e f = refl
      by false false e f = refl
      by true false e f = ap (λ s. cond s (pos 1) (pos 0)) (passes_above u v p e f (under u h) (under v k))
      by false true e f = ap (λ s. cond s (negsuc 0) (pos 0)) (passes_above v u p f e (under v k) (under u h))

  abbrev begun_by : Point → ℤ
  begun_by w = cond (at_or_before w p) (pos 1) (pos 0)

  over_all : (pos p.q *ℤ tile.top) <ℤ p.y → (u v : Point) → LiesWithin tile u → LiesWithin tile v → step_winding u v p ≡ begun_by u -ℤ begun_by v
  over_all l u v h k = step_winding_is u v p ∙ by (at_or_before u p) (at_or_before v p) refl refl
    where
      over : (w : Point) → LiesWithin tile w → (pos p.q *ℤ w.y) <ℤ p.y
      over w h = at_most_below (pos p.q *ℤ w.y) (pos p.q *ℤ tile.top) p.y (times_le p.q w.y tile.top h.top) l

      by : (a b : Bool) → at_or_before u p ≡ a → at_or_before v p ≡ b
          → contribution a b (is_above u v p) (is_above v u p) ≡ cond a (pos 1) (pos 0) -ℤ cond b (pos 1) (pos 0)
      by true true e f = refl
      by false false e f = refl
      by true false e f = ap (λ s. cond s (pos 1) (pos 0)) (passes_below u v p e f (over u h) (over v k))
      by false true e f = ap (λ s. cond s (negsuc 0) (pos 0)) (passes_below v u p f e (over v k) (over u h))

  -- a contour in the closed tile winds round nothing else
  pub off_tile : (c : List Point) → All (LiesWithin tile) c → in_tile tile p ≡ false → cycle_winding c p ≡ pos 0
  off_tile c all e =
      by (int_le (pos p.q *ℤ tile.left) p.x) (int_lt p.x (pos p.q *ℤ tile.right)) (int_lt (pos p.q *ℤ tile.bottom) p.y) (int_le p.y (pos p.q *ℤ tile.top))
      refl refl refl refl e
    where
      none : ((u v : Point) → LiesWithin tile u → LiesWithin tile v → step_winding u v p ≡ pos 0 -ℤ pos 0) → cycle_winding c p ≡ pos 0
      none h = cycle_falls p (LiesWithin tile) (λ w. pos 0) h c all

      by : (left right bottom top : Bool) → int_le (pos p.q *ℤ tile.left) p.x ≡ left → int_lt p.x (pos p.q *ℤ tile.right) ≡ right
          → int_lt (pos p.q *ℤ tile.bottom) p.y ≡ bottom → int_le p.y (pos p.q *ℤ tile.top) ≡ top → (left && right) && (bottom && top) ≡ false
          → cycle_winding c p ≡ pos 0
      by false right bottom top l r b t e = none (left_of_all (le_tells_not (pos p.q *ℤ tile.left) p.x l))
      by true false bottom top l r b t e = none (right_of_all (lt_tells_not p.x (pos p.q *ℤ tile.right) r))
      by true true false top l r b t e = none (under_all (lt_tells_not (pos p.q *ℤ tile.bottom) p.y b))
      by true true true false l r b t e =
          cycle_falls p (LiesWithin tile) begun_by (over_all (le_tells_not p.y (pos p.q *ℤ tile.top) t)) c all
      by true true true true l r b t e = absurd (false≢true (sym e))

-- ---- clamped contours

pub point_clamped : (tile : Bounds) → IsTile tile → (u : Point) → LiesWithin tile (clamped_point tile u)
point_clamped tile is u = record {
  left = clamped_from tile.left tile.right u.x is.across;
  right = clamped_to tile.left tile.right u.x is.across;
  bottom = clamped_from tile.bottom tile.top u.y is.up;
  top = clamped_to tile.bottom tile.top u.y is.up;
}

all_within : (tile : Bounds) → IsTile tile → (c : List Point) → All (LiesWithin tile) (clamped tile c)
all_within tile is c = All-map (LiesWithin tile) (clamped_point tile) c (λ i d l. point_clamped tile is (get_or c i d))

-- what lies in a box that the tile lies in stays there
pub stays_within : (box tile : Bounds) (c : List Point) → All (LiesWithin box) c → IsIn box tile → All (LiesWithin box) (clamped tile c)
stays_within box tile c all is = All-map (LiesWithin box) (clamped_point tile) c (λ i d l. one (get_or c i d) (all i d l))
  where
    one : (u : Point) → LiesWithin box u → LiesWithin box (clamped_point tile u)
    one u h = record {
      left = clamped_one (λ x. box.left ≤ℤ x) tile.left tile.right u.x is.least.left is.greatest.left h.left;
      right = clamped_one (λ x. x ≤ℤ box.right) tile.left tile.right u.x is.least.right is.greatest.right h.right;
      bottom = clamped_one (λ y. box.bottom ≤ℤ y) tile.bottom tile.top u.y is.least.bottom is.greatest.bottom h.bottom;
      top = clamped_one (λ y. y ≤ℤ box.top) tile.bottom tile.top u.y is.least.top is.greatest.top h.top;
    }

module _ (tile : Bounds) (is : IsTile tile) (p : RationalPoint) where
  cycle_clamped : (c : List Point) → All (KeepsTo tile) (contour_steps c) → cycle_winding (clamped tile c) p ≡ cond (in_tile tile p) (cycle_winding c p) (pos 0)
  cycle_clamped c keeps = by (in_tile tile p) refl
    where
      by : (b : Bool) → in_tile tile p ≡ b → cycle_winding (clamped tile c) p ≡ cond b (cycle_winding c p) (pos 0)
      by true e = cycle_kept tile p (inside_told tile p e) c keeps
      by false e = off_tile tile p (clamped tile c) (all_within tile is c) e

  -- so do many
  pub all_clamped : (cs : List (List Point)) → All (λ c. All (KeepsTo tile) (contour_steps c)) cs
      → contour_winding (map (clamped tile) cs) p ≡ cond (in_tile tile p) (contour_winding cs p) (pos 0)
  all_clamped cs keep =
      contour_winding_is (map (clamped tile) cs) p
      ∙ (total_map (λ c. cycle_winding c p) (clamped tile) cs
      ∙ (total_pointwise_on (λ c. cycle_winding (clamped tile c) p) (λ c. cond (in_tile tile p) (cycle_winding c p) (pos 0)) cs
      (All-weaker (λ c. All (KeepsTo tile) (contour_steps c)) (λ c. cycle_winding (clamped tile c) p ≡ cond (in_tile tile p) (cycle_winding c p) (pos 0)) cycle_clamped cs keep)
      ∙ (by (in_tile tile p) ∙ sym (ap (λ n. cond (in_tile tile p) n (pos 0)) (contour_winding_is cs p)))))
    where
      by : (b : Bool) → total (λ c. cond b (cycle_winding c p) (pos 0)) cs ≡ cond b (total (λ c. cycle_winding c p) cs) (pos 0)
      by true = refl
      by false = total_zero (λ c. pos 0) cs (λ c. refl)

pub clamped_winds_alike : ClampedWindsAlike
clamped_winds_alike tile contour p is keeps =
    contour_winding_one (clamped tile contour) p
    ∙ (cycle_clamped tile is p contour keeps ∙ sym (ap (λ n. cond (in_tile tile p) n (pos 0)) (contour_winding_one contour p)))
