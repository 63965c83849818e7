-- A step clamped into a tile adds at a point of the tile what it added before, where it keeps to the tile.
use Rattle.std.proofs.Common.{◌≡◌, ◌⊎◌, inl, inr, ⊎_elim, ℕ, zero, suc, Bool, true, false, cond, ◌&&◌, ℤ, pos, negsuc, ◌+ℤ◌, ◌-ℤ◌, ◌*ℤ◌, ◌≤ℤ◌, ◌<ℤ◌, int_lt, int_le, int_eq, [], ◌∷◌, refl, sym, ap, ap₂, ◌∙◌, subst, arith}
use Rattle.std.proofs.lemmas.Int.{ints}
use Rattle.std.proofs.lemmas.Bool.{false≢true, and_parts, or_left, or_right}
use Rattle.std.proofs.lemmas.Bool.Decides.{Decides-int_eq}
use Rattle.plane_base.specs.Plane.{Point, RationalPoint, side, step_winding}
use Rattle.plane_base.proofs.Facts.Crossings.Tests.{one_true}
use Rattle.plane_base.proofs.Facts.Numbers.Polynomials.{var, plus, minus, times, by_ring}
use Rattle.plane_base.proofs.Facts.Numbers.Products.{product_monotone, product_positive, product_not_negative, product_not_positive, factor_positive, factor_not_positive}
use Rattle.plane_base.proofs.Facts.Points.OneLine.{contribution, at_or_before, is_above, step_winding_is}
use Rattle.plane_base.proofs.Facts.Points.Turns.{coordinates, place, a_side}
use Rattle.segment_split.specs.Groups.{Bounds, LiesWithin}
use Rattle.segment_split.specs.LineLaws.{is_rectilinear}
use Rattle.segment_arrangement.proofs.Facts.ColumnPlaces.{lt_holds, lt_fails, lt_tells, lt_tells_not, le_holds, le_fails, le_tells}
use Rattle.polygon_overlay.specs.Tiles.{in_tile, clamped_number, clamped_point, KeepsTo, straight, within, left_of, right_of, under, over}

-- ---- numbers

pub at_most : (x y z : ℤ) → x ≤ℤ y → y ≤ℤ z → x ≤ℤ z
at_most x y z l m = omega (arith, ints)

pub at_most_below : (x y z : ℤ) → x ≤ℤ y → y <ℤ z → x <ℤ z
at_most_below x y z l m = omega (arith, ints)

pub below_at_most : (x y z : ℤ) → x <ℤ y → y ≤ℤ z → x <ℤ z
below_at_most x y z l m = omega (arith, ints)

pub weak : (x y : ℤ) → x <ℤ y → x ≤ℤ y
weak x y l = omega (arith, ints)

pub le_tells_not : (x y : ℤ) → int_le x y ≡ false → y <ℤ x
le_tells_not x y h = omega (arith, ints)

pub times_le : (q : ℕ) (x y : ℤ) → x ≤ℤ y → (pos q *ℤ x) ≤ℤ (pos q *ℤ y)
times_le q x y l = product_monotone (pos q) x y (omega (arith, ints)) l

-- ---- a number clamped

-- it is one of three
pub clamped_one : (P : ℤ → Type 0) (least greatest v : ℤ) → P least → P greatest → P v → P (clamped_number least greatest v)
clamped_one P least greatest v of_least of_greatest of_v = by (int_lt v least) (int_lt greatest v)
  where
    by : (b c : Bool) → P (cond b least (cond c greatest v))
    by true c = of_least
    by false true = of_greatest
    by false false = of_v

pub clamped_from : (least greatest v : ℤ) → least ≤ℤ greatest → least ≤ℤ clamped_number least greatest v
clamped_from least greatest v l = by (int_lt v least) (int_lt greatest v) refl
  where
    by : (b c : Bool) → int_lt v least ≡ b → least ≤ℤ cond b least (cond c greatest v)
    by true c e = omega (arith, ints)
    by false true e = l
    by false false e = lt_tells_not v least e

pub clamped_to : (least greatest v : ℤ) → least ≤ℤ greatest → clamped_number least greatest v ≤ℤ greatest
clamped_to least greatest v l = by (int_lt v least) (int_lt greatest v) refl
  where
    by : (b c : Bool) → int_lt greatest v ≡ c → cond b least (cond c greatest v) ≤ℤ greatest
    by true c e = l
    by false true e = omega (arith, ints)
    by false false e = lt_tells_not greatest v e

number_stays : (least greatest v : ℤ) → least ≤ℤ v → v ≤ℤ greatest → clamped_number least greatest v ≡ v
number_stays least greatest v l m = by (int_lt v least) (int_lt greatest v) refl refl
  where
    by : (b c : Bool) → int_lt v least ≡ b → int_lt greatest v ≡ c → cond b least (cond c greatest v) ≡ v
    by true c e f = absurd (omega (arith, ints))
    by false true e f = absurd (omega (arith, ints))
    by false false e f = refl

-- times q it stands where v does, seen from a place that lies from the least on and before the greatest
column_kept : (q : ℕ) (least greatest v x : ℤ) → (pos q *ℤ least) ≤ℤ x → x <ℤ (pos q *ℤ greatest)
    → int_le (pos q *ℤ clamped_number least greatest v) x ≡ int_le (pos q *ℤ v) x
column_kept q least greatest v x from to = by (int_lt v least) (int_lt greatest v) refl refl
  where
    by : (b c : Bool) → int_lt v least ≡ b → int_lt greatest v ≡ c → int_le (pos q *ℤ cond b least (cond c greatest v)) x ≡ int_le (pos q *ℤ v) x
    by true c e f =
        le_holds (pos q *ℤ least) x from
        ∙ sym (le_holds (pos q *ℤ v) x (at_most (pos q *ℤ v) (pos q *ℤ least) x (times_le q v least (weak v least (lt_tells v least e))) from))
    by false true e f =
        le_fails (pos q *ℤ greatest) x to
        ∙ sym (le_fails (pos q *ℤ v) x (below_at_most x (pos q *ℤ greatest) (pos q *ℤ v) to (times_le q greatest v (weak greatest v (lt_tells greatest v f)))))
    by false false e f = refl

-- seen from one that lies above the least and up to the greatest
row_kept : (q : ℕ) (least greatest v y : ℤ) → (pos q *ℤ least) <ℤ y → y ≤ℤ (pos q *ℤ greatest)
    → int_lt (pos q *ℤ clamped_number least greatest v) y ≡ int_lt (pos q *ℤ v) y
row_kept q least greatest v y above to = by (int_lt v least) (int_lt greatest v) refl refl
  where
    by : (b c : Bool) → int_lt v least ≡ b → int_lt greatest v ≡ c → int_lt (pos q *ℤ cond b least (cond c greatest v)) y ≡ int_lt (pos q *ℤ v) y
    by true c e f =
        lt_holds (pos q *ℤ least) y above
        ∙ sym (lt_holds (pos q *ℤ v) y (at_most_below (pos q *ℤ v) (pos q *ℤ least) y (times_le q v least (weak v least (lt_tells v least e))) above))
    by false true e f =
        lt_fails (pos q *ℤ greatest) y to
        ∙ sym (lt_fails (pos q *ℤ v) y (at_most y (pos q *ℤ greatest) (pos q *ℤ v) to (times_le q greatest v (weak greatest v (lt_tells greatest v f)))))
    by false false e f = refl

-- ---- horizontal and vertical steps

pub rectilinear : (u v : Point) → is_rectilinear (record { a = u; b = v }) ≡ true → (u.y ≡ v.y) ⊎ (u.x ≡ v.x)
rectilinear u v e =
    ⊎_elim (λ h. inl ((Decides-int_eq u.y v.y).0 h)) (λ h. inr ((Decides-int_eq u.x v.x).0 h)) (one_true (int_eq u.y v.y) (int_eq u.x v.x) e)

pub is_horizontal : (u v : Point) → u.y ≡ v.y → is_rectilinear (record { a = u; b = v }) ≡ true
is_horizontal u v e = or_left (int_eq u.y v.y) (int_eq u.x v.x) ((Decides-int_eq u.y v.y).1 e)

pub is_vertical : (u v : Point) → u.x ≡ v.x → is_rectilinear (record { a = u; b = v }) ≡ true
is_vertical u v e = or_right (int_eq u.y v.y) (int_eq u.x v.x) ((Decides-int_eq u.x v.x).1 e)

pub straight_back : (u v : Point) → is_rectilinear (record { a = u; b = v }) ≡ true → is_rectilinear (record { a = v; b = u }) ≡ true
straight_back u v e = by (rectilinear u v e)
  where
    by : (u.y ≡ v.y) ⊎ (u.x ≡ v.x) → is_rectilinear (record { a = v; b = u }) ≡ true
    by (inl h) = is_horizontal v u (sym h)
    by (inr h) = is_vertical v u (sym h)

-- they are horizontal or vertical once they are clamped
pub straight_clamped : (tile : Bounds) (u v : Point) → is_rectilinear (record { a = u; b = v }) ≡ true
    → is_rectilinear (record { a = clamped_point tile u; b = clamped_point tile v }) ≡ true
straight_clamped tile u v e = by (rectilinear u v e)
  where
    by : (u.y ≡ v.y) ⊎ (u.x ≡ v.x) → is_rectilinear (record { a = clamped_point tile u; b = clamped_point tile v }) ≡ true
    by (inl h) = is_horizontal (clamped_point tile u) (clamped_point tile v) (ap (clamped_number tile.bottom tile.top) h)
    by (inr h) = is_vertical (clamped_point tile u) (clamped_point tile v) (ap (clamped_number tile.left tile.right) h)

keeps_back : (tile : Bounds) (u v : Point) → KeepsTo tile (record { a = u; b = v }) → KeepsTo tile (record { a = v; b = u })
keeps_back tile u v (straight e) = straight (straight_back u v e)
keeps_back tile u v (within h k) = within k h
keeps_back tile u v (left_of h k) = left_of k h
keeps_back tile u v (right_of h k) = right_of k h
keeps_back tile u v (under h k) = under k h
keeps_back tile u v (over h k) = over k h

-- ---- a step over the column of p

-- times q, how far p is above the step, by how far it is above each end
side_by_ends : (u v : Point) (p : RationalPoint)
    → pos p.q *ℤ side u v p ≡ (((pos p.q *ℤ v.x) -ℤ p.x) *ℤ (p.y -ℤ (pos p.q *ℤ u.y))) +ℤ ((p.x -ℤ (pos p.q *ℤ u.x)) *ℤ (p.y -ℤ (pos p.q *ℤ v.y)))
side_by_ends u v p =
    by_ring (coordinates (u ∷ v ∷ []) (p.x ∷ p.y ∷ pos p.q ∷ []))
    (times (var 6) (a_side (place 0) (place 1) (place 2) (var 6)))
    (plus (times (minus (times (var 6) (var 2)) (var 4)) (minus (var 5) (times (var 6) (var 1)))) (times (minus (var 4) (times (var 6) (var 0))) (minus (var 5) (times (var 6) (var 3)))))
    refl

-- no fraction over 0 lies between two columns
some_bottom : (q : ℕ) (a b x : ℤ) → (pos q *ℤ a) ≤ℤ x → x <ℤ (pos q *ℤ b) → pos 0 <ℤ pos q
some_bottom zero a b x l m = absurd (none a b x l m)
  where
    none : (a b x : ℤ) → (pos 0 *ℤ a) ≤ℤ x → x <ℤ (pos 0 *ℤ b) → ⊥
    none a b x l m = omega (arith, ints)
some_bottom (suc q) a b x l m = omega (arith, ints)

gap : (x y : ℤ) → x <ℤ y → pos 0 <ℤ (y -ℤ x)
gap x y l = omega (arith, ints)

no_drop : (x y : ℤ) → x ≤ℤ y → pos 0 ≤ℤ (y -ℤ x)
no_drop x y l = omega (arith, ints)

no_rise : (x y : ℤ) → y ≤ℤ x → (y -ℤ x) ≤ℤ pos 0
no_rise x y l = omega (arith, ints)

module _ (u v : Point) (p : RationalPoint) (begun : at_or_before u p ≡ true) (unended : at_or_before v p ≡ false) where
  from_first : (pos p.q *ℤ u.x) ≤ℤ p.x
  from_first = le_tells (pos p.q *ℤ u.x) p.x begun

  to_second : p.x <ℤ (pos p.q *ℤ v.x)
  to_second = le_tells_not (pos p.q *ℤ v.x) p.x unended

  some : pos 0 <ℤ pos p.q
  some = some_bottom p.q u.x v.x p.x from_first to_second

  -- both ends are below p
  pub passes_below : (pos p.q *ℤ u.y) <ℤ p.y → (pos p.q *ℤ v.y) <ℤ p.y → is_above u v p ≡ true
  passes_below l m =
      lt_holds (pos 0) (side u v p)
      (factor_positive (pos p.q) (side u v p) some
      (sum _ _ _ (side_by_ends u v p)
      (product_positive ((pos p.q *ℤ v.x) -ℤ p.x) (p.y -ℤ (pos p.q *ℤ u.y)) (gap p.x (pos p.q *ℤ v.x) to_second) (gap (pos p.q *ℤ u.y) p.y l))
      (product_not_negative (p.x -ℤ (pos p.q *ℤ u.x)) (p.y -ℤ (pos p.q *ℤ v.y)) (no_drop (pos p.q *ℤ u.x) p.x from_first) (no_drop (pos p.q *ℤ v.y) p.y (weak (pos p.q *ℤ v.y) p.y m)))))
    where
      sum : (z x y : ℤ) → z ≡ x +ℤ y → pos 0 <ℤ x → pos 0 ≤ℤ y → pos 0 <ℤ z
      sum z x y e l m = omega (arith, ints)

  -- none is
  pub passes_above : p.y ≤ℤ (pos p.q *ℤ u.y) → p.y ≤ℤ (pos p.q *ℤ v.y) → is_above u v p ≡ false
  passes_above l m =
      lt_fails (pos 0) (side u v p)
      (factor_not_positive (pos p.q) (side u v p) some
      (sum _ _ _ (side_by_ends u v p)
      (product_not_positive ((pos p.q *ℤ v.x) -ℤ p.x) (p.y -ℤ (pos p.q *ℤ u.y)) (no_drop p.x (pos p.q *ℤ v.x) (weak p.x (pos p.q *ℤ v.x) to_second)) (no_rise (pos p.q *ℤ u.y) p.y l))
      (product_not_positive (p.x -ℤ (pos p.q *ℤ u.x)) (p.y -ℤ (pos p.q *ℤ v.y)) (no_drop (pos p.q *ℤ u.x) p.x from_first) (no_rise (pos p.q *ℤ v.y) p.y m))))
    where
      sum : (z x y : ℤ) → z ≡ x +ℤ y → x ≤ℤ pos 0 → y ≤ℤ pos 0 → z ≤ℤ pos 0
      sum z x y e l m = omega (arith, ints)

  pub passes_horizontal : u.y ≡ v.y → is_above u v p ≡ int_lt (pos p.q *ℤ u.y) p.y
  passes_horizontal e = by (int_lt (pos p.q *ℤ u.y) p.y) refl
    where
      by : (b : Bool) → int_lt (pos p.q *ℤ u.y) p.y ≡ b → is_above u v p ≡ b
      by true h = let l = lt_tells (pos p.q *ℤ u.y) p.y h in passes_below l (subst (λ y. (pos p.q *ℤ y) <ℤ p.y) e l)
      by false h = let l = lt_tells_not (pos p.q *ℤ u.y) p.y h in passes_above l (subst (λ y. p.y ≤ℤ (pos p.q *ℤ y)) e l)

-- ---- in the tile

-- what `in_tile` tests
pub record IsInside (tile : Bounds) (p : RationalPoint) : Type 0 where
  pub left : (pos p.q *ℤ tile.left) ≤ℤ p.x
  pub right : p.x <ℤ (pos p.q *ℤ tile.right)
  pub bottom : (pos p.q *ℤ tile.bottom) <ℤ p.y
  pub top : p.y ≤ℤ (pos p.q *ℤ tile.top)

pub inside_told : (tile : Bounds) (p : RationalPoint) → in_tile tile p ≡ true → IsInside tile p
inside_told tile p e =
    let parts =
    and_parts (int_le (pos p.q *ℤ tile.left) p.x && int_lt p.x (pos p.q *ℤ tile.right)) (int_lt (pos p.q *ℤ tile.bottom) p.y && int_le p.y (pos p.q *ℤ tile.top)) e in
    let across = and_parts (int_le (pos p.q *ℤ tile.left) p.x) (int_lt p.x (pos p.q *ℤ tile.right)) parts.0 in
    let up = and_parts (int_lt (pos p.q *ℤ tile.bottom) p.y) (int_le p.y (pos p.q *ℤ tile.top)) parts.1 in
    record {
      left = le_tells (pos p.q *ℤ tile.left) p.x across.0;
      right = lt_tells p.x (pos p.q *ℤ tile.right) across.1;
      bottom = lt_tells (pos p.q *ℤ tile.bottom) p.y up.0;
      top = le_tells p.y (pos p.q *ℤ tile.top) up.1;
    }

pub point_stays : (tile : Bounds) (u : Point) → LiesWithin tile u → clamped_point tile u ≡ u
point_stays tile u h = λ i. record { x = number_stays tile.left tile.right u.x h.left h.right i; y = number_stays tile.bottom tile.top u.y h.bottom h.top i }

module _ (tile : Bounds) (p : RationalPoint) (inside : IsInside tile p) where
  abbrev clamp : Point → Point
  clamp u = clamped_point tile u

  at_kept : (u : Point) → at_or_before (clamp u) p ≡ at_or_before u p
  at_kept u = column_kept p.q tile.left tile.right u.x p.x inside.left inside.right

  under_kept : (u : Point) → int_lt (pos p.q *ℤ (clamp u).y) p.y ≡ int_lt (pos p.q *ℤ u.y) p.y
  under_kept u = row_kept p.q tile.bottom tile.top u.y p.y inside.bottom inside.top

  -- over its column p is above the step just where it is above the clamped one
  above_kept : (u v : Point) → KeepsTo tile (record { a = u; b = v }) → at_or_before u p ≡ true → at_or_before v p ≡ false
      → is_above (clamp u) (clamp v) p ≡ is_above u v p
  above_kept u v keeps begun unended = by keeps
    where
      begun_clamped : at_or_before (clamp u) p ≡ true
      begun_clamped = at_kept u ∙ begun

      unended_clamped : at_or_before (clamp v) p ≡ false
      unended_clamped = at_kept v ∙ unended

      of_straight : (u.y ≡ v.y) ⊎ (u.x ≡ v.x) → is_above (clamp u) (clamp v) p ≡ is_above u v p
      of_straight (inl e) =
          passes_horizontal (clamp u) (clamp v) p begun_clamped unended_clamped (ap (clamped_number tile.bottom tile.top) e)
          ∙ (under_kept u ∙ sym (passes_horizontal u v p begun unended e))
      of_straight (inr e) = absurd (false≢true (sym unended ∙ (sym (ap (λ x. int_le (pos p.q *ℤ x) p.x) e) ∙ begun)))

      below : (w : Point) → w.y ≤ℤ tile.bottom → (pos p.q *ℤ w.y) <ℤ p.y
      below w l = at_most_below (pos p.q *ℤ w.y) (pos p.q *ℤ tile.bottom) p.y (times_le p.q w.y tile.bottom l) inside.bottom

      below_clamped : (w : Point) → w.y ≤ℤ tile.bottom → (pos p.q *ℤ (clamp w).y) <ℤ p.y
      below_clamped w l = lt_tells (pos p.q *ℤ (clamp w).y) p.y (under_kept w ∙ lt_holds (pos p.q *ℤ w.y) p.y (below w l))

      above : (w : Point) → tile.top ≤ℤ w.y → p.y ≤ℤ (pos p.q *ℤ w.y)
      above w l = at_most p.y (pos p.q *ℤ tile.top) (pos p.q *ℤ w.y) inside.top (times_le p.q tile.top w.y l)

      above_clamped : (w : Point) → tile.top ≤ℤ w.y → p.y ≤ℤ (pos p.q *ℤ (clamp w).y)
      above_clamped w l = lt_tells_not (pos p.q *ℤ (clamp w).y) p.y (under_kept w ∙ lt_fails (pos p.q *ℤ w.y) p.y (above w l))

      by : KeepsTo tile (record { a = u; b = v }) → is_above (clamp u) (clamp v) p ≡ is_above u v p
      by (straight e) = of_straight (rectilinear u v e)
      by (within h k) = ap₂ (λ s t. is_above s t p) (point_stays tile u h) (point_stays tile v k)
      by (left_of h k) =
          absurd (false≢true (sym unended ∙ le_holds (pos p.q *ℤ v.x) p.x (at_most (pos p.q *ℤ v.x) (pos p.q *ℤ tile.left) p.x (times_le p.q v.x tile.left k) inside.left)))
      by (right_of h k) =
          absurd (false≢true (sym (le_fails (pos p.q *ℤ u.x) p.x (below_at_most p.x (pos p.q *ℤ tile.right) (pos p.q *ℤ u.x) inside.right (times_le p.q tile.right u.x h))) ∙ begun))
      by (under h k) =
          passes_below (clamp u) (clamp v) p begun_clamped unended_clamped (below_clamped u h) (below_clamped v k)
          ∙ sym (passes_below u v p begun unended (below u h) (below v k))
      by (over h k) =
          passes_above (clamp u) (clamp v) p begun_clamped unended_clamped (above_clamped u h) (above_clamped v k)
          ∙ sym (passes_above u v p begun unended (above u h) (above v k))

  pub step_kept : (u v : Point) → KeepsTo tile (record { a = u; b = v }) → step_winding (clamp u) (clamp v) p ≡ step_winding u v p
  step_kept u v keeps =
      step_winding_is (clamp u) (clamp v) p
      ∙ (ap₂ (λ a b. contribution a b (is_above (clamp u) (clamp v) p) (is_above (clamp v) (clamp u) p)) (at_kept u) (at_kept v)
      ∙ (by (at_or_before u p) (at_or_before v p) refl refl ∙ sym (step_winding_is u v p)))
    where
      by : (a b : Bool) → at_or_before u p ≡ a → at_or_before v p ≡ b
          → contribution a b (is_above (clamp u) (clamp v) p) (is_above (clamp v) (clamp u) p) ≡ contribution a b (is_above u v p) (is_above v u p)
      by true true e f = refl
      by false false e f = refl
      by true false e f = ap (λ s. cond s (pos 1) (pos 0)) (above_kept u v keeps e f)
      by false true e f = ap (λ s. cond s (negsuc 0) (pos 0)) (above_kept v u (keeps_back tile u v keeps) f e)
