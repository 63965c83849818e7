-- Points on edges, by boxes: an edge lies in each box that has its ends.
use Rattle.std.proofs.Common.{◌≡◌, ◌⊎◌, inl, inr, ℕ, ◌<◌, ◌≤◌, ℤ, pos, ◌+ℤ◌, ◌-ℤ◌, ◌≤ℤ◌, ◌<ℤ◌, int_eq, int_lt, Bool, true, false, ◌&&◌, ◌||◌, List, [], ◌∷◌, map, flat_map, length, get_or, All, Contains, refl, sym, ap, ap₂, subst, ◌∙◌, arith}
use Rattle.std.specs.List.{list_any}
use Rattle.std.specs.Ordering.{is_le}
use Rattle.std.specs.declared.cmp.Ordering.{Ordering}
use Rattle.std.specs.declared.cmp.Ordering.TheVariants.{Less, Equal, Greater}
use Rattle.std.proofs.lemmas.Bool.{false≢true, or_cases}
use Rattle.std.proofs.lemmas.Bool.Decides.{Decides-int_eq}
use Rattle.std.proofs.lemmas.Int.{ints}
use Rattle.std.proofs.lemmas.List.{append-nil, get_or-map, get_or_default, length-map}
use Rattle.std.proofs.lemmas.List.Elements.{All-head, All-tail}
use Rattle.std.proofs.lemmas.List.Folds.{list_any_none, list_any_at, list_any-append}
use Rattle.plane_base.specs.Plane.{Point, Edge, turn, point_order, lies_on}
use Rattle.plane_base.proofs.Facts.Lists.Cycles.{All-front, All-back}
use Rattle.plane_base.proofs.Facts.Numbers.Products.{product_positive, product_negative, product_not_negative, product_not_positive}
use Rattle.plane_base.proofs.Facts.Points.Orders.{point_equal, point_less}
use Rattle.segment_split.specs.Groups.{Bounds, LiesWithin}
use Rattle.segment_arrangement.specs.FanLaws.{whole}
use Rattle.contour_walk.specs.BindingLaws.{all_contours}
use Rattle.contour_walk.specs.Walks.{contour_edges}
use Rattle.polygon_overlay.specs.Location.{is_on_edge}
use Rattle.polygon_overlay.specs.Stretches.{is_outside, ends_of, edge_ends, number_of, points_by, NoneBetween, NoneBorders}
use Rattle.polygon_overlay.specs.declared.point_location.shape_index.Placed.{Placed}
use Rattle.polygon_overlay.proofs.Locating.IndexLaws.{points_at}
use Rattle.polygon_overlay.proofs.Locating.LocationLaws.{lt_tells, length-contour_edges, on_each_shape, on_whole}
use Rattle.polygon_overlay.proofs.Locating.OutlineLaws.{turn_by_ends, above_zero, from_zero, up_to_zero, less_then, then_less, sum_positive, edges_lie}

-- ---- an edge

le_parts : (a p : Point) → is_le (point_order a p) ≡ true → (a.x <ℤ p.x) ⊎ ((a.x ≡ p.x) × (a.y ≤ℤ p.y))
le_parts a p h = by (point_order a p) refl h
  where
    at_most : (x y : ℤ) → x <ℤ y → x ≤ℤ y
    at_most x y l = omega (arith, ints)

    level : (x y : ℤ) → x ≡ y → x ≤ℤ y
    level x y e = omega (arith, ints)

    less : (a.x <ℤ p.x) ⊎ ((a.x ≡ p.x) × (a.y <ℤ p.y)) → (a.x <ℤ p.x) ⊎ ((a.x ≡ p.x) × (a.y ≤ℤ p.y))
    less (inl l) = inl l
    less (inr l) = inr (l.0, at_most a.y p.y l.1)

    by : (o : Ordering) → point_order a p ≡ o → is_le o ≡ true → (a.x <ℤ p.x) ⊎ ((a.x ≡ p.x) × (a.y ≤ℤ p.y))
    by Less e f = less (point_less a p e)
    by Equal e f = let same = point_equal a p e in inr (ap (λ (q : Point). q.x) same, level a.y p.y (ap (λ (q : Point). q.y) same))
    by Greater e f = absurd (false≢true f)

sum_negative : (t x y : ℤ) → t ≡ x +ℤ y → x ≤ℤ pos 0 → y <ℤ pos 0 → t <ℤ pos 0
sum_negative t x y e h k = omega (arith, ints)

sum_positive_after : (t x y : ℤ) → t ≡ x +ℤ y → pos 0 ≤ℤ x → pos 0 <ℤ y → pos 0 <ℤ t
sum_positive_after t x y e h k = omega (arith, ints)

below_zero : (x y : ℤ) → y <ℤ x → (y -ℤ x) <ℤ pos 0
below_zero x y h = omega (arith, ints)

not_level : (t : ℤ) → (t <ℤ pos 0) ⊎ (pos 0 <ℤ t) → t ≡ pos 0 → ⊥
not_level t (inl h) e = absurd (omega (arith, ints, h))
not_level t (inr h) e = absurd (omega (arith, ints, h))

at_most_not_less : (x y : ℤ) → x ≤ℤ y → y <ℤ x → ⊥
at_most_not_less x y h k = absurd (omega (arith, ints))

less_at_most : (x y : ℤ) → x <ℤ y → x ≤ℤ y
less_at_most x y h = omega (arith, ints)

level_at_most : (x y : ℤ) → x ≡ y → x ≤ℤ y
level_at_most x y e = omega (arith, ints)

module _ (s : Edge) (p : Point) (b : Bounds) (inside : All (LiesWithin b) (ends_of s)) where
  first : LiesWithin b s.a
  first = All-head (LiesWithin b) s.a (s.b ∷ []) inside

  second : LiesWithin b s.b
  second = All-head (LiesWithin b) s.b [] (All-tail (LiesWithin b) s.a (s.b ∷ []) inside)

  abbrev From : Type 0
  From = (s.a.x <ℤ p.x) ⊎ ((s.a.x ≡ p.x) × (s.a.y ≤ℤ p.y))

  abbrev UpTo : Type 0
  UpTo = (p.x <ℤ s.b.x) ⊎ ((p.x ≡ s.b.x) × (p.y ≤ℤ s.b.y))

  from_x : From → s.a.x ≤ℤ p.x
  from_x (inl l) = less_at_most s.a.x p.x l
  from_x (inr l) = level_at_most s.a.x p.x l.0

  to_x : UpTo → p.x ≤ℤ s.b.x
  to_x (inl l) = less_at_most p.x s.b.x l
  to_x (inr l) = level_at_most p.x s.b.x l.0

  -- the point lies beside the box
  left_of_box : p.x <ℤ b.left → From → ⊥
  left_of_box h k = at_most_not_less s.a.x p.x (from_x k) (less_then p.x b.left s.a.x h first.left)

  right_of_box : b.right <ℤ p.x → UpTo → ⊥
  right_of_box h k = at_most_not_less p.x s.b.x (to_x k) (then_less s.b.x b.right p.x second.right h)

  -- or below it, or above it
  below_box : p.y <ℤ b.bottom → From → UpTo → turn s.a s.b p ≡ pos 0 → ⊥
  below_box h (inr l) k e = at_most_not_less s.a.y p.y l.1 (less_then p.y b.bottom s.a.y h first.bottom)
  below_box h (inl l) k e =
      not_level (turn s.a s.b p)
      (inl (sum_negative (turn s.a s.b p) _ _ (turn_by_ends s.a s.b p)
      (product_not_positive (s.b.x -ℤ p.x) (p.y -ℤ s.a.y) (from_zero p.x s.b.x (to_x k))
      (up_to_zero s.a.y p.y (less_at_most p.y s.a.y (less_then p.y b.bottom s.a.y h first.bottom))))
      (product_negative (p.x -ℤ s.a.x) (p.y -ℤ s.b.y) (above_zero s.a.x p.x l) (below_zero s.b.y p.y (less_then p.y b.bottom s.b.y h second.bottom))))) e

  above_box : b.top <ℤ p.y → From → UpTo → turn s.a s.b p ≡ pos 0 → ⊥
  above_box h k (inr l) e = at_most_not_less p.y s.b.y l.1 (then_less s.b.y b.top p.y second.top h)
  above_box h k (inl l) e =
      not_level (turn s.a s.b p)
      (inr (sum_positive (turn s.a s.b p) _ _ (turn_by_ends s.a s.b p)
      (product_positive (s.b.x -ℤ p.x) (p.y -ℤ s.a.y) (above_zero p.x s.b.x l) (above_zero s.a.y p.y (then_less s.a.y b.top p.y first.top h)))
      (product_not_negative (p.x -ℤ s.a.x) (p.y -ℤ s.b.y) (from_zero s.a.x p.x (from_x k))
      (from_zero s.b.y p.y (less_at_most s.b.y p.y (then_less s.b.y b.top p.y second.top h)))))) e

  apart : is_outside b p ≡ true → From → UpTo → turn s.a s.b p ≡ pos 0 → ⊥
  apart out from to level = by (or_cases (int_lt p.x b.left || int_lt b.right p.x) (int_lt p.y b.bottom || int_lt b.top p.y) out)
    where
      beside : (int_lt p.x b.left ≡ true) ⊎ (int_lt b.right p.x ≡ true) → ⊥
      beside (inl h) = left_of_box (lt_tells p.x b.left h) from
      beside (inr h) = right_of_box (lt_tells b.right p.x h) to

      over : (int_lt p.y b.bottom ≡ true) ⊎ (int_lt b.top p.y ≡ true) → ⊥
      over (inl h) = below_box (lt_tells p.y b.bottom h) from to level
      over (inr h) = above_box (lt_tells b.top p.y h) from to level

      by : ((int_lt p.x b.left || int_lt b.right p.x) ≡ true) ⊎ ((int_lt p.y b.bottom || int_lt b.top p.y) ≡ true) → ⊥
      by (inl h) = beside (or_cases (int_lt p.x b.left) (int_lt b.right p.x) h)
      by (inr h) = over (or_cases (int_lt p.y b.bottom) (int_lt b.top p.y) h)

  -- an edge in a box has no point outside of it
  pub edge_outside : is_outside b p ≡ true → lies_on s (whole p) ≡ false
  edge_outside out = on_whole s p ∙ by (int_eq (turn s.a s.b p) (pos 0)) (is_le (point_order s.a p)) (is_le (point_order p s.b)) refl refl refl
    where
      by : (t l m : Bool) → int_eq (turn s.a s.b p) (pos 0) ≡ t → is_le (point_order s.a p) ≡ l → is_le (point_order p s.b) ≡ m → t && l && m ≡ false
      by true true true e f g = absurd (apart out (le_parts s.a p f) (le_parts p s.b g) ((Decides-int_eq (turn s.a s.b p) (pos 0)).0 e))
      by true true false e f g = refl
      by true false true e f g = refl
      by true false false e f g = refl
      by false true true e f g = refl
      by false true false e f g = refl
      by false false true e f g = refl
      by false false false e f g = refl

-- ---- contours and shapes

module _ (c : List Point) (p : Point) (b : Bounds) (out : is_outside b p ≡ true) where
  -- none of the edges of a run in the box has the point
  pub run_outside : (first end : ℕ) → end ≤ length c → ((k : ℕ) (d : List Point) → first ≤ k → k < end → All (LiesWithin b) (get_or (edge_ends c) k d))
      → NoneBetween (λ s. lies_on s (whole p)) (contour_edges c) first end
  run_outside first end within boxed k d h l =
      let inside : k < length (contour_edges c) = let e = length-contour_edges c in omega (arith, l, within, e) in
      edge_outside (get_or (contour_edges c) k d) p b
      (subst (All (LiesWithin b)) (get_or-map ends_of (contour_edges c) k d [] inside) (boxed k [] h l)) out

  -- nor any edge of a contour in the box
  pub contour_outside : All (LiesWithin b) c → list_any (λ s. lies_on s (whole p)) (contour_edges c) ≡ false
  contour_outside inside =
      list_any_none (λ s. lies_on s (whole p)) (contour_edges c)
      (λ k d l. let e = length-contour_edges c in run_outside 0 (length c) (omega arith) boxed k d (omega arith) (omega (arith, l, e)))
    where
      boxed : (k : ℕ) (d : List Point) → 0 ≤ k → k < length c → All (LiesWithin b) (get_or (edge_ends c) k d)
      boxed k d h l =
          edges_lie (LiesWithin b) c inside k d
          (let e = length-map (contour_edges c) ends_of in let f = length-contour_edges c in omega (arith, l, e, f))

-- what is told of a contour's edges is told of the contour
pub on_contour : (c : List Point) (p : Point) (b : Bool) → list_any (λ s. lies_on s (whole p)) (contour_edges c) ≡ b → is_on_edge (c ∷ []) (whole p) ≡ b
on_contour c p b is = ap (list_any (λ s. lies_on s (whole p))) (append-nil (contour_edges c)) ∙ is

-- an edge has it
pub edge_found : (c : List Point) (p : Point) (k : ℕ) (s : Edge) → k < length (contour_edges c) → s ≡ get_or (contour_edges c) k s → lies_on s (whole p) ≡ true
    → is_on_edge (c ∷ []) (whole p) ≡ true
edge_found c p k s l at on =
    on_contour c p true (list_any_at (λ s. lies_on s (whole p)) (contour_edges c) k s l (ap (λ t. lies_on t (whole p)) (sym at) ∙ on))

pub shape_outside : (cs : List (List Point)) (p : Point) (b : Bounds) → All (LiesWithin b) (flat_map (λ c. c) cs) → is_outside b p ≡ true → is_on_edge cs (whole p) ≡ false
shape_outside [] p b inside out = refl
shape_outside (c ∷ cs) p b inside out =
    list_any-append (λ s. lies_on s (whole p)) (contour_edges c) (flat_map contour_edges cs)
    ∙ ap₂ (λ x y. x || y) (contour_outside c p b out (All-front (LiesWithin b) c (flat_map (λ x. x) cs) inside))
    (shape_outside cs p b (All-back (LiesWithin b) c (flat_map (λ x. x) cs) inside) out)

-- nor any shape of a field in the box
pub field_outside : (shapes : List (List (List Point))) (order : List Placed) (p : Point) (b : Bounds) (first end : ℕ) → end ≤ length order
    → ((k : ℕ) (d : List Point) → first ≤ k → k < end → All (LiesWithin b) (get_or (points_by shapes order) k d)) → is_outside b p ≡ true
    → NoneBorders shapes order (whole p) first end
field_outside shapes order p b first end within boxed out k d h l =
    shape_outside (get_or shapes (get_or order k d).number []) p b
    (subst (All (LiesWithin b)) (points_at shapes order k (get_or order k d) inside (get_or_default order k d (get_or order k d) inside) []) (boxed k [] h l)) out
  where
    inside : k < length order
    inside = omega (arith, l, within)

-- ---- all shapes

module _ (shapes : List (List (List Point))) (p : Point) where
  -- a shape has it
  pub one_borders : (n : ℕ) → n < length shapes → is_on_edge (get_or shapes n []) (whole p) ≡ true → is_on_edge (all_contours shapes) (whole p) ≡ true
  one_borders n l is = sym (on_each_shape shapes (whole p)) ∙ list_any_at (λ s. is_on_edge s (whole p)) shapes n [] l is

  -- none has it, where all stand in the order
  pub none_borders : (order : List Placed) → ((n : ℕ) → n < length shapes → Contains (map number_of order) n) → NoneBorders shapes order (whole p) 0 (length order)
      → is_on_edge (all_contours shapes) (whole p) ≡ false
  none_borders order each none =
      sym (on_each_shape shapes (whole p)) ∙ list_any_none (λ s. is_on_edge s (whole p)) shapes (λ n d l. at n d l (each n l))
    where
      at : (n : ℕ) (d : List (List Point)) → n < length shapes → Contains (map number_of order) n → is_on_edge (get_or shapes n d) (whole p) ≡ false
      at n d l (k, inside, is) =
          let m : k < length order = let e = length-map order number_of in omega (arith, inside, e) in
          subst (λ s. is_on_edge s (whole p) ≡ false) (get_or_default shapes n [] d l) (shape_of order k m is none)
        where
          shape_of : (order : List Placed) (k : ℕ) → k < length order → get_or (map number_of order) k n ≡ n
              → NoneBorders shapes order (whole p) 0 (length order) → is_on_edge (get_or shapes n []) (whole p) ≡ false
          shape_of [] k m is none = absurd (omega (arith, m))
          shape_of (s ∷ rest) k m is none =
              subst (λ j. is_on_edge (get_or shapes j []) (whole p) ≡ false) (sym (get_or-map number_of (s ∷ rest) k s n m) ∙ is) (none k s (omega arith) m)
