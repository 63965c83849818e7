-- The tiles of a grid share no point, and cover the whole.
use Rattle.std.proofs.Common.{◌≡◌, ◌⊎◌, inl, inr, ℕ, zero, suc, ◌<◌, Bool, true, false, ◌&&◌, List, [], ◌∷◌, ◌++◌, map, length, get_or, All, AllPairs, Any, ℤ, pos, ◌*ℤ◌, ◌≤ℤ◌, ◌<ℤ◌, int_lt, int_le, refl, sym, subst, arith}
use Rattle.std.proofs.lemmas.Int.{ints}
use Rattle.std.proofs.lemmas.Bool.{and_from}
use Rattle.std.proofs.lemmas.List.Elements.{All-nil, All-cons, All-head, All-tail, All-append, All-weaker}
use Rattle.plane_base.specs.Plane.{RationalPoint}
use Rattle.plane_base.proofs.Facts.Maps.Normal.{AllPairs-nil, AllPairs-cons, AllPairs-head, AllPairs-tail}
use Rattle.segment_split.specs.Groups.{Bounds}
use Rattle.segment_arrangement.proofs.Facts.ColumnPlaces.{lt_holds, lt_tells, lt_tells_not, le_holds, le_tells}
use Rattle.polygon_overlay.specs.Tiles.{in_tile, IsTile}
use Rattle.polygon_overlay.specs.TileGrids.{Column, rows_of, grid_of, Rise}
use Rattle.polygon_overlay.specs.TileLaws.{GridsAreTiles}
use Rattle.polygon_overlay.proofs.Tiles.Steps.{at_most, le_tells_not, times_le, IsInside, inside_told}

-- ---- some of a list, and pairs of two lists

module _ {X : Type 0} (P : X → Type 0) where
  pub Any-head : (x : X) (xs : List X) → P x → Any P (x ∷ xs)
  Any-head x xs h = (zero, x, omega arith, refl, h)

  pub Any-later : (x : X) (xs : List X) → Any P xs → Any P (x ∷ xs)
  Any-later x xs h = (suc h.0, h.1, omega (arith, h.2), h.3, h.4)

  pub Any-cases : (x : X) (xs : List X) → Any P (x ∷ xs) → P x ⊎ Any P xs
  Any-cases x xs (k, y, l, e, h) = by k l e
    where
      by : (k : ℕ) → k < length (x ∷ xs) → get_or (x ∷ xs) k y ≡ y → P x ⊎ Any P xs
      by zero l e = inl (subst P (sym e) h)
      by (suc k) l e = inr (k, y, omega (arith, l), e, h)

  Any-front : (xs ys : List X) → Any P xs → Any P (xs ++ ys)
  Any-front [] ys h = absurd (omega (arith, h.2))
  Any-front (x ∷ xs) ys h = by (Any-cases x xs h) (λ later. Any-front xs ys later)
    where
      by : P x ⊎ Any P xs → (Any P xs → Any P (xs ++ ys)) → Any P (x ∷ xs ++ ys)
      by (inl here) rest = Any-head x (xs ++ ys) here
      by (inr later) rest = Any-later x (xs ++ ys) (rest later)

  Any-back : (xs ys : List X) → Any P ys → Any P (xs ++ ys)
  Any-back [] ys h = h
  Any-back (x ∷ xs) ys h = Any-later x (xs ++ ys) (Any-back xs ys h)

AllPairs-append : {X : Type 0} (R : X → X → Type 0) (xs ys : List X) → AllPairs R xs → AllPairs R ys → All (λ x. All (R x) ys) xs → AllPairs R (xs ++ ys)
AllPairs-append R [] ys h k both = k
AllPairs-append R (x ∷ xs) ys h k both =
    AllPairs-cons R x (xs ++ ys) (All-append (R x) xs ys (AllPairs-head R x xs h) (All-head (λ x. All (R x) ys) x xs both))
    (AllPairs-append R xs ys (AllPairs-tail R x xs h) k (All-tail (λ x. All (R x) ys) x xs both))

-- ---- two tiles

inside_tested : (tile : Bounds) (p : RationalPoint) → IsInside tile p → in_tile tile p ≡ true
inside_tested tile p h =
    and_from (int_le (pos p.q *ℤ tile.left) p.x && int_lt p.x (pos p.q *ℤ tile.right)) (int_lt (pos p.q *ℤ tile.bottom) p.y && int_le p.y (pos p.q *ℤ tile.top))
    (and_from (int_le (pos p.q *ℤ tile.left) p.x) (int_lt p.x (pos p.q *ℤ tile.right)) (le_holds (pos p.q *ℤ tile.left) p.x h.left) (lt_holds p.x (pos p.q *ℤ tile.right) h.right))
    (and_from (int_lt (pos p.q *ℤ tile.bottom) p.y) (int_le p.y (pos p.q *ℤ tile.top)) (lt_holds (pos p.q *ℤ tile.bottom) p.y h.bottom) (le_holds p.y (pos p.q *ℤ tile.top) h.top))

abbrev AreApart : Bounds → Bounds → Type 0
AreApart s t = (p : RationalPoint) → in_tile s p && in_tile t p ≡ false

not_both : (s t : Bounds) (p : RationalPoint) → (IsInside s p → IsInside t p → ⊥) → in_tile s p && in_tile t p ≡ false
not_both s t p clash = by (in_tile s p) (in_tile t p) refl refl
  where
    by : (b c : Bool) → in_tile s p ≡ b → in_tile t p ≡ c → b && c ≡ false
    by true true e f = absurd (clash (inside_told s p e) (inside_told t p f))
    by true false e f = refl
    by false c e f = refl

no_row : (x a b : ℤ) → x ≤ℤ a → a ≤ℤ b → b <ℤ x → ⊥
no_row x a b l m n = omega (arith, ints)

no_column : (x a b : ℤ) → x <ℤ a → a ≤ℤ b → b ≤ℤ x → ⊥
no_column x a b l m n = omega (arith, ints)

one_over_other : (s t : Bounds) → s.top ≤ℤ t.bottom → AreApart s t
one_over_other s t l p = not_both s t p (λ h k. no_row p.y (pos p.q *ℤ s.top) (pos p.q *ℤ t.bottom) h.top (times_le p.q s.top t.bottom l) k.bottom)

side_by_side : (s t : Bounds) → s.right ≤ℤ t.left → AreApart s t
side_by_side s t l p = not_both s t p (λ h k. no_column p.x (pos p.q *ℤ s.right) (pos p.q *ℤ t.left) h.right (times_le p.q s.right t.left l) k.left)

same : (x : ℤ) → x ≤ℤ x
same x = omega (arith, ints)

-- ---- the tiles of a column

module _ (left right : ℤ) where
  rows_are_tiles : left ≤ℤ right → (bottom : ℤ) (tops : List ℤ) (last : ℤ) → Rise bottom tops last → All IsTile (rows_of left right bottom tops)
  rows_are_tiles across bottom [] last h = All-nil IsTile
  rows_are_tiles across bottom (top ∷ tops) last h =
      All-cons IsTile (record { left = left; right = right; bottom = bottom; top = top }) (rows_of left right top tops) (record { across = across; up = h.0 })
      (rows_are_tiles across top tops last h.1)

  rows_from : (x : ℤ) → x ≤ℤ left → (bottom : ℤ) (tops : List ℤ) → All (λ t. x ≤ℤ t.left) (rows_of left right bottom tops)
  rows_from x l bottom [] = All-nil (λ (t : Bounds). x ≤ℤ t.left)
  rows_from x l bottom (top ∷ tops) =
      All-cons (λ (t : Bounds). x ≤ℤ t.left) (record { left = left; right = right; bottom = bottom; top = top }) (rows_of left right top tops) l (rows_from x l top tops)

  rows_to : (bottom : ℤ) (tops : List ℤ) → All (λ t. t.right ≤ℤ right) (rows_of left right bottom tops)
  rows_to bottom [] = All-nil (λ (t : Bounds). t.right ≤ℤ right)
  rows_to bottom (top ∷ tops) =
      All-cons (λ (t : Bounds). t.right ≤ℤ right) (record { left = left; right = right; bottom = bottom; top = top }) (rows_of left right top tops) (same right) (rows_to top tops)

  rows_over : (y bottom : ℤ) (tops : List ℤ) (last : ℤ) → y ≤ℤ bottom → Rise bottom tops last → All (λ t. y ≤ℤ t.bottom) (rows_of left right bottom tops)
  rows_over y bottom [] last l h = All-nil (λ (t : Bounds). y ≤ℤ t.bottom)
  rows_over y bottom (top ∷ tops) last l h =
      All-cons (λ (t : Bounds). y ≤ℤ t.bottom) (record { left = left; right = right; bottom = bottom; top = top }) (rows_of left right top tops) l
      (rows_over y top tops last (at_most y bottom top l h.0) h.1)

  rows_apart : (bottom : ℤ) (tops : List ℤ) (last : ℤ) → Rise bottom tops last → AllPairs AreApart (rows_of left right bottom tops)
  rows_apart bottom [] last h = AllPairs-nil AreApart
  rows_apart bottom (top ∷ tops) last h =
      let row : Bounds = record { left = left; right = right; bottom = bottom; top = top } in
      let rest = rows_of left right top tops in
      AllPairs-cons AreApart row rest
      (All-weaker (λ (t : Bounds). top ≤ℤ t.bottom) (AreApart row) (λ t l. one_over_other row t l) rest (rows_over top top tops last (same top) h.1))
      (rows_apart top tops last h.1)

  rows_cover : (p : RationalPoint) → (pos p.q *ℤ left) ≤ℤ p.x → p.x <ℤ (pos p.q *ℤ right) → (bottom : ℤ) (tops : List ℤ) (last : ℤ) → Rise bottom tops last
      → (pos p.q *ℤ bottom) <ℤ p.y → p.y ≤ℤ (pos p.q *ℤ last) → Any (λ t. in_tile t p ≡ true) (rows_of left right bottom tops)
  rows_cover p from to bottom [] last h above under =
      absurd (no_row p.y (pos p.q *ℤ last) (pos p.q *ℤ last) under (same (pos p.q *ℤ last)) (subst (λ y. (pos p.q *ℤ y) <ℤ p.y) h above))
  rows_cover p from to bottom (top ∷ tops) last h above under =
      by (int_le p.y (pos p.q *ℤ top)) refl (λ over. rows_cover p from to top tops last h.1 over under)
    where
      row : Bounds
      row = record { left = left; right = right; bottom = bottom; top = top }

      by : (b : Bool) → int_le p.y (pos p.q *ℤ top) ≡ b → ((pos p.q *ℤ top) <ℤ p.y → Any (λ t. in_tile t p ≡ true) (rows_of left right top tops))
          → Any (λ t. in_tile t p ≡ true) (row ∷ rows_of left right top tops)
      by true e later =
          Any-head (λ (t : Bounds). in_tile t p ≡ true) row (rows_of left right top tops)
          (inside_tested row p (record { left = from; right = to; bottom = above; top = le_tells p.y (pos p.q *ℤ top) e }))
      by false e later = Any-later (λ (t : Bounds). in_tile t p ≡ true) row (rows_of left right top tops) (later (le_tells_not p.y (pos p.q *ℤ top) e))

-- ---- columns side by side

module _ (bottom top : ℤ) where
  abbrev Reaches : Column → Type 0
  Reaches c = Rise bottom c.tops top

  grid_tiles : (left : ℤ) (cs : List Column) (last : ℤ) → Rise left (map (λ c. c.right) cs) last → All Reaches cs → All IsTile (grid_of left bottom cs)
  grid_tiles left [] last h up = All-nil IsTile
  grid_tiles left (c ∷ cs) last h up =
      All-append IsTile (rows_of left c.right bottom c.tops) (grid_of c.right bottom cs)
      (rows_are_tiles left c.right h.0 bottom c.tops top (All-head Reaches c cs up)) (grid_tiles c.right cs last h.1 (All-tail Reaches c cs up))

  grid_from : (x left : ℤ) (cs : List Column) (last : ℤ) → x ≤ℤ left → Rise left (map (λ c. c.right) cs) last → All (λ t. x ≤ℤ t.left) (grid_of left bottom cs)
  grid_from x left [] last l h = All-nil (λ (t : Bounds). x ≤ℤ t.left)
  grid_from x left (c ∷ cs) last l h =
      All-append (λ (t : Bounds). x ≤ℤ t.left) (rows_of left c.right bottom c.tops) (grid_of c.right bottom cs) (rows_from left c.right x l bottom c.tops)
      (grid_from x c.right cs last (at_most x left c.right l h.0) h.1)

  grid_apart : (left : ℤ) (cs : List Column) (last : ℤ) → Rise left (map (λ c. c.right) cs) last → All Reaches cs → AllPairs AreApart (grid_of left bottom cs)
  grid_apart left [] last h up = AllPairs-nil AreApart
  grid_apart left (c ∷ cs) last h up =
      let column = rows_of left c.right bottom c.tops in
      let rest = grid_of c.right bottom cs in
      AllPairs-append AreApart column rest (rows_apart left c.right bottom c.tops top (All-head Reaches c cs up))
      (grid_apart c.right cs last h.1 (All-tail Reaches c cs up))
      (All-weaker (λ (s : Bounds). s.right ≤ℤ c.right) (λ (s : Bounds). All (AreApart s) rest)
      (λ s l. All-weaker (λ (t : Bounds). c.right ≤ℤ t.left) (AreApart s) (λ t m. side_by_side s t (at_most s.right c.right t.left l m)) rest
      (grid_from c.right c.right cs last (same c.right) h.1))
      column (rows_to left c.right bottom c.tops))

  grid_covers : (p : RationalPoint) → (pos p.q *ℤ bottom) <ℤ p.y → p.y ≤ℤ (pos p.q *ℤ top) → (left : ℤ) (cs : List Column) (last : ℤ)
      → Rise left (map (λ c. c.right) cs) last → All Reaches cs → (pos p.q *ℤ left) ≤ℤ p.x → p.x <ℤ (pos p.q *ℤ last)
      → Any (λ t. in_tile t p ≡ true) (grid_of left bottom cs)
  grid_covers p above under left [] last h up from to =
      absurd (no_column p.x (pos p.q *ℤ last) (pos p.q *ℤ last) to (same (pos p.q *ℤ last)) (subst (λ x. (pos p.q *ℤ x) ≤ℤ p.x) h from))
  grid_covers p above under left (c ∷ cs) last h up from to =
      by (int_lt p.x (pos p.q *ℤ c.right)) refl (λ beyond. grid_covers p above under c.right cs last h.1 (All-tail Reaches c cs up) beyond to)
    where
      column : List Bounds
      column = rows_of left c.right bottom c.tops

      by : (b : Bool) → int_lt p.x (pos p.q *ℤ c.right) ≡ b → ((pos p.q *ℤ c.right) ≤ℤ p.x → Any (λ t. in_tile t p ≡ true) (grid_of c.right bottom cs))
          → Any (λ t. in_tile t p ≡ true) (column ++ grid_of c.right bottom cs)
      by true e later =
          Any-front (λ (t : Bounds). in_tile t p ≡ true) column (grid_of c.right bottom cs)
          (rows_cover left c.right p from (lt_tells p.x (pos p.q *ℤ c.right) e) bottom c.tops top (All-head Reaches c cs up) above under)
      by false e later =
          Any-back (λ (t : Bounds). in_tile t p ≡ true) column (grid_of c.right bottom cs) (later (lt_tells_not p.x (pos p.q *ℤ c.right) e))

pub grids_are_tiles : GridsAreTiles
grids_are_tiles box columns is = record {
  each = grid_tiles box.bottom box.top box.left columns box.right is.across is.up;
  apart = grid_apart box.bottom box.top box.left columns box.right is.across is.up;
  cover = λ p some e.
      let h = inside_told box p e in grid_covers box.bottom box.top p h.bottom h.top box.left columns box.right is.across is.up h.left h.right;
}
