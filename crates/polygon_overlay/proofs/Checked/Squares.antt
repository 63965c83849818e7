-- Squares by columns and rows: what is shrunk and grown again is covered by squares, and what is grown and shrunk again is not, outside.
use Rattle.std.proofs.Common.{◌≡◌, ◌⊎◌, inl, inr, ℕ, ◌*◌, ◌<◌, ℤ, pos, neg_ℤ, ◌+ℤ◌, ◌-ℤ◌, ◌*ℤ◌, ◌≤ℤ◌, ◌<ℤ◌, sym, ap, ◌∙◌, subst, arith, mul-pos}
use Rattle.std.proofs.lemmas.Int.{ints, by_lt_z}
use Rattle.plane_base.specs.Plane.{RationalPoint, IsRational}
use Rattle.polygon_overlay.specs.Sizing.{Amounts}
use Rattle.polygon_overlay.specs.Checks.{LiesInSquare, IsCovered, opposite}
use Rattle.polygon_overlay.proofs.Checked.Cells.{column, row}
use Rattle.plane_base.proofs.Facts.Numbers.Products.{product_assoc, product_of_sum, product_of_negation, product_left_comm, product_monotone}
use Rattle.polygon_overlay.proofs.Checked.Places.{floor, floor_low, floor_high, floor_at_least, floor_below, floor_moves, row_of, row_low, row_high, row_at_least, row_below, row_moves}
use Rattle.polygon_overlay.proofs.Tiles.Steps.{at_most, at_most_below, below_at_most}
use Rattle.polygon_overlay.proofs.Checked.Windows.{SizedPlaces, SizedCells, IsByCells}

-- Some square of so many columns and rows covers the place, and all its places have it.
pub record CoversCells (side : ℤ) (At : ℤ → ℤ → Type 0) (i j : ℤ) : Type 0 where
  pub first : ℤ
  pub lowest : ℤ
  pub left : first ≤ℤ i
  pub right : i <ℤ (first +ℤ side)
  pub bottom : lowest ≤ℤ j
  pub top : j <ℤ (lowest +ℤ side)
  pub inside : (m n : ℤ) → first ≤ℤ m → m <ℤ (first +ℤ side) → lowest ≤ℤ n → n <ℤ (lowest +ℤ side) → At m n

-- ---- squares anywhere

-- how far a / q is from b / s, over the product of both
abbrev from_corner : ℤ → ℕ → ℤ → ℕ → ℤ
from_corner a q b s = (pos s *ℤ a) -ℤ (pos q *ℤ b)

module _ (a : ℤ) (q : ℕ) (b : ℤ) (s : ℕ) where
  common : (k : ℤ) → pos s *ℤ (pos q *ℤ k) ≡ pos (q * s) *ℤ k
  common k = product_left_comm (pos s) (pos q) k ∙ sym (product_assoc (pos q) (pos s) k)

  moved : (d : ℤ) → pos s *ℤ (a +ℤ (pos q *ℤ d)) ≡ (pos s *ℤ a) +ℤ (pos (q * s) *ℤ d)
  moved d = product_of_sum (pos s) a (pos q *ℤ d) ∙ ap (λ x. (pos s *ℤ a) +ℤ x) (common d)

  further : (side : ℤ) → pos q *ℤ (b +ℤ (pos s *ℤ side)) ≡ (pos q *ℤ b) +ℤ (pos (q * s) *ℤ side)
  further side = product_of_sum (pos q) b (pos s *ℤ side) ∙ ap (λ x. (pos q *ℤ b) +ℤ x) (sym (product_assoc (pos q) (pos s) side))

  -- moved by so much, no less than back to the corner, and so far that the side reaches on
  back_of : (way d : ℤ) → neg_ℤ way ≤ℤ d → neg_ℤ (pos (q * s) *ℤ way) ≤ℤ (pos (q * s) *ℤ d)
  back_of way d l = subst (λ x. x ≤ℤ (pos (q * s) *ℤ d)) (product_of_negation (pos (q * s)) way) (product_monotone (pos (q * s)) (neg_ℤ way) d (omega (arith, ints)) l)

  on_of : (way d side : ℤ) → ((way +ℤ pos 1) +ℤ d) ≤ℤ side → ((pos (q * s) *ℤ (way +ℤ pos 1)) +ℤ (pos (q * s) *ℤ d)) ≤ℤ (pos (q * s) *ℤ side)
  on_of way d side l = subst (λ x. x ≤ℤ (pos (q * s) *ℤ side)) (product_of_sum (pos (q * s)) (way +ℤ pos 1) d) (product_monotone (pos (q * s)) ((way +ℤ pos 1) +ℤ d) side (omega (arith, ints)) l)

  from_left : (way d : ℤ) → (pos (q * s) *ℤ way) ≤ℤ from_corner a q b s → neg_ℤ way ≤ℤ d → (pos q *ℤ b) ≤ℤ (pos s *ℤ (a +ℤ (pos q *ℤ d)))
  from_left way d l m = rw (moved d) (sum _ _ _ _ l (back_of way d m))
    where
      sum : (x y z w : ℤ) → z ≤ℤ (x -ℤ y) → neg_ℤ z ≤ℤ w → y ≤ℤ (x +ℤ w)
      sum x y z w l m = omega (arith, ints)

  to_right : (way d side : ℤ) → from_corner a q b s <ℤ (pos (q * s) *ℤ (way +ℤ pos 1)) → ((way +ℤ pos 1) +ℤ d) ≤ℤ side
      → (pos s *ℤ (a +ℤ (pos q *ℤ d))) <ℤ (pos q *ℤ (b +ℤ (pos s *ℤ side)))
  to_right way d side l m = rw (moved d, further side) (sum _ _ _ _ _ l (on_of way d side m))
    where
      sum : (x y z w v : ℤ) → (x -ℤ y) <ℤ z → (z +ℤ w) ≤ℤ v → (x +ℤ w) <ℤ (y +ℤ v)
      sum x y z w v l m = omega (arith, ints)

  from_bottom : (way d : ℤ) → (pos (q * s) *ℤ way) <ℤ from_corner a q b s → neg_ℤ way ≤ℤ d → (pos q *ℤ b) <ℤ (pos s *ℤ (a +ℤ (pos q *ℤ d)))
  from_bottom way d l m = rw (moved d) (sum _ _ _ _ l (back_of way d m))
    where
      sum : (x y z w : ℤ) → z <ℤ (x -ℤ y) → neg_ℤ z ≤ℤ w → y <ℤ (x +ℤ w)
      sum x y z w l m = omega (arith, ints)

  to_top : (way d side : ℤ) → from_corner a q b s ≤ℤ (pos (q * s) *ℤ (way +ℤ pos 1)) → ((way +ℤ pos 1) +ℤ d) ≤ℤ side
      → (pos s *ℤ (a +ℤ (pos q *ℤ d))) ≤ℤ (pos q *ℤ (b +ℤ (pos s *ℤ side)))
  to_top way d side l m = rw (moved d, further side) (sum _ _ _ _ _ l (on_of way d side m))
    where
      sum : (x y z w v : ℤ) → (x -ℤ y) ≤ℤ z → (z +ℤ w) ≤ℤ v → (x +ℤ w) ≤ℤ (y +ℤ v)
      sum x y z w v l m = omega (arith, ints)

  -- a point of the square is less than the side away from its corner
  nonnegative : (pos q *ℤ b) ≤ℤ (pos s *ℤ a) → (pos (q * s) *ℤ pos 0) ≤ℤ from_corner a q b s
  nonnegative l = sum (pos (q * s)) _ _ l
    where
      sum : (z x y : ℤ) → y ≤ℤ x → (z *ℤ pos 0) ≤ℤ (x -ℤ y)
      sum z x y l = omega (arith, ints)

  above_corner : (pos q *ℤ b) <ℤ (pos s *ℤ a) → (pos (q * s) *ℤ pos 0) <ℤ from_corner a q b s
  above_corner l = sum (pos (q * s)) _ _ l
    where
      sum : (z x y : ℤ) → y <ℤ x → (z *ℤ pos 0) <ℤ (x -ℤ y)
      sum z x y l = omega (arith, ints)

  less_than_side : (side : ℤ) → (pos s *ℤ a) <ℤ (pos q *ℤ (b +ℤ (pos s *ℤ side))) → from_corner a q b s <ℤ (pos (q * s) *ℤ side)
  less_than_side side l = sum _ _ _ (subst (λ x. (pos s *ℤ a) <ℤ x) (further side) l)
    where
      sum : (x y z : ℤ) → x <ℤ (y +ℤ z) → (x -ℤ y) <ℤ z
      sum x y z l = omega (arith, ints)

  up_to_side : (side : ℤ) → (pos s *ℤ a) ≤ℤ (pos q *ℤ (b +ℤ (pos s *ℤ side))) → from_corner a q b s ≤ℤ (pos (q * s) *ℤ side)
  up_to_side side l = sum _ _ _ (subst (λ x. (pos s *ℤ a) ≤ℤ x) (further side) l)
    where
      sum : (x y z : ℤ) → x ≤ℤ (y +ℤ z) → (x -ℤ y) ≤ℤ z
      sum x y z l = omega (arith, ints)

before : (i way side m : ℤ) → m <ℤ ((i -ℤ way) +ℤ side) → ((way +ℤ pos 1) +ℤ (m -ℤ i)) ≤ℤ side
before i way side m l = omega (arith, ints)

after : (i way m : ℤ) → (i -ℤ way) ≤ℤ m → neg_ℤ way ≤ℤ (m -ℤ i)
after i way m l = omega (arith, ints)

there : (i m : ℤ) → i +ℤ (m -ℤ i) ≡ m
there i m = omega (arith, ints)

no_more : (i way : ℤ) → pos 0 ≤ℤ way → (i -ℤ way) ≤ℤ i
no_more i way l = omega (arith, ints)

reaches : (i way side : ℤ) → way <ℤ side → i <ℤ ((i -ℤ way) +ℤ side)
reaches i way side l = omega (arith, ints)

-- the square whose corner is whole
module _ (side k h : ℤ) (m : RationalPoint) (some : IsRational m) where
  abbrev whole_corner : RationalPoint
  whole_corner = record { x = k; y = h; q = 1 }

  not_negative : pos 0 ≤ℤ pos m.q
  not_negative = omega (arith, ints)

  next : (i x : ℤ) → i <ℤ x → (i +ℤ pos 1) ≤ℤ x
  next i x l = omega (arith, ints)

  one : (x : ℤ) → pos 1 *ℤ x ≡ x
  one x = omega (arith, ints)

  in_square : k ≤ℤ column m → column m <ℤ (k +ℤ side) → h ≤ℤ row m → row m <ℤ (h +ℤ side) → LiesInSquare side whole_corner m
  in_square left right bottom top = record {
    left = subst (λ x. (pos m.q *ℤ k) ≤ℤ x) (sym (one m.x)) (at_most _ _ _ (product_monotone (pos m.q) k (column m) not_negative left) (floor_low m.x m.q some));
    right = rw (one m.x, one side) (below_at_most _ _ _ (floor_high m.x m.q some) (product_monotone (pos m.q) (column m +ℤ pos 1) (k +ℤ side) not_negative (next (column m) (k +ℤ side) right)));
    bottom = subst (λ y. (pos m.q *ℤ h) <ℤ y) (sym (one m.y)) (at_most_below _ _ _ (product_monotone (pos m.q) h (row m) not_negative bottom) (row_low m.y m.q some));
    top = rw (one m.y, one side) (at_most _ _ _ (row_high m.y m.q some) (product_monotone (pos m.q) (row m +ℤ pos 1) (h +ℤ side) not_negative (next (row m) (h +ℤ side) top)));
  }

  module _ (lies : LiesInSquare side whole_corner m) where
    from_first : k ≤ℤ column m
    from_first = floor_at_least m.x k m.q some (subst (λ x. (pos m.q *ℤ k) ≤ℤ x) (one m.x) lies.left)

    to_last : column m <ℤ (k +ℤ side)
    to_last = floor_below m.x (k +ℤ side) m.q some (subst (λ x. x <ℤ (pos m.q *ℤ (k +ℤ side))) (one m.x) (subst (λ w. (pos 1 *ℤ m.x) <ℤ (pos m.q *ℤ (k +ℤ w))) (one side) lies.right))

    from_lowest : h ≤ℤ row m
    from_lowest = row_at_least m.y h m.q some (subst (λ y. (pos m.q *ℤ h) <ℤ y) (one m.y) lies.bottom)

    to_highest : row m <ℤ (h +ℤ side)
    to_highest = row_below m.y (h +ℤ side) m.q some (subst (λ y. y ≤ℤ (pos m.q *ℤ (h +ℤ side))) (one m.y) (subst (λ w. (pos 1 *ℤ m.y) ≤ℤ (pos m.q *ℤ (h +ℤ w))) (one side) lies.top))

module _ (side : ℤ) (In : RationalPoint → Type 0) (At : ℤ → ℤ → Type 0) (tells : IsByCells In At) where
  module _ (p : RationalPoint) (some : IsRational p) (is : IsCovered side In p) where
    abbrev c : RationalPoint
    c = is.corner

    abbrev both : ℕ
    both = p.q * is.corner.q

    positive : 0 < p.q * is.corner.q
    positive = mul-pos some is.rational

    abbrev x : ℤ
    x = from_corner p.x p.q is.corner.x is.corner.q

    abbrev y : ℤ
    y = from_corner p.y p.q is.corner.y is.corner.q

    abbrev across : ℤ
    across = floor (from_corner p.x p.q is.corner.x is.corner.q) (p.q * is.corner.q)

    abbrev up : ℤ
    up = row_of (from_corner p.y p.q is.corner.y is.corner.q) (p.q * is.corner.q)

    abbrev at : ℤ → ℤ → RationalPoint
    at m n = record { x = p.x +ℤ (pos p.q *ℤ (m -ℤ column p)); y = p.y +ℤ (pos p.q *ℤ (n -ℤ row p)); q = p.q }

    to_cells : CoversCells side At (column p) (row p)
    to_cells = record {
      first = column p -ℤ across;
      lowest = row p -ℤ up;
      left = no_more (column p) across (floor_at_least x (pos 0) both positive (nonnegative p.x p.q c.x c.q is.covers.left));
      right = reaches (column p) across side (floor_below x side both positive (less_than_side p.x p.q c.x c.q side is.covers.right));
      bottom = no_more (row p) up (row_at_least y (pos 0) both positive (above_corner p.y p.q c.y c.q is.covers.bottom));
      top = reaches (row p) up side (row_below y side both positive (up_to_side p.y p.q c.y c.q side is.covers.top));
      inside = λ m n from to low high. subst (At m) (row_moves p.y (n -ℤ row p) p.q some ∙ there (row p) n)
          (subst (λ k. At k (row (at m n))) (floor_moves p.x (m -ℤ column p) p.q some ∙ there (column p) m)
          ((tells (at m n) some).0 (is.inside (at m n) some (record {
            left = from_left p.x p.q c.x c.q across (m -ℤ column p) (floor_low x both positive) (after (column p) across m from);
            right = to_right p.x p.q c.x c.q across (m -ℤ column p) side (floor_high x both positive) (before (column p) across side m to);
            bottom = from_bottom p.y p.q c.y c.q up (n -ℤ row p) (row_low y both positive) (after (row p) up n low);
            top = to_top p.y p.q c.y c.q up (n -ℤ row p) side (row_high y both positive) (before (row p) up side n high);
          }))));
    }

  of_cells : (p : RationalPoint) → IsRational p → CoversCells side At (column p) (row p) → IsCovered side In p
  of_cells p some is = record {
    corner = record { x = is.first; y = is.lowest; q = 1 };
    rational = omega arith;
    covers = in_square side is.first is.lowest p some is.left is.right is.bottom is.top;
    inside = λ m rational lies. (tells m rational).1
        (is.inside (column m) (row m) (from_first side is.first is.lowest m rational lies) (to_last side is.first is.lowest m rational lies)
        (from_lowest side is.first is.lowest m rational lies) (to_highest side is.first is.lowest m rational lies));
  }

  -- a point is covered just where its column and row are
  pub covered_by_cells : IsByCells (IsCovered side In) (CoversCells side At)
  covered_by_cells p some = (to_cells p some, of_cells p some)

-- ---- windows of a side, in two parts

-- In x, and in y, the amounts are together one less than the side, and none is below 0.
pub record Parts (side : ℤ) (by : Amounts) : Type 0 where
  pub left : pos 0 ≤ℤ by.left
  pub right : pos 0 ≤ℤ by.right
  pub bottom : pos 0 ≤ℤ by.bottom
  pub top : pos 0 ≤ℤ by.top
  pub across : (by.left +ℤ by.right) +ℤ pos 1 ≡ side
  pub up : (by.bottom +ℤ by.top) +ℤ pos 1 ≡ side

module _ (left right : ℤ) (some : pos 0 ≤ℤ left) (more : pos 0 ≤ℤ right) (At : ℤ → Type 0) where
  -- what is shrunk is the whole window, of one place too
  each_of : (n : ℤ) → SizedPlaces (neg_ℤ left) (neg_ℤ right) At n → (m : ℤ) → (n -ℤ left) ≤ℤ m → m ≤ℤ (n +ℤ right) → At m
  each_of n is m from to =
      by_lt_z (neg_ℤ left +ℤ neg_ℤ right) (pos 0) (λ l. is.shrunk l m (begins n left m from) (ends n right m to))
      (λ l. let h = is.grown l in subst At (same n left right m h.0 some more l from to h.1 h.2) h.3)
    where
      begins : (n left m : ℤ) → (n -ℤ left) ≤ℤ m → (n -ℤ neg_ℤ (neg_ℤ left)) ≤ℤ m
      begins n left m l = omega (arith, ints)

      ends : (n right m : ℤ) → m ≤ℤ (n +ℤ right) → m ≤ℤ (n +ℤ neg_ℤ (neg_ℤ right))
      ends n right m l = omega (arith, ints)

      same : (n left right m k : ℤ) → pos 0 ≤ℤ left → pos 0 ≤ℤ right → pos 0 ≤ℤ (neg_ℤ left +ℤ neg_ℤ right) → (n -ℤ left) ≤ℤ m → m ≤ℤ (n +ℤ right)
          → (n -ℤ neg_ℤ right) ≤ℤ k → k ≤ℤ (n +ℤ neg_ℤ left) → k ≡ m
      same n left right m k a b c d e f g = omega (arith, ints)

  of_each : (n : ℤ) → ((m : ℤ) → (n -ℤ left) ≤ℤ m → m ≤ℤ (n +ℤ right) → At m) → SizedPlaces (neg_ℤ left) (neg_ℤ right) At n
  of_each n all = record {
    grown = λ l. (n, back n left right some more l, on n left right some more l, all n (here n left some) (there n right more));
    shrunk = λ l m from to. all m (begins n left m from) (ends n right m to);
  }
    where
      begins : (n left m : ℤ) → (n -ℤ neg_ℤ (neg_ℤ left)) ≤ℤ m → (n -ℤ left) ≤ℤ m
      begins n left m l = omega (arith, ints)

      ends : (n right m : ℤ) → m ≤ℤ (n +ℤ neg_ℤ (neg_ℤ right)) → m ≤ℤ (n +ℤ right)
      ends n right m l = omega (arith, ints)

      back : (n left right : ℤ) → pos 0 ≤ℤ left → pos 0 ≤ℤ right → pos 0 ≤ℤ (neg_ℤ left +ℤ neg_ℤ right) → (n -ℤ neg_ℤ right) ≤ℤ n
      back n left right a b c = omega (arith, ints)

      on : (n left right : ℤ) → pos 0 ≤ℤ left → pos 0 ≤ℤ right → pos 0 ≤ℤ (neg_ℤ left +ℤ neg_ℤ right) → n ≤ℤ (n +ℤ neg_ℤ left)
      on n left right a b c = omega (arith, ints)

      here : (n left : ℤ) → pos 0 ≤ℤ left → (n -ℤ left) ≤ℤ n
      here n left a = omega (arith, ints)

      there : (n right : ℤ) → pos 0 ≤ℤ right → n ≤ℤ (n +ℤ right)
      there n right a = omega (arith, ints)

  -- what is grown is some of the window
  some_of : (n : ℤ) → SizedPlaces left right At n → (m : ℤ) × ((n -ℤ right) ≤ℤ m) × (m ≤ℤ (n +ℤ left)) × At m
  some_of n is = is.grown (sum left right some more)
    where
      sum : (x y : ℤ) → pos 0 ≤ℤ x → pos 0 ≤ℤ y → pos 0 ≤ℤ (x +ℤ y)
      sum x y l m = omega (arith, ints)

  of_some : (n m : ℤ) → (n -ℤ right) ≤ℤ m → m ≤ℤ (n +ℤ left) → At m → SizedPlaces left right At n
  of_some n m from to h = record {
    grown = λ l. (m, from, to, h);
    shrunk = λ l k a b. absurd (none left right some more l);
  }
    where
      none : (x y : ℤ) → pos 0 ≤ℤ x → pos 0 ≤ℤ y → (x +ℤ y) <ℤ pos 0 → ⊥
      none x y l m k = omega (arith, ints)

-- ---- shrunk and grown again, and grown and shrunk again

module _ (side : ℤ) (by : Amounts) (parts : Parts side by) (At : ℤ → ℤ → Type 0) where
  -- both ways in x and y
  all_cells : (i j : ℤ) → SizedCells (opposite by) At i j → (m n : ℤ) → (i -ℤ by.left) ≤ℤ m → m ≤ℤ (i +ℤ by.right) → (j -ℤ by.bottom) ≤ℤ n → n ≤ℤ (j +ℤ by.top) → At m n
  all_cells i j is m n from to low high =
      each_of by.left by.right parts.left parts.right (λ k. At k n) i
      (each_of by.bottom by.top parts.bottom parts.top (λ h. SizedPlaces (neg_ℤ by.left) (neg_ℤ by.right) (λ k. At k h) i) j is n low high) m from to

  of_all_cells : (i j : ℤ) → ((m n : ℤ) → (i -ℤ by.left) ≤ℤ m → m ≤ℤ (i +ℤ by.right) → (j -ℤ by.bottom) ≤ℤ n → n ≤ℤ (j +ℤ by.top) → At m n)
      → SizedCells (opposite by) At i j
  of_all_cells i j all =
      of_each by.bottom by.top parts.bottom parts.top (λ h. SizedPlaces (neg_ℤ by.left) (neg_ℤ by.right) (λ k. At k h) i) j
      (λ n low high. of_each by.left by.right parts.left parts.right (λ k. At k n) i (λ m from to. all m n from to low high))

  pub of_some_cell : (i j m n : ℤ) → (i -ℤ by.right) ≤ℤ m → m ≤ℤ (i +ℤ by.left) → (j -ℤ by.top) ≤ℤ n → n ≤ℤ (j +ℤ by.bottom) → At m n → SizedCells by At i j
  of_some_cell i j m n from to low high h =
      of_some by.bottom by.top parts.bottom parts.top (λ h. SizedPlaces by.left by.right (λ k. At k h) i) j n low high
      (of_some by.left by.right parts.left parts.right (λ k. At k n) i m from to h)

-- Some place of the window round one, in x and in y, has it.
pub record SomeCell (by : Amounts) (At : ℤ → ℤ → Type 0) (i j : ℤ) : Type 0 where
  pub m : ℤ
  pub n : ℤ
  pub from : (i -ℤ by.right) ≤ℤ m
  pub to : m ≤ℤ (i +ℤ by.left)
  pub low : (j -ℤ by.top) ≤ℤ n
  pub high : n ≤ℤ (j +ℤ by.bottom)
  pub is : At m n

pub some_cell : (side : ℤ) (by : Amounts) → Parts side by → (At : ℤ → ℤ → Type 0) (i j : ℤ) → SizedCells by At i j → SomeCell by At i j
some_cell side by parts At i j is =
    let up = some_of by.bottom by.top parts.bottom parts.top (λ h. SizedPlaces by.left by.right (λ k. At k h) i) j is in
    let across = some_of by.left by.right parts.left parts.right (λ k. At k up.0) i up.3 in
    record { m = across.0; n = up.0; from = across.1; to = across.2; low = up.1; high = up.2; is = across.3 }

module _ (side : ℤ) (by : Amounts) (parts : Parts side by) (At : ℤ → ℤ → Type 0) where
  starts : (i m left right : ℤ) → (left +ℤ right) +ℤ pos 1 ≡ side → (i -ℤ right) ≤ℤ m → m ≤ℤ (i +ℤ left) → ((m -ℤ left) ≤ℤ i) × (i <ℤ ((m -ℤ left) +ℤ side))
  starts i m left right e from to = (omega (arith, ints), omega (arith, ints))

  ends : (i m left right : ℤ) → (left +ℤ right) +ℤ pos 1 ≡ side → i <ℤ ((m -ℤ left) +ℤ side) → i ≤ℤ (m +ℤ right)
  ends i m left right e l = omega (arith, ints)

  middle : (i k left right : ℤ) → (left +ℤ right) +ℤ pos 1 ≡ side → k ≤ℤ i → i <ℤ (k +ℤ side) → ((i -ℤ right) ≤ℤ (k +ℤ left)) × ((k +ℤ left) ≤ℤ (i +ℤ left))
  middle i k left right e from to = (omega (arith, ints), omega (arith, ints))

  inside : (k m left right : ℤ) → (left +ℤ right) +ℤ pos 1 ≡ side → ((k +ℤ left) -ℤ left) ≤ℤ m → m ≤ℤ ((k +ℤ left) +ℤ right) → (k ≤ℤ m) × (m <ℤ (k +ℤ side))
  inside k m left right e from to = (omega (arith, ints), omega (arith, ints))

  opened_to_squares : (i j : ℤ) → SizedCells by (SizedCells (opposite by) At) i j → CoversCells side At i j
  opened_to_squares i j is =
      let h = some_cell side by parts (SizedCells (opposite by) At) i j is in
      let across = starts i h.m by.left by.right parts.across h.from h.to in
      let up = starts j h.n by.bottom by.top parts.up h.low h.high in
      record {
        first = h.m -ℤ by.left;
        lowest = h.n -ℤ by.bottom;
        left = across.0;
        right = across.1;
        bottom = up.0;
        top = up.1;
        inside = λ m n from to low high. all_cells side by parts At h.m h.n h.is m n from (ends m h.m by.left by.right parts.across to) low (ends n h.n by.bottom by.top parts.up high);
      }

  squares_to_opened : (i j : ℤ) → CoversCells side At i j → SizedCells by (SizedCells (opposite by) At) i j
  squares_to_opened i j is =
      let across = middle i is.first by.left by.right parts.across is.left is.right in
      let up = middle j is.lowest by.bottom by.top parts.up is.bottom is.top in
      of_some_cell side by parts (SizedCells (opposite by) At) i j (is.first +ℤ by.left) (is.lowest +ℤ by.bottom) across.0 across.1 up.0 up.1
      (of_all_cells side by parts At (is.first +ℤ by.left) (is.lowest +ℤ by.bottom)
      (λ m n from to low high.
      let a = inside is.first m by.left by.right parts.across from to in
      let b = inside is.lowest n by.bottom by.top parts.up low high in
      is.inside m n a.0 a.1 b.0 b.1))

  -- Shrunk and grown again, it is there that a square covers the place.
  pub opened_by_squares : (i j : ℤ) → (SizedCells by (SizedCells (opposite by) At) i j → CoversCells side At i j) × (CoversCells side At i j → SizedCells by (SizedCells (opposite by) At) i j)
  opened_by_squares i j = (opened_to_squares i j, squares_to_opened i j)

  -- Grown and shrunk again, it is there that none does of what isn't there.
  pub closed_off_squares : (i j : ℤ) → SizedCells (opposite by) (SizedCells by At) i j → CoversCells side (λ m n. At m n → ⊥) i j → ⊥
  closed_off_squares i j is square =
      let h = some_cell side by parts At (square.first +ℤ by.right) (square.lowest +ℤ by.top)
      (all_cells side by parts (SizedCells by At) i j is (square.first +ℤ by.right) (square.lowest +ℤ by.top)
      (away i square.first by.left by.right parts.across square.left square.right).0 (away i square.first by.left by.right parts.across square.left square.right).1
      (away j square.lowest by.bottom by.top parts.up square.bottom square.top).0 (away j square.lowest by.bottom by.top parts.up square.bottom square.top).1) in
      let a = within square.first h.m by.left by.right parts.across h.from h.to in
      let b = within square.lowest h.n by.bottom by.top parts.up h.low h.high in
      square.inside h.m h.n a.0 a.1 b.0 b.1 h.is
    where
      away : (i k left right : ℤ) → (left +ℤ right) +ℤ pos 1 ≡ side → k ≤ℤ i → i <ℤ (k +ℤ side) → ((i -ℤ left) ≤ℤ (k +ℤ right)) × ((k +ℤ right) ≤ℤ (i +ℤ right))
      away i k left right e from to = (omega (arith, ints), omega (arith, ints))

      within : (k m left right : ℤ) → (left +ℤ right) +ℤ pos 1 ≡ side → ((k +ℤ right) -ℤ right) ≤ℤ m → m ≤ℤ ((k +ℤ right) +ℤ left) → (k ≤ℤ m) × (m <ℤ (k +ℤ side))
      within k m left right e from to = (omega (arith, ints), omega (arith, ints))

  pub closed_where_no_square : ((m n : ℤ) → SizedCells by At m n ⊎ (SizedCells by At m n → ⊥)) → (i j : ℤ) → (CoversCells side (λ m n. At m n → ⊥) i j → ⊥)
      → SizedCells (opposite by) (SizedCells by At) i j
  closed_where_no_square decides i j none = of_all_cells side by parts (SizedCells by At) i j (λ m n from to low high. one m n from to low high (decides m n))
    where
      back : (i m left right : ℤ) → (left +ℤ right) +ℤ pos 1 ≡ side → (i -ℤ left) ≤ℤ m → m ≤ℤ (i +ℤ right) → ((m -ℤ right) ≤ℤ i) × (i <ℤ ((m -ℤ right) +ℤ side))
      back i m left right e from to = (omega (arith, ints), omega (arith, ints))

      up_to : (k m left right : ℤ) → (left +ℤ right) +ℤ pos 1 ≡ side → k <ℤ ((m -ℤ right) +ℤ side) → k ≤ℤ (m +ℤ left)
      up_to k m left right e l = omega (arith, ints)

      one : (m n : ℤ) → (i -ℤ by.left) ≤ℤ m → m ≤ℤ (i +ℤ by.right) → (j -ℤ by.bottom) ≤ℤ n → n ≤ℤ (j +ℤ by.top)
          → SizedCells by At m n ⊎ (SizedCells by At m n → ⊥) → SizedCells by At m n
      one m n from to low high (inl is) = is
      one m n from to low high (inr empty) =
          let a = back i m by.left by.right parts.across from to in
          let b = back j n by.bottom by.top parts.up low high in
          absurd (none (record {
            first = m -ℤ by.right;
            lowest = n -ℤ by.top;
            left = a.0;
            right = a.1;
            bottom = b.0;
            top = b.1;
            inside = λ k h c d e f g. empty (of_some_cell side by parts At m n k h c (up_to k m by.left by.right parts.across d) e (up_to h n by.bottom by.top parts.up f) g);
          }))
