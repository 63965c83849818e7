-- Identities of turns, sides and lifts. Each is an equation between two polynomials in the coordinates.
use Rattle.std.proofs.Common.{◌≡◌, ℕ, ◌+◌, ◌*◌, List, [], ◌∷◌, ℤ, pos, ◌+ℤ◌, ◌-ℤ◌, ◌*ℤ◌, neg_ℤ, refl}
use Rattle.plane_base.specs.Plane.{Point, turn, RationalPoint, side}
use Rattle.plane_base.specs.Segments as edges
use Rattle.plane_base.proofs.Facts.Numbers.Polynomials.{Expr, var, const, plus, minus, times, opposite, by_ring}

-- widths, heights and lifts of the edges between given points
abbrev pub width : Point → Point → ℤ
width a b = edges.width (record { a = a; b = b })

abbrev pub height : Point → Point → ℤ → ℤ → ℤ
height a b x q = edges.height (record { a = a; b = b }) x q

abbrev pub lift : Point → Point → Point → Point → ℤ → ℤ → ℤ
lift a b c d x q = edges.lift (record { a = a; b = b }) (record { a = c; b = d }) x q

abbrev pub cross : Point → Point → ℤ
cross a b = (a.x *ℤ b.y) -ℤ (a.y *ℤ b.x)

abbrev pub moved : Point → Point → Point
moved v a = record { x = v.x +ℤ a.x; y = v.y +ℤ a.y }

-- a whole point
abbrev pub whole : Point → RationalPoint
whole a = record { x = a.x; y = a.y; q = 1 }

-- ---- the same as expressions, for `by_ring`

-- the numbers of the variables: the points' coordinates, then the others
abbrev pub coordinates : List Point → List ℤ → List ℤ
coordinates [] xs = xs
coordinates (a ∷ points) xs = a.x ∷ a.y ∷ coordinates points xs

-- a point of expressions
pub record Place : Type 0 where
  pub x : Expr
  pub y : Expr

-- the point with n points before it among the coordinates
abbrev pub place : ℕ → Place
place n = record { x = var (2 * n); y = var (2 * n + 1) }

abbrev pub a_turn : Place → Place → Place → Expr
a_turn a b c = minus (times (minus b.x a.x) (minus c.y a.y)) (times (minus b.y a.y) (minus c.x a.x))

-- q is the denominator of p
abbrev pub a_side : Place → Place → Place → Expr → Expr
a_side a b p q = minus (times (minus b.x a.x) (minus p.y (times q a.y))) (times (minus b.y a.y) (minus p.x (times q a.x)))

abbrev pub a_width : Place → Place → Expr
a_width a b = minus b.x a.x

abbrev pub a_height : Place → Place → Expr → Expr → Expr
a_height a b x q = plus (times a.y (minus (times q b.x) x)) (times b.y (minus x (times q a.x)))

abbrev pub a_lift : Place → Place → Place → Place → Expr → Expr → Expr
a_lift a b c d x q = minus (times (a_width c d) (a_height a b x q)) (times (a_width a b) (a_height c d x q))

abbrev pub a_cross : Place → Place → Expr
a_cross a b = minus (times a.x b.y) (times a.y b.x)

abbrev pub a_number : ℕ → Expr
a_number n = const (pos n)

abbrev first : Place
first = place 0

abbrev second : Place
second = place 1

abbrev third : Place
third = place 2

abbrev fourth : Place
fourth = place 3

-- ---- turns

pub turn_cyclic : (a b c : Point) → turn a b c ≡ turn b c a
turn_cyclic a b c = by_ring (coordinates (a ∷ b ∷ c ∷ []) []) (a_turn first second third) (a_turn second third first) refl

pub turn_swap : (a b c : Point) → turn a b c ≡ neg_ℤ (turn b a c)
turn_swap a b c = by_ring (coordinates (a ∷ b ∷ c ∷ []) []) (a_turn first second third) (opposite (a_turn second first third)) refl

-- the last two exchanged
pub turn_swap_last : (a b c : Point) → turn a b c ≡ neg_ℤ (turn a c b)
turn_swap_last a b c = by_ring (coordinates (a ∷ b ∷ c ∷ []) []) (a_turn first second third) (opposite (a_turn first third second)) refl

-- the outer two exchanged
pub turn_reverse : (a b c : Point) → turn a b c ≡ neg_ℤ (turn c b a)
turn_reverse a b c = by_ring (coordinates (a ∷ b ∷ c ∷ []) []) (a_turn first second third) (opposite (a_turn third second first)) refl

pub turn_start_twice : (a b : Point) → turn a a b ≡ pos 0
turn_start_twice a b = by_ring (coordinates (a ∷ b ∷ []) []) (a_turn first first second) (a_number 0) refl

pub turn_end_twice : (a b : Point) → turn a b b ≡ pos 0
turn_end_twice a b = by_ring (coordinates (a ∷ b ∷ []) []) (a_turn first second second) (a_number 0) refl

pub turn_there_and_back : (a b : Point) → turn a b a ≡ pos 0
turn_there_and_back a b = by_ring (coordinates (a ∷ b ∷ []) []) (a_turn first second first) (a_number 0) refl

-- the quadrangle a b c d cut by either diagonal
pub turn_quadrangle : (a b c d : Point) → turn a b c +ℤ turn a c d ≡ turn a b d +ℤ turn b c d
turn_quadrangle a b c d =
    by_ring (coordinates (a ∷ b ∷ c ∷ d ∷ []) []) (plus (a_turn first second third) (a_turn first third fourth)) (plus (a_turn first second fourth) (a_turn second third fourth)) refl

pub cross_swap : (a b : Point) → cross a b ≡ neg_ℤ (cross b a)
cross_swap a b = by_ring (coordinates (a ∷ b ∷ []) []) (a_cross first second) (opposite (a_cross second first)) refl

-- the x of any vector v from two others, by their cross products
pub three_vectors_x : (p w v : Point) → v.x *ℤ cross p w ≡ (cross v w *ℤ p.x) +ℤ (cross p v *ℤ w.x)
three_vectors_x p w v =
    by_ring (coordinates (p ∷ w ∷ v ∷ []) []) (times third.x (a_cross first second)) (plus (times (a_cross third second) first.x) (times (a_cross first third) second.x)) refl

-- ---- sides

pub side_of_whole : (a b c : Point) → side a b (whole c) ≡ turn a b c
side_of_whole a b c =
    by_ring (coordinates (a ∷ b ∷ c ∷ []) []) (a_side first second third (a_number 1)) (a_turn first second third) refl

-- two lines through a
pub side_by_widths : (a b c : Point) (p : RationalPoint) → width a c *ℤ side a b p ≡ (width a b *ℤ side a c p) +ℤ ((p.x -ℤ (pos p.q *ℤ a.x)) *ℤ turn a b c)
side_by_widths a b c p =
    by_ring (coordinates (a ∷ b ∷ c ∷ []) (p.x ∷ p.y ∷ pos p.q ∷ []))
    (times (a_width first third) (a_side first second fourth (var 8)))
    (plus (times (a_width first second) (a_side first third fourth (var 8))) (times (minus fourth.x (times (var 8) first.x)) (a_turn first second third)))
    refl

-- two lines to a
pub side_by_end_widths : (a b c : Point) (p : RationalPoint) → width c a *ℤ side b a p ≡ (width b a *ℤ side c a p) +ℤ ((p.x -ℤ (pos p.q *ℤ a.x)) *ℤ turn a b c)
side_by_end_widths a b c p =
    by_ring (coordinates (a ∷ b ∷ c ∷ []) (p.x ∷ p.y ∷ pos p.q ∷ []))
    (times (a_width third first) (a_side second first fourth (var 8)))
    (plus (times (a_width second first) (a_side third first fourth (var 8))) (times (minus fourth.x (times (var 8) first.x)) (a_turn first second third)))
    refl

-- ---- lifts

pub lift_by_sides : (a b c d : Point) (p : RationalPoint) → lift a b c d p.x (pos p.q) ≡ (width a b *ℤ side c d p) -ℤ (width c d *ℤ side a b p)
lift_by_sides a b c d p =
    by_ring (coordinates (a ∷ b ∷ c ∷ d ∷ []) (p.x ∷ p.y ∷ pos p.q ∷ []))
    (a_lift first second third fourth (var 8) (var 10))
    (let p = place 4 in minus (times (a_width first second) (a_side third fourth p (var 10))) (times (a_width third fourth) (a_side first second p (var 10))))
    refl

pub lift_swap : (a b c d : Point) (x q : ℤ) → lift a b c d x q ≡ neg_ℤ (lift c d a b x q)
lift_swap a b c d x q =
    by_ring (coordinates (a ∷ b ∷ c ∷ d ∷ []) (x ∷ q ∷ [])) (a_lift first second third fourth (var 8) (var 9)) (opposite (a_lift third fourth first second (var 8) (var 9))) refl

pub lift_itself : (a b : Point) (x q : ℤ) → lift a b a b x q ≡ pos 0
lift_itself a b x q =
    by_ring (coordinates (a ∷ b ∷ []) (x ∷ q ∷ [])) (a_lift first second first second (var 4) (var 5)) (a_number 0) refl

-- of three lines
pub lift_transitive : (a b c d e f : Point) (x q : ℤ) → (width e f *ℤ lift c d a b x q) +ℤ (width a b *ℤ lift e f c d x q) ≡ width c d *ℤ lift e f a b x q
lift_transitive a b c d e f x q =
    by_ring (coordinates (a ∷ b ∷ c ∷ d ∷ e ∷ f ∷ []) (x ∷ q ∷ []))
    (let e = place 4 in let f = place 5 in plus (times (a_width e f) (a_lift third fourth first second (var 12) (var 13))) (times (a_width first second) (a_lift e f third fourth (var 12) (var 13))))
    (let e = place 4 in let f = place 5 in times (a_width third fourth) (a_lift e f first second (var 12) (var 13)))
    refl

-- from the turns of the line c d to the ends of a b
pub lift_by_ends : (a b c d : Point) (x q : ℤ) → (((q *ℤ b.x) -ℤ x) *ℤ turn c d a) +ℤ ((x -ℤ (q *ℤ a.x)) *ℤ turn c d b) ≡ lift a b c d x q
lift_by_ends a b c d x q =
    by_ring (coordinates (a ∷ b ∷ c ∷ d ∷ []) (x ∷ q ∷ []))
    (plus (times (minus (times (var 9) second.x) (var 8)) (a_turn third fourth first)) (times (minus (var 8) (times (var 9) first.x)) (a_turn third fourth second)))
    (a_lift first second third fourth (var 8) (var 9))
    refl

pub lift_at_first : (a b c d : Point) → lift a b c d a.x (pos 1) ≡ width a b *ℤ turn c d a
lift_at_first a b c d =
    by_ring (coordinates (a ∷ b ∷ c ∷ d ∷ []) []) (a_lift first second third fourth first.x (a_number 1)) (times (a_width first second) (a_turn third fourth first)) refl

pub lift_at_second : (a b c d : Point) → lift a b c d b.x (pos 1) ≡ width a b *ℤ turn c d b
lift_at_second a b c d =
    by_ring (coordinates (a ∷ b ∷ c ∷ d ∷ []) []) (a_lift first second third fourth second.x (a_number 1)) (times (a_width first second) (a_turn third fourth second)) refl

pub lift_at_third : (a b c d : Point) → lift a b c d c.x (pos 1) ≡ neg_ℤ (width c d *ℤ turn a b c)
lift_at_third a b c d =
    by_ring (coordinates (a ∷ b ∷ c ∷ d ∷ []) []) (a_lift first second third fourth third.x (a_number 1)) (opposite (times (a_width third fourth) (a_turn first second third))) refl

pub lift_at_fourth : (a b c d : Point) → lift a b c d d.x (pos 1) ≡ neg_ℤ (width c d *ℤ turn a b d)
lift_at_fourth a b c d =
    by_ring (coordinates (a ∷ b ∷ c ∷ d ∷ []) []) (a_lift first second third fourth fourth.x (a_number 1)) (opposite (times (a_width third fourth) (a_turn first second fourth))) refl

-- a lift is linear in the column, so its values at whole columns l and r give the one at x / q
pub lift_affine : (a b c d : Point) (x q l r : ℤ) → (r -ℤ l) *ℤ lift a b c d x q ≡ (((q *ℤ r) -ℤ x) *ℤ lift a b c d l (pos 1)) +ℤ ((x -ℤ (q *ℤ l)) *ℤ lift a b c d r (pos 1))
lift_affine a b c d x q l r =
    by_ring (coordinates (a ∷ b ∷ c ∷ d ∷ []) (x ∷ q ∷ l ∷ r ∷ []))
    (times (minus (var 11) (var 10)) (a_lift first second third fourth (var 8) (var 9)))
    (plus (times (minus (times (var 9) (var 11)) (var 8)) (a_lift first second third fourth (var 10) (a_number 1))) (times (minus (var 8) (times (var 9) (var 10))) (a_lift first second third fourth (var 11) (a_number 1))))
    refl
