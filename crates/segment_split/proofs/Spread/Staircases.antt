-- Points that stand one after another along a segment: the taxicab lengths of the steps add up, so their squares fall.
use Rattle.std.proofs.Common.{◌≡◌, ◌≢◌, ℕ, suc, ◌+◌, ◌*◌, ◌≤◌, Bool, true, false, List, [], ◌∷◌, ◌++◌, All, ℤ, ◌-ℤ◌, ◌≤ℤ◌, int_le, refl, arith}
use Rattle.std.specs.Int.RustNames.{unsigned_abs}
use Rattle.std.proofs.lemmas.Int.{ints}
use Rattle.std.proofs.lemmas.List.Elements.{All-head}
use Rattle.plane_base.specs.Plane.{Point, Edge}
use Rattle.plane_base.specs.RoundingLaws.{IsAlong}
use Rattle.plane_base.proofs.Facts.Maps.Normal.{AllPairs-head, AllPairs-tail}
use Rattle.segment_split.specs.AlongLaws.{IsBeyond, IsStaircase}
use Rattle.segment_split.specs.Redrawing.{taxicab}

-- the edge of a step
abbrev pub step : Point → Point → Edge
step u v = record { a = u; b = v }

-- ---- one step after another

between : (x y z : ℤ) → x ≤ℤ y → y ≤ℤ z → unsigned_abs (z -ℤ x) ≡ unsigned_abs (y -ℤ x) + unsigned_abs (z -ℤ y)
between x y z h k = omega (arith, ints)

back_between : (x y z : ℤ) → z ≤ℤ y → y ≤ℤ x → unsigned_abs (z -ℤ x) ≡ unsigned_abs (y -ℤ x) + unsigned_abs (z -ℤ y)
back_between x y z h k = omega (arith, ints)

pub taxicab_adds : (s : Edge) (u v w : Point) → IsAlong s u v → IsAlong s v w → taxicab (step u w) ≡ taxicab (step u v) + taxicab (step v w)
taxicab_adds s u v w h k = sum _ _ _ _ _ _ (between u.x v.x w.x h.right k.right) (by (int_le s.a.y s.b.y) refl)
  where
    sum : (a b c d e f : ℕ) → a ≡ b + c → d ≡ e + f → a + d ≡ (b + e) + (c + f)
    sum a b c d e f h k = omega arith

    by : (rises : Bool) → int_le s.a.y s.b.y ≡ rises → unsigned_abs (w.y -ℤ u.y) ≡ unsigned_abs (v.y -ℤ u.y) + unsigned_abs (w.y -ℤ v.y)
    by true e = between u.y v.y w.y (h.up (omega (arith, ints))) (k.up (omega (arith, ints)))
    by false e = back_between u.y v.y w.y (k.down (omega (arith, ints))) (h.down (omega (arith, ints)))

pub taxicab_back : (u v : Point) → taxicab (step v u) ≡ taxicab (step u v)
taxicab_back u v = sum _ _ _ _ (alike u.x v.x) (alike u.y v.y)
  where
    sum : (a b c d : ℕ) → a ≡ b → c ≡ d → a + c ≡ b + d
    sum a b c d e f = omega arith

    alike : (x y : ℤ) → unsigned_abs (x -ℤ y) ≡ unsigned_abs (y -ℤ x)
    alike x y = omega (arith, ints)

pub taxicab_nowhere : (u : Point) → taxicab (step u u) ≡ 0
taxicab_nowhere u = sum _ _ (none u.x) (none u.y)
  where
    sum : (a b : ℕ) → a ≡ 0 → b ≡ 0 → a + b ≡ 0
    sum a b e f = omega arith

    none : (x : ℤ) → unsigned_abs (x -ℤ x) ≡ 0
    none x = omega (arith, ints)

pub taxicab_positive : (u v : Point) → u ≢ v → 1 ≤ taxicab (step u v)
taxicab_positive u v differ = some (taxicab (step u v)) (λ e. differ (λ i. record { x = horizontal_x e i; y = horizontal_y e i }))
  where
    some : (n : ℕ) → n ≢ 0 → 1 ≤ n
    some n h = omega arith

    level : (x y : ℤ) (m : ℕ) → unsigned_abs (y -ℤ x) + m ≡ 0 → x ≡ y
    level x y m e = omega (arith, ints)

    other : (x y : ℤ) (m : ℕ) → m + unsigned_abs (y -ℤ x) ≡ 0 → x ≡ y
    other x y m e = omega (arith, ints)

    horizontal_x : taxicab (step u v) ≡ 0 → u.x ≡ v.x
    horizontal_x e = level u.x v.x (unsigned_abs (v.y -ℤ u.y)) e

    horizontal_y : taxicab (step u v) ≡ 0 → u.y ≡ v.y
    horizontal_y e = other u.y v.y (unsigned_abs (v.x -ℤ u.x)) e

-- ---- the steps of a path

-- the squares of the taxicab lengths of the steps, summed
abbrev pub squares : List Point → ℕ
squares [] = 0
squares (u ∷ []) = 0
squares (u ∷ v ∷ rest) = (taxicab (step u v) * taxicab (step u v)) + squares (v ∷ rest)

last_beyond : (s : Edge) (u : Point) (ps : List Point) (w : Point) → All (IsBeyond s u) (ps ++ w ∷ []) → IsBeyond s u w
last_beyond s u [] w h = All-head (IsBeyond s u) w [] h
last_beyond s u (v ∷ ps) w h = last_beyond s u ps w (λ k d l. h (suc k) d (omega arith))

-- no more than the square of the whole way
squares_at_most : (s : Edge) (u : Point) (ps : List Point) (w : Point) → IsStaircase s (u ∷ ps ++ w ∷ []) → squares (u ∷ ps ++ w ∷ []) ≤ taxicab (step u w) * taxicab (step u w)
squares_at_most s u [] w h = omega arith
squares_at_most s u (v ∷ ps) w h =
    let first : IsBeyond s u v = All-head (IsBeyond s u) v (ps ++ w ∷ []) (AllPairs-head (IsBeyond s) u (v ∷ ps ++ w ∷ []) h) in
    let rest : IsStaircase s (v ∷ ps ++ w ∷ []) = AllPairs-tail (IsBeyond s) u (v ∷ ps ++ w ∷ []) h in
    let second : IsBeyond s v w = last_beyond s v ps w (AllPairs-head (IsBeyond s) v (ps ++ w ∷ []) rest) in
    at_most _ _ _ _ (taxicab_adds s u v w first.along second.along) (squares_at_most s v ps w rest)
  where
    at_most : (x r l q : ℕ) → l ≡ x + r → q ≤ r * r → (x * x) + q ≤ l * l
    at_most x r l q e b = rw e (grind arith)

-- 2 less where there is a point between
pub squares_fall : (s : Edge) (u v : Point) (ps : List Point) (w : Point) → IsStaircase s (u ∷ v ∷ ps ++ w ∷ []) → squares (u ∷ v ∷ ps ++ w ∷ []) + 2 ≤ taxicab (step u w) * taxicab (step u w)
squares_fall s u v ps w h =
    let first : IsBeyond s u v = All-head (IsBeyond s u) v (ps ++ w ∷ []) (AllPairs-head (IsBeyond s) u (v ∷ ps ++ w ∷ []) h) in
    let rest : IsStaircase s (v ∷ ps ++ w ∷ []) = AllPairs-tail (IsBeyond s) u (v ∷ ps ++ w ∷ []) h in
    let second : IsBeyond s v w = last_beyond s v ps w (AllPairs-head (IsBeyond s) v (ps ++ w ∷ []) rest) in
    falls _ _ _ _ (taxicab_adds s u v w first.along second.along) (taxicab_positive u v first.differ) (taxicab_positive v w second.differ) (squares_at_most s v ps w rest)
  where
    falls : (x r l q : ℕ) → l ≡ x + r → 1 ≤ x → 1 ≤ r → q ≤ r * r → ((x * x) + q) + 2 ≤ l * l
    falls x r l q e h k b = rw e (grind arith)
