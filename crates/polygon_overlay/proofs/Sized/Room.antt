-- Room for moves, as it is tested, and numbers that are moved.
use Rattle.std.proofs.Common.{◌≡◌, Bool, true, ℤ, pos, neg_ℤ, ◌^◌, ◌+ℤ◌, ◌-ℤ◌, ◌≤ℤ◌, ◌<ℤ◌, sym, ap₂, ◌∙◌, subst, arith, w64, FitsSigned, to_z, of_z}
use Rattle.std.specs.Int.{w128}
use Rattle.std.proofs.lemmas.Int.{ints, to_z-of_z}
use Rattle.plane_base.specs.Plane.{IsCoordinate}
use Rattle.polygon_overlay.specs.SizingCalls.{HasRoom}

-- ---- what fits

pub coordinate_fits : (n least greatest : ℤ) → neg_ℤ (pos (2 ^ 36)) ≤ℤ least → greatest <ℤ pos (2 ^ 36) → IsCoordinate least greatest n → FitsSigned w64 n
coordinate_fits n least greatest l k h = omega (arith, ints, l, k, h.0, h.1)

difference_fits : (n m : ℤ) → FitsSigned w64 n → FitsSigned w64 m → FitsSigned w128 (n -ℤ m)
difference_fits n m h k = omega (arith, ints, h, k)

sum_fits : (n m : ℤ) → FitsSigned w64 n → FitsSigned w64 m → FitsSigned w128 (n +ℤ m)
sum_fits n m h k = omega (arith, ints, h, k)

-- ---- sums and differences of numbers as they are held

pub wide_difference : (x y n m : ℤ) → to_z w128 (of_z w128 x) ≡ n → to_z w128 (of_z w128 y) ≡ m → FitsSigned w64 n → FitsSigned w64 m
    → to_z w128 (of_z w128 (to_z w128 (of_z w128 x) -ℤ to_z w128 (of_z w128 y))) ≡ n -ℤ m
wide_difference x y n m e f h k = ap₂ (λ a b. to_z w128 (of_z w128 (a -ℤ b))) e f ∙ to_z-of_z w128 (n -ℤ m) (difference_fits n m h k)

pub wide_sum : (x y n m : ℤ) → to_z w128 (of_z w128 x) ≡ n → to_z w128 (of_z w128 y) ≡ m → FitsSigned w64 n → FitsSigned w64 m
    → to_z w128 (of_z w128 (to_z w128 (of_z w128 x) +ℤ to_z w128 (of_z w128 y))) ≡ n +ℤ m
wide_sum x y n m e f h k = ap₂ (λ a b. to_z w128 (of_z w128 (a +ℤ b))) e f ∙ to_z-of_z w128 (n +ℤ m) (sum_fits n m h k)

pub moved_on : (x y n m : ℤ) → to_z w64 (of_z w64 x) ≡ n → to_z w64 (of_z w64 y) ≡ m → FitsSigned w64 (n +ℤ m)
    → to_z w64 (of_z w64 (to_z w64 (of_z w64 x) +ℤ to_z w64 (of_z w64 y))) ≡ n +ℤ m
moved_on x y n m e f fits = ap₂ (λ a b. to_z w64 (of_z w64 (a +ℤ b))) e f ∙ to_z-of_z w64 (n +ℤ m) fits

pub moved_back : (x y n m : ℤ) → to_z w64 (of_z w64 x) ≡ n → to_z w64 (of_z w64 y) ≡ m → FitsSigned w64 (n -ℤ m)
    → to_z w64 (of_z w64 (to_z w64 (of_z w64 x) -ℤ to_z w64 (of_z w64 y))) ≡ n +ℤ neg_ℤ m
moved_back x y n m e f fits =
    let added : n -ℤ m ≡ n +ℤ neg_ℤ m = omega (arith, ints) in
    ap₂ (λ a b. to_z w64 (of_z w64 (a -ℤ b))) e f ∙ (to_z-of_z w64 (n -ℤ m) fits ∙ added)

-- ---- what the tests tell

module _ (least greatest n a b m : ℤ) (r : Bool) where
  pub coordinate_told : a ≡ least → b ≡ greatest → m ≡ n → a ≤ℤ m → (r ≡ true → m ≤ℤ b) × (m ≤ℤ b → r ≡ true)
      → (r ≡ true → IsCoordinate least greatest n) × (IsCoordinate least greatest n → r ≡ true)
  coordinate_told e f h low tell = (
    λ up. (subst (λ x. x ≤ℤ n) e (subst (λ x. a ≤ℤ x) h low), subst (λ x. n ≤ℤ x) f (subst (λ x. x ≤ℤ b) h (tell.0 up))),
    λ is. tell.1 (subst (λ x. x ≤ℤ b) (sym h) (subst (λ x. n ≤ℤ x) (sym f) is.1)),
  )

  pub not_coordinate : a ≡ least → m ≡ n → (r ≡ true → a ≤ℤ m) × (a ≤ℤ m → r ≡ true) → IsCoordinate least greatest n → r ≡ true
  not_coordinate e h tell is = tell.1 (subst (λ x. a ≤ℤ x) (sym h) (subst (λ x. x ≤ℤ n) (sym e) is.0))

module _ (least greatest back on n x y : ℤ) (r : Bool) where
  pub room_told : x ≡ n -ℤ back → y ≡ n +ℤ on → IsCoordinate least greatest x
      → (r ≡ true → IsCoordinate least greatest y) × (IsCoordinate least greatest y → r ≡ true)
      → (r ≡ true → HasRoom least greatest back on n) × (HasRoom least greatest back on n → r ≡ true)
  room_told e f low tell = (
    λ up. record { below = subst (IsCoordinate least greatest) e low; above = subst (IsCoordinate least greatest) f (tell.0 up) },
    λ room. tell.1 (subst (IsCoordinate least greatest) (sym f) room.above),
  )

  pub no_room : x ≡ n -ℤ back → (r ≡ true → IsCoordinate least greatest x) × (IsCoordinate least greatest x → r ≡ true) → HasRoom least greatest back on n → r ≡ true
  no_room e tell room = tell.1 (subst (IsCoordinate least greatest) (sym e) room.below)
