-- What holds of each contour of shapes holds of those of each shape.
use Rattle.std.proofs.Common.{◌≡◌, ◌<◌, ℕ, zero, suc, List, [], ◌∷◌, ◌++◌, All, map, flat_map, length, get_or, sym, subst, arith}
use Rattle.std.proofs.lemmas.List.Elements.{All-nil, All-cons, All-head, All-tail}

front_keeps : {A : Type 0} (P : A → Type 0) (xs ys : List A) → All P (xs ++ ys) → All P xs
front_keeps P [] ys all = All-nil P
front_keeps P (x ∷ xs) ys all = All-cons P x xs (All-head P x (xs ++ ys) all) (front_keeps P xs ys (All-tail P x (xs ++ ys) all))

back_keeps : {A : Type 0} (P : A → Type 0) (xs ys : List A) → All P (xs ++ ys) → All P ys
back_keeps P [] ys all = all
back_keeps P (x ∷ xs) ys all = back_keeps P xs ys (All-tail P x (xs ++ ys) all)

-- the contours of one shape, as f sees them
pub shape_keeps : {X Y : Type 0} (P : Y → Type 0) (f : X → List Y) (shapes : List X) (place : ℕ) (shape : X) →
    place < length shapes → shape ≡ get_or shapes place shape → All P (flat_map (λ contours. contours) (map f shapes)) → All P (f shape)
shape_keeps P f [] place shape inside at all = absurd (omega (arith, inside))
shape_keeps P f (first ∷ rest) zero shape inside at all =
    subst (λ s. All P (f s)) (sym at) (front_keeps P (f first) (flat_map (λ contours. contours) (map f rest)) all)
shape_keeps P f (first ∷ rest) (suc place) shape inside at all =
    shape_keeps P f rest place shape (omega (arith, inside)) at (back_keeps P (f first) (flat_map (λ contours. contours) (map f rest)) all)

-- one contour
pub contour_keeps : {X Y : Type 0} (P : Y → Type 0) (f : X → Y) (contours : List X) (place : ℕ) (contour : X) →
    place < length contours → contour ≡ get_or contours place contour → All P (map f contours) → P (f contour)
contour_keeps P f [] place contour inside at all = absurd (omega (arith, inside))
contour_keeps P f (first ∷ rest) zero contour inside at all = subst (λ c. P (f c)) (sym at) (All-head P (f first) (map f rest) all)
contour_keeps P f (first ∷ rest) (suc place) contour inside at all =
    contour_keeps P f rest place contour (omega (arith, inside)) at (All-tail P (f first) (map f rest) all)
