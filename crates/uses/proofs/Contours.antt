-- The contours of shapes, as builders take them and as answers have them.
use Rattle.std.proofs.Common.{◌≡◌, List, [], ◌∷◌, ◌++◌, map, flat_map, refl, ap, ap₂, ◌∙◌}
use Rattle.std.proofs.lemmas.List.{map-append}

twice : {X Y Z : Type 0} (f : Y → Z) (g : X → Y) (xs : List X) → map f (map g xs) ≡ map (λ x. f (g x)) xs
twice f g [] = refl
twice f g (x ∷ xs) = ap (λ zs. f (g x) ∷ zs) (twice f g xs)

-- what is seen of the points of each contour, all contours together or shape by shape
pub same_contours : {S C X Y : Type 0} (contours : S → List C) (points : C → X) (f : X → Y) (shapes : List S) →
    map f (flat_map (λ s. map points (contours s)) shapes) ≡ flat_map (λ shape. shape) (map (λ s. map (λ c. f (points c)) (contours s)) shapes)
same_contours contours points f [] = refl
same_contours contours points f (s ∷ shapes) =
    map-append f (map points (contours s)) (flat_map (λ s. map points (contours s)) shapes)
    ∙ ap₂ (λ here rest. here ++ rest) (twice f points (contours s)) (same_contours contours points f shapes)
