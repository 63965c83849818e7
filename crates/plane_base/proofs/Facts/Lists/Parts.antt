-- The parts of a list that ranges mark out, one range more at a time.
use Rattle.std.proofs.Common.{◌≡◌, refl, sym, ap, ap₂, ◌∙◌, ℕ, ◌+◌, ◌<◌, List, [], ◌∷◌, ◌++◌, map, take, length, get_or, arith}
use Rattle.std.proofs.lemmas.List.{map-append, get_or_default}
use Rattle.plane_base.proofs.Facts.Thinning.Indexes.{taken_to}

one_more : {X Y : Type 0} (f : X → Y) (xs : List X) (i : ℕ) (d : X) → i < length xs → map f (take (i + 1) xs) ≡ map f (take i xs) ++ f (get_or xs i d) ∷ []
one_more f xs i d h =
    let x = get_or xs i d in
    ap (map f) (taken_to xs i (i + 1) x refl (omega arith) (get_or_default xs i d x h)) ∙ map-append f (take i xs) (x ∷ [])

-- what was made of the first i, and of one more
pub more_parts : {X Y Z : Type 0} (xs ys : List X) (x : X) (f : X → Y) (zs : List Z) (g : Z → Y) (i : ℕ) (d : Z) → i < length zs → ys ≡ xs ++ x ∷ [] → f x ≡ g (get_or zs i d) → map f xs ≡ map g (take i zs) → map f ys ≡ map g (take (i + 1) zs)
more_parts xs ys x f zs g i d h p q r =
    ap (map f) p ∙ (map-append f xs (x ∷ []) ∙ (ap₂ (λ vs v. vs ++ v ∷ []) r q ∙ sym (one_more g zs i d h)))

pub more_groups : {X Y Z W : Type 0} (xs ys : List X) (x : X) (f : X → Y) (zs : List Z) (g : W → Y) (k : Z → W) (i : ℕ) (d : Z) → i < length zs → ys ≡ xs ++ x ∷ [] → f x ≡ g (k (get_or zs i d)) → map f xs ≡ map g (map k (take i zs)) → map f ys ≡ map g (map k (take (i + 1) zs))
more_groups xs ys x f zs g k i d h p q r =
    ap (map f) p
    ∙ (map-append f xs (x ∷ [])
    ∙ (ap₂ (λ vs v. vs ++ v ∷ []) r q ∙ sym (ap (map g) (one_more k zs i d h) ∙ map-append g (map k (take i zs)) (k (get_or zs i d) ∷ []))))
