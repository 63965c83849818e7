-- Tests of lists, one after the other.
use Rattle.std.proofs.Common.{◌≡◌, List, [], ◌∷◌, filter, Bool, true, false, ◌&&◌, refl}

pub filter_and : {X : Type 0} (p q : X → Bool) (xs : List X) → filter p (filter q xs) ≡ filter (λ x. q x && p x) xs
filter_and p q [] = refl
filter_and {X} p q (x ∷ xs) = by (q x) refl (p x) refl (filter_and p q xs) where
  by : (a : Bool) → q x ≡ a → (b : Bool) → p x ≡ b → filter p (filter q xs) ≡ filter (λ x. q x && p x) xs → filter p (filter q (x ∷ xs)) ≡ filter (λ x. q x && p x) (x ∷ xs)
  by true e true f rest = rw (e, f, rest) refl
  by true e false f rest = rw (e, f, rest) refl
  by false e b f rest = rw (e, rest) refl

pub filter_like : {X : Type 0} (p q : X → Bool) → ((x : X) → p x ≡ q x) → (xs : List X) → filter p xs ≡ filter q xs
filter_like p q h [] = refl
filter_like p q h (x ∷ xs) = rw (h x, filter_like p q h xs) refl

pub filter_none : {X : Type 0} (p : X → Bool) → ((x : X) → p x ≡ false) → (xs : List X) → filter p xs ≡ []
filter_none p h [] = refl
filter_none p h (x ∷ xs) = rw (h x) (filter_none p h xs)

pub and_flip : (a b : Bool) → (a && b) ≡ (b && a)
and_flip true true = refl
and_flip true false = refl
and_flip false true = refl
and_flip false false = refl
