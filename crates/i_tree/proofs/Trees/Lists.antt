-- Lists that are mapped, lent and collected.
use Rattle.std.proofs.Common.{◌≡◌, ℕ, List, [], ◌∷◌, ◌++◌, length, take, drop, map, filter, Bool, true, false, refl, ap, Result, Ok, Err, IfOk, IsPermutation, Vec}

pub filter_map_like : {X Y : Type 0} (p : Y → Bool) (f : X → Y) (xs : List X) → filter p (map f xs) ≡ map f (filter (λ x. p (f x)) xs)
filter_map_like p f [] = refl
filter_map_like p f (x ∷ xs) = by (p (f x)) refl (filter_map_like p f xs) where
  by : (b : Bool) → p (f x) ≡ b → filter p (map f xs) ≡ map f (filter (λ x. p (f x)) xs) → filter p (map f (x ∷ xs)) ≡ map f (filter (λ x. p (f x)) (x ∷ xs))
  by true e rest = rw (e, rest) refl
  by false e rest = rw (e, rest) refl

pub map_after : {X Y Z : Type 0} (g : Y → Z) (f : X → Y) (xs : List X) → map g (map f xs) ≡ map (λ x. g (f x)) xs
map_after g f [] = refl
map_after g f (x ∷ xs) = rw (map_after g f xs) refl

-- a vector whose items were lent and come back, as many
pub items_back : {X : Type 0} (len : ℕ) (xs ys : List X) → length xs ≡ len → take len (xs ++ drop (length xs) ys) ≡ xs
items_back len xs ys e = rw (← e) (front xs (drop (length xs) ys)) where
  front : {X : Type 0} (xs zs : List X) → take (length xs) (xs ++ zs) ≡ xs
  front [] zs = refl
  front (x ∷ xs) zs = ap (λ l. x ∷ l) (front xs zs)

pub permutes_if_collected : {V E Z : Type 0} (all found : List V) (r : Result (Vec V Z) E) → IfOk r (λ v. v.items ≡ found) → IsPermutation all found → IfOk r (λ v. IsPermutation all v.items)
permutes_if_collected all found (Ok v) e h = rw e h
permutes_if_collected all found (Err x) e h = tt
