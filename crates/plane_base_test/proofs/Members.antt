-- What is contained in a list, and what holds of all that is.
use Rattle.std.proofs.Common.{suc, List, ◌∷◌, All, Contains, refl, arith}
use Rattle.std.proofs.lemmas.List.Elements.{All-weaker, All-contains_itself}

pub Contains-head : {X : Type 0} (x : X) (xs : List X) → Contains (x ∷ xs) x
Contains-head x xs = (0, omega arith, refl)

pub Contains-tail : {X : Type 0} (x y : X) (xs : List X) → Contains xs y → Contains (x ∷ xs) y
Contains-tail x y xs c = (suc c.0, omega (arith, c.1), c.2)

pub All-from_contains : {X : Type 0} (P : X → Type 0) (xs : List X) → ((x : X) → Contains xs x → P x) → All P xs
All-from_contains P xs h = All-weaker (Contains xs) P h xs (All-contains_itself xs)
