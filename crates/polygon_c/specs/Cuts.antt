-- Lists cut into pieces of given lengths, and laid flat again.
use Rattle.std.specs.Prelude.{ℕ, ◌+◌, List, [], ◌∷◌, take, drop}
use Rattle.std.specs.declared.ops.Range.{Range}

-- the pieces of these lengths, one behind the other
abbrev pub cut : {A : Type 0} → List ℕ → List A → List (List A)
cut [] xs = []
cut (n ∷ ns) xs = take n xs ∷ cut ns (drop n xs)

-- where they lie, from this place on
abbrev pub ranges_of : ℕ → List ℕ → List (Range ℕ)
ranges_of start [] = []
ranges_of start (n ∷ ns) = record { start = start; end = start + n } ∷ ranges_of (start + n) ns
