-- Refusals, each with where it comes.
use Rattle.std.specs.Prelude.{◌≡◌, ◌⊎◌, List, [], ◌∷◌}
use Rattle.polybool.specs.declared.refusal.Refusal.{Refusal}

-- what may be refused for: these refusals alone, and each only where the proposition beside it holds
abbrev pub Refusals : Type 1
Refusals = List (Refusal × Type 0)

-- The refusal is one of these, and holds here.
abbrev pub IsOneOf : Refusals → Refusal → Type 0
IsOneOf [] e = ⊥
IsOneOf ((f, here) ∷ others) e = ((e ≡ f) × here) ⊎ IsOneOf others e
