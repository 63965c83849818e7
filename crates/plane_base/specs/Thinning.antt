-- Thinning: the cycle that is left when no point of a contour lies on a line with its two neighbours.
use Rattle.std.specs.Prelude.{◌≡◌, ◌<◌, ◌≤◌, pos, List, [], ◌∷◌, length}
use Rattle.plane_base.specs.Plane.{Point, turn}
use Rattle.plane_base.specs.Cycles.{SameCycle}

-- The new cycle is the old one without the point p, which lies on one line with its two neighbours.
-- A point that equals a neighbour lies so.
pub record TakesOut (old new : List Point) : Type 0 where
  pub before : Point
  pub p : Point
  pub after : Point
  pub others : List Point
  pub was : SameCycle old (before ∷ p ∷ after ∷ others)
  pub straight : turn before p after ≡ pos 0
  pub is : SameCycle new (before ∷ after ∷ others)

-- points are taken out of the first cycle, one after another, until the second is left
pub data Reaches : List Point → List Point → Type 0 where
  same : {c d : List Point} → SameCycle c d → Reaches c d
  step : {c d e : List Point} → TakesOut c d → Reaches d e → Reaches c e

-- no point can be taken out
abbrev pub IsBare : List Point → Type 0
IsBare c = (d : List Point) → TakesOut c d → ⊥

-- no three points in a row of the list lie on one line
abbrev pub NoneStraight : List Point → Type 0
NoneStraight [] = Unit
NoneStraight (a ∷ []) = Unit
NoneStraight (a ∷ p ∷ []) = Unit
NoneStraight (a ∷ p ∷ b ∷ rest) = (turn a p b ≡ pos 0 → ⊥) × NoneStraight (p ∷ b ∷ rest)

-- The thinned cycle: points are taken out until none is left that can be. Below three points it is empty.
pub data IsThinned : List Point → List Point → Type 0 where
  bare : {c d : List Point} → Reaches c d → 3 ≤ length d → IsBare d → IsThinned c d
  empty : {c d : List Point} → Reaches c d → length d < 3 → IsThinned c []
