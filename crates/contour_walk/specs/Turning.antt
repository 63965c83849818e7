-- The direction that is met first on turning.
use Rattle.std.specs.Prelude.{ℕ, ◌-ℤ◌, ◌*ℤ◌, ◌+ℤ◌, ℤ, pos, Bool, cond, ◌&&◌, ◌||◌, nat_lt, ◌==◌, int_lt, List, [], ◌∷◌, Option, Some, None}
use Rattle.plane_base.specs.Plane.{Point, turn}

-- above 0 where the turn from a over c to p is less than a quarter, below 0 where it is more
abbrev pub reach : Point → Point → Point → ℤ
reach c a p = ((a.x -ℤ c.x) *ℤ (p.x -ℤ c.x)) +ℤ ((a.y -ℤ c.y) *ℤ (p.y -ℤ c.y))

-- the turn that leads from a to p round c, above 0 to the left: where one turns clockwise, to the right
abbrev pub turned : Bool → Point → Point → Point → ℤ
turned clockwise c a p = cond clockwise (turn c p a) (turn c a p)

-- By how much one turns round c from a until p is met: less than half (1), half (2), more than half (3), or all round (4).
abbrev pub half_turns : Bool → Point → Point → Point → ℕ
half_turns clockwise c a p =
    cond (int_lt (pos 0) (turned clockwise c a p)) 1
    (cond (int_lt (turned clockwise c a p) (pos 0)) 3 (cond (int_lt (reach c a p) (pos 0)) 2 4))

-- turning round c from a, one meets p before r
abbrev pub is_met_before : Bool → Point → Point → Point → Point → Bool
is_met_before clockwise c a p r =
    nat_lt (half_turns clockwise c a p) (half_turns clockwise c a r)
    || ((half_turns clockwise c a p == half_turns clockwise c a r) && int_lt (pos 0) (turned clockwise c p r))

-- of two points that which is met first
abbrev pub met_first : Bool → Point → Point → Point → Option Point → Point
met_first clockwise c a p None = p
met_first clockwise c a p (Some r) = cond (is_met_before clockwise c a r p) r p

-- the first point of the list that is met
abbrev pub first_by_turn : Bool → Point → Point → List Point → Option Point
first_by_turn clockwise c a [] = None
first_by_turn clockwise c a (p ∷ ps) = Some (met_first clockwise c a p (first_by_turn clockwise c a ps))
