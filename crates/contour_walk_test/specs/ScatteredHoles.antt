-- Shapes, and holes that are joined to them.
use Rattle.std.specs.Prelude.{ℤ, pos, negsuc, List, [], ◌∷◌}
use Rattle.plane_base.specs.Plane.{Point}

abbrev pub at : ℤ → ℤ → Point
at x y = record { x = x; y = y }

-- the squares 0 0 .. 20 20, 30 0 .. 50 20 beside it, and 0 30 .. 20 50 above it
abbrev pub three_squares : List (List (List Point))
three_squares =
    ((at (pos 0) (pos 20) ∷ at (pos 0) (pos 0) ∷ at (pos 20) (pos 0) ∷ at (pos 20) (pos 20) ∷ []) ∷ [])
    ∷ ((at (pos 30) (pos 20) ∷ at (pos 30) (pos 0) ∷ at (pos 50) (pos 0) ∷ at (pos 50) (pos 20) ∷ []) ∷ [])
    ∷ ((at (pos 0) (pos 50) ∷ at (pos 0) (pos 30) ∷ at (pos 20) (pos 30) ∷ at (pos 20) (pos 50) ∷ []) ∷ []) ∷ []

-- A hole of the first square over another one, one of the square above, one of that beside, and the one below the first.
abbrev pub four_holes : List (List Point)
four_holes =
    (at (pos 6) (pos 12) ∷ at (pos 6) (pos 17) ∷ at (pos 11) (pos 12) ∷ [])
    ∷ (at (pos 5) (pos 35) ∷ at (pos 5) (pos 40) ∷ at (pos 10) (pos 35) ∷ [])
    ∷ (at (pos 35) (pos 5) ∷ at (pos 35) (pos 10) ∷ at (pos 40) (pos 5) ∷ [])
    ∷ (at (pos 5) (pos 5) ∷ at (pos 5) (pos 10) ∷ at (pos 10) (pos 5) ∷ []) ∷ []

-- the square 0 0 .. 100 100 without the square 20 20 .. 40 40, and the square 25 25 .. 35 35 within that
abbrev pub framed_square : List (List (List Point))
framed_square =
    ((at (pos 0) (pos 100) ∷ at (pos 0) (pos 0) ∷ at (pos 100) (pos 0) ∷ at (pos 100) (pos 100) ∷ [])
    ∷ (at (pos 20) (pos 20) ∷ at (pos 20) (pos 40) ∷ at (pos 40) (pos 40) ∷ at (pos 40) (pos 20) ∷ []) ∷ [])
    ∷ ((at (pos 25) (pos 35) ∷ at (pos 25) (pos 25) ∷ at (pos 35) (pos 25) ∷ at (pos 35) (pos 35) ∷ []) ∷ []) ∷ []

-- a hole over the hole that is there
abbrev pub hole_above : List (List Point)
hole_above = (at (pos 28) (pos 60) ∷ at (pos 28) (pos 70) ∷ at (pos 32) (pos 70) ∷ at (pos 32) (pos 60) ∷ []) ∷ []

-- the squares 0 0 .. 20 20 and 30 0 .. 50 20
abbrev pub apart_squares : List (List (List Point))
apart_squares =
    ((at (pos 0) (pos 20) ∷ at (pos 0) (pos 0) ∷ at (pos 20) (pos 0) ∷ at (pos 20) (pos 20) ∷ []) ∷ [])
    ∷ ((at (pos 30) (pos 20) ∷ at (pos 30) (pos 0) ∷ at (pos 50) (pos 0) ∷ at (pos 50) (pos 20) ∷ []) ∷ []) ∷ []

-- a hole below the second square, and one below that
abbrev pub holes_outside : List (List Point)
holes_outside =
    (at (pos 35) (negsuc 9) ∷ at (pos 35) (negsuc 4) ∷ at (pos 40) (negsuc 9) ∷ [])
    ∷ (at (pos 34) (negsuc 19) ∷ at (pos 34) (negsuc 14) ∷ at (pos 44) (negsuc 19) ∷ []) ∷ []
