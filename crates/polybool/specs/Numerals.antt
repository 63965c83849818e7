-- Numerals, and the points that pairs of them spell.
use Rattle.std.specs.Prelude.{if◌then◌else◌, ◌≡◌, ℕ, ◌+◌, ◌-◌, ◌*◌, ℤ, pos, neg_ℤ, ◌≤ℤ◌, Bool, ◌&&◌, nat_le, ◌==◌, List, [], ◌∷◌, Option, Some, None, fold}
use Rattle.std.specs.List.{list_all}
use Rattle.std.specs.Option.{option_map}
use Rattle.plane_base.specs.Plane.{Point}

abbrev pub is_digit : ℕ → Bool
is_digit d = nat_le 48 d && nat_le d 57

-- the number that digits spell, the first digit first
abbrev pub digits_value : List ℕ → ℕ
digits_value digits = fold (λ n d. n * 10 + (d - 48)) 0 digits

-- one digit or more
abbrev pub magnitude : List ℕ → Option ℕ
magnitude [] = None
magnitude (d ∷ ds) = if list_all is_digit (d ∷ ds) then Some (digits_value (d ∷ ds)) else None

-- The number that a word spells, if it is a numeral: a minus sign, byte 45, or none, and one digit or
-- more, however many.
abbrev pub numeral : List ℕ → Option ℤ
numeral [] = None
numeral (c ∷ cs) = if c == 45 then option_map (λ n. neg_ℤ (pos n)) (magnitude cs) else option_map pos (magnitude (c ∷ cs))

-- The digits spell this number, which is 1 to the greatest that an `i32` has.
abbrev pub IsDepth : List ℕ → ℤ → Type 0
IsDepth digits n = (option_map pos (magnitude digits) ≡ Some n) × (pos 1 ≤ℤ n) × (n ≤ℤ pos 2147483647)

-- a point before others, where all of these are there
abbrev pub with_point : Option ℤ → Option ℤ → Option (List Point) → Option (List Point)
with_point None y ps = None
with_point (Some x) None ps = None
with_point (Some x) (Some y) None = None
with_point (Some x) (Some y) (Some ps) = Some (record { x = x; y = y } ∷ ps)

-- The points that words spell, two numerals each. Other words spell none.
abbrev pub points_spelled : List (List ℕ) → Option (List Point)
points_spelled [] = Some []
points_spelled (x ∷ []) = None
points_spelled (x ∷ y ∷ ws) = with_point (numeral x) (numeral y) (points_spelled ws)
