-- What private contracts say of a path whose points are kept and found in a map.
use Rattle.std.specs.Prelude.{◌≡◌, ℕ, List, map, filter, Some}
use Rattle.std.specs.BTreeMap.{BTreeMap, get_by}
use Rattle.plane_base.specs.Plane.{Point, point_order}
use Rattle.contour_walk.specs.Loops.{place_of, is_long, loops_from}

-- The map has the place of each point that is kept. It may have places of others.
abbrev pub AreKnown : {K : Type 0} → (K → Point) → BTreeMap K ℕ → List K → Type 0
AreKnown {K} view places kept = (q : K) (i : ℕ) → place_of (view q) (map view kept) ≡ Some i → get_by (λ k. point_order (view q) (view k)) places ≡ Some i

-- the long loops that a path cuts out where it goes on from what is kept
abbrev pub long_from : ℕ → List Point → List Point → List (List Point)
long_from least kept rest = filter (is_long least) (loops_from kept rest)
