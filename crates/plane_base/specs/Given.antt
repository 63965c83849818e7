-- The map that contours give.
use Rattle.std.specs.Prelude.{List, [], ◌∷◌, ◌++◌, flat_map}
use Rattle.plane_base.specs.Plane.{Point}
use Rattle.plane_base.specs.Counts.{Count, Entry, Counting, boolean, one_subject, one_clip, lay, normal}

-- what a path lays: each step from a point to the next
abbrev pub laid_path : {C : Type 0} → Counting C → C → List Point → List (Entry C)
laid_path kind c [] = []
laid_path kind c (p ∷ []) = []
laid_path kind c (p ∷ q ∷ rest) = lay kind p q c ++ laid_path kind c (q ∷ rest)

-- a contour's path, closed: from its first point round and back to it
abbrev pub closed : List Point → List Point
closed [] = []
closed (p ∷ rest) = (p ∷ rest) ++ (p ∷ [])

-- what a contour lays: each step from a point to the next, the last to the first
abbrev pub laid : {C : Type 0} → Counting C → C → List Point → List (Entry C)
laid kind c contour = laid_path kind c (closed contour)

-- the map that subject and clip contours give, with all their points
abbrev pub given : List (List Point) → List (List Point) → List (Entry Count)
given subjects clips = normal boolean (flat_map (laid boolean one_subject) subjects ++ flat_map (laid boolean one_clip) clips)
