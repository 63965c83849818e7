-- What holds of the ends of steps holds of the points that they lead through, and the other way round.
use Rattle.std.proofs.Common.{List, [], ◌∷◌, flat_map, All}
use Rattle.std.proofs.lemmas.List.Elements.{All-nil, All-cons, All-head, All-tail}
use Rattle.plane_base.specs.Plane.{Point, Edge}
use Rattle.plane_base.proofs.Facts.Lists.Cycles.{All-front, All-back}
use Rattle.contour_walk.specs.WalkLaws.{steps_to, contour_steps}
use Rattle.polygon_strings.specs.Clips.{path_steps}

module _ (P : Point → Type 0) where
  abbrev pub BothEnds : Edge → Type 0
  BothEnds s = P s.a × P s.b

  -- ---- from steps to points

  -- of a path of two points or more
  pub path_of_ends : (p r : Point) (rest : List Point) → All BothEnds (path_steps (p ∷ r ∷ rest)) → All P (p ∷ r ∷ rest)
  path_of_ends p r [] h =
      let ends = All-head BothEnds (record { a = p; b = r }) [] h in All-cons P p (r ∷ []) ends.0 (All-cons P r [] ends.1 (All-nil P))
  path_of_ends p r (u ∷ rest) h =
      let ends = All-head BothEnds (record { a = p; b = r }) (path_steps (r ∷ u ∷ rest)) h in
      All-cons P p (r ∷ u ∷ rest) ends.0 (path_of_ends r u rest (All-tail BothEnds (record { a = p; b = r }) (path_steps (r ∷ u ∷ rest)) h))

  round_of_ends : (first p : Point) (rest : List Point) → All BothEnds (steps_to first (p ∷ rest)) → All P (p ∷ rest)
  round_of_ends first p [] h = let ends = All-head BothEnds (record { a = p; b = first }) [] h in All-cons P p [] ends.0 (All-nil P)
  round_of_ends first p (r ∷ rest) h =
      let ends = All-head BothEnds (record { a = p; b = r }) (steps_to first (r ∷ rest)) h in
      All-cons P p (r ∷ rest) ends.0 (round_of_ends first r rest (All-tail BothEnds (record { a = p; b = r }) (steps_to first (r ∷ rest)) h))

  contour_of_ends : (points : List Point) → All BothEnds (contour_steps points) → All P points
  contour_of_ends [] h = All-nil P
  contour_of_ends (p ∷ rest) h = round_of_ends p p rest h

  pub contours_of_ends : (cs : List (List Point)) → All BothEnds (flat_map contour_steps cs) → All (All P) cs
  contours_of_ends [] h = All-nil (All P)
  contours_of_ends (c ∷ cs) h =
      All-cons (All P) c cs (contour_of_ends c (All-front BothEnds (contour_steps c) (flat_map contour_steps cs) h))
      (contours_of_ends cs (All-back BothEnds (contour_steps c) (flat_map contour_steps cs) h))

  -- ---- from points to steps

  round_between : (first p : Point) (rest : List Point) → P first → All P (p ∷ rest) → All BothEnds (steps_to first (p ∷ rest))
  round_between first p [] f h = All-cons BothEnds (record { a = p; b = first }) [] (All-head P p [] h, f) (All-nil BothEnds)
  round_between first p (r ∷ rest) f h =
      let others = All-tail P p (r ∷ rest) h in
      All-cons BothEnds (record { a = p; b = r }) (steps_to first (r ∷ rest)) (All-head P p (r ∷ rest) h, All-head P r rest others)
      (round_between first r rest f others)

  pub steps_between : (points : List Point) → All P points → All BothEnds (contour_steps points)
  steps_between [] h = All-nil BothEnds
  steps_between (p ∷ rest) h = round_between p p rest (All-head P p rest h) h
