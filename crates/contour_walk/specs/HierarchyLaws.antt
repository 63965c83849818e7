-- What the links of a hierarchy keep to.
use Rattle.std.specs.Prelude.{◌≢◌, Bool, List, AllPairs}
use Rattle.plane_base.specs.Plane.{Point}
use Rattle.contour_walk.specs.Hierarchy.{child_links}

-- Each shape is a child once at most.
abbrev pub EachShapeIsAChildOnce : Type 0
EachShapeIsAChildOnce =
    (clockwise : Bool) (shapes : List (List (List Point))) → AllPairs (λ k l. k.child_shape_index ≢ l.child_shape_index) (child_links clockwise shapes)
