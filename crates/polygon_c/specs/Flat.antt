-- Shapes laid flat, and arrays that lists are written over.
use Rattle.std.specs.Prelude.{◌≡◌, ◌⊎◌, ℕ, ◌<◌, List, [], ◌++◌, length, drop, map, flat_map}
use Rattle.plane_base.specs.Plane.{Point}
use Rattle.contour_walk.specs.BindingLaws.{all_contours}
use Rattle.polygon_c.specs.Refusals.{status_of}
use Rattle.polygon_c.specs.declared.laid.Laid.{Laid}
use Rattle.polygon_c.specs.declared.overlay.Sizes.{Sizes}
use Rattle.polygon_c.specs.declared.refusal.Refusal.TheVariants.{Room}

-- points, how many of them each contour has, and how many contours each shape has
pub record Arrays (P : Type 0) : Type 0 where
  pub points : List P
  pub contours : List ℕ
  pub shapes : List ℕ

abbrev pub arrays : {P : Type 0} → List P → List ℕ → List ℕ → Arrays P
arrays points contours shapes = record { points = points; contours = contours; shapes = shapes }

-- the points of contours as C has them, one contour after the other
abbrev pub flat_points : {P : Type 0} → (Point → P) → List (List Point) → List P
flat_points at contours = flat_map (λ contour. map at contour) contours

-- shapes, one after the other; in each the outline comes before its holes
abbrev pub flat : {P : Type 0} → (Point → P) → List (List (List Point)) → Arrays P
flat at shapes = arrays (flat_points at (all_contours shapes)) (map length (all_contours shapes)) (map length shapes)

-- paths that are no shapes, one after the other
abbrev pub flat_paths : {P : Type 0} → (Point → P) → List (List Point) → Arrays P
flat_paths at paths = arrays (flat_points at paths) (map length paths) []

abbrev pub lists_of : {P : Type 0} → Laid P → Arrays P
lists_of laid = arrays laid.points.items laid.contours.items laid.shapes.items

-- how long the three are
abbrev pub sizes_of : {P : Type 0} → Arrays P → Sizes
sizes_of a = record { points = length a.points; contours = length a.contours; shapes = length a.shapes }

-- ---- written

-- The array begins with the list, and has behind it what it had.
abbrev pub Begins : {A : Type 0} → List A → List A → List A → Type 0
Begins list old new = new ≡ list ++ drop (length list) old

-- Each of the three begins so.
pub record AreWritten {P : Type 0} (answer old new : Arrays P) : Type 0 where
  pub points : Begins answer.points old.points new.points
  pub contours : Begins answer.contours old.contours new.contours
  pub shapes : Begins answer.shapes old.shapes new.shapes

-- One of the three has no room for the answer.
abbrev pub LackRoom : {P : Type 0} → Arrays P → Arrays P → Type 0
LackRoom answer room =
    (length room.points < length answer.points) ⊎ (length room.contours < length answer.contours) ⊎ (length room.shapes < length answer.shapes)

-- An answer is written, with status 0; or an array has no room for it, and the status says so.
abbrev pub HandsOut : {P : Type 0} → Arrays P → Arrays P → Arrays P → ℕ → Type 0
HandsOut answer old new status = ((status ≡ 0) × AreWritten answer old new) ⊎ ((status ≡ status_of Room) × LackRoom answer old)
