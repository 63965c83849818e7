-- What a call that tells which points lie in shapes says and leaves.
use Rattle.std.specs.Prelude.{◌≡◌, ◌⊎◌, ℕ, ℤ, pos, negsuc, ◌<◌, ◌≤◌, Bool, List, map, length, sum}
use Rattle.plane_base.specs.Plane.{Point}
use Rattle.contour_walk.specs.BindingLaws.{all_contours}
use Rattle.polygon_overlay.specs.Location.{in_shapes, AreLocated}
use Rattle.polygon_c.specs.Cuts.{cut}
use Rattle.polygon_c.specs.Flat.{Arrays, Begins}
use Rattle.polygon_c.specs.Given.{plane_points, AreInRange, cut_contours, plane_point, wide_plane_point}
use Rattle.polygon_c.specs.Refusals.{status_of, wide_status_of}
use Rattle.polygon_c.specs.Relating.{flag}
use Rattle.polygon_c.specs.declared.given.CPoint.{CPoint}
use Rattle.polygon_c.specs.declared.given.CPoint64.{CPoint64}
use Rattle.polygon_c.specs.declared.refusal.Refusal.{Refusal}
use Rattle.polygon_c.specs.declared.refusal.Refusal.TheVariants as refusal

-- the shapes that lengths cut from contours, which lengths cut from points
abbrev pub cut_shapes : {P : Type 0} → (P → Point) → Arrays P → List (List (List Point))
cut_shapes plane a = cut a.shapes (cut_contours plane a.points a.contours)

-- Lengths sum to what they cut.
pub record AreShapesCut {P : Type 0} (a : Arrays P) : Type 0 where
  pub contours : sum a.contours ≡ length a.points
  pub shapes : sum a.shapes ≡ length a.contours

-- All points are in range, those of the shapes and those that are asked for.
pub record AreAllInRange {P : Type 0} (plane : P → Point) (least greatest : ℤ) (a : Arrays P) (places : List P) : Type 0 where
  pub shapes : AreInRange plane least greatest a.points
  pub places_are : AreInRange plane least greatest places

-- All tests are passed.
pub record AreFit {P : Type 0} (plane : P → Point) (least greatest : ℤ) (a : Arrays P) (places : List P) (room : ℕ) : Type 0 where
  pub cut_is : AreShapesCut a
  pub in_range : AreAllInRange plane least greatest a places
  pub has_room : length places ≤ room

-- A flag for each point tells whether it lies in one of the shapes, as the engine tells it.
abbrev pub AnswersPoints : {P : Type 0} → (P → Point) → ℤ → ℤ → Arrays P → List P → ℕ → List ℕ → Type 0
AnswersPoints plane least greatest a places room flags =
    AreFit plane least greatest a places room × ((answers : List Bool) × AreLocated (all_contours (cut_shapes plane a)) (in_shapes (cut_shapes plane a)) (plane_points plane places) answers
    × (flags ≡ map flag answers))

-- The first test that fails, in the order lengths, range, room; or memory, which may always be refused.
abbrev pub IsContainRefused : {P : Type 0} → (P → Point) → ℤ → ℤ → Arrays P → List P → ℕ → Refusal → Type 0
IsContainRefused plane least greatest a places room refusal.Lengths = AreShapesCut a → ⊥
IsContainRefused plane least greatest a places room refusal.Range = AreShapesCut a × (AreAllInRange plane least greatest a places → ⊥)
IsContainRefused plane least greatest a places room refusal.Room = AreShapesCut a × AreAllInRange plane least greatest a places × (room < length places)
IsContainRefused plane least greatest a places room refusal.Memory = AreFit plane least greatest a places room
IsContainRefused plane least greatest a places room refusal.Count = ⊥
IsContainRefused plane least greatest a places room refusal.Edges = ⊥
IsContainRefused plane least greatest a places room refusal.Rule = ⊥
IsContainRefused plane least greatest a places room refusal.Fill = ⊥
IsContainRefused plane least greatest a places room refusal.Strategy = ⊥
IsContainRefused plane least greatest a places room refusal.Precision = ⊥
IsContainRefused plane least greatest a places room refusal.Size = ⊥
IsContainRefused plane least greatest a places room refusal.Join = ⊥
IsContainRefused plane least greatest a places room refusal.Slant = ⊥

-- The flags are written over the beginning of the array, with status 0; or it stays as it was, for the reason that the status tells.
abbrev pub IsContainCallIn : {P : Type 0} → (Refusal → ℕ) → (P → Point) → ℤ → ℤ → Arrays P → List P → List ℕ → List ℕ → ℕ → Type 0
IsContainCallIn number plane least greatest a places old new status =
    ((status ≡ 0) × ((flags : List ℕ) × AnswersPoints plane least greatest a places (length old) flags × Begins flags old new))
    ⊎ ((why : Refusal) × (status ≡ number why) × IsContainRefused plane least greatest a places (length old) why × (new ≡ old))

abbrev pub IsContainCall : Arrays CPoint → List CPoint → List ℕ → List ℕ → ℕ → Type 0
IsContainCall = IsContainCallIn status_of plane_point (negsuc 524287) (pos 524287)

abbrev pub IsWideContainCall : Arrays CPoint64 → List CPoint64 → List ℕ → List ℕ → ℕ → Type 0
IsWideContainCall = IsContainCallIn wide_status_of wide_plane_point (negsuc 68719476735) (pos 68719476735)
