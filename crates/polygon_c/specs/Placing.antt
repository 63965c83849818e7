-- What a call that tells where points lie says and leaves.
use Rattle.std.specs.Prelude.{◌≡◌, ◌⊎◌, ℕ, ℤ, pos, negsuc, List, map, length, cond}
use Rattle.plane_base.specs.Plane.{Point}
use Rattle.segment_arrangement.specs.FanLaws.{whole}
use Rattle.contour_walk.specs.BindingLaws.{all_contours}
use Rattle.polygon_overlay.specs.Location.{in_shapes, is_on_edge}
use Rattle.polygon_c.specs.Containing.{cut_shapes, AreFit, IsContainRefused}
use Rattle.polygon_c.specs.Flat.{Arrays, Begins}
use Rattle.polygon_c.specs.Given.{plane_points, plane_point, wide_plane_point}
use Rattle.polygon_c.specs.Refusals.{status_of, wide_status_of}
use Rattle.polygon_c.specs.Relating.{flag}
use Rattle.polygon_c.specs.declared.given.CPoint.{CPoint}
use Rattle.polygon_c.specs.declared.given.CPoint64.{CPoint64}
use Rattle.polygon_c.specs.declared.refusal.Refusal.{Refusal}

-- 2 on an edge of a contour, else 1 in one of the shapes, else 0
abbrev pub place_of : List (List (List Point)) → Point → ℕ
place_of shapes p = cond (is_on_edge (all_contours shapes) (whole p)) 2 (flag (in_shapes shapes (whole p)))

-- All tests are passed, and a number for each point tells where it lies.
pub record AnswersPlaces {P : Type 0} (plane : P → Point) (least greatest : ℤ) (a : Arrays P) (places : List P) (room : ℕ) (numbers : List ℕ) : Type 0 where
  pub fit : AreFit plane least greatest a places room
  pub are : numbers ≡ map (place_of (cut_shapes plane a)) (plane_points plane places)

-- The numbers are written over the beginning of the array, with status 0; or it stays as it was, for the reason that the status tells.
abbrev pub IsLocateCallIn : {P : Type 0} → (Refusal → ℕ) → (P → Point) → ℤ → ℤ → Arrays P → List P → List ℕ → List ℕ → ℕ → Type 0
IsLocateCallIn number plane least greatest a places old new status =
    ((status ≡ 0) × ((numbers : List ℕ) × AnswersPlaces plane least greatest a places (length old) numbers × Begins numbers old new))
    ⊎ ((why : Refusal) × (status ≡ number why) × IsContainRefused plane least greatest a places (length old) why × (new ≡ old))

abbrev pub IsLocateCall : Arrays CPoint → List CPoint → List ℕ → List ℕ → ℕ → Type 0
IsLocateCall = IsLocateCallIn status_of plane_point (negsuc 524287) (pos 524287)

abbrev pub IsWideLocateCall : Arrays CPoint64 → List CPoint64 → List ℕ → List ℕ → ℕ → Type 0
IsWideLocateCall = IsLocateCallIn wide_status_of wide_plane_point (negsuc 68719476735) (pos 68719476735)
