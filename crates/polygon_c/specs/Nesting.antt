-- What a call for an overlay with its hierarchy says and leaves.
use Rattle.std.specs.Prelude.{◌≡◌, ◌⊎◌, ℕ, ℤ, ◌<◌, pos, negsuc, List, length, map}
use Rattle.plane_base.specs.Plane.{Point}
use Rattle.plane_base.specs.Counts.{Count, Entry}
use Rattle.segment_arrangement.specs.RuleViews.{fill_rule_of, overlay_rule_of}
use Rattle.contour_walk.specs.declared.hierarchy.ChildLink.{ChildLink}
use Rattle.polygon_overlay.specs.Builders.{HoldsBoth}
use Rattle.polygon_overlay.specs.Hierarchies.{IsHierarchy}
use Rattle.polygon_c.specs.Answers.{Passes, IsNotOverlaid, IsRefused}
use Rattle.polygon_c.specs.Flat.{Arrays, flat, AreWritten, LackRoom, Begins}
use Rattle.polygon_c.specs.Given.{Given, subjects_of, clips_of, plane_point, c_point, wide_plane_point, wide_c_point}
use Rattle.polygon_c.specs.Refusals.{status_of, wide_status_of}
use Rattle.polygon_c.specs.declared.given.CPoint.{CPoint}
use Rattle.polygon_c.specs.declared.given.CPoint64.{CPoint64}
use Rattle.polygon_c.specs.declared.hierarchy.CLink.{CLink}
use Rattle.polygon_c.specs.declared.hierarchy.LinkSizes.{LinkSizes}
use Rattle.polygon_c.specs.declared.query.Request.{Request}
use Rattle.polygon_c.specs.declared.refusal.Refusal.{Refusal}
use Rattle.polygon_c.specs.declared.refusal.Refusal.TheVariants.{Room}

abbrev pub c_link : ChildLink → CLink
c_link l = record { parent_shape = l.parent_shape_index; parent_contour = l.parent_contour_index; child_shape = l.child_shape_index }

-- The shapes are an overlay of the contours, and the links tell which of them lie in holes of others, as the engine promises it.
pub record IsHierarchyOf (least greatest : ℤ) (r : Request) (subjects clips : List (List Point)) (shapes : List (List (List Point))) (links : List ChildLink) : Type 0 where
  pub held : List (Entry Count)
  pub holds : HoldsBoth r.options.preserve_input_collinear subjects clips held
  pub is : IsHierarchy least greatest r.options (fill_rule_of r.fill_rule) (overlay_rule_of r.overlay_rule) r.solver.precision held shapes links

-- The lists are the flat form of the hierarchy that is asked for.
abbrev pub IsLaidHierarchy : {P : Type 0} → (P → Point) → (Point → P) → ℤ → ℤ → List ℕ → Given P → Arrays P → List CLink → Type 0
IsLaidHierarchy plane at least greatest q g answer c_links =
    (shapes : List (List (List Point))) × (links : List ChildLink)
    × ((r : Request) × Passes plane least greatest q g r × IsHierarchyOf least greatest r (subjects_of plane g) (clips_of plane g) shapes links)
    × (answer ≡ flat at shapes) × (c_links ≡ map c_link links)

-- how long the four are
abbrev pub link_sizes_of : {P : Type 0} → Arrays P → List CLink → LinkSizes
link_sizes_of a links = record { points = length a.points; contours = length a.contours; shapes = length a.shapes; links = length links }

-- An answer is written, with status 0; or an array has no room for it, and the status says so.
abbrev pub HandsOutLinks : {P : Type 0} → Arrays P → List CLink → Arrays P → Arrays P → List CLink → List CLink → ℕ → Type 0
HandsOutLinks answer links old new old_links new_links status =
    ((status ≡ 0) × AreWritten answer old new × Begins links old_links new_links)
    ⊎ ((status ≡ status_of Room) × (LackRoom answer old ⊎ (length old_links < length links)))

-- Either there is an answer: its sizes are told, and it is handed out, or finds no room. Or there is none for the reason that the
-- status tells, and the sizes stay as they were.
abbrev pub IsHierarchyCallIn : {P : Type 0} → (Refusal → ℕ) → (P → Point) → (Point → P) → ℤ → ℤ → List ℕ → Given P → Arrays P → Arrays P
    → List CLink → List CLink → LinkSizes → LinkSizes → ℕ → Type 0
IsHierarchyCallIn {P} number plane at least greatest q g old new old_links new_links sizes sizes' status =
    ((answer : Arrays P) × (links : List CLink) × IsLaidHierarchy plane at least greatest q g answer links × (sizes' ≡ link_sizes_of answer links)
    × HandsOutLinks answer links old new old_links new_links status)
    ⊎ ((why : Refusal) × (status ≡ number why) × IsRefused plane least greatest IsNotOverlaid q g why × (sizes' ≡ sizes))

abbrev pub IsHierarchyCall : List ℕ → Given CPoint → Arrays CPoint → Arrays CPoint → List CLink → List CLink → LinkSizes → LinkSizes → ℕ → Type 0
IsHierarchyCall = IsHierarchyCallIn status_of plane_point c_point (negsuc 524287) (pos 524287)

abbrev pub IsWideHierarchyCall : List ℕ → Given CPoint64 → Arrays CPoint64 → Arrays CPoint64 → List CLink → List CLink → LinkSizes → LinkSizes → ℕ → Type 0
IsWideHierarchyCall = IsHierarchyCallIn wide_status_of wide_plane_point wide_c_point (negsuc 68719476735) (pos 68719476735)
