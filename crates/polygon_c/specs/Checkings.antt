-- What calls that check a mask say and leave.
use Rattle.std.specs.Prelude.{ℕ, ℤ, pos, negsuc, List}
use Rattle.plane_base.specs.Plane.{Point}
use Rattle.plane_base.specs.declared.fault.Fault.{Fault}
use Rattle.segment_arrangement.specs.RuleViews.{fill_rule_of}
use Rattle.polygon_overlay.specs.CheckCalls.{AreWidthErrors, AreSpaceErrors, AreNoWidthErrors, AreNoSpaceErrors}
use Rattle.polygon_overlay.specs.Checks.{IsSide, evenly}
use Rattle.polygon_overlay.specs.SizingCalls.{Fits}
use Rattle.polygon_c.specs.Flat.{Arrays}
use Rattle.polygon_c.specs.Given.{Given, plane_point, c_point, wide_plane_point, wide_c_point}
use Rattle.polygon_c.specs.Refusals.{status_of, wide_status_of}
use Rattle.polygon_c.specs.Sizings.{AnswersOfMask, IsUntoldOfMask, IsCallIn}
use Rattle.polygon_c.specs.declared.given.CPoint.{CPoint}
use Rattle.polygon_c.specs.declared.given.CPoint64.{CPoint64}
use Rattle.polygon_c.specs.declared.overlay.Sizes.{Sizes}
use Rattle.polygon_c.specs.declared.query.Request.{Request}
use Rattle.polygon_c.specs.declared.refusal.Refusal.{Refusal}

-- ---- the engine

-- The side is one, and all points keep so far from the ends of the range.
pub record CanBeChecked (least greatest side : ℤ) (contours : List (List Point)) : Type 0 where
  pub is_side : IsSide least greatest side
  pub room : Fits least greatest (evenly side) contours

-- where the region of the contours is narrower than a width, with all that the engine promises of it
abbrev pub AreWidthsOf : ℤ → ℤ → ℤ → Request → List (List Point) → List (List (List Point)) → Type 0
AreWidthsOf least greatest width r contours shapes =
    AreWidthErrors least greatest width r.options (fill_rule_of r.fill_rule) r.solver.precision contours shapes

abbrev pub AreWidthsRefused : ℤ → ℤ → ℤ → Request → List (List Point) → Fault → Type 0
AreWidthsRefused least greatest width r contours fault =
    AreNoWidthErrors least greatest width r.options (fill_rule_of r.fill_rule) r.solver.precision contours fault

-- where it is nearer to itself than a space
abbrev pub AreSpacesOf : ℤ → ℤ → ℤ → Request → List (List Point) → List (List (List Point)) → Type 0
AreSpacesOf least greatest space r contours shapes =
    AreSpaceErrors least greatest space r.options (fill_rule_of r.fill_rule) r.solver.precision contours shapes

abbrev pub AreSpacesRefused : ℤ → ℤ → ℤ → Request → List (List Point) → Fault → Type 0
AreSpacesRefused least greatest space r contours fault =
    AreNoSpaceErrors least greatest space r.options (fill_rule_of r.fill_rule) r.solver.precision contours fault

-- ---- calls

abbrev pub AnswersWidths : {P : Type 0} → (P → Point) → (Point → P) → ℤ → ℤ → ℤ → List ℕ → Given P → Arrays P → Type 0
AnswersWidths plane at least greatest width q g answer =
    AnswersOfMask plane at least greatest (CanBeChecked least greatest width) (AreWidthsOf least greatest width) q g answer

abbrev pub AreNoWidths : {P : Type 0} → (P → Point) → ℤ → ℤ → ℤ → List ℕ → Given P → Refusal → Type 0
AreNoWidths plane least greatest width q g why =
    IsUntoldOfMask plane least greatest (CanBeChecked least greatest width) (AreWidthsRefused least greatest width) q g why

abbrev pub AnswersSpaces : {P : Type 0} → (P → Point) → (Point → P) → ℤ → ℤ → ℤ → List ℕ → Given P → Arrays P → Type 0
AnswersSpaces plane at least greatest space q g answer =
    AnswersOfMask plane at least greatest (CanBeChecked least greatest space) (AreSpacesOf least greatest space) q g answer

abbrev pub AreNoSpaces : {P : Type 0} → (P → Point) → ℤ → ℤ → ℤ → List ℕ → Given P → Refusal → Type 0
AreNoSpaces plane least greatest space q g why =
    IsUntoldOfMask plane least greatest (CanBeChecked least greatest space) (AreSpacesRefused least greatest space) q g why

abbrev pub IsWidthCall : ℤ → List ℕ → Given CPoint → Arrays CPoint → Arrays CPoint → Sizes → Sizes → ℕ → Type 0
IsWidthCall width q g =
    IsCallIn status_of (AnswersWidths plane_point c_point (negsuc 524287) (pos 524287) width q g) (AreNoWidths plane_point (negsuc 524287) (pos 524287) width q g)

abbrev pub IsWideWidthCall : ℤ → List ℕ → Given CPoint64 → Arrays CPoint64 → Arrays CPoint64 → Sizes → Sizes → ℕ → Type 0
IsWideWidthCall width q g =
    IsCallIn wide_status_of (AnswersWidths wide_plane_point wide_c_point (negsuc 68719476735) (pos 68719476735) width q g)
    (AreNoWidths wide_plane_point (negsuc 68719476735) (pos 68719476735) width q g)

abbrev pub IsSpaceCall : ℤ → List ℕ → Given CPoint → Arrays CPoint → Arrays CPoint → Sizes → Sizes → ℕ → Type 0
IsSpaceCall space q g =
    IsCallIn status_of (AnswersSpaces plane_point c_point (negsuc 524287) (pos 524287) space q g) (AreNoSpaces plane_point (negsuc 524287) (pos 524287) space q g)

abbrev pub IsWideSpaceCall : ℤ → List ℕ → Given CPoint64 → Arrays CPoint64 → Arrays CPoint64 → Sizes → Sizes → ℕ → Type 0
IsWideSpaceCall space q g =
    IsCallIn wide_status_of (AnswersSpaces wide_plane_point wide_c_point (negsuc 68719476735) (pos 68719476735) space q g)
    (AreNoSpaces wide_plane_point (negsuc 68719476735) (pos 68719476735) space q g)
