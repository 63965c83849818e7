-- What a call that tells relations says and leaves.
use Rattle.std.specs.Prelude.{if◌then◌else◌, ◌≡◌, ◌⊎◌, ℕ, ℤ, pos, negsuc, Bool, List}
use Rattle.polygon_overlay.specs.declared.relate.Relations.{Relations}
use Rattle.polygon_c.specs.Answers.{IsNotRelated, IsRefused, AnswersRelations}
use Rattle.plane_base.specs.Plane.{Point}
use Rattle.polygon_c.specs.Given.{Given, plane_point, wide_plane_point}
use Rattle.polygon_c.specs.Refusals.{status_of, wide_status_of}
use Rattle.polygon_c.specs.declared.given.CPoint.{CPoint}
use Rattle.polygon_c.specs.declared.given.CPoint64.{CPoint64}
use Rattle.polygon_c.specs.declared.refusal.Refusal.{Refusal}
use Rattle.polygon_c.specs.declared.relate.CRelations.{CRelations}

-- 1 where it is so, else 0
abbrev pub flag : Bool → ℕ
flag is_so = if is_so then 1 else 0

abbrev pub flags_of : Relations → CRelations
flags_of r = record {
  intersects = flag r.intersects;
  interiors_intersect = flag r.interiors_intersect;
  touches = flag r.touches;
  point_intersects = flag r.point_intersects;
  within = flag r.within;
  disjoint = flag r.disjoint;
  covers = flag r.covers;
}

-- The relations are told, with status 0; or they stay as they were, for the reason that the status tells.
abbrev pub IsRelateCallIn : {P : Type 0} → (Refusal → ℕ) → (P → Point) → ℤ → ℤ → List ℕ → Given P → CRelations → CRelations → ℕ → Type 0
IsRelateCallIn number plane least greatest q g old new status =
    ((status ≡ 0) × ((relations : Relations) × AnswersRelations plane least greatest q g relations × (new ≡ flags_of relations)))
    ⊎ ((why : Refusal) × (status ≡ number why) × IsRefused plane least greatest IsNotRelated q g why × (new ≡ old))

abbrev pub IsRelateCall : List ℕ → Given CPoint → CRelations → CRelations → ℕ → Type 0
IsRelateCall = IsRelateCallIn status_of plane_point (negsuc 524287) (pos 524287)

abbrev pub IsWideRelateCall : List ℕ → Given CPoint64 → CRelations → CRelations → ℕ → Type 0
IsWideRelateCall = IsRelateCallIn wide_status_of wide_plane_point (negsuc 68719476735) (pos 68719476735)
