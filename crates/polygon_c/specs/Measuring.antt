-- What a call that tells the area of a contour says and leaves.
use Rattle.std.specs.Int.{w128, cast_unsigned}
use Rattle.std.specs.Prelude.{◌≡◌, ◌⊎◌, ℕ, ℤ, pos, negsuc, ◌+◌, ◌*◌, ◌^◌, List}
use Rattle.plane_base.specs.Areas.{area}
use Rattle.plane_base.specs.Plane.{Point}
use Rattle.polygon_c.specs.Given.{plane_points, AreInRange, plane_point, wide_plane_point}
use Rattle.polygon_c.specs.Refusals.{status_of, wide_status_of}
use Rattle.polygon_c.specs.declared.area.Wide.{Wide}
use Rattle.polygon_c.specs.declared.given.CPoint.{CPoint}
use Rattle.polygon_c.specs.declared.given.CPoint64.{CPoint64}
use Rattle.polygon_c.specs.declared.refusal.Refusal.{Refusal}
use Rattle.polygon_c.specs.declared.refusal.Refusal.TheVariants as refusal

-- The points are in range, and both halves together are twice the signed area in two's complement.
pub record IsAreaOf {P : Type 0} (plane : P → Point) (least greatest : ℤ) (points : List P) (halves : Wide) : Type 0 where
  pub in_range : AreInRange plane least greatest points
  pub is : halves.low + halves.high * 2 ^ 64 ≡ cast_unsigned w128 (area (plane_points plane points))

-- A point is out of range; or memory, which may always be refused.
abbrev pub IsUnmeasured : {P : Type 0} → (P → Point) → ℤ → ℤ → List P → Refusal → Type 0
IsUnmeasured plane least greatest points refusal.Range = AreInRange plane least greatest points → ⊥
IsUnmeasured plane least greatest points refusal.Memory = AreInRange plane least greatest points
IsUnmeasured plane least greatest points refusal.Count = ⊥
IsUnmeasured plane least greatest points refusal.Edges = ⊥
IsUnmeasured plane least greatest points refusal.Rule = ⊥
IsUnmeasured plane least greatest points refusal.Fill = ⊥
IsUnmeasured plane least greatest points refusal.Strategy = ⊥
IsUnmeasured plane least greatest points refusal.Precision = ⊥
IsUnmeasured plane least greatest points refusal.Lengths = ⊥
IsUnmeasured plane least greatest points refusal.Room = ⊥
IsUnmeasured plane least greatest points refusal.Size = ⊥
IsUnmeasured plane least greatest points refusal.Join = ⊥
IsUnmeasured plane least greatest points refusal.Slant = ⊥

-- The area is told, with status 0; or it stays as it was, for the reason that the status tells.
abbrev pub IsAreaCallIn : {P : Type 0} → (Refusal → ℕ) → (P → Point) → ℤ → ℤ → List P → Wide → Wide → ℕ → Type 0
IsAreaCallIn number plane least greatest points old new status =
    ((status ≡ 0) × IsAreaOf plane least greatest points new)
    ⊎ ((why : Refusal) × (status ≡ number why) × IsUnmeasured plane least greatest points why × (new ≡ old))

abbrev pub IsAreaCall : List CPoint → Wide → Wide → ℕ → Type 0
IsAreaCall = IsAreaCallIn status_of plane_point (negsuc 524287) (pos 524287)

abbrev pub IsWideAreaCall : List CPoint64 → Wide → Wide → ℕ → Type 0
IsWideAreaCall = IsAreaCallIn wide_status_of wide_plane_point (negsuc 68719476735) (pos 68719476735)
