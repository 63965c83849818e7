-- What is sized again.
use Rattle.std.proofs.Common.{◌≡◌, ◌⊎◌, inl, inr, List, ℤ, pos}
use Rattle.plane_base.specs.Plane.{Point, RationalPoint, IsRational}
use Rattle.plane_base.specs.Windings.{contour_winding}
use Rattle.plane_base.specs.Regions.{Positive}
use Rattle.polygon_overlay.specs.Sizing.{Amounts, IsSizedAcross, exchanged, IsSized, IsFilledBy, WindWhere}
use Rattle.polygon_overlay.specs.SizingLaws.{FillJust}
use Rattle.polygon_overlay.proofs.Sized.Laws.{sized_alike}

pub sized_by_alike : (by : Amounts) (F G : RationalPoint → Type 0) → ((m : RationalPoint) → IsRational m → F m → G m) → (p : RationalPoint) → IsSized by F p
    → IsSized by G p
sized_by_alike by F G goes p h =
    sized_alike by.bottom by.top (λ m. IsSizedAcross by.left by.right F (exchanged m)) (λ m. IsSizedAcross by.left by.right G (exchanged m)) (exchanged p)
    (λ m some. sized_alike by.left by.right F G (exchanged m) goes) h

-- a point lies inside, or it doesn't
abbrev Told : ℤ → (RationalPoint → Type 0) → List (List Point) → RationalPoint → Type 0
Told turns Inside contours p = (Inside p × (contour_winding contours p ≡ turns)) ⊎ ((Inside p → ⊥) × (contour_winding contours p ≡ pos 0))

pub wind_alike : (turns : ℤ) (In Inside : RationalPoint → Type 0) (contours : List (List Point))
    → ((p : RationalPoint) → IsRational p → (In p → Inside p) × (Inside p → In p)) → WindWhere turns In contours → WindWhere turns Inside contours
wind_alike turns In Inside contours alike wind p some = by (wind p some)
  where
    by : Told turns In contours p → Told turns Inside contours p
    by (inl (h, e)) = inl ((alike p some).0 h, e)
    by (inr (off, e)) = inr (λ h. off ((alike p some).1 h), e)

pub fill_in_turn : (first second : Amounts) (F : RationalPoint → Type 0) (shifted again : List (List Point)) → FillJust (IsSized first F) shifted
    → FillJust (IsSized second (IsFilledBy Positive shifted)) again → FillJust (IsSized second (IsSized first F)) again
fill_in_turn first second F shifted again one two = record {
  fills = λ p some. (
    λ h. (two.fills p some).0 (sized_by_alike second (IsSized first F) (IsFilledBy Positive shifted) (λ m k. (one.fills m k).0) p h),
    λ h. sized_by_alike second (IsFilledBy Positive shifted) (IsSized first F) (λ m k. (one.fills m k).1) p ((two.fills p some).1 h),
  );
  straight = two.straight;
}
