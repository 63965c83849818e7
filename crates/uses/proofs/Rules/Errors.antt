-- What an inner mask, grown, has without an outer one are the errors of its enclosure.
use Rattle.std.proofs.Common.{◌≡◌, ◌⊎◌, inl, inr, List, ℤ, pos, ◌≤ℤ◌, true, refl, sym, ap, ◌∙◌}
use Rattle.std.proofs.lemmas.Bool.{false≢true}
use Rattle.polygon_overlay.specs.BindingLaws.{all_contours}
use Rattle.polygon_overlay.specs.Builders.{default_options, default_precision}
use Rattle.polygon_overlay.specs.Checks.{GrownIsNear, evenly}
use Rattle.polygon_overlay.specs.Plane.{Point, RationalPoint, IsRational}
use Rattle.polygon_overlay.specs.Regions.{NonZero, is_filled}
use Rattle.polygon_overlay.specs.Sizing.{IsSized, IsFilledBy, WindWhere}
use Rattle.polygon_overlay.specs.SizingCalls.{AreSized}
use Rattle.polygon_overlay.specs.Tiles.{AreRectilinear}
use Rattle.polygon_overlay.specs.Windings.{contour_winding}
use Rattle.uses.specs.Rules.{IsEnclosureError, AreRest, AreEnclosureErrors}

-- Each rational point lies in the region, or it doesn't.
abbrev Told : ℤ → (RationalPoint → Type 0) → List (List Point) → RationalPoint → Type 0
Told turns Inside contours p = (Inside p × (contour_winding contours p ≡ turns)) ⊎ ((Inside p → ⊥) × (contour_winding contours p ≡ pos 0))

filled_where : (Inside : RationalPoint → Type 0) (contours : List (List Point)) → WindWhere (pos 1) Inside contours → (p : RationalPoint) → IsRational p
    → (IsFilledBy NonZero contours p → Inside p) × (Inside p → IsFilledBy NonZero contours p)
filled_where Inside contours wind p some = by (wind p some)
  where
    by : Told (pos 1) Inside contours p → (IsFilledBy NonZero contours p → Inside p) × (Inside p → IsFilledBy NonZero contours p)
    by (inl (h, e)) = (λ f. h, λ k. ap (is_filled NonZero) e)
    by (inr (off, e)) = (λ f. absurd (false≢true (sym (ap (is_filled NonZero) e) ∙ f)), λ h. absurd (off h))

wind_alike : (In Inside : RationalPoint → Type 0) (contours : List (List Point))
    → ((p : RationalPoint) → IsRational p → (In p → Inside p) × (Inside p → In p)) → WindWhere (pos 1) In contours → WindWhere (pos 1) Inside contours
wind_alike In Inside contours alike wind p some = by (wind p some)
  where
    by : Told (pos 1) In contours p → Told (pos 1) Inside contours p
    by (inl (h, e)) = inl ((alike p some).0 h, e)
    by (inr (off, e)) = inr (λ h. off ((alike p some).1 h), e)

pub are_enclosure_errors : GrownIsNear → (least greatest distance : ℤ) → pos 0 ≤ℤ distance → (inner outer : List (List Point)) → AreRectilinear inner
    → (grown shapes : List (List (List Point))) → AreSized least greatest (evenly distance) default_options NonZero default_precision inner grown
    → AreRest (all_contours grown) outer shapes → AreEnclosureErrors distance inner outer shapes
are_enclosure_errors near least greatest distance some_distance inner outer straight grown shapes sized =
    wind_alike (λ p. IsFilledBy NonZero (all_contours grown) p × (IsFilledBy NonZero outer p → ⊥))
    (IsEnclosureError distance (IsFilledBy NonZero inner) (IsFilledBy NonZero outer)) (all_contours shapes)
    (λ p some. let filled = filled_where (IsSized (evenly distance) (IsFilledBy NonZero inner)) (all_contours grown) (sized.winds refl) p some in
    let by_near = near distance NonZero inner p some_distance straight some in (
      λ h. record { near = by_near.0 (filled.0 h.0); outside = h.1 },
      λ h. (filled.1 (by_near.1 h.near), h.outside),
    ))
