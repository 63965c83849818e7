-- What is held winds as what was given.
use Rattle.std.proofs.Common.{◌≡◌, Bool, true, false, List, [], ◌∷◌, ◌+ℤ◌, refl, sym, ap, ◌∙◌}
use Rattle.std.specs.List.{AllZip}
use Rattle.plane_base.specs.Plane.{Point, RationalPoint}
use Rattle.plane_base.specs.Laws.{ThinnedWindsAsContour}
use Rattle.plane_base.specs.Windings.{winding, contour_winding}
use Rattle.plane_base.proofs.Facts.Windings.Sums.{contour_winding_append, winding_given_by_contours, winding_normal}
use Rattle.segment_split.specs.Adding.{IsTaken}
use Rattle.polygon_overlay.specs.GivenLaws.{HeldWindsAsGiven}
use Rattle.polygon_overlay.proofs.Holding.GivenOrderLaws.{normal_held}

module _ (thin : ThinnedWindsAsContour) where
  one_taken : (keep_all : Bool) (x y : List Point) (p : RationalPoint) → IsTaken keep_all x y → contour_winding (y ∷ []) p ≡ contour_winding (x ∷ []) p
  one_taken true x y p same = ap (λ c. contour_winding (c ∷ []) p) same
  one_taken false x y p thinned = thin x y p thinned

  all_taken : (keep_all : Bool) (contours taken : List (List Point)) (p : RationalPoint) → AllZip (IsTaken keep_all) contours taken → contour_winding taken p ≡ contour_winding contours p
  all_taken keep_all [] [] p zip = refl
  all_taken keep_all [] (y ∷ ys) p zip = absurd zip
  all_taken keep_all (x ∷ xs) [] p zip = absurd zip
  all_taken keep_all (x ∷ xs) (y ∷ ys) p zip =
      contour_winding_append (y ∷ []) ys p
      ∙ (ap (λ n. n +ℤ contour_winding ys p) (one_taken keep_all x y p zip.0)
      ∙ (ap (λ n. contour_winding (x ∷ []) p +ℤ n) (all_taken keep_all xs ys p zip.1)
      ∙ sym (contour_winding_append (x ∷ []) xs p)))

  pub held_winds_as_given : HeldWindsAsGiven
  held_winds_as_given keep_all subjects clips held p h =
      sym (winding_normal held p)
      ∙ (ap (λ es. winding es p) (normal_held keep_all subjects clips held h)
      ∙ (winding_given_by_contours h.taken_subjects h.taken_clips p
      ∙ (λ i. record {
        subject = all_taken keep_all subjects h.taken_subjects p h.are_subjects i;
        clip = all_taken keep_all clips h.taken_clips p h.are_clips i;
      })))
