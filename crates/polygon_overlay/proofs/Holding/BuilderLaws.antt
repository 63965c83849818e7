-- What builders made of sources hold, and why one is refused.
use Rattle.std.specs.Prelude.{◌≡◌, Bool, false, List, [], ◌∷◌}
use Rattle.std.proofs.Common.{refl, subst}
use Rattle.plane_base.specs.Plane.{Point}
use Rattle.plane_base.specs.Counts.{Count, Entry, boolean}
use Rattle.plane_base.specs.declared.fault.Fault.{Fault}
use Rattle.segment_split.specs.Adding.{Adds, IsRefused, AddsAll, AddsUntil}
use Rattle.segment_split.specs.Holdings.{IsRefusedBy}
use Rattle.polygon_overlay.proofs.Holding.GivenOrderLaws.{one_as_all}

-- by the options as they stand, from what is held at last
module _ (keep_all k : Bool) (same : k ≡ keep_all) (c : Count) (contours : List (List Point)) where
  pub all_added : (start old new : List (Entry Count)) → old ≡ start → AddsAll boolean c k contours old new → AddsAll boolean c keep_all contours start new
  all_added start old new from adds =
      subst (λ s. AddsAll boolean c keep_all contours s new) from (subst (λ b. AddsAll boolean c b contours old new) same adds)

  pub part_added : (start old new : List (Entry Count)) (is_failed : Bool) (fault : Fault) → old ≡ start → is_failed ≡ false
      → IsRefusedBy is_failed (AddsUntil boolean c k contours old new) fault → AddsUntil boolean c keep_all contours start new fault
  part_added start old new is_failed fault from ready why =
      subst (λ s. AddsUntil boolean c keep_all contours s new fault) from
      (subst (λ b. AddsUntil boolean c b contours old new fault) same
      (subst (λ b. IsRefusedBy b (AddsUntil boolean c k contours old new) fault) ready why))

-- one contour, where nothing was held
module _ (keep_all k : Bool) (same : k ≡ keep_all) (c : Count) (points : List Point) (old : List (Entry Count)) (none : old ≡ []) where
  pub contour_added : (new : List (Entry Count)) → Adds boolean c k points old new → AddsAll boolean c keep_all (points ∷ []) [] new
  contour_added new adds =
      one_as_all keep_all c points [] new
      (subst (λ o. Adds boolean c keep_all points o new) none (subst (λ b. Adds boolean c b points old new) same adds))

  pub contour_refused : (is_failed : Bool) (fault : Fault) → is_failed ≡ false → IsRefusedBy is_failed (IsRefused boolean c k points old) fault
      → AddsUntil boolean c keep_all (points ∷ []) [] [] fault
  contour_refused is_failed fault ready why = record {
    before = [];
    refused = points;
    after = [];
    all = refl;
    adds = ([], tt, refl);
    reason =
        subst (λ o. IsRefused boolean c keep_all points o fault) none
        (subst (λ b. IsRefused boolean c b points old fault) same (subst (λ b. IsRefusedBy b (IsRefused boolean c k points old) fault) ready why));
  }
