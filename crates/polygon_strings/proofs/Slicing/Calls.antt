-- Slices by one call: what a new builder holds, and what is answered.
use Rattle.std.specs.Prelude.{◌≡◌, ℕ, ℤ, Bool, false, not, List, [], ◌++◌, take, All, Some, IfOk, IfErr}
use Rattle.std.specs.declared.result.Result.{Result}
use Rattle.std.specs.declared.result.Result.TheVariants.{Ok, Err}
use Rattle.std.proofs.Common.{inr, refl, sym, subst}
use Rattle.std.proofs.lemmas.List.Elements.{All-nil}
use Rattle.std.proofs.lemmas.List.Sorted.{IsPermutation-refl}
use Rattle.plane_base.specs.Plane.{Point, IsWithin}
use Rattle.plane_base.specs.Counts.{Entry}
use Rattle.plane_base.specs.Regions.{FillRule}
use Rattle.plane_base.specs.declared.fault.Fault.{Fault}
use Rattle.segment_split.specs.Holdings.{IsRefusedBy}
use Rattle.segment_split.specs.Strings.{StringCount}
use Rattle.segment_split.proofs.Facts.Adding.Laws.{if_refused}
use Rattle.polygon_strings.specs.Asking.{IsQueryRefused}
use Rattle.polygon_strings.specs.Builders.{HoldsBoth, default_precision, string_map}
use Rattle.contour_walk.specs.BindingLaws.{all_contours}
use Rattle.contour_walk.specs.Walks.{next_point}
use Rattle.polygon_strings.specs.Slices.{InARow, IsSlice}
use Rattle.polygon_strings.specs.SliceLaws.{WindRoundSubject}
use Rattle.polygon_strings.specs.SliceCalls.{IsSliceOf, IsSliceRefused}
use Rattle.polygon_strings.proofs.BuilderLaws.{for_the_reason}

-- where there is no edge, there is no piece
pub none_sliced : (output : Bool) (least : ℕ) (fill : FillRule) (es : List (Entry StringCount)) → es ≡ [] → IsSlice output least fill es []
none_sliced output least fill es e =
    subst (λ x. IsSlice output least fill x []) (sym e)
    (record {
      walks = [];
      are = record { passes = IsPermutation-refl []; turns = All-nil (λ points. InARow (λ u v w. next_point (not output) [] v u ≡ Some w) (points ++ take 2 points)) };
      is = refl;
    })

module _ (shape strings : List (List Point)) (fill : FillRule) (held : List (Entry StringCount)) (holds : HoldsBoth shape strings held) where
  pub slice_answered : {T : Type 0} (least greatest : ℤ) (view : T → List (List (List Point))) (r : Result T Fault)
      → IfOk r (λ shapes. IsSlice false 0 fill (string_map default_precision held) (view shapes))
      → IfOk r (λ shapes. WindRoundSubject false fill (string_map default_precision held) (all_contours (view shapes)))
      → IfOk r (λ shapes. All (All (IsWithin least greatest)) (all_contours (view shapes))) → IfOk r (λ shapes. IsSliceOf least greatest fill shape strings (view shapes))
  slice_answered least greatest view r found winds within = by r found winds within
    where
      by : (r : Result _ Fault) → IfOk r (λ shapes. IsSlice false 0 fill (string_map default_precision held) (view shapes))
          → IfOk r (λ shapes. WindRoundSubject false fill (string_map default_precision held) (all_contours (view shapes)))
          → IfOk r (λ shapes. All (All (IsWithin least greatest)) (all_contours (view shapes))) → IfOk r (λ shapes. IsSliceOf least greatest fill shape strings (view shapes))
      by (Ok shapes) is turns inside = record { held = held; holds = holds; is = is; winds = turns; in_range = inside }
      by (Err fault) is turns inside = tt

  pub slice_refused : {T : Type 0} (is_failed : Bool) (r : Result T Fault) → is_failed ≡ false → IfErr r (IsRefusedBy is_failed (IsQueryRefused default_precision held))
      → IfErr r (IsSliceRefused shape strings)
  slice_refused is_failed r ready why =
      if_refused r (λ fault h. inr (held, holds, for_the_reason is_failed (IsQueryRefused default_precision held) fault ready h)) why
