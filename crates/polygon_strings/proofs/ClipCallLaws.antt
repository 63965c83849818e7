-- Clips by one call: what a new builder holds, and what it answers.
use Rattle.std.specs.Prelude.{◌≡◌, ℕ, ℤ, Bool, false, List, [], ◌∷◌, ◌++◌, length, All, IfOk, IfErr}
use Rattle.std.specs.declared.result.Result.{Result}
use Rattle.std.specs.declared.result.Result.TheVariants.{Ok, Err}
use Rattle.std.proofs.Common.{refl, inl, inr, sym, ap, ◌∙◌, subst, append-nil, arith}
use Rattle.std.proofs.lemmas.List.{length-append}
use Rattle.plane_base.specs.Plane.{Point, IsWithin}
use Rattle.plane_base.specs.Counts.{Entry}
use Rattle.plane_base.specs.Given.{laid_path}
use Rattle.plane_base.specs.Regions.{FillRule}
use Rattle.plane_base.specs.declared.fault.Fault.{Fault}
use Rattle.segment_split.specs.Adding.{AddsStepsUntil, AddsAll}
use Rattle.segment_split.specs.Holdings.{IsRefusedBy}
use Rattle.segment_split.specs.Strings.{StringCount, stringed, one_line}
use Rattle.segment_split.proofs.Facts.Adding.Laws.{if_refused}
use Rattle.segment_arrangement.specs.declared.clip_rule.ClipRule.{ClipRule}
use Rattle.polygon_strings.specs.Asking.{IsQueryRefused}
use Rattle.polygon_strings.specs.Builders.{one_shape, AddsPathsUntil, HoldsBoth, IsNotMade, default_precision, string_map}
use Rattle.polygon_strings.specs.Clips.{IsClip}
use Rattle.polygon_strings.specs.KeptSteps.{kept_steps}
use Rattle.polygon_strings.specs.ClipCalls.{IsClipOf, IsClipRefused}
use Rattle.polygon_strings.proofs.BuilderLaws.{for_the_reason}

-- no path is refused of none
none_refused : (room : ℕ) (old new : List (Entry StringCount)) (fault : Fault) → AddsPathsUntil [] room old new fault → ⊥
none_refused room old new fault until =
    let long : 0 ≡ length (until.before ++ until.refused ∷ until.after) = ap length until.all in
    absurd (omega (arith, long, length-append until.before (until.refused ∷ until.after)))

module _ (shape strings : List (List Point)) where
  -- a builder of the shape alone could not be made
  pub not_made : (fault : Fault) → IsNotMade shape [] fault → IsClipRefused shape strings fault
  not_made fault (inl memory) = inl (inl memory)
  not_made fault (inr (inl contour)) = inl (inr (inl contour))
  not_made fault (inr (inr string)) = absurd (none_refused string.2 string.0 string.1 fault string.4)

  -- nor could the strings be added
  pub not_added : (between new : List (Entry StringCount)) (room : ℕ) (is_failed : Bool) (fault : Fault) → AddsAll stringed one_shape false shape [] between
      → is_failed ≡ false → IsRefusedBy is_failed (AddsPathsUntil strings room between new) fault → IsClipRefused shape strings fault
  not_added between new room is_failed fault adds ready why =
      inl (inr (inr (between, new, room, adds, for_the_reason is_failed (AddsPathsUntil strings room between new) fault ready why)))

  module _ (fill : FillRule) (clip : ClipRule) (held : List (Entry StringCount)) (holds : HoldsBoth shape strings held) where
    pub clip_answered : {T : Type 0} (least greatest : ℤ) (view : T → List (List Point)) (r : Result T Fault)
        → IfOk r (λ paths. IsClip (kept_steps fill clip (string_map default_precision held)) (view paths)) → IfOk r (λ paths. All (All (IsWithin least greatest)) (view paths))
        → IfOk r (λ paths. IsClipOf least greatest fill clip shape strings (view paths))
    clip_answered least greatest view r found within = by r found within
      where
        by : (r : Result _ Fault) → IfOk r (λ paths. IsClip (kept_steps fill clip (string_map default_precision held)) (view paths))
            → IfOk r (λ paths. All (All (IsWithin least greatest)) (view paths)) → IfOk r (λ paths. IsClipOf least greatest fill clip shape strings (view paths))
        by (Ok paths) is inside = record { held = held; holds = holds; is = is; in_range = inside }
        by (Err fault) is inside = tt

    pub clip_refused : {T : Type 0} (is_failed : Bool) (r : Result T Fault) → is_failed ≡ false → IfErr r (IsRefusedBy is_failed (IsQueryRefused default_precision held))
        → IfErr r (IsClipRefused shape strings)
    clip_refused is_failed r ready why =
        if_refused r (λ fault h. inr (held, holds, for_the_reason is_failed (IsQueryRefused default_precision held) fault ready h)) why

-- ---- one path alone

module _ (shape : List (List Point)) (path : List Point) (between new : List (Entry StringCount)) (adds : AddsAll stringed one_shape false shape [] between) where
  pub holds_one : new ≡ between ++ laid_path stringed one_line path → HoldsBoth shape (path ∷ []) new
  holds_one is = (between, adds, is ∙ ap (λ l. between ++ l) (sym (append-nil (laid_path stringed one_line path))))

  one_until : (room : ℕ) (fault : Fault) → AddsStepsUntil stringed one_line path room between new fault → AddsPathsUntil (path ∷ []) room between new fault
  one_until room fault until = record {
    before = [];
    refused = path;
    after = [];
    all = refl;
    adds = subst (λ l. AddsStepsUntil stringed one_line path room l new fault) (sym (append-nil between)) until;
  }

  pub one_not_added : (room : ℕ) (is_failed : Bool) (fault : Fault) → is_failed ≡ false
      → IsRefusedBy is_failed (AddsStepsUntil stringed one_line path room between new) fault → IsClipRefused shape (path ∷ []) fault
  one_not_added room is_failed fault ready why =
      inl (inr (inr (
        between,
        new,
        room,
        adds,
        one_until room fault (for_the_reason is_failed (AddsStepsUntil stringed one_line path room between new) fault ready why),
      )))
