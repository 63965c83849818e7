-- What a builder holds stays in range, counted and balanced with each contour.
use Rattle.std.specs.Prelude.{◌≡◌, ℤ, ◌*ℤ◌, ◌-ℤ◌, Bool, true, false, List, [], ◌++◌, flat_map, All, IsPermutation, OnOk, OnErr, IfErr}
use Rattle.std.specs.declared.result.Result.{Result}
use Rattle.std.proofs.Common.{refl, sym, ◌∙◌, subst}
use Rattle.std.proofs.lemmas.List.Sorted.{All-permutation}
use Rattle.plane_base.specs.Plane.{Point, IsWithin, is_before}
use Rattle.plane_base.specs.Balance.{mark}
use Rattle.plane_base.specs.Counts.{Count, Entry, boolean, one_subject, one_clip}
use Rattle.plane_base.specs.Given.{laid}
use Rattle.plane_base.specs.Segments.{IsEdgeWithin}
use Rattle.plane_base.proofs.Facts.Lists.Totals.{total_permutation}
use Rattle.plane_base.proofs.Facts.Maps.LinearSums.{subject_additive, clip_additive}
use Rattle.plane_base.specs.declared.fault.Fault.{Fault}
use Rattle.segment_split.specs.declared.count.ShapeType.{ShapeType}
use Rattle.segment_split.specs.declared.count.ShapeType.TheVariants.{Subject, Clip}
use Rattle.segment_split.specs.Adding.{Adds, AddsAll, AddsUntil}
use Rattle.segment_split.specs.Holdings.{HeldEdges, IsRefusedBy, TakesSource}
use Rattle.segment_split.proofs.Facts.Adding.Held.{CountsForSome, none_held, held_with_contour, balanced_with_contour}
use Rattle.segment_split.proofs.Facts.Adding.Held.{stays_with_contours, stays_after_contour, stays_after_source}
use Rattle.polygon_overlay.specs.Builders.{IsHeld, count_of_type}
use Rattle.polygon_overlay.specs.OverlayLaws.{SourcesAreHeld}

-- the counts of both kinds of contours
type_counts : (t : ShapeType) → CountsForSome boolean (count_of_type t)
type_counts Subject = record { some = refl; turned_some = refl }
type_counts Clip = record { some = refl; turned_some = refl }

-- nothing is held at first
pub nothing_held : (least greatest : ℤ) → IsHeld least greatest []
nothing_held least greatest =
    let none = none_held boolean least greatest in
    record { within = none.within; directed = none.directed; counted = none.counted; balanced = record { subject = λ v. refl; clip = λ v. refl } }

held_with : (least greatest : ℤ) (t : ShapeType) (es : List (Entry Count)) (contour : List Point) → All (IsWithin least greatest) contour
    → IsHeld least greatest es → IsHeld least greatest (es ++ laid boolean (count_of_type t) contour)
held_with least greatest t es contour inside held =
    let c = count_of_type t in
    let all = held_with_contour boolean least greatest c (type_counts t) es contour inside
    (record { within = held.within; directed = held.directed; counted = held.counted }) in
    record {
      within = all.within;
      directed = all.directed;
      counted = all.counted;
      balanced = record {
        subject = balanced_with_contour subject_additive c es contour held.balanced.subject;
        clip = balanced_with_contour clip_additive c es contour held.balanced.clip;
      };
    }

module _ (least greatest : ℤ) (t : ShapeType) (keep_all : Bool) (old new : List (Entry Count)) (held : IsHeld least greatest old) where
  pub held_after_contour : (r : Result (Unit {0}) Fault) (points : List Point) → All (IsWithin least greatest) points
      → OnOk r (Adds boolean (count_of_type t) keep_all points old new) → OnErr r (new ≡ old) → IsHeld least greatest new
  held_after_contour r points inside ok err =
      stays_after_contour boolean (count_of_type t) keep_all (IsWithin least greatest) (IsHeld least greatest) (held_with least greatest t)
      r points old new inside held ok err

  pub held_after_source : (r : Result (Unit {0}) Fault) (contours : List (List Point)) → All (All (IsWithin least greatest)) contours
      → OnOk r (AddsAll boolean (count_of_type t) keep_all contours old new) → IfErr r (AddsUntil boolean (count_of_type t) keep_all contours old new)
      → IsHeld least greatest new
  held_after_source r contours inside ok err =
      stays_after_source boolean (count_of_type t) keep_all (IsWithin least greatest) (IsHeld least greatest) (held_with least greatest t)
      r contours old new inside held ok err

-- the same of a builder that may have failed
pub held_after_taking : {D S : Type 0} (least greatest : ℤ) (t : ShapeType) (keep_all : Bool) (old new : HeldEdges Count D S) → IsHeld least greatest old.edges
    → (r : Result (Unit {0}) Fault) (contours : List (List Point)) → All (All (IsWithin least greatest)) contours
    → TakesSource boolean (count_of_type t) keep_all contours old new r → IsHeld least greatest new.edges
held_after_taking least greatest t keep_all old new held r contours inside takes = by old.has_failed refl
  where
    by : (b : Bool) → old.has_failed ≡ b → IsHeld least greatest new.edges
    by true failed = subst (IsHeld least greatest) (sym (takes.unchanged failed)) held
    by false ready =
        held_after_source least greatest t keep_all old.edges new.edges held r contours inside takes.added
        (subst (λ b. IfErr r (IsRefusedBy b (AddsUntil boolean (count_of_type t) keep_all contours old.edges new.edges))) ready takes.refused)

-- ---- contours, in whatever order they were added

-- what is held stays so in another order
held_permuted : (least greatest : ℤ) (es fs : List (Entry Count)) → IsPermutation es fs → IsHeld least greatest es → IsHeld least greatest fs
held_permuted least greatest es fs moved held = record {
  within = All-permutation (λ (e : Entry Count). IsEdgeWithin least greatest e.edge) es fs moved held.within;
  directed = All-permutation (λ (e : Entry Count). is_before e.edge.a e.edge.b ≡ true) es fs moved held.directed;
  counted = All-permutation (λ (e : Entry Count). boolean.is_empty e.count ≡ false) es fs moved held.counted;
  balanced = record {
    subject = λ v.
        total_permutation (λ (e : Entry Count). e.count.subject *ℤ (mark v e.edge.a -ℤ mark v e.edge.b)) es fs moved ∙ held.balanced.subject v;
    clip = λ v. total_permutation (λ (e : Entry Count). e.count.clip *ℤ (mark v e.edge.a -ℤ mark v e.edge.b)) es fs moved ∙ held.balanced.clip v;
  };
}

pub sources_are_held : SourcesAreHeld
sources_are_held least greatest keep_all subjects clips held of_subjects of_clips holds =
    held_permuted least greatest (subject_edges ++ clip_edges) held holds.is both
  where
    subject_edges : List (Entry Count)
    subject_edges = flat_map (laid boolean one_subject) holds.taken_subjects

    clip_edges : List (Entry Count)
    clip_edges = flat_map (laid boolean one_clip) holds.taken_clips

    first : IsHeld least greatest subject_edges
    first =
        stays_with_contours boolean one_subject keep_all (IsWithin least greatest) (IsHeld least greatest) (held_with least greatest Subject)
        subjects [] subject_edges of_subjects (nothing_held least greatest) (holds.taken_subjects, holds.are_subjects, refl)

    both : IsHeld least greatest (subject_edges ++ clip_edges)
    both =
        stays_with_contours boolean one_clip keep_all (IsWithin least greatest) (IsHeld least greatest) (held_with least greatest Clip)
        clips subject_edges (subject_edges ++ clip_edges) of_clips first (holds.taken_clips, holds.are_clips, refl)
