-- Why a query is refused, and what it makes of what a builder holds.
use Rattle.std.specs.Prelude.{◌≡◌, ◌⊎◌, ◌↔◌, ◌==◌, ℕ, IsTrue, Bool, false, List, [], ◌∷◌, map, length, OnOk, OnErr, IfErr}
use Rattle.std.specs.declared.result.Result.{Result}
use Rattle.std.specs.declared.result.Result.TheVariants.{Ok, Err}
use Rattle.std.proofs.Common.{inl, inr, sym, ap, ◌∙◌}
use Rattle.std.proofs.Math.Dec.{eqb-suc-zero}
use Rattle.plane_base.specs.Counts.{Entry, normal}
use Rattle.plane_base.specs.declared.fault.Fault.{Fault}
use Rattle.plane_base.specs.declared.fault.Fault.TheVariants.{Memory, Count, Edges, Failed}
use Rattle.segment_split.specs.Holdings.{Holding, failed}
use Rattle.segment_split.specs.Refusals.{CountsTooMuch, LaysTooMany, IsRefusal}
use Rattle.segment_split.specs.Strings.{StringCount, stringed, string_fits}
use Rattle.segment_split.specs.declared.solver.Precision.{Precision}
use Rattle.segment_split.proofs.Facts.Adding.Laws.{answered}
use Rattle.segment_split.proofs.Facts.Adding.Holdings.{refused_if_ready}
use Rattle.segment_arrangement.specs.Strings.{subject_of}
use Rattle.segment_arrangement.specs.Sweeps.{HasSideOutOfRange}
use Rattle.polygon_strings.specs.Asking.{IsQueryRefused, IsAsked, LeavesRedrawn}
use Rattle.polygon_strings.specs.Builders.{string_map}

module _ (precision : Precision) (held : List (Entry StringCount)) where
  -- since it could not be redrawn
  pub not_redrawn : (f : Fault) → IsRefusal (CountsTooMuch stringed string_fits precision held) (LaysTooMany stringed precision (normal stringed held)) f
      → IsQueryRefused precision held f
  not_redrawn Memory h = tt
  not_redrawn Count h = inl h
  not_redrawn Edges h = h
  not_redrawn Failed h = absurd h

  -- since the subject's windings leave their range, or for want of memory
  pub not_swept : (f : Fault) → (f ≡ Memory) ⊎ ((f ≡ Count) × HasSideOutOfRange (subject_of (string_map precision held))) → IsQueryRefused precision held f
  not_swept f (inl memory) = rw memory tt
  not_swept f (inr count) = rw count.0 (inr count.1)

-- No segment is left just where the map that they give has no edge.
pub none_left : {X Y : Type 0} (f : X → Y) (xs : List X) (ys : List Y) (n : ℕ) (b : Bool) → b ≡ (n == 0) → n ≡ length xs → map f xs ≡ ys → IsTrue b ↔ (ys ≡ [])
none_left f [] ys n b is long same = (λ _. sym same, λ _. is ∙ ap (λ m. m == 0) long)
none_left f (x ∷ xs) ys n b is long same =
    let some : b ≡ false = is ∙ (ap (λ m. m == 0) long ∙ eqb-suc-zero (length xs)) in (λ t. absurd (cc), λ nil. absurd (cc))

module _ {T : Type 0} (precision : Precision) (old : Holding StringCount) (ready : old.has_failed ≡ false) where
  pub is_asked : (r : Result T Fault) → IfErr r (IsQueryRefused precision old.edges) → IsAsked precision old r
  is_asked r why = record {
    ready = answered r ready;
    refused = refused_if_ready old.has_failed (IsQueryRefused precision old.edges) r ready why;
  }

  pub leaves_redrawn : (new : Holding StringCount) (r : Result T Fault)
      → OnOk r (new ≡ record { edges = string_map precision old.edges; has_failed = old.has_failed }) → OnErr r (new ≡ failed) → LeavesRedrawn precision old new r
  leaves_redrawn new (Ok t) is none = record { redrawn = ap (λ h. h.edges) is; failed = ap (λ h. h.has_failed) is ∙ ready; none = tt }
  leaves_redrawn new (Err e) is none = record { redrawn = tt; failed = ap (λ h. h.has_failed) none; none = λ _. ap (λ h. h.edges) none }
