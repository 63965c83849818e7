-- Passes one after another: what they keep, and where they come to rest.
use Rattle.std.proofs.Common.{◌≡◌, ℕ, zero, suc, ◌+◌, ◌-◌, List, refl, sym, ap, ◌∙◌, arith}
use Rattle.plane_base.specs.Segments.{MeetsInEnds}
use Rattle.plane_base.specs.Counts.{Count, Counting, Entry, boolean, IsNormal}
use Rattle.plane_base.specs.Balance.{IsBalancedMap}
use Rattle.plane_base.proofs.Facts.Maps.LinearSums.{subject_additive, clip_additive}
use Rattle.segment_split.specs.Passes.{early_passes, edges_of, pass}
use Rattle.segment_split.specs.Redrawing.{iterate, spread, redrawn}
use Rattle.segment_split.specs.RedrawLaws.{Rearranges, IsStable, ComesToRest}
use Rattle.segment_split.specs.declared.solver.Precision.{Precision}
use Rattle.segment_split.proofs.Passes.Laws.{pass_rearranges}
use Rattle.segment_split.proofs.Passes.Unmarked.{meets_unmarked, keeps_unmarked}

module _ {C : Type 0} (kind : Counting C) (precision : Precision) where
  -- ---- what is kept

  pub iterate_rearranges : (n : ℕ) → Rearranges kind (λ es. iterate kind precision es n)
  iterate_rearranges zero = record {
    is_normal = λ es h. h;
    falls = λ m additive f es. refl;
    balanced = λ m additive es h. h;
    balanced_for_all = λ m additive es h. h;
    bounded = λ box es h. h;
  }
  iterate_rearranges (suc n) = next (iterate_rearranges n) (pass_rearranges kind precision n)
    where
      next : Rearranges kind (λ es. iterate kind precision es n) → Rearranges kind (λ es. pass kind precision es n) → Rearranges kind (λ es. iterate kind precision es (suc n))
      next h k = record {
        is_normal = λ es l. k.is_normal (iterate kind precision es n) (h.is_normal es l);
        falls = λ m additive f es. k.falls m additive f (iterate kind precision es n) ∙ h.falls m additive f es;
        balanced = λ m additive es l. k.balanced m additive (iterate kind precision es n) (h.balanced m additive es l);
        balanced_for_all = λ m additive es l. k.balanced_for_all m additive (iterate kind precision es n) (h.balanced_for_all m additive es l);
        bounded = λ box es l. k.bounded box (iterate kind precision es n) (h.bounded box es l);
      }

  pub iterate_normal : (es : List (Entry C)) (n : ℕ) → IsNormal kind es → IsNormal kind (iterate kind precision es n)
  iterate_normal es n h = (iterate_rearranges n).is_normal es h

  pub redrawn_rearranges : Rearranges kind (redrawn kind precision)
  redrawn_rearranges = record {
    is_normal = λ es. (iterate_rearranges (last es)).is_normal es;
    falls = λ m additive f es. (iterate_rearranges (last es)).falls m additive f es;
    balanced = λ m additive es. (iterate_rearranges (last es)).balanced m additive es;
    balanced_for_all = λ m additive es. (iterate_rearranges (last es)).balanced_for_all m additive es;
    bounded = λ box es. (iterate_rearranges (last es)).bounded box es;
  }
    where
      last : List (Entry C) → ℕ
      last es = early_passes + spread (edges_of (iterate kind precision es early_passes))

  -- ---- at rest

  pub pass_at_rest : (es : List (Entry C)) (k : ℕ) → IsNormal kind es → MeetsInEnds (edges_of es) → pass kind precision es k ≡ es
  pass_at_rest es k h meets = keeps_unmarked kind precision es k h (meets_unmarked precision k (edges_of es) meets)

  -- so many passes more leave a map that meets in ends
  rest_further : (es : List (Entry C)) (n d : ℕ) → IsNormal kind es → MeetsInEnds (edges_of (iterate kind precision es n)) → iterate kind precision es (n + d) ≡ iterate kind precision es n
  rest_further es n zero h meets = let same : n + 0 ≡ n = omega arith in ap (iterate kind precision es) same
  rest_further es n (suc d) h meets =
      let same = rest_further es n d h meets in
      let next : n + suc d ≡ suc (n + d) = omega arith in
      ap (iterate kind precision es) next ∙ ap (λ fs. pass kind precision fs (n + d)) same ∙ pass_at_rest (iterate kind precision es n) (n + d) (iterate_normal es n h) meets

  pub comes_to_rest : ComesToRest kind precision
  comes_to_rest es n m h l meets =
      let back : n + (m - n) ≡ m = omega arith in
      ap (iterate kind precision es) (sym back) ∙ rest_further es n (m - n) h meets

  pub leaves_as_it_is : IsStable kind precision
  leaves_as_it_is es h meets = record {
    of_pass = λ k. pass_at_rest es k h meets;
    of_iterate = λ n. comes_to_rest es 0 n h (omega arith) meets;
    of_redrawn = comes_to_rest es 0 (early_passes + spread (edges_of (iterate kind precision es early_passes))) h (omega arith) meets;
  }

pub redrawn_balanced : (precision : Precision) (es : List (Entry Count)) → IsBalancedMap es → IsBalancedMap (redrawn boolean precision es)
redrawn_balanced precision es h = record {
  subject = (redrawn_rearranges boolean precision).balanced (λ c. c.subject) subject_additive es h.subject;
  clip = (redrawn_rearranges boolean precision).balanced (λ c. c.clip) clip_additive es h.clip;
}
