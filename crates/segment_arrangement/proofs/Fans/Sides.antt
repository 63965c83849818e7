-- Writing the sides of a fan, segment by segment.
use Rattle.std.proofs.Common.{◌≡◌, ◌≢◌, ℕ, ◌+◌, ◌<◌, List, map, length, get_or, refl, sym, ap, ap₂, ◌∙◌, arith, rules, Bool, true, false, ◌==◌}
use Rattle.std.proofs.lemmas.Grind.{get_or-set_at}
use Rattle.std.proofs.Math.ListN.{drop, set}
use Rattle.std.proofs.lemmas.List.{drop_more, get_or-set_other}
use Rattle.plane_base.specs.Counts.{Count, boolean}
use Rattle.plane_base.specs.Regions.{FillRule}
use Rattle.segment_arrangement.specs.declared.sweep.SegmentSides.{SegmentSides}
use Rattle.segment_arrangement.specs.Sweeps.{IsHandedUp}
use Rattle.segment_arrangement.specs.SweepViews.{sides_between, sides_at}

pub one_more :
    {A X : Type 0} (index : A → ℕ) (wanted : ℕ → X) (fan : List A) (old : List X) (k : ℕ) (v e : X) (t : A) → index (get_or fan k t) < length old → v ≡ wanted (index (get_or fan k t))
    → ((j : ℕ) → j < k → get_or old (index (get_or fan j t)) e ≡ wanted (index (get_or fan j t))) → (j : ℕ) → j < k + 1
    → get_or (set old (index (get_or fan k t)) v) (index (get_or fan j t)) e ≡ wanted (index (get_or fan j t))
one_more index wanted fan old k v e t within is before j l = by (index (get_or fan j t) == index (get_or fan k t)) refl
  where
    by : (b : Bool) → (index (get_or fan j t) == index (get_or fan k t)) ≡ b → get_or (set old (index (get_or fan k t)) v) (index (get_or fan j t)) e ≡ wanted (index (get_or fan j t))
    by true h =
        let same : index (get_or fan j t) ≡ index (get_or fan k t) = search rules in
        get_or-set_at old (index (get_or fan k t)) (index (get_or fan j t)) v e same within ∙ (is ∙ ap wanted (sym same))
    by false h =
        let differ : index (get_or fan j t) ≢ index (get_or fan k t) = search rules in
        get_or-set_other old (index (get_or fan k t)) (index (get_or fan j t)) v e differ ∙ before j (earlier (λ s. differ (ap (λ n. index (get_or fan n t)) s)))
      where
        earlier : j ≢ k → j < k
        earlier n = grind (arith, n, l)

pub handed_on :
    {A : Type 0} (index : A → ℕ) (lower count : ℕ → Count) (bottom : Count) (fan : List A) (k : ℕ) (t : A) → k < length fan → IsHandedUp lower count bottom (map index (drop k fan))
    → (lower (index (get_or fan k t)) ≡ bottom) × IsHandedUp lower count (boolean.join bottom (count (index (get_or fan k t)))) (map index (drop (k + 1) fan))
handed_on index lower count bottom fan k t within up = rw (drop_more fan k t within) at up

pub as_wanted :
    {C : Type 0} (sides : C → Count) (filled : FillRule → Count → C → ℕ) (rule : FillRule) (lower : ℕ → Count) (count : ℕ → C) (i : ℕ) (bottom : Count) (c : C) (v : SegmentSides)
    → v ≡ sides_between sides filled rule bottom c → lower i ≡ bottom → count i ≡ c → v ≡ sides_at sides filled rule lower count i
as_wanted sides filled rule lower count i bottom c v is low same = is ∙ ap₂ (λ b d. sides_between sides filled rule b d) (sym low) (sym same)
