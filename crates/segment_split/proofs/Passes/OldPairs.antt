-- Edges that a pass left unmarked are parted, so that no later pass has to look at pairs of them.
use Rattle.std.proofs.Common.{◌≡◌, ◌≢◌, ◌↔◌, ℕ, Bool, true, false, cond, ◌&&◌, List, [], ◌∷◌, ◌++◌, All, Contains, Ordering, Less, Equal, Greater, refl, sym, ap, ap₂, ◌∙◌}
use Rattle.std.proofs.lemmas.List.Elements.{All-contains, All-weaker, All-contains_itself}
use Rattle.plane_base.specs.Plane.{Edge, edge_order}
use Rattle.plane_base.specs.Segments.{parted, MeetsInEnds}
use Rattle.plane_base.specs.Crossing.{Marks}
use Rattle.plane_base.proofs.Facts.Points.Orders.{edge_equal, edge_itself}
use Rattle.plane_base.proofs.Facts.Crossings.Tests.{both_true}
use Rattle.segment_split.specs.Passes.{marks_in, marks_on}
use Rattle.segment_split.specs.RedrawLaws.{MarkedUnlessParted, marks_of_new_pairs, StoodUnmarked, OldPairsAreParted}
use Rattle.segment_split.specs.declared.solver.Precision.{Precision}
use Rattle.segment_split.proofs.Passes.Unmarked.{unless_parted, parted_itself, unmarked_pairs, none_on, some_by_test, meets_unmarked, unmarked_meets}
use Rattle.segment_split.proofs.Spread.Lists.{none_of_flat_map}
use Rattle.segment_split.proofs.Facts.Marks.{marks_exchanged}

-- equal or not
edges_apart : {P : Type 0} (s t : Edge) → (s ≡ t → P) → (s ≢ t → P) → P
edges_apart {P} s t same differ = by (edge_order s t) refl
  where
    apart : (o : Ordering) → edge_order s t ≡ o → o ≢ Equal → P
    apart o e d = differ (λ same. d (sym e ∙ ap (edge_order s) (sym same) ∙ edge_itself s))

    by : (o : Ordering) → edge_order s t ≡ o → P
    by Less e = apart Less e (λ f. absurd (cc))
    by Equal e = same (edge_equal s t e)
    by Greater e = apart Greater e (λ f. absurd (cc))

-- no edge of the list lays a mark on s
none_from : (marks : Edge → Edge → Marks) (es : List Edge) (s t : Edge) → Contains es t → marks_on marks es s ≡ [] → (marks s t).first ≡ []
none_from marks es s t there h = All-contains (λ t. (marks s t).first ≡ []) es t (none_of_flat_map (λ t. (marks s t).first) es h) there

pub old_pairs_parted : (precision : Precision) (j : ℕ) (es : List Edge) (s t : Edge) → Contains es s → Contains es t
    → marks_on (marks_in precision j) es s ≡ [] → marks_on (marks_in precision j) es t ≡ [] → parted s t ≡ true
old_pairs_parted precision j es s t at there h k = edges_apart s t (λ same. ap (parted s) (sym same) ∙ parted_itself s) apart
  where
    apart : s ≢ t → parted s t ≡ true
    apart differ =
        let first : (marks_in precision j s t).first ≡ [] = none_from (marks_in precision j) es s t there h in
        let second : (marks_in precision j s t).second ≡ [] = ap (λ m. m.first) (sym (marks_exchanged precision j s t differ)) ∙ none_from (marks_in precision j) es t s at k in
        (unless_parted precision j s t).0 (λ i. record { first = first i; second = second i })

-- ---- no marks on any edge

pub none_marked : (precision : Precision) (k : ℕ) (es : List Edge) → All (λ s. marks_on (marks_in precision k) es s ≡ []) es ↔ MeetsInEnds es
none_marked precision k es = (
  (λ h s t at there differ. old_pairs_parted precision k es s t at there (All-contains (λ s. marks_on (marks_in precision k) es s ≡ []) es s h at) (All-contains (λ s. marks_on (marks_in precision k) es s ≡ []) es t h there)),
  (λ meets. All-weaker (Contains es) (λ s. marks_on (marks_in precision k) es s ≡ [])
      (none_on (marks_in precision k) es (unmarked_pairs (marks_in precision k) es (meets_unmarked precision k es meets))) es (All-contains_itself es)),
)

pub marked_unless_parted : (precision : Precision) → MarkedUnlessParted precision
marked_unless_parted precision = record {
  by_test = some_by_test;
  unmarked = λ k es. (unmarked_meets precision k es, meets_unmarked precision k es);
  on_no_edge = none_marked precision;
  in_each_pass = λ j k es some. (some.0, some.1, some.2, some.3, (λ none. some.4 ((unless_parted precision j some.0 some.1).1 ((unless_parted precision k some.0 some.1).0 none))));
}

-- ---- without them

skipped_pairs : (marks : Edge → Edge → Marks) (old : Edge → Bool) (s : Edge) → ((t : Edge) → old s && old t ≡ true → (marks s t).first ≡ []) → (es : List Edge) → marks_of_new_pairs old marks es s ≡ marks_on marks es s
skipped_pairs marks old s none [] = refl
skipped_pairs marks old s none (t ∷ es) = ap₂ (λ l m. l ++ m) (by (old s && old t) (none t)) (skipped_pairs marks old s none es)
  where
    by : (both : Bool) → (both ≡ true → (marks s t).first ≡ []) → cond both [] (marks s t).first ≡ (marks s t).first
    by true h = sym (h refl)
    by false h = refl

pub old_pairs_are_parted : (precision : Precision) → OldPairsAreParted precision
old_pairs_are_parted precision = record {
  parted = old_pairs_parted precision;
  skipped = λ j k before es old stood s. skipped_pairs (marks_in precision k) old s (λ t both. unmarked j k before old stood s t both) es;
}
  where
    unmarked : (j k : ℕ) (before : List Edge) (old : Edge → Bool) → StoodUnmarked precision j before old → (s t : Edge) → old s && old t ≡ true → (marks_in precision k s t).first ≡ []
    unmarked j k before old stood s t both =
        let h = both_true (old s) (old t) both in
        let p = stood s h.0 in
        let q = stood t h.1 in
        ap (λ m. m.first) ((unless_parted precision k s t).1 (old_pairs_parted precision j before s t p.0 q.0 p.1 q.1))
