-- Entries that are cut at marks strictly inside them become pieces of them.
use Rattle.std.specs.Prelude.{◌≡◌, true, List, [], ◌∷◌, All, Contains, IsPermutation}
use Rattle.std.proofs.Common.{refl, ap, subst}
use Rattle.std.proofs.lemmas.List.Elements.{All-contains, All-contains_itself, All-map, All-weaker}
use Rattle.std.proofs.lemmas.List.Sorted.{All-permutation}
use Rattle.plane_base.specs.Plane.{Point, Edge}
use Rattle.plane_base.specs.Counts.{Count, Counting, Entry}
use Rattle.plane_base.specs.Segments.{strictly_inside}
use Rattle.plane_base.specs.Given.{laid_path}
use Rattle.plane_base.proofs.Facts.Maps.Laying.{IsDirected, IsDirectedEntry}
use Rattle.segment_split.specs.Paths.{path}
use Rattle.segment_split.specs.Passes.{edges_of, all_cut_at}
use Rattle.segment_split.specs.RedrawLaws.{with_counts}
use Rattle.segment_split.proofs.Spread.Lists.{all_flat_map, edges_contain}
use Rattle.segment_split.proofs.Passes.Steps.{IsStep, cut_steps}
use Rattle.segment_split.proofs.Whole.Pieces.{IsPieceOfSome, step_of_path}

module _ {C : Type 0} (kind : Counting C) (base : Edge → List Point) (ls : List (Entry C)) (directed : IsDirected ls)
    (inside : (e : Entry C) → Contains ls e → All (λ m. strictly_inside m e.edge ≡ true) (base e.edge)) where
  one : (e : Entry C) → Contains ls e → All (λ f. IsPieceOfSome (edges_of ls) f.edge) (laid_path kind e.count (path e.edge (base e.edge)))
  one e at =
      let forward = All-contains IsDirectedEntry ls e directed at in
      All-weaker (λ (f : Entry C). IsStep (path e.edge (base e.edge)) f.edge) (λ f. IsPieceOfSome (edges_of ls) f.edge)
      (λ f step. record { of = e.edge; listed = All-contains (λ e. Contains (edges_of ls) e.edge) ls e (edges_contain ls) at; piece = step_of_path e.edge (base e.edge) forward (inside e at) f.edge step })
      (laid_path kind e.count (path e.edge (base e.edge))) (cut_steps e.edge forward (base e.edge) (inside e at) kind e.count)

  pub cut_pieces : All (λ f. IsPieceOfSome (edges_of ls) f.edge) (all_cut_at kind base ls)
  cut_pieces =
      all_flat_map (λ (f : Entry C). IsPieceOfSome (edges_of ls) f.edge) (λ (e : Entry C). laid_path kind e.count (path e.edge (base e.edge))) ls
      (All-weaker (Contains ls) (λ e. All (λ f. IsPieceOfSome (edges_of ls) f.edge) (laid_path kind e.count (path e.edge (base e.edge)))) one ls (All-contains_itself ls))

  -- in any order, with counts of another kind
  pub listed_pieces : (of : Count → C) (lines : List (Entry Count)) → IsPermutation (all_cut_at kind base ls) (with_counts of lines) → All (IsPieceOfSome (edges_of ls)) (edges_of lines)
  listed_pieces of lines same =
      subst (All (IsPieceOfSome (edges_of ls))) (edges_stay lines)
      (All-map (IsPieceOfSome (edges_of ls)) (λ (f : Entry C). f.edge) (with_counts of lines)
      (All-permutation (λ (f : Entry C). IsPieceOfSome (edges_of ls) f.edge) (all_cut_at kind base ls) (with_counts of lines) same cut_pieces))
    where
      edges_stay : (lines : List (Entry Count)) → edges_of (with_counts of lines) ≡ edges_of lines
      edges_stay [] = refl
      edges_stay (e ∷ es) = ap (λ l. e.edge ∷ l) (edges_stay es)
