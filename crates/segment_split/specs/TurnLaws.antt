-- Edges that meet all others whole: they may be cut in turn, at the marks of the others first, and their pieces then at each other.
use Rattle.std.specs.Prelude.{◌≡◌, ◌↔◌, ℕ, true, List, ◌++◌, All, Contains, IsPermutation}
use Rattle.plane_base.specs.Plane.{Point, Edge}
use Rattle.plane_base.specs.Segments.{strictly_inside, parted}
use Rattle.plane_base.specs.Counts.{Counting, Entry, normal, IsNormal}
use Rattle.plane_base.specs.Crossing.{late_marks}
use Rattle.plane_base.proofs.Facts.Maps.Normal.{IsCounting}
use Rattle.segment_split.specs.Passes.{edges_of, marks_in, marks_on, cut, all_cut, all_cut_at, pass_by, pass}
use Rattle.segment_split.specs.WholeLaws.{MeetsAllWhole}
use Rattle.segment_split.specs.LineLaws.{IsCutPoint}
use Rattle.segment_split.specs.declared.solver.Precision.{Precision}

-- Of the entries of a map some meet all others whole, and the rest are all others.
pub record ArePartedWhole {C : Type 0} (es lines rest : List (Entry C)) : Type 0 where
  pub parts : IsPermutation es (lines ++ rest)
  pub whole : All (λ e. MeetsAllWhole (edges_of es) e.edge) lines

-- So they may be cut at first: where the rest marks them at least, and nowhere but where all do.
pub record AreFirstCuts (precision : Precision) (k : ℕ) (all lines rest : List Edge) (base : Edge → List Point) : Type 0 where
  pub marked : (s : Edge) (p : Point) → Contains lines s → Contains (marks_on (marks_in precision k) rest s) p → Contains (base s) p
  pub only : (s : Edge) (p : Point) → Contains lines s → Contains (base s) p → Contains (marks_on (marks_in precision k) all s) p

-- Such an edge is marked at the cut points strictly inside it. Where such entries are cut so at first, and their pieces then at each
-- other, in whatever order, they become what the pass makes of them. Pieces of two such edges are parted, so that no later pass need
-- look at both.
pub record CutsInTurn {C : Type 0} (kind : Counting C) (precision : Precision) : Type 0 where
  pub marks :
      (k : ℕ) (es : List (Entry C)) (s : Edge) (p : Point) → IsNormal kind es → Contains (edges_of es) s → MeetsAllWhole (edges_of es) s
      → Contains (marks_on (marks_in precision k) (edges_of es) s) p ↔ (IsCutPoint (edges_of es) s p × (strictly_inside p s ≡ true))
  pub pieces :
      (k : ℕ) (es lines rest first : List (Entry C)) (base : Edge → List Point) → IsNormal kind es → ArePartedWhole es lines rest
      → AreFirstCuts precision k (edges_of es) (edges_of lines) (edges_of rest) base → IsPermutation (all_cut_at kind base lines) first
      → IsPermutation (all_cut kind (marks_in precision k) (edges_of es) lines) (all_cut kind late_marks (edges_of first) first)
  pub in_turn :
      (k : ℕ) (es lines rest first : List (Entry C)) (base : Edge → List Point) → IsCounting kind → IsNormal kind es → ArePartedWhole es lines rest
      → AreFirstCuts precision k (edges_of es) (edges_of lines) (edges_of rest) base → IsPermutation (all_cut_at kind base lines) first
      → pass kind precision es k ≡ normal kind (pass_by kind late_marks first ++ all_cut kind (marks_in precision k) (edges_of es) rest)
  pub parted :
      (k : ℕ) (es : List (Entry C)) (e f : Entry C) (s t : Edge) → IsNormal kind es → Contains es e → Contains es f
      → MeetsAllWhole (edges_of es) e.edge → MeetsAllWhole (edges_of es) f.edge
      → Contains (edges_of (cut kind (marks_in precision k) (edges_of es) e)) s → Contains (edges_of (cut kind (marks_in precision k) (edges_of es) f)) t
      → parted s t ≡ true
