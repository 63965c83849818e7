-- Marks along their edge, and late marks as a staircase.
use Rattle.std.specs.Prelude.{◌≡◌, ◌≢◌, ◌↔◌, true, List, All, AllPairs, Contains}
use Rattle.std.specs.declared.cmp.Ordering.TheVariants.{Less}
use Rattle.plane_base.specs.Plane.{Point, Edge, is_before}
use Rattle.plane_base.specs.Crossing.{late_marks}
use Rattle.plane_base.specs.RoundingLaws.{IsAlong}
use Rattle.segment_split.specs.Paths.{mark_order, along, path}
use Rattle.segment_split.specs.Passes.{marks_on}

-- each stands before the next in the order of marks
abbrev pub RisesAlong : Edge → List Point → Type 0
RisesAlong s ps = AllPairs (λ p r. mark_order s p r ≡ Less) ps

-- The marks along an edge are those that were laid, each once, in order; and there is no other such list. So it doesn't matter in
-- which order marks are found, nor how often.
pub record MarksStandAlong : Type 0 where
  pub members : (s : Edge) (ps : List Point) (p : Point) → Contains (along s ps) p ↔ Contains ps p
  pub rising : (s : Edge) (ps : List Point) → RisesAlong s (along s ps)
  pub only : (s : Edge) (ps rs : List Point) → RisesAlong s rs → ((p : Point) → Contains rs p ↔ Contains ps p) → along s ps ≡ rs
  pub same : (s : Edge) (ps rs : List Point) → ((p : Point) → Contains ps p ↔ Contains rs p) → path s ps ≡ path s rs

-- v stands along the segment beyond u.
pub record IsBeyond (s : Edge) (u v : Point) : Type 0 where
  pub along : IsAlong s u v
  pub differ : u ≢ v

-- each stands beyond all before it
abbrev pub IsStaircase : Edge → List Point → Type 0
IsStaircase s ps = AllPairs (IsBeyond s) ps

-- A path through late marks never turns back: it is a staircase from the edge's first end to its second.
pub record LatePathsClimb : Type 0 where
  pub climbs :
      (es : List Edge) (s : Edge) → is_before s.a s.b ≡ true → All (λ t. is_before t.a t.b ≡ true) es
      → IsStaircase s (path s (marks_on late_marks es s))
