-- What is seen of a pass where its pairs are looked at.
use Rattle.std.specs.Prelude.{ℕ, ◌<◌, ◌^◌, ℤ, List, length}
use Rattle.plane_base.specs.Plane.{Edge}
use Rattle.plane_base.specs.Counts.{Counting, Entry, IsNormal}
use Rattle.plane_base.specs.declared.rounding.Rounding.{Rounding}
use Rattle.segment_split.specs.MarkLists.{SkipsOld}
use Rattle.segment_split.specs.Passes.{edges_of}
use Rattle.segment_split.specs.SegmentViews.{AreWithin}

-- its edges, the number of the next new one from each of them on, and how crossings are rounded
pub record SeenPass : Type 0 where
  pub edges : List Edge
  pub next_new : List ℕ
  pub rounding : Rounding

abbrev pub seen_pass : {C : Type 0} → List (Entry C) → List ℕ → Rounding → SeenPass
seen_pass es next_new rounding = record { edges = edges_of es; next_new = next_new; rounding = rounding }

-- The entries are a map in range, of fewer than 2^31.
pub record CanBePassed (least greatest : ℤ) {C : Type 0} (kind : Counting C) (es : List (Entry C)) : Type 0 where
  pub within : AreWithin least greatest es
  pub normal : IsNormal kind es
  pub few : length es < 2 ^ 31

-- The same, and any two that are told to be old are parted.
pub record IsPass (least greatest : ℤ) {C : Type 0} (kind : Counting C) (es : List (Entry C)) (next_new : List ℕ) : Type 0 where
  pub within : AreWithin least greatest es
  pub normal : IsNormal kind es
  pub few : length es < 2 ^ 31
  pub skips : SkipsOld (edges_of es) next_new
