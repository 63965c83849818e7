-- Groups of edges: boxes that share no point, and the part of a map that lies in each.
use Rattle.std.specs.Prelude.{◌≡◌, ◌⊎◌, ℕ, ℤ, ◌≤ℤ◌, ◌<ℤ◌, Bool, true, ◌&&◌, int_le, List, filter, All, AllPairs, Any, Contains}
use Rattle.plane_base.specs.Plane.{Point, Edge, is_before}
use Rattle.plane_base.specs.Counts.{Counting, Entry, IsNormal, normal}
use Rattle.segment_split.specs.Passes.{pass}
use Rattle.segment_split.specs.Redrawing.{iterate, redrawn}
use Rattle.segment_split.specs.declared.solver.Precision.{Precision}

-- ---- boxes

pub record Bounds : Type 0 where
  pub left : ℤ
  pub right : ℤ
  pub bottom : ℤ
  pub top : ℤ

-- The point lies in the box, its boundary included.
pub record LiesWithin (box : Bounds) (p : Point) : Type 0 where
  pub left : box.left ≤ℤ p.x
  pub right : p.x ≤ℤ box.right
  pub bottom : box.bottom ≤ℤ p.y
  pub top : p.y ≤ℤ box.top

abbrev pub EndsLieWithin : {C : Type 0} → Bounds → List (Entry C) → Type 0
EndsLieWithin box es = All (λ e. LiesWithin box e.edge.a × LiesWithin box e.edge.b) es

-- the test of `LiesWithin`
abbrev pub lies_within : Bounds → Point → Bool
lies_within box p = (int_le box.left p.x && int_le p.x box.right) && (int_le box.bottom p.y && int_le p.y box.top)

-- both ends of the edge lie in the box
abbrev pub in_box : Bounds → Edge → Bool
in_box box s = lies_within box s.a && lies_within box s.b

-- The boxes share no point: one ends before the other begins, in x or in y. Boxes that share a corner share a point.
abbrev pub AreApart : Bounds → Bounds → Type 0
AreApart b c = (b.right <ℤ c.left) ⊎ ((c.right <ℤ b.left) ⊎ ((b.top <ℤ c.bottom) ⊎ (c.top <ℤ b.bottom)))

-- ---- groups

-- Any two of the boxes are apart, and each edge lies in one of them.
pub record AreGroups {C : Type 0} (boxes : List Bounds) (es : List (Entry C)) : Type 0 where
  pub apart : AllPairs AreApart boxes
  pub each : All (λ e. Any (λ box. in_box box e.edge ≡ true) boxes) es

-- the entries whose edges lie in the box, in their order
abbrev pub part : {C : Type 0} → Bounds → List (Entry C) → List (Entry C)
part box es = filter (λ e. in_box box e.edge) es

-- In the box of each group of the given map the map is the redrawn one of that group alone. Given edges that cancel are in no group.
abbrev pub IsRedrawnAlone : {C : Type 0} → Counting C → Precision → List (Entry C) → List (Entry C) → Type 0
IsRedrawnAlone kind precision given map =
    (boxes : List Bounds) (box : Bounds) → AreGroups boxes (normal kind given) → Contains boxes box
    → part box map ≡ redrawn kind precision (normal kind (part box given))

-- ---- what is done to each group alone

-- The change leaves each group in its box, and in each box what it makes of the part there alone.
pub record ChangesAlone {C : Type 0} (change : List (Entry C) → List (Entry C)) : Type 0 where
  pub groups : (boxes : List Bounds) (es : List (Entry C)) → AreGroups boxes es → AreGroups boxes (change es)
  pub alone : (boxes : List Bounds) (box : Bounds) (es : List (Entry C)) → AreGroups boxes es → Contains boxes box
      → part box (change es) ≡ change (part box es)

-- Joining what lies on one edge, a pass, and passes one after another change each group alone; and so does redrawing, a map and
-- what is given for one.
pub record RedrawsAlone {C : Type 0} (kind : Counting C) (precision : Precision) : Type 0 where
  pub of_normal : ChangesAlone (normal kind)
  pub of_pass : (k : ℕ) → ChangesAlone (λ es. pass kind precision es k)
  pub of_iterate : (n : ℕ) → ChangesAlone (λ es. iterate kind precision es n)
  pub groups : (boxes : List Bounds) (es : List (Entry C)) → AreGroups boxes es → AreGroups boxes (redrawn kind precision es)
  pub of_redrawn : (boxes : List Bounds) (box : Bounds) (es : List (Entry C)) → IsNormal kind es → AreGroups boxes es → Contains boxes box
      → part box (redrawn kind precision es) ≡ redrawn kind precision (part box es)
  pub of_given : (boxes : List Bounds) (box : Bounds) (es : List (Entry C)) → All (λ e. is_before e.edge.a e.edge.b ≡ true) es
      → AreGroups boxes (normal kind es) → Contains boxes box
      → part box (redrawn kind precision (normal kind es)) ≡ redrawn kind precision (normal kind (part box es))
