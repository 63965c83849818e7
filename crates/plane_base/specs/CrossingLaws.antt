-- What marks keep to.
use Rattle.std.specs.Prelude.{◌≡◌, ◌≢◌, ◌↔◌, ℕ, ◌≤ℤ◌, true, false, List, All, Contains, pos}
use Rattle.std.specs.Int.{int_min, int_max}
use Rattle.plane_base.specs.Plane.{Point, Edge, IsRational, is_before, side, lies_on}
use Rattle.plane_base.specs.Segments.{cross_properly, parted, MeetsInEnds}
use Rattle.plane_base.specs.Crossing.{crossing, pure, cross_meeting, Marks, no_marks, exchanged, cross_marks, late_marks}

-- The point lies in the box of the segment, its boundary included.
pub record InBox (p : Point) (s : Edge) : Type 0 where
  pub left : int_min s.a.x s.b.x ≤ℤ p.x
  pub right : p.x ≤ℤ int_max s.a.x s.b.x
  pub bottom : int_min s.a.y s.b.y ≤ℤ p.y
  pub top : p.y ≤ℤ int_max s.a.y s.b.y

-- The point lies in the box of the four ends.
pub record InBoxOfBoth (p : Point) (s t : Edge) : Type 0 where
  pub left : int_min (int_min s.a.x s.b.x) (int_min t.a.x t.b.x) ≤ℤ p.x
  pub right : p.x ≤ℤ int_max (int_max s.a.x s.b.x) (int_max t.a.x t.b.x)
  pub bottom : int_min (int_min s.a.y s.b.y) (int_min t.a.y t.b.y) ≤ℤ p.y
  pub top : p.y ≤ℤ int_max (int_max s.a.y s.b.y) (int_max t.a.y t.b.y)

-- Two segments share an x and a y.
pub record BoxesMeet (s t : Edge) : Type 0 where
  pub left : int_min s.a.x s.b.x ≤ℤ int_max t.a.x t.b.x
  pub right : int_min t.a.x t.b.x ≤ℤ int_max s.a.x s.b.x
  pub bottom : int_min s.a.y s.b.y ≤ℤ int_max t.a.y t.b.y
  pub top : int_min t.a.y t.b.y ≤ℤ int_max s.a.y s.b.y

-- Each mark of the first lies in the box of s, each mark of the second in that of t.
pub record InOwnBoxes (s t : Edge) (m : Marks) : Type 0 where
  pub first : All (λ p. InBox p s) m.first
  pub second : All (λ p. InBox p t) m.second

pub record InBoxesOfBoth (s t : Edge) (m : Marks) : Type 0 where
  pub first : All (λ p. InBoxOfBoth p s t) m.first
  pub second : All (λ p. InBoxOfBoth p s t) m.second

-- No mark is an end of the segment that is marked.
pub record AreReal (s t : Edge) (m : Marks) : Type 0 where
  pub first : All (λ p. (p ≢ s.a) × (p ≢ s.b)) m.first
  pub second : All (λ p. (p ≢ t.a) × (p ≢ t.b)) m.second

-- ---- the laws

-- Where two segments cross properly, the crossing is a rational point of both lines, and of both segments where their first
-- ends are the lesser ones. Either segment finds the same three numbers.
pub record CrossingIsCommon : Type 0 where
  pub is_rational : (s t : Edge) → cross_properly s t ≡ true → IsRational (crossing s t)
  pub on_first_line : (s t : Edge) → cross_properly s t ≡ true → side s.a s.b (crossing s t) ≡ pos 0
  pub on_second_line : (s t : Edge) → cross_properly s t ≡ true → side t.a t.b (crossing s t) ≡ pos 0
  pub on_first : (s t : Edge) → is_before s.a s.b ≡ true → cross_properly s t ≡ true → lies_on s (crossing s t) ≡ true
  pub on_second : (s t : Edge) → is_before t.a t.b ≡ true → cross_properly s t ≡ true → lies_on t (crossing s t) ≡ true
  pub same : (s t : Edge) → cross_properly s t ≡ true → crossing s t ≡ crossing t s

-- The marks don't depend on who finds the pair.
pub record MarksAgree : Type 0 where
  pub early : (s t : Edge) (radius : ℕ) → s ≢ t → cross_marks t s radius ≡ exchanged (cross_marks s t radius)
  pub late : (s t : Edge) → s ≢ t → late_marks t s ≡ exchanged (late_marks s t)

-- Of two different segments of the list, none is marked by the other.
abbrev pub IsUnmarked : (Edge → Edge → Marks) → List Edge → Type 0
IsUnmarked marks es = (s t : Edge) → Contains es s → Contains es t → s ≢ t → marks s t ≡ no_marks

-- A pair marks nothing exactly where it is parted, at whatever radius, or late. So a list is unmarked exactly where it meets
-- in ends.
pub record MarkUnlessParted : Type 0 where
  pub early : (s t : Edge) (radius : ℕ) → (cross_marks s t radius ≡ no_marks) ↔ (parted s t ≡ true)
  pub late : (s t : Edge) → (late_marks s t ≡ no_marks) ↔ (parted s t ≡ true)
  pub early_list : (es : List Edge) (radius : ℕ) → IsUnmarked (λ s t. cross_marks s t radius) es ↔ MeetsInEnds es
  pub late_list : (es : List Edge) → IsUnmarked late_marks es ↔ MeetsInEnds es

pub record MarksAreReal : Type 0 where
  pub early : (s t : Edge) (radius : ℕ) → AreReal s t (cross_marks s t radius)
  pub late : (s t : Edge) → AreReal s t (late_marks s t)

-- Where marks lie: in the box of the four ends; and but for an end to which a crossing goes, in the box of the
-- segment that is marked.
pub record MarksStayInBoxes : Type 0 where
  pub early : (s t : Edge) (radius : ℕ) → InBoxesOfBoth s t (cross_marks s t radius)
  pub touching : (s t : Edge) (radius : ℕ) → cross_properly s t ≡ false → InOwnBoxes s t (cross_marks s t radius)
  pub crossing : (s t : Edge) (radius : ℕ) (p : Point) → cross_meeting s t radius ≡ pure p → InBox p s × InBox p t
  pub late : (s t : Edge) → InOwnBoxes s t (late_marks s t)

-- A pair that marks shares an x and a y.
pub record MarksNeedBoxesThatMeet : Type 0 where
  pub early : (s t : Edge) (radius : ℕ) → cross_marks s t radius ≢ no_marks → BoxesMeet s t
  pub late : (s t : Edge) → late_marks s t ≢ no_marks → BoxesMeet s t
