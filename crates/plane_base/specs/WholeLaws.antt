-- Crossings at whole points: the marks that are laid there, and the crossings of parts of segments.
use Rattle.std.specs.Prelude.{◌≡◌, ◌↔◌, ℕ, pos, ◌*ℤ◌, true, false, [], ◌∷◌, All}
use Rattle.std.specs.Ordering.{is_le}
use Rattle.plane_base.specs.Plane.{Point, Edge, RationalPoint, IsRational, scaled, numerators, turn, is_before, point_order}
use Rattle.plane_base.specs.Segments.{strictly_inside, cross_properly}
use Rattle.plane_base.specs.Crossing.{rounded, is_whole, crossing, Marks, cross_marks, late_marks}

-- A rational point is whole where it is a whole point, which is then the one that it is rounded to.
pub record WholeIsPoint : Type 0 where
  pub test : (p : RationalPoint) → (is_whole p ≡ true) ↔ (scaled p.q (rounded p) ≡ numerators p)
  pub point : (p : RationalPoint) → IsRational p → (is_whole p ≡ true) ↔ ((w : Point) × (scaled p.q w ≡ numerators p))
  pub only : (p : RationalPoint) (w : Point) → IsRational p → scaled p.q w ≡ numerators p → rounded p ≡ w

-- ---- marks

-- Where the two cross properly they do so at a whole point.
abbrev pub MeetsWhole : Edge → Edge → Type 0
MeetsWhole s t = cross_properly s t ≡ true → is_whole (crossing s t) ≡ true

-- Each mark lies strictly inside the segment that is marked.
pub record AreInside (s t : Edge) (m : Marks) : Type 0 where
  pub first : All (λ p. strictly_inside p s ≡ true) m.first
  pub second : All (λ p. strictly_inside p t ≡ true) m.second

-- Where two segments don't cross properly, or do so at a whole point, each mark lies strictly inside the segment that is
-- marked, and marks are the same at every radius and late. A proper crossing at a whole point marks both there.
pub record WholeMarksStay : Type 0 where
  pub swapped : (s t : Edge) → MeetsWhole s t → MeetsWhole t s
  pub same : (s t : Edge) (radius : ℕ) → MeetsWhole s t → cross_marks s t radius ≡ late_marks s t
  pub inside : (s t : Edge) (radius : ℕ) → is_before s.a s.b ≡ true → is_before t.a t.b ≡ true → MeetsWhole s t → AreInside s t (cross_marks s t radius)
  pub touching : (s t : Edge) (radius : ℕ) → cross_properly s t ≡ false → AreInside s t (cross_marks s t radius)
  pub crossing :
      (s t : Edge) (radius : ℕ) → is_before s.a s.b ≡ true → is_before t.a t.b ≡ true → cross_properly s t ≡ true → is_whole (crossing s t) ≡ true →
      cross_marks s t radius ≡ record { first = rounded (crossing s t) ∷ []; second = rounded (crossing s t) ∷ [] }

-- ---- parts

-- u is a part of s, or all of it: it runs the same way, and its ends lie on the line of s and not outside its ends.
pub record IsPiece (u s : Edge) : Type 0 where
  pub first_on : turn s.a s.b u.a ≡ pos 0
  pub second_on : turn s.a s.b u.b ≡ pos 0
  pub from : is_le (point_order s.a u.a) ≡ true
  pub forward : is_before u.a u.b ≡ true
  pub to : is_le (point_order u.b s.b) ≡ true

-- one point, whatever the fractions
pub record IsSamePlace (p r : RationalPoint) : Type 0 where
  pub x : p.x *ℤ pos r.q ≡ r.x *ℤ pos p.q
  pub y : p.y *ℤ pos r.q ≡ r.y *ℤ pos p.q

-- Parts of two segments cross properly only where these do, at the same place, and not at all where they are parts of one.
-- So where segments meet whole, their parts do.
pub record PiecesCrossAlike : Type 0 where
  pub cross : (s t u v : Edge) → IsPiece u s → IsPiece v t → cross_properly u v ≡ true → cross_properly s t ≡ true
  pub place : (s t u v : Edge) → IsPiece u s → IsPiece v t → cross_properly u v ≡ true → IsSamePlace (crossing u v) (crossing s t)
  pub rounded : (s t u v : Edge) → IsPiece u s → IsPiece v t → cross_properly u v ≡ true → rounded (crossing u v) ≡ rounded (crossing s t)
  pub whole : (s t u v : Edge) → IsPiece u s → IsPiece v t → cross_properly u v ≡ true → is_whole (crossing u v) ≡ is_whole (crossing s t)
  pub meets : (s t u v : Edge) → IsPiece u s → IsPiece v t → MeetsWhole s t → MeetsWhole u v
  pub apart : (s u v : Edge) → IsPiece u s → IsPiece v s → cross_properly u v ≡ false
