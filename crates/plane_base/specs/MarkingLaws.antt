-- Why a pair is marked as it is.
use Rattle.std.specs.Prelude.{◌≡◌, ◌⊎◌, ℕ, pos, ◌≤ℤ◌, ◌<ℤ◌, true, false, cond, List, [], ◌∷◌}
use Rattle.std.specs.Ordering.{is_gt}
use Rattle.plane_base.specs.Plane.{Point, Edge, is_before, edge_order}
use Rattle.plane_base.specs.Segments.{squared_distance, cross_properly, on_one_line, ends_inside}
use Rattle.plane_base.specs.Crossing.{rounded, rounded_along, is_whole, crossing, Marks, unless_end, cross_marks, late_marks}

abbrev pub both_at : Point → Marks
both_at p = record { first = p ∷ []; second = p ∷ [] }

-- the one along which a crossing is rounded
abbrev pub lesser_edge : Edge → Edge → Edge
lesser_edge s t = cond (is_gt (edge_order s t)) t s

-- ---- no proper crossing

-- at most one point in two lists
pub data IsAtMostOne (ps qs : List Point) : Type 0 where
  none : ps ≡ [] → qs ≡ [] → IsAtMostOne ps qs
  in_first : (p : Point) → ps ≡ p ∷ [] → qs ≡ [] → IsAtMostOne ps qs
  in_second : (p : Point) → ps ≡ [] → qs ≡ p ∷ [] → IsAtMostOne ps qs

-- ---- a proper crossing in an early pass, rounded along u

abbrev pub IsOneEnd : Point → Edge → Edge → Type 0
IsOneEnd e s t = ((e ≡ s.a) ⊎ (e ≡ s.b)) ⊎ ((e ≡ t.a) ⊎ (e ≡ t.b))

pub data IsCrossed (u s t : Edge) (radius : ℕ) (m : Marks) : Type 0 where
  -- at a whole point, where both are marked
  whole : is_whole (crossing s t) ≡ true → m ≡ both_at (rounded (crossing s t)) → IsCrossed u s t radius m
  -- Off the grid, within the radius of an end of s, at which t is marked alone.
  at_first :
      (e : Point) → is_whole (crossing s t) ≡ false → (e ≡ s.a) ⊎ (e ≡ s.b) →
      squared_distance (rounded_along u (crossing s t)) e ≤ℤ pos radius → m ≡ record { first = []; second = e ∷ [] } → IsCrossed u s t radius m
  -- Off the grid, within the radius of an end of t, at which s is marked alone.
  at_second :
      (e : Point) → is_whole (crossing s t) ≡ false → (e ≡ t.a) ⊎ (e ≡ t.b) →
      squared_distance (rounded_along u (crossing s t)) e ≤ℤ pos radius → m ≡ record { first = e ∷ []; second = [] } → IsCrossed u s t radius m
  -- Off the grid, beyond the radius of all ends: both are marked at the rounded point.
  afar :
      is_whole (crossing s t) ≡ false → ((e : Point) → IsOneEnd e s t → pos radius <ℤ squared_distance (rounded_along u (crossing s t)) e) →
      m ≡ both_at (rounded_along u (crossing s t)) → IsCrossed u s t radius m

-- ---- the law

-- Of segments with the lesser end first. Where they don't cross properly, each is marked at the ends of the other that lie
-- strictly inside it, and unless both run on one line, that is one point or none. Else they are marked by the four cases above;
-- late at the nearest whole point, but for own ends.
pub record MarksByCase : Type 0 where
  pub touching :
      (s t : Edge) (radius : ℕ) → is_before s.a s.b ≡ true → is_before t.a t.b ≡ true → cross_properly s t ≡ false →
      cross_marks s t radius ≡ record { first = ends_inside s t; second = ends_inside t s }
  pub touching_late :
      (s t : Edge) → is_before s.a s.b ≡ true → is_before t.a t.b ≡ true → cross_properly s t ≡ false →
      late_marks s t ≡ record { first = ends_inside s t; second = ends_inside t s }
  pub one_end :
      (s t : Edge) → is_before s.a s.b ≡ true → is_before t.a t.b ≡ true → on_one_line s t ≡ false →
      IsAtMostOne (ends_inside s t) (ends_inside t s)
  pub crossed :
      (s t : Edge) (radius : ℕ) → is_before s.a s.b ≡ true → is_before t.a t.b ≡ true → cross_properly s t ≡ true →
      IsCrossed (lesser_edge s t) s t radius (cross_marks s t radius)
  pub crossed_late :
      (s t : Edge) → cross_properly s t ≡ true →
      late_marks s t ≡ record { first = unless_end s (rounded (crossing s t)); second = unless_end t (rounded (crossing s t)) }
