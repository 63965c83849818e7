-- The marks that two segments lay on each other: the points at which each is to be cut.
use Rattle.std.specs.Prelude.{ℕ, ◌+◌, ◌*◌, ℤ, pos, ◌+ℤ◌, ◌*ℤ◌, Bool, cond, not, ◌&&◌, ◌||◌, int_lt, int_le, unsigned_abs, Option, Some, None, List}
use Rattle.std.specs.Prelude.{[], ◌∷◌, ◌++◌}
use Rattle.std.specs.Int.{int_div_euclid}
use Rattle.std.specs.Ordering.{int_eq, is_gt, is_eq}
use Rattle.plane_base.specs.Plane.{Point, Edge, RationalPoint, turn, is_before, point_order, edge_order}
use Rattle.plane_base.specs.Segments.{squared_distance, cross_properly, on_one_line, ends_inside}
use Rattle.plane_base.specs.declared.rounding.Rounding.{Rounding}
use Rattle.plane_base.specs.declared.rounding.Rounding.TheVariants.{Near, Nearest}

-- What the lesser of two segments, the target, and the other have in common.
pub data Meeting : Type 0 where
  -- nothing but ends
  apart : Meeting
  -- a crossing, at which both are marked, but neither at its own end
  pure : Point → Meeting
  -- an end of the target, at which the other is marked
  target_end : Point → Meeting
  -- an end of the other, at which the target is marked
  other_end : Point → Meeting
  -- They run on one line, and each is marked at the ends of the other inside it: the least of these.
  overlay : Point → Meeting

-- ---- whole numbers for p / q, where q is above 0

abbrev pub floor : ℤ → ℕ → ℤ
floor p q = int_div_euclid p (pos q)

-- the nearest, halves up
abbrev pub nearest : ℤ → ℕ → ℤ
nearest p q = floor ((pos 2 *ℤ p) +ℤ pos q) (2 * q)

abbrev pub rounded : RationalPoint → Point
rounded p = record { x = nearest p.x p.q; y = nearest p.y p.q }

abbrev pub is_whole : RationalPoint → Bool
is_whole p = int_eq (pos p.q *ℤ (rounded p).x) p.x && int_eq (pos p.q *ℤ (rounded p).y) p.y

-- along a horizontal or vertical segment rounded down, which is toward its first end where that comes first; else to the nearest
abbrev pub rounded_along : Edge → RationalPoint → Point
rounded_along s p =
    cond (int_eq s.a.y s.b.y) (record { x = floor p.x p.q; y = s.a.y })
    (cond (int_eq s.a.x s.b.x) (record { x = s.a.x; y = floor p.y p.q }) (rounded p))

-- ---- proper crossings

-- the point of s whose distances from a and b are as u to v
abbrev pub mean : Edge → ℕ → ℕ → RationalPoint
mean s u v = record {
  x = (pos v *ℤ s.a.x) +ℤ (pos u *ℤ s.b.x);
  y = (pos v *ℤ s.a.y) +ℤ (pos u *ℤ s.b.y);
  q = u + v;
}

-- where s crosses t, by how far its ends lie from the line of t
abbrev pub crossing : Edge → Edge → RationalPoint
crossing s t = mean s (unsigned_abs (turn t.a t.b s.a)) (unsigned_abs (turn t.a t.b s.b))

-- they cross properly, and at no whole point
abbrev pub crosses_off_grid : Edge → Edge → Bool
crosses_off_grid s t = cross_properly s t && not (is_whole (crossing s t))

-- the end that is nearer to p, the first where both are as near
abbrev pub nearer : Point → Edge → Point
nearer p s = cond (int_lt (squared_distance p s.b) (squared_distance p s.a)) s.b s.a

-- the nearest of the four ends where it is within the radius, a squared distance; else p itself
abbrev pub snapped : Edge → Edge → ℕ → Point → Meeting
snapped s t radius p =
    let e = nearer p s in
    let f = nearer p t in
    cond (int_lt (squared_distance p f) (squared_distance p e))
    (cond (int_le (squared_distance p f) (pos radius)) (other_end f) (pure p))
    (cond (int_le (squared_distance p e) (pos radius)) (target_end e) (pure p))

abbrev pub crossed : Edge → Edge → ℕ → Meeting
crossed s t radius =
    let p = crossing s t in
    cond (is_whole p) (pure (rounded p)) (snapped s t radius (rounded_along s p))

-- ---- no proper crossing

abbrev pub lesser : Point → Option Point → Point
lesser p None = p
lesser p (Some q) = cond (is_before q p) q p

abbrev pub least_of : List Point → Option Point
least_of [] = None
least_of (p ∷ ps) = Some (lesser p (least_of ps))

abbrev pub overlaid : Option Point → Meeting
overlaid None = apart
overlaid (Some p) = overlay p

-- at the first end that lies inside the other segment
abbrev pub at_end : List Point → List Point → Meeting
at_end [] [] = apart
at_end [] (p ∷ ps) = target_end p
at_end (p ∷ ps) qs = other_end p

abbrev pub touching : Edge → Edge → Meeting
touching s t =
    cond (on_one_line s t)
    (overlaid (least_of (ends_inside s t ++ ends_inside t s)))
    (at_end (ends_inside s t) (ends_inside t s))

-- ---- the definition

abbrev pub cross_meeting : Edge → Edge → ℕ → Meeting
cross_meeting s t radius = cond (cross_properly s t) (crossed s t radius) (touching s t)

-- in a late pass no end is sought, and every crossing goes to the nearest whole point
abbrev pub late_meeting : Edge → Edge → Meeting
late_meeting s t = cond (cross_properly s t) (pure (rounded (crossing s t))) (touching s t)

abbrev pub meeting_by : Rounding → Edge → Edge → Meeting
meeting_by (Near radius) s t = cross_meeting s t radius
meeting_by Nearest s t = late_meeting s t

-- what is laid on the first and on the second of two segments
pub record Marks : Type 0 where
  pub first : List Point
  pub second : List Point

abbrev pub no_marks : Marks
no_marks = record { first = []; second = [] }

abbrev pub exchanged : Marks → Marks
exchanged m = record { first = m.second; second = m.first }

-- A segment isn't marked at its own ends.
abbrev pub unless_end : Edge → Point → List Point
unless_end s p = cond (is_eq (point_order p s.a) || is_eq (point_order p s.b)) [] (p ∷ [])

-- what a meeting lays on the target and on the other
abbrev pub laid_by : Edge → Edge → Meeting → Marks
laid_by s t apart = no_marks
laid_by s t (pure p) = record { first = unless_end s p; second = unless_end t p }
laid_by s t (target_end p) = record { first = []; second = p ∷ [] }
laid_by s t (other_end p) = record { first = p ∷ []; second = [] }
laid_by s t (overlay p) = record { first = ends_inside s t; second = ends_inside t s }

-- The marks of a pair in either order: the lesser is the target.
abbrev pub cross_marks : Edge → Edge → ℕ → Marks
cross_marks s t radius =
    cond (is_gt (edge_order s t)) (exchanged (laid_by t s (cross_meeting t s radius))) (laid_by s t (cross_meeting s t radius))

abbrev pub late_marks : Edge → Edge → Marks
late_marks s t =
    cond (is_gt (edge_order s t)) (exchanged (laid_by t s (late_meeting t s))) (laid_by s t (late_meeting s t))

abbrev pub marks_by : Rounding → Edge → Edge → Marks
marks_by (Near radius) s t = cross_marks s t radius
marks_by Nearest s t = late_marks s t
