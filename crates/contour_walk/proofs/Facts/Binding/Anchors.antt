-- The anchor of a contour: the lowest edge at its least point, which is never vertical.
use Rattle.std.proofs.Common.{◌≡◌, ◌≢◌, ◌<◌, Bool, true, false, cond, List, [], ◌∷◌, length, All, Contains, ◌⊎◌, inl, inr, ℤ, pos, ◌≤ℤ◌, ◌<ℤ◌, refl, sym, ap, ◌∙◌, subst, arith}
use Rattle.std.specs.Prelude.{Option, Some, None}
use Rattle.std.specs.Ordering.{is_eq, int_cmp}
use Rattle.std.proofs.lemmas.Int.{ints}
use Rattle.std.proofs.lemmas.List.Elements.{All-contains, All-contains_itself}
use Rattle.plane_base.specs.Plane.{Point, Edge, turn, is_before, point_order, edge_order}
use Rattle.plane_base.specs.Segments.{parted}
use Rattle.plane_base.specs.Balance.{mark}
use Rattle.plane_base.specs.Totals.{total}
use Rattle.plane_base.proofs.Facts.Lists.Totals.{total_monotone_on}
use Rattle.plane_base.proofs.Facts.Points.Orders.{point_equal, is_equal, edge_itself, point_less, point_less_x, before_is_less}
use Rattle.plane_base.proofs.Facts.Columns.Levels.{unless_same}
use Rattle.segment_arrangement.proofs.Facts.Fans.{turn_vertical}
use Rattle.segment_arrangement.proofs.Facts.Angles.{angle_is_lawful}
use Rattle.contour_walk.specs.Walks.{contour_edges}
use Rattle.contour_walk.specs.Binding.{least_point, lowest_from, anchor}
use Rattle.contour_walk.proofs.Facts.Binding.Lists.{term_above}
use Rattle.contour_walk.proofs.Facts.Binding.Orders.{IsLeastPoint, has_least, IsLowest, lowest_is, has_lowest}
use Rattle.contour_walk.proofs.Facts.Binding.Edges.{marked, two_start}

-- how often an edge is in the list
abbrev pub times : Edge → List Edge → ℤ
times e ss = total (λ s. cond (is_eq (edge_order s e)) (pos 1) (pos 0)) ss

-- the edges of a contour have their lesser ends first, any two different ones are parted, and each is there once
pub record IsClean (ss : List Edge) : Type 0 where
  pub directed : All (λ s. is_before s.a s.b ≡ true) ss
  pub in_ends : (s t : Edge) → Contains ss s → Contains ss t → s ≢ t → parted s t ≡ true
  pub once : (e : Edge) → Contains ss e → times e ss ≤ℤ pos 1

pub record IsAnchor (points : List Point) (e : Edge) : Type 0 where
  pub least : IsLeastPoint points e.a
  pub here : Contains (contour_edges points) e
  pub lowest : (s : Edge) → Contains (contour_edges points) s → s.a ≡ e.a → pos 0 ≤ℤ turn e.a e.b s.b

module _ (points : List Point) (clean : IsClean (contour_edges points)) (v : Point) (least : IsLeastPoint points v) where
  -- were the lowest edge vertical, it would be the only one
  alone : (e : Edge) → IsLowest v (contour_edges points) e → e.a.x ≡ e.b.x → e.a.y <ℤ e.b.y → (s : Edge) → Contains (contour_edges points) s → s.a ≡ v → s ≡ e
  alone e h vertical up s here start = unless_same s e (λ same. same) differs
    where
      together : e.a ≡ s.a
      together = h.starts ∙ sym start

      level : (z : ℤ) → z ≤ℤ pos 0 → pos 0 ≤ℤ z → z ≡ pos 0
      level z l m = omega (arith, ints)

      right : e.a.x ≤ℤ s.b.x
      right = subst (λ p. p.x ≤ℤ s.b.x) (sym together) (point_less_x s.a s.b (before_is_less s.a s.b (All-contains (λ s. is_before s.a s.b ≡ true) (contour_edges points) s clean.directed here)))

      flat : turn e.a e.b s.b ≡ pos 0
      flat = level (turn e.a e.b s.b) (turn_vertical e s.b vertical up right) (subst (λ z. pos 0 ≤ℤ turn z e.b s.b) (sym h.starts) (h.least s here start))

      differs : s ≢ e → s ≡ e
      differs other =
          absurd (angle_is_lawful.decided e s together (All-contains (λ s. is_before s.a s.b ≡ true) (contour_edges points) e clean.directed h.here) (All-contains (λ s. is_before s.a s.b ≡ true) (contour_edges points) s clean.directed here)
          (clean.in_ends e s h.here here (λ same. other (sym same))) (λ same. other (sym same)) (ap (int_cmp (pos 0)) flat))

  wide_one : (e : Edge) → IsLowest v (contour_edges points) e → e.a.x <ℤ e.b.x
  wide_one e h = by (point_less e.a e.b (before_is_less e.a e.b (All-contains (λ s. is_before s.a s.b ≡ true) (contour_edges points) e clean.directed h.here)))
    where
      clash : (t n : ℤ) → pos 2 ≤ℤ t → t ≤ℤ n → n ≤ℤ pos 1 → ⊥
      clash t n l m k = omega (arith, ints)

      at_most : e.a.x ≡ e.b.x → e.a.y <ℤ e.b.y → (s : Edge) → Contains (contour_edges points) s → mark v s.a ≤ℤ cond (is_eq (edge_order s e)) (pos 1) (pos 0)
      at_most vertical up s here = held (is_eq (point_order s.a v)) refl
        where
          counted : s ≡ e → pos 1 ≤ℤ cond (is_eq (edge_order s e)) (pos 1) (pos 0)
          counted same = subst (λ o. pos 1 ≤ℤ cond (is_eq o) (pos 1) (pos 0)) (sym (ap (λ z. edge_order z e) same ∙ edge_itself e)) (omega (arith, ints))

          not_negative : (b : Bool) → pos 0 ≤ℤ cond b (pos 1) (pos 0)
          not_negative true = omega (arith, ints)
          not_negative false = omega (arith, ints)

          held : (b : Bool) → is_eq (point_order s.a v) ≡ b → cond b (pos 1) (pos 0) ≤ℤ cond (is_eq (edge_order s e)) (pos 1) (pos 0)
          held true f = counted (alone e h vertical up s here (point_equal s.a v (is_equal (point_order s.a v) f)))
          held false f = not_negative (is_eq (edge_order s e))

      by : (e.a.x <ℤ e.b.x) ⊎ ((e.a.x ≡ e.b.x) × (e.a.y <ℤ e.b.y)) → e.a.x <ℤ e.b.x
      by (inl l) = l
      by (inr u) =
          absurd (clash (total (λ s. mark v s.a) (contour_edges points)) (times e (contour_edges points)) (two_start v points least clean.directed)
          (total_monotone_on (λ s. mark v s.a) (λ s. cond (is_eq (edge_order s e)) (pos 1) (pos 0)) (contour_edges points)
          (λ i d l. at_most u.0 u.1 _ (All-contains_itself (contour_edges points) i d l)))
          (clean.once e h.here))

  lowest_anchor : (e : Edge) × (lowest_from v (contour_edges points) ≡ Some e) × (e.a.x <ℤ e.b.x)
  lowest_anchor =
      let s = term_above (λ s. mark v s.a) (contour_edges points) (some (total (λ s. mark v s.a) (contour_edges points)) (two_start v points least clean.directed)) in
      by (has_lowest v (contour_edges points) s.0 s.1 (marked v s.0.a s.2))
    where
      some : (t : ℤ) → pos 2 ≤ℤ t → pos 0 <ℤ t
      some t l = omega (arith, ints)

      by : ((e : Edge) × (lowest_from v (contour_edges points) ≡ Some e)) → (e : Edge) × (lowest_from v (contour_edges points) ≡ Some e) × (e.a.x <ℤ e.b.x)
      by (e, found) = (e, found, wide_one e (lowest_is v (contour_edges points) clean.directed e found))

abbrev at_least : List Edge → Option Point → Option Edge
at_least ss o = elim o [ None ↦ None | Some v ↦ lowest_from v ss ]

-- each contour of clean edges has an anchor, which is not vertical
pub has_anchor : (points : List Point) → 0 < length points → IsClean (contour_edges points) → (e : Edge) × (anchor points ≡ Some e) × (e.a.x <ℤ e.b.x)
has_anchor [] l clean = absurd (omega (arith, l))
has_anchor (p ∷ ps) l clean = by (has_least p ps)
  where
    by : ((v : Point) × (least_point (p ∷ ps) ≡ Some v) × IsLeastPoint (p ∷ ps) v) → (e : Edge) × (anchor (p ∷ ps) ≡ Some e) × (e.a.x <ℤ e.b.x)
    by (v, found, least) =
        let h = lowest_anchor (p ∷ ps) clean v least in
        (h.0, ap (at_least (contour_edges (p ∷ ps))) found ∙ h.1, h.2)

-- what an anchor is
pub anchor_is : (points : List Point) → All (λ s. is_before s.a s.b ≡ true) (contour_edges points) → (e : Edge) → anchor points ≡ Some e → IsAnchor points e
anchor_is [] directed e found = absurd (cc)
anchor_is (p ∷ ps) directed e found = by (has_least p ps)
  where
    of_lowest : (v : Point) → IsLeastPoint (p ∷ ps) v → IsLowest v (contour_edges (p ∷ ps)) e → IsAnchor (p ∷ ps) e
    of_lowest v least h = record {
      least = subst (IsLeastPoint (p ∷ ps)) (sym h.starts) least;
      here = h.here;
      lowest = λ s here start. subst (λ z. pos 0 ≤ℤ turn z e.b s.b) (sym h.starts) (h.least s here (start ∙ h.starts));
    }

    by : ((v : Point) × (least_point (p ∷ ps) ≡ Some v) × IsLeastPoint (p ∷ ps) v) → IsAnchor (p ∷ ps) e
    by (v, there, least) = of_lowest v least (lowest_is v (contour_edges (p ∷ ps)) directed e (sym (ap (at_least (contour_edges (p ∷ ps))) there) ∙ found))
