-- Each edge of an arrangement has one lower side.
use Rattle.std.proofs.Common.{◌≡◌, true, List, map, get_or, Contains, ℤ, ◌<ℤ◌, ◌⊎◌, inl, inr, sym, ap, ◌∙◌, arith}
use Rattle.std.proofs.lemmas.Int.{ints}
use Rattle.std.proofs.lemmas.List.{get_or-map, length-map}
use Rattle.std.proofs.lemmas.List.Elements.{All-contains, All-contains_itself}
use Rattle.plane_base.specs.Plane.{Edge, RationalPoint, IsRational, is_before}
use Rattle.plane_base.specs.Counts.{Count, Entry}
use Rattle.plane_base.specs.Windings.{winding}
use Rattle.plane_base.specs.Balance.{IsBalancedMap}
use Rattle.plane_base.specs.ColumnLaws.{IsLive}
use Rattle.plane_base.proofs.Facts.Maps.Laying.{IsDirected}
use Rattle.plane_base.proofs.Facts.Points.Orders.{point_less, before_is_less}
use Rattle.plane_base.proofs.Facts.Columns.Parted.{IsBetween}
use Rattle.segment_arrangement.specs.Columns.{below}
use Rattle.segment_arrangement.specs.EdgeSides.{middle, lower_side}
use Rattle.segment_arrangement.specs.SideLaws.{IsPartedFrom, IsArrangement, SidesAreConstant, WindingAlongSegment}
use Rattle.segment_arrangement.proofs.Facts.ColumnPlaces.{column_of}
use Rattle.segment_arrangement.proofs.Facts.AlongKey.{below_constant}
use Rattle.segment_arrangement.proofs.Facts.InnerPoints.{inner_between, middle_between, winding_inner, winding_vertical, reaching}

pub Contains-map : {A B : Type 0} (f : A → B) (xs : List A) (x : A) → Contains xs x → Contains (map f xs) (f x)
Contains-map f xs x h = (h.0, rw length-map h.1, get_or-map f xs h.0 x (f x) h.1 ∙ ap f h.2)

-- all inner points of a segment that isn't vertical are seen at each of its columns
at_inner : (es : List (Entry Count)) (s : Edge) (p : RationalPoint) (x : ℤ) → IsDirected es → IsBalancedMap es → IsPartedFrom s es → IsRational p → IsBetween p s → IsLive x s → winding es p ≡ below es s x
at_inner es s p x directed balanced others some between live =
    let c = column_of p some in
    let w = winding_inner s p some between c.0 c.1 (omega (arith, ints, live.0, live.1)) es others in
    w.1 ∙ below_constant es s c.0 x directed others balanced w.0 live

module _ (es : List (Entry Count)) (arranged : IsArrangement es) where
  pub parted_from_others : (e : Entry Count) → Contains es e → IsPartedFrom e.edge es
  parted_from_others e here i d l differ =
      arranged.in_ends e.edge (get_or es i d).edge (Contains-map (λ e. e.edge) es e here)
      (Contains-map (λ e. e.edge) es (get_or es i d) (All-contains_itself es i d l)) differ

  pub directed_entry : (e : Entry Count) → Contains es e → is_before e.edge.a e.edge.b ≡ true
  directed_entry e here = All-contains (λ e. is_before e.edge.a e.edge.b ≡ true) es e arranged.directed here

  module _ (e : Entry Count) (here : Contains es e) where
    winding_is_below : (p : RationalPoint) → IsRational p → IsBetween p e.edge → (x : ℤ) → IsLive x e.edge → winding es p ≡ below es e.edge x
    winding_is_below p some between x live = at_inner es e.edge p x arranged.directed arranged.balanced (parted_from_others e here) some between live

    -- the lower side of an edge is what passes below it at any of its columns
    pub lower_is_below : (x : ℤ) → IsLive x e.edge → lower_side es e.edge ≡ below es e.edge x
    lower_is_below x live = winding_is_below (middle e.edge) (omega arith) (middle_between e.edge (directed_entry e here)) x live

    pub lower_vertical : e.edge.a.x ≡ e.edge.b.x → lower_side es e.edge ≡ reaching es e.edge.a
    lower_vertical vertical =
        winding_vertical e.edge (middle e.edge) (omega arith) (middle_between e.edge (directed_entry e here)) (directed_entry e here) vertical es (parted_from_others e here)

    one_side : (p : RationalPoint) → IsRational p → IsBetween p e.edge → winding es p ≡ lower_side es e.edge
    one_side p some between = by (point_less e.edge.a e.edge.b (before_is_less e.edge.a e.edge.b (directed_entry e here)))
      where
        by : (e.edge.a.x <ℤ e.edge.b.x) ⊎ ((e.edge.a.x ≡ e.edge.b.x) × (e.edge.a.y <ℤ e.edge.b.y)) → winding es p ≡ lower_side es e.edge
        by (inl wide) =
            let live : IsLive e.edge.a.x e.edge = (omega (arith, ints), wide) in
            winding_is_below p some between e.edge.a.x live ∙ sym (lower_is_below e.edge.a.x live)
        by (inr h) = winding_vertical e.edge p some between (directed_entry e here) h.0 es (parted_from_others e here) ∙ sym (lower_vertical h.0)

pub sides_are_constant : SidesAreConstant
sides_are_constant es e p arranged here inner = one_side es arranged e here p inner.rational (inner_between e.edge p inner)

pub winding_along_segment : WindingAlongSegment
winding_along_segment = record {
  is_below = λ es s p x directed balanced others inner live. at_inner es s p x directed balanced others inner.rational (inner_between s p inner) live;
  constant = λ es s p r directed balanced others before in_p in_r.
      by es s p r directed balanced others before in_p.rational (inner_between s p in_p) in_r.rational (inner_between s r in_r) (point_less s.a s.b (before_is_less s.a s.b before));
}
  where
    by :
        (es : List (Entry Count)) (s : Edge) (p r : RationalPoint) → IsDirected es → IsBalancedMap es → IsPartedFrom s es → is_before s.a s.b ≡ true →
        IsRational p → IsBetween p s → IsRational r → IsBetween r s → (s.a.x <ℤ s.b.x) ⊎ ((s.a.x ≡ s.b.x) × (s.a.y <ℤ s.b.y)) → winding es p ≡ winding es r
    by es s p r directed balanced others before sp bp sr br (inl wide) =
        let live : IsLive s.a.x s = (omega (arith, ints), wide) in
        at_inner es s p s.a.x directed balanced others sp bp live ∙ sym (at_inner es s r s.a.x directed balanced others sr br live)
    by es s p r directed balanced others before sp bp sr br (inr h) = winding_vertical s p sp bp before h.0 es others ∙ sym (winding_vertical s r sr br before h.0 es others)
