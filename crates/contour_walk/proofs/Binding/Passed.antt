-- Contours that pass each link of a boundary once: their edges, their anchors, and where the way down leads from these.
use Rattle.std.proofs.Common.{◌≡◌, ◌≢◌, ◌<◌, Bool, true, false, cond, List, [], ◌∷◌, get_or, map, flat_map, length, Contains, ◌⊎◌, inl, inr, ℤ, pos, ◌≤ℤ◌, if◌then◌else◌, refl, sym, ap, ◌∙◌, subst, arith}
use Rattle.std.specs.declared.cmp.Ordering.TheVariants.{Less}
use Rattle.std.specs.Ordering.{is_eq}
use Rattle.std.proofs.lemmas.Int.{ints}
use Rattle.std.proofs.lemmas.Bool.{false≢true, and_parts, and_from}
use Rattle.std.proofs.lemmas.List.Elements.{All-contains, All-contains_itself}
use Rattle.std.proofs.lemmas.List.Sorted.{IsPermutation-sym, Contains-permutation}
use Rattle.plane_base.specs.Plane.{Edge, is_before, edge_order}
use Rattle.plane_base.specs.Counts.{Count, Entry}
use Rattle.plane_base.specs.Segments.{parted}
use Rattle.plane_base.specs.Regions.{FillRule, OverlayRule, region}
use Rattle.plane_base.specs.Totals.{total}
use Rattle.plane_base.proofs.Facts.Points.Orders.{edge_itself}
use Rattle.plane_base.proofs.Facts.Maps.Normal.{IsRising, rising_above, rising_rest}
use Rattle.plane_base.proofs.Facts.Lists.Totals.{total_filter, total_map, total_flat_map, total_permutation, total_monotone, total_not_negative}
use Rattle.segment_arrangement.specs.EdgeSides.{upper_side, is_boundary, boundary}
use Rattle.segment_arrangement.specs.SideLaws.{IsArrangement}
use Rattle.segment_arrangement.proofs.Facts.ConstantSides.{Contains-map, directed_entry}
use Rattle.segment_arrangement.proofs.Facts.GreatestEntry.{Contains-head, Contains-later, Contains-cases, total_single}
use Rattle.segment_arrangement.proofs.Facts.LiveLists.{apart}
use Rattle.contour_walk.specs.Walks.{Border, Contour, same_edge, contour_edges}
use Rattle.contour_walk.specs.Binding.{is_above}
use Rattle.contour_walk.specs.WalkLaws.{border_of, borders}
use Rattle.contour_walk.specs.BindingLaws.{PassOnce, HaveAnchors}
use Rattle.contour_walk.proofs.Facts.Binding.Lists.{filter_tells, map_tells, flat_holds, flat_tells, term_of_total}
use Rattle.contour_walk.proofs.Facts.Binding.Orders.{same_point_itself, same_point_tells}
use Rattle.contour_walk.proofs.Facts.Binding.Anchors.{times, IsClean, has_anchor}

-- ---- entries by their edges

-- two entries of a map that have one edge are one
one_entry : (es : List (Entry Count)) → IsRising es → (e f : Entry Count) → Contains es e → Contains es f → e.edge ≡ f.edge → e ≡ f
one_entry [] rising e f here there same = absurd (omega (arith, here.1))
one_entry (g ∷ es) rising e f here there same = by (Contains-cases g es e here) (Contains-cases g es f there) (λ h k. one_entry es (rising_rest g es rising) e f h k same)
  where
    apart_from : (h : Entry Count) → Contains es h → g.edge ≢ h.edge
    apart_from h later together =
        let level = ap (λ s. edge_order s h.edge) together ∙ edge_itself h.edge in
        let less = All-contains (λ f. edge_order g.edge f.edge ≡ Less) es h (rising_above g es rising) later in
        cc

    by : (g ≡ e) ⊎ Contains es e → (g ≡ f) ⊎ Contains es f → (Contains es e → Contains es f → e ≡ f) → e ≡ f
    by (inl h) (inl k) rest = sym h ∙ k
    by (inl h) (inr k) rest = absurd (apart_from f k (ap (λ (z : Entry Count). z.edge) h ∙ same))
    by (inr h) (inl k) rest = absurd (apart_from e h (ap (λ (z : Entry Count). z.edge) k ∙ sym same))
    by (inr h) (inr k) rest = rest h k

same_edge_itself : (s : Edge) → same_edge s s ≡ true
same_edge_itself s = and_from _ _ (same_point_itself s.a) (same_point_itself s.b)

same_edge_tells : (s t : Edge) → same_edge s t ≡ true → s ≡ t
same_edge_tells s t e =
    let h = and_parts _ _ e in
    let p = same_point_tells s.a t.a h.0 in
    let q = same_point_tells s.b t.b h.1 in
    λ i. record { a = p i; b = q i }

module _ (fill : FillRule) (rule : OverlayRule) (es : List (Entry Count)) (arranged : IsArrangement es) where
  above_among : (fs : List (Entry Count)) → ((f : Entry Count) → Contains fs f → Contains es f) → (e : Entry Count) → Contains fs e → is_above (map (border_of fill rule es) fs) e.edge ≡ region fill rule (upper_side es e)
  above_among [] within e here = absurd (omega (arith, here.1))
  above_among (f ∷ fs) within e here = by (same_edge f.edge e.edge) refl (Contains-cases f fs e here) (above_among fs (λ g later. within g (Contains-later f fs g later)) e)
    where
      by : (b : Bool) → same_edge f.edge e.edge ≡ b → (f ≡ e) ⊎ Contains fs e → (Contains fs e → is_above (map (border_of fill rule es) fs) e.edge ≡ region fill rule (upper_side es e))
          → cond b (region fill rule (upper_side es f)) (is_above (map (border_of fill rule es) fs) e.edge) ≡ region fill rule (upper_side es e)
      by true g h rest = ap (λ z. region fill rule (upper_side es z)) (one_entry es arranged.rising f e (within f (Contains-head f fs)) (within e here) (same_edge_tells f.edge e.edge g))
      by false g (inl same) rest = absurd (false≢true (sym g ∙ (ap (λ (z : Entry Count). same_edge f.edge z.edge) (sym same) ∙ same_edge_itself f.edge)))
      by false g (inr later) rest = rest later

  pub in_boundary : (e : Entry Count) → Contains (boundary fill rule es) e → Contains es e × (is_boundary fill rule es e ≡ true)
  in_boundary e here = filter_tells (is_boundary fill rule es) es e here

  -- whether the region is above an edge of the boundary
  pub above_is : (e : Entry Count) → Contains (boundary fill rule es) e → is_above (borders fill rule es) e.edge ≡ region fill rule (upper_side es e)
  above_is e here = above_among (boundary fill rule es) (λ f there. (in_boundary f there).0) e here

  module _ (cs : List Contour) (passed : PassOnce (borders fill rule es) cs) where
    abbrev pub links : List Border
    links = borders fill rule es

    abbrev all_edges : List Edge
    all_edges = flat_map (λ c. contour_edges c.points) cs

    -- an edge of a contour is one of the boundary
    pub of_boundary : (c : Contour) (s : Edge) → Contains cs c → Contains (contour_edges c.points) s → (e : Entry Count) × Contains (boundary fill rule es) e × (e.edge ≡ s)
    of_boundary c s here there =
        let flat : Contains all_edges s = flat_holds (λ c. contour_edges c.points) cs c s here there in
        let back : Contains (map (λ (l : Border). l.edge) links) s = Contains-permutation all_edges (map (λ (l : Border). l.edge) links) s (IsPermutation-sym (map (λ (l : Border). l.edge) links) all_edges passed.once) flat in
        let l = map_tells (λ (l : Border). l.edge) links s back in
        let e = map_tells (border_of fill rule es) (boundary fill rule es) l.0 l.1 in
        (e.0, e.1, ap (λ (l : Border). l.edge) e.2 ∙ l.2)

    -- and each of the boundary is one of a contour
    pub in_contour : (e : Entry Count) → Contains (boundary fill rule es) e → (c : Contour) × Contains cs c × Contains (contour_edges c.points) e.edge
    in_contour e here =
        let there : Contains (map (λ (l : Border). l.edge) links) e.edge = Contains-map (λ (l : Border). l.edge) links (border_of fill rule es e) (Contains-map (border_of fill rule es) (boundary fill rule es) e here) in
        flat_tells (λ c. contour_edges c.points) cs e.edge (Contains-permutation (map (λ (l : Border). l.edge) links) all_edges e.edge passed.once there)

    -- no edge of the boundary is passed twice
    passed_once : (e : Entry Count) → Contains es e → times e.edge all_edges ≤ℤ pos 1
    passed_once e here =
        subst (λ z. z ≤ℤ pos 1) (sym counted)
        (subst (λ z. total (λ f. if is_boundary fill rule es f then is_it f.edge else pos 0) es ≤ℤ z) (total_single (λ f. pos 1) e es arranged.rising here)
        (total_monotone (λ f. if is_boundary fill rule es f then is_it f.edge else pos 0) (λ f. is_it f.edge) es (λ f. held f (is_boundary fill rule es f))))
      where
        is_it : Edge → ℤ
        is_it s = cond (is_eq (edge_order s e.edge)) (pos 1) (pos 0)

        not_negative : (b : Bool) → pos 0 ≤ℤ cond b (pos 1) (pos 0)
        not_negative true = omega (arith, ints)
        not_negative false = omega (arith, ints)

        level : (z : ℤ) → z ≤ℤ z
        level z = omega (arith, ints)

        held : (f : Entry Count) (b : Bool) → (if b then is_it f.edge else pos 0) ≤ℤ is_it f.edge
        held f true = level (is_it f.edge)
        held f false = not_negative (is_eq (edge_order f.edge e.edge))

        counted : total is_it all_edges ≡ total (λ f. if is_boundary fill rule es f then is_it f.edge else pos 0) es
        counted =
            total_permutation is_it (map (λ (l : Border). l.edge) links) all_edges passed.once
            ∙ (total_map is_it (λ (l : Border). l.edge) links
            ∙ (total_map (λ (l : Border). is_it l.edge) (border_of fill rule es) (boundary fill rule es)
            ∙ total_filter (λ f. is_it f.edge) (is_boundary fill rule es) es))

    -- each edge of a contour is one of the map
    any_entry : (s : Edge) → Contains all_edges s → (e : Entry Count) × Contains es e × (e.edge ≡ s)
    any_entry s here =
        let c = flat_tells (λ c. contour_edges c.points) cs s here in
        let e = of_boundary c.0 s c.1 c.2 in
        (e.0, (in_boundary e.0 e.1).0, e.2)

    pub any_two : (s t : Edge) → Contains all_edges s → Contains all_edges t → s ≢ t → parted s t ≡ true
    any_two s t hs ht other =
        let e = any_entry s hs in
        let f = any_entry t ht in
        ap (λ z. parted z t) (sym e.2) ∙ (ap (parted e.0.edge) (sym f.2) ∙ apart es e.0 f.0 arranged e.1 f.1 (λ same. other (sym e.2 ∙ (same ∙ f.2))))

    pub edge_once : (s : Edge) → Contains all_edges s → times s all_edges ≤ℤ pos 1
    edge_once s here = let e = any_entry s here in subst (λ t. times t all_edges ≤ℤ pos 1) e.2 (passed_once e.0 e.1)

    pub clean : (c : Contour) → Contains cs c → IsClean (contour_edges c.points)
    clean c here = record {
      directed = λ i d l. directed _ (All-contains_itself (contour_edges c.points) i d l);
      in_ends = λ s t hs ht. any_two s t (in_all s hs) (in_all t ht);
      once = once;
    }
      where
        entry : (s : Edge) → Contains (contour_edges c.points) s → (e : Entry Count) × Contains es e × (e.edge ≡ s)
        entry s there = let e = of_boundary c s here there in (e.0, (in_boundary e.0 e.1).0, e.2)

        directed : (s : Edge) → Contains (contour_edges c.points) s → is_before s.a s.b ≡ true
        directed s there = let e = entry s there in subst (λ (s : Edge). is_before s.a s.b ≡ true) e.2 (directed_entry es arranged e.0 e.1)

        in_all : (s : Edge) → Contains (contour_edges c.points) s → Contains all_edges s
        in_all s there = flat_holds (λ c. contour_edges c.points) cs c s here there

        not_negative : (s : Edge) (d : Contour) → pos 0 ≤ℤ times s (contour_edges d.points)
        not_negative s d = total_not_negative (λ t. cond (is_eq (edge_order t s)) (pos 1) (pos 0)) (contour_edges d.points) (λ t. by (is_eq (edge_order t s)))
          where
            by : (b : Bool) → pos 0 ≤ℤ cond b (pos 1) (pos 0)
            by true = omega (arith, ints)
            by false = omega (arith, ints)

        at_most : (x y z : ℤ) → x ≤ℤ y → z ≡ y → z ≤ℤ pos 1 → x ≤ℤ pos 1
        at_most x y z l e m = omega (arith, ints)

        once : (s : Edge) → Contains (contour_edges c.points) s → times s (contour_edges c.points) ≤ℤ pos 1
        once s there =
            at_most (times s (contour_edges c.points)) (total (λ d. times s (contour_edges d.points)) cs) (times s all_edges)
            (term_of_total (λ d. times s (contour_edges d.points)) cs c (not_negative s) here)
            (total_flat_map (λ t. cond (is_eq (edge_order t s)) (pos 1) (pos 0)) (λ d. contour_edges d.points) cs)
            (edge_once s (in_all s there))

    some : (c : Contour) → Contains cs c → 0 < length c.points
    some c here = All-contains (λ (c : Contour). 0 < length c.points) cs c passed.some here

    pub have_anchors : HaveAnchors cs
    have_anchors = record {
      go_on = λ i d l. (clean (get_or cs i d) (All-contains_itself cs i d l)).directed;
      anchors = λ i d l. let here = All-contains_itself cs i d l in has_anchor (get_or cs i d).points (some (get_or cs i d) here) (clean (get_or cs i d) here);
    }
