-- No shape of an answer winds against the output: at each point it winds as the output where it has the region, or not at all.
--
-- Of all contours, and of those of one shape, taken for a map of their own, each edge has the region's winding on its filled side, and none on the other.
-- For all contours together the winding is the region's. For those of one shape it spreads along each contour, since passes don't cross, from its anchor:
-- below an outline's anchor lies no edge of its shape; below a hole's the last edge of all is of its shape, and has the region above it.
use Rattle.std.proofs.Common.{◌≡◌, ◌≢◌, ◌⊎◌, inl, inr, ℕ, zero, suc, ◌+◌, ◌<◌, Bool, true, false, cond, not, List, [], map, flat_map, length, get_or, All, Contains, ℤ, pos, negsuc, ◌+ℤ◌, ◌≤ℤ◌, ◌<ℤ◌, refl, sym, ap, ◌∙◌, subst, arith}
use Rattle.std.specs.Prelude.{Some}
use Rattle.std.specs.declared.cmp.Ordering.TheVariants.{Less}
use Rattle.std.specs.Ordering.{is_eq, is_lt}
use Rattle.std.proofs.lemmas.Int.{ints}
use Rattle.std.proofs.lemmas.Bool.{false≢true, and_parts, and_from, and_right}
use Rattle.std.proofs.lemmas.List.Elements.{All-contains, All-contains_itself}
use Rattle.std.proofs.lemmas.List.Sorted.{IsPermutation-sym, Contains-permutation}
use Rattle.plane_base.specs.Plane.{Point, Edge, RationalPoint, IsRational, is_before, edge_order, is_below}
use Rattle.plane_base.specs.Counts.{Count, Entry}
use Rattle.plane_base.specs.ColumnLaws.{IsLive}
use Rattle.plane_base.specs.Given.{given}
use Rattle.plane_base.specs.Regions.{FillRule, OverlayRule, region}
use Rattle.plane_base.specs.Segments.{column_order, precedes}
use Rattle.plane_base.specs.Totals.{total}
use Rattle.plane_base.specs.Windings.{contour_winding}
use Rattle.plane_base.proofs.Facts.Columns.Order.{order_is_lawful}
use Rattle.plane_base.proofs.Facts.Lists.Totals.{total_map, total_flat_map, total_not_negative, total_permutation, total_pointwise, total_zero_on}
use Rattle.segment_arrangement.specs.Columns.{is_live}
use Rattle.segment_arrangement.specs.EdgeSides.{lower_side, upper_side, differ, boundary, middle}
use Rattle.segment_arrangement.specs.Rings.{PointsHaveRings, NodeRing}
use Rattle.segment_arrangement.specs.SideLaws.{IsArrangement, IsLastBelow}
use Rattle.segment_arrangement.proofs.Facts.ColumnPlaces.{same_tests, live_tells, live_holds}
use Rattle.segment_arrangement.proofs.Facts.ConstantSides.{Contains-map, lower_is_below, directed_entry}
use Rattle.segment_arrangement.proofs.Facts.EndsAlong.{precedes_itself}
use Rattle.segment_arrangement.proofs.Facts.GreatestEntry.{IsGreatest, total_apart}
use Rattle.segment_arrangement.proofs.Facts.LastBelow.{under, IsLowerSet, last_one, winding_is_last_upper}
use Rattle.segment_arrangement.proofs.Facts.LiveLists.{apart}
use Rattle.contour_walk.specs.Binding.{Owned, anchor, is_above, owned_from, is_under, way_down, contour_at, hole_owner}
use Rattle.contour_walk.specs.BindingLaws.{PassOnce, AnchorsTell, HaveAnchors, anchor_order, IsLastWanted, all_contours}
use Rattle.contour_walk.specs.Shapes.{shapes_from}
use Rattle.contour_walk.specs.Walks.{Border, Contour, is_same, contour_edges, walks}
use Rattle.contour_walk.specs.WalkLaws.{border_of, borders, step_along, contour_steps, turns_of, AllAreWalked, AnchorsAreSided, AnswerWinds}
use Rattle.contour_walk.proofs.Binding.Answers.{nothing_is_lost}
use Rattle.contour_walk.proofs.Binding.Highest.{way_down_is_last}
use Rattle.contour_walk.proofs.Binding.Owned.{contour_there, IsOwned, owned_tells, owned_holds}
use Rattle.contour_walk.proofs.Binding.Passed.{in_boundary, above_is, of_boundary, edge_once, clean, have_anchors}
use Rattle.contour_walk.proofs.Binding.Ranks.{wide_anchor, anchor_here, way_descends, rank, rank_falls, owner_goes_on}
use Rattle.contour_walk.proofs.Binding.Walks.{edge_of, edges_by_steps, edge_of_step, walks_pass_once, walk_anchors_tell, walk_holes_are_owned}
use Rattle.contour_walk.proofs.Facts.Binding.Anchors.{times, anchor_is}
use Rattle.contour_walk.proofs.Facts.Binding.Descents.{descends}
use Rattle.contour_walk.proofs.Facts.Binding.Lists.{map_tells, flat_holds, flat_tells, term_of_total}
use Rattle.contour_walk.proofs.Facts.Binding.Orders.{before_one_way, anchor_itself, anchors_through}
use Rattle.contour_walk.proofs.Walks.Members.{has_from_contains}
use Rattle.polygon_overlay.specs.PassLaws.{Pass, passes}
use Rattle.polygon_overlay.proofs.Nesting.AloneLaws.{step_in, linear, entry_is_step, alone_arranged, stands}
use Rattle.polygon_overlay.proofs.Nesting.CountLaws.{way}
use Rattle.polygon_overlay.proofs.Nesting.CrossLaws.{AreAside}
use Rattle.polygon_overlay.proofs.Nesting.LevelLaws.{level_along}
use Rattle.polygon_overlay.proofs.Nesting.PassLaws.{all_passes, passes_aside}
use Rattle.polygon_overlay.proofs.Nesting.ShapePartLaws.{shape_of, IsPart, parts_in, in_parts, shapes_tell}

-- ---- signs

-- A step runs upward or not, with the region above it or not. On its right hand is no winding counterclockwise, and -1 clockwise, just where
-- below it is the winding of the region, if the region is there, and none, if it is above.
below_of_hand : (b a o : Bool) (l : ℤ) → cond b (pos 1) (negsuc 0) ≡ cond (is_same a o) (negsuc 0) (pos 1) → cond b l (l +ℤ negsuc 0) ≡ cond o (negsuc 0) (pos 0) → l ≡ turns_of o (not a)
below_of_hand true true true l e h = absurd (cc)
below_of_hand true true false l e h = h
below_of_hand true false true l e h = h
below_of_hand true false false l e h = absurd (cc)
below_of_hand false true true l e h = omega (arith, ints, h)
below_of_hand false true false l e h = absurd (cc)
below_of_hand false false true l e h = absurd (cc)
below_of_hand false false false l e h = omega (arith, ints, h)

hand_of_below : (b a o : Bool) (l : ℤ) → cond b (pos 1) (negsuc 0) ≡ cond (is_same a o) (negsuc 0) (pos 1) → l ≡ turns_of o (not a) → cond b l (l +ℤ negsuc 0) ≡ cond o (negsuc 0) (pos 0)
hand_of_below true true true l e h = absurd (cc)
hand_of_below true true false l e h = h
hand_of_below true false true l e h = h
hand_of_below true false false l e h = absurd (cc)
hand_of_below false true true l e h = ap (λ z. z +ℤ negsuc 0) h
hand_of_below false true false l e h = absurd (cc)
hand_of_below false false true l e h = absurd (cc)
hand_of_below false false false l e h = ap (λ z. z +ℤ negsuc 0) h

above_of_below : (a o : Bool) → turns_of o (not a) +ℤ cond (is_same a o) (negsuc 0) (pos 1) ≡ turns_of o a
above_of_below true true = refl
above_of_below true false = refl
above_of_below false true = refl
above_of_below false false = refl

some_turns : (a o : Bool) → turns_of o true ≡ turns_of o a → a ≡ true
some_turns true o e = refl
some_turns false true e = absurd (cc)
some_turns false false e = absurd (cc)

no_turns : (o : Bool) → turns_of o false ≡ pos 0
no_turns true = refl
no_turns false = refl

turns_some : (o : Bool) → turns_of o true ≡ pos 0 → ⊥
turns_some true e = absurd (cc)
turns_some false e = absurd (cc)

-- ---- what passes below an edge

under_is_lower : (es : List (Entry Count)) (arranged : IsArrangement es) (x : ℤ) (k : Entry Count) → Contains es k → IsLive x k.edge → IsLowerSet es arranged x (under x k.edge)
under_is_lower es arranged x k there live = record { live = λ e here t. live_tells x e.edge (and_parts (is_live x e.edge) (precedes e.edge k.edge) t).0; down = down }
  where
    differs : (e f : Entry Count) → precedes e.edge f.edge ≡ true → e.edge ≢ f.edge
    differs e f l same = false≢true (sym (precedes_itself f.edge) ∙ (ap (λ s. precedes s f.edge) (sym same) ∙ l))

    before : (s t : Edge) → precedes s t ≡ true → column_order s t ≡ Less
    before s t l = (order_is_lawful.precedes_is s t).0 l

    down : (e f : Entry Count) → Contains es e → Contains es f → under x k.edge f.edge ≡ true → IsLive x e.edge → precedes e.edge f.edge ≡ true → under x k.edge e.edge ≡ true
    down e f here between t le l =
        let h = and_parts (is_live x f.edge) (precedes f.edge k.edge) t in
        and_from (is_live x e.edge) (precedes e.edge k.edge) (live_holds x e.edge le)
        (ap is_lt (order_is_lawful.through e.edge f.edge k.edge x (apart es e f arranged here between (differs e f l)) (apart es f k arranged between there (differs f k h.1))
        (apart es e k arranged here there)
        le (live_tells x f.edge h.0) live (before e.edge f.edge l) (before f.edge k.edge h.1)))

-- the lower side of an edge is the upper side of the last edge below it
lower_of_last :
    (es : List (Entry Count)) (arranged : IsArrangement es) (k : Entry Count) → Contains es k → (x : ℤ) → IsLive x k.edge → (g : Entry Count) → IsGreatest precedes (under x k.edge) es g
    → (lower_side es k.edge).subject ≡ (upper_side es g).subject
lower_of_last es arranged k here x live g top =
    ap (λ w. w.subject) (lower_is_below es arranged k here x live)
    ∙ turned (total (λ e. cond (under x k.edge e.edge) e.count.subject (pos 0)) es) g.count.subject (total (λ e. cond (under x g.edge e.edge) e.count.subject (pos 0)) es)
    (lower_side es g.edge).subject
    (total_apart (under x k.edge) (under x g.edge) (λ e. e.count.subject) g es arranged.rising top.here top.passes
    (and_right (is_live x g.edge) (precedes g.edge g.edge) (precedes_itself g.edge)) (λ i d l other. each (get_or es i d) (All-contains_itself es i d l) other))
    (ap (λ w. w.subject) (lower_is_below es arranged g top.here x (lower.live g top.here top.passes)))
  where
    lower : IsLowerSet es arranged x (under x k.edge)
    lower = under_is_lower es arranged x k here live

    turned : (s n t l : ℤ) → s ≡ n +ℤ t → l ≡ t → s ≡ l +ℤ n
    turned s n t l e f = omega (arith, ints)

    each : (e : Entry Count) → Contains es e → g.edge ≢ e.edge → under x k.edge e.edge ≡ under x g.edge e.edge
    each e there other =
        same_tests (under x k.edge e.edge) (under x g.edge e.edge)
        (λ t. and_from (is_live x e.edge) (precedes e.edge g.edge) (live_holds x e.edge (lower.live e there t)) (top.last e there t other))
        (λ t. let h = and_parts (is_live x e.edge) (precedes e.edge g.edge) t in lower.down e g there top.here top.passes (live_tells x e.edge h.0) h.1)

module _ (rings : PointsHaveRings) (node : NodeRing) (walked : AllAreWalked) (sided : AnchorsAreSided) (winds : AnswerWinds)
    (fill : FillRule) (rule : OverlayRule) (es : List (Entry Count)) (output : Bool) (arranged : IsArrangement es) where
  abbrev pub links : List Border
  links = borders fill rule es

  abbrev pub cs : List Contour
  cs = walks output links

  abbrev whole : List (List Point)
  whole = map (λ (c : Contour). c.points) cs

  abbrev all_edges : List Edge
  all_edges = flat_map (λ (c : Contour). contour_edges c.points) cs

  passed : PassOnce links cs
  passed = walks_pass_once walked fill rule es output arranged

  told : AnchorsTell links cs
  told = walk_anchors_tell walked sided fill rule es output arranged

  have : HaveAnchors cs
  have = have_anchors fill rule es arranged cs passed

  -- ---- edges and steps of contours

  edge_stepped : (d : List Point) (t : Edge) → Contains (contour_edges d) t → (s : Edge) × Contains (contour_steps d) s × (edge_of s ≡ t)
  edge_stepped d t here = map_tells edge_of (contour_steps d) t (subst (λ ss. Contains ss t) (sym (edges_by_steps d)) here)

  in_whole : (d : List Point) → Contains whole d → (c : Contour) × Contains cs c × (c.points ≡ d)
  in_whole d here = map_tells (λ (c : Contour). c.points) cs d here

  -- below an edge is the region just where it is not above
  filled_below : (t : Edge) → Contains all_edges t → region fill rule (lower_side es t) ≡ not (is_above links t)
  filled_below t here =
      let c = flat_tells (λ (c : Contour). contour_edges c.points) cs t here in
      by (of_boundary fill rule es arranged cs passed c.0 t c.1 c.2)
    where
      one_side : (l u : Bool) → differ l u ≡ true → l ≡ not u
      one_side true true h = sym h
      one_side true false h = refl
      one_side false true h = refl
      one_side false false h = h

      by : (e : Entry Count) × Contains (boundary fill rule es) e × (e.edge ≡ t) → region fill rule (lower_side es t) ≡ not (is_above links t)
      by (e, among, same) =
          subst (λ t. region fill rule (lower_side es t) ≡ not (is_above links t)) same
          (one_side (region fill rule (lower_side es e.edge)) (region fill rule (upper_side es e)) (in_boundary fill rule es arranged e among).1
          ∙ ap not (sym (above_is fill rule es arranged e among)))

  -- a step runs as the region lies
  way_is : (s : Edge) → Contains (flat_map contour_steps whole) s → way s ≡ cond (is_same (is_above links (edge_of s)) output) (negsuc 0) (pos 1)
  way_is s here =
      let l = map_tells (step_along output) links s
      (Contains-permutation (flat_map contour_steps whole) (map (step_along output) links) s
      (IsPermutation-sym (map (step_along output) links) (flat_map contour_steps whole) (walked fill rule es output arranged)) here) in
      let e = map_tells (border_of fill rule es) (boundary fill rule es) l.0 l.1 in
      subst (λ s. way s ≡ cond (is_same (is_above links (edge_of s)) output) (negsuc 0) (pos 1)) (ap (step_along output) e.2 ∙ l.2) (of_entry e.0 e.1)
    where
      runs : (above : Bool) (t : Edge) → is_before t.a t.b ≡ true
          → way (step_along output (record { edge = t; above = above })) ≡ cond (is_same above output) (negsuc 0) (pos 1)
      runs above t directed = by (is_same above output)
        where
          by : (b : Bool) → way (cond b (record { a = t.b; b = t.a }) t) ≡ cond b (negsuc 0) (pos 1)
          by true = ap (λ b. cond b (pos 1) (negsuc 0)) (before_one_way t.a t.b directed)
          by false = ap (λ b. cond b (pos 1) (negsuc 0)) directed

      of_entry : (e : Entry Count) → Contains (boundary fill rule es) e
          → way (step_along output (border_of fill rule es e)) ≡ cond (is_same (is_above links (edge_of (step_along output (border_of fill rule es e)))) output) (negsuc 0) (pos 1)
      of_entry e among =
          let directed = directed_entry es arranged e (in_boundary fill rule es arranged e among).0 in
          runs (region fill rule (upper_side es e)) e.edge directed
          ∙ ap (λ a. cond (is_same a output) (negsuc 0) (pos 1))
          (sym (above_is fill rule es arranged e among) ∙ ap (is_above links) (sym (edge_of_step output (border_of fill rule es e) directed)))

  -- ---- how often an edge is stepped along

  abbrev is_it : Edge → Edge → ℤ
  is_it t u = cond (is_eq (edge_order (edge_of u) t)) (pos 1) (pos 0)

  is_not_negative : (t u : Edge) → pos 0 ≤ℤ is_it t u
  is_not_negative t u = by (is_eq (edge_order (edge_of u) t))
    where
      by : (b : Bool) → pos 0 ≤ℤ cond b (pos 1) (pos 0)
      by true = omega (arith, ints)
      by false = omega (arith, ints)

  steps_of_edges : (t : Edge) (d : List Point) → total (is_it t) (contour_steps d) ≡ times t (contour_edges d)
  steps_of_edges t d = sym (total_map (λ u. cond (is_eq (edge_order u t)) (pos 1) (pos 0)) edge_of (contour_steps d)) ∙ ap (times t) (edges_by_steps d)

  once_in_all : (t : Edge) → Contains all_edges t → total (λ d. total (is_it t) (contour_steps d)) whole ≤ℤ pos 1
  once_in_all t here =
      subst (λ z. z ≤ℤ pos 1)
      (total_flat_map (λ u. cond (is_eq (edge_order u t)) (pos 1) (pos 0)) (λ (c : Contour). contour_edges c.points) cs
      ∙ (sym (total_map (λ d. times t (contour_edges d)) (λ (c : Contour). c.points) cs)
      ∙ sym (total_pointwise (λ d. total (is_it t) (contour_steps d)) (λ d. times t (contour_edges d)) whole (steps_of_edges t))))
      (edge_once fill rule es arranged cs passed t here)

  -- ---- some of the contours for a map of their own

  module _ (ds : List (List Point)) (within : (d : List Point) → Contains ds d → Contains whole d)
      (once : (t : Edge) → Contains all_edges t → total (λ d. total (is_it t) (contour_steps d)) ds ≤ℤ pos 1) where
    abbrev M : List (Entry Count)
    M = given ds []

    stand_in : (d : List Point) → Contains ds d → (c : Contour) × Contains cs c × (c.points ≡ d)
    stand_in d here = in_whole d (within d here)

    M_arranged : IsArrangement M
    M_arranged = alone_arranged fill rule es arranged cs passed ds stand_in

    step_there : (s : Edge) → Contains (flat_map contour_steps ds) s → Contains all_edges (edge_of s)
    step_there s here = step_in fill rule es arranged cs passed ds stand_in s here

    step_whole : (s : Edge) → Contains (flat_map contour_steps ds) s → Contains (flat_map contour_steps whole) s
    step_whole s here = let d = flat_tells contour_steps ds s here in flat_holds contour_steps whole d.0 s (within d.0 d.1) d.2

    entry_of : (s : Edge) → Contains (flat_map contour_steps ds) s → (e : Entry Count) × Contains M e × (e.edge ≡ edge_of s) × (e.count.subject ≡ way s)
    entry_of s here =
        stands fill rule es arranged cs passed ds stand_in
        (λ s here. subst (λ z. z ≤ℤ pos 1) (sym (total_flat_map (is_it (edge_of s)) contour_steps ds)) (once (edge_of s) (step_there s here)))
        s here

    -- below the edge is the winding of the region where the region is, and none where it is not
    abbrev Fits : Edge → Type 0
    Fits t = (lower_side M t).subject ≡ turns_of output (not (is_above links t))

    -- so it is above
    upper_fits : (s : Edge) → Contains (flat_map contour_steps ds) s → Fits (edge_of s) → (e : Entry Count) → e.edge ≡ edge_of s → e.count.subject ≡ way s
        → (upper_side M e).subject ≡ turns_of output (is_above links (edge_of s))
    upper_fits s here fits e same count =
        ap (λ t. (lower_side M t).subject +ℤ e.count.subject) same
        ∙ (ap (λ z. z +ℤ e.count.subject) fits
        ∙ (ap (λ z. turns_of output (not (is_above links (edge_of s))) +ℤ z) (count ∙ way_is s (step_whole s here))
        ∙ above_of_below (is_above links (edge_of s)) output))

    -- an edge of a contour has an entry
    edge_entry : (d : List Point) (t : Edge) → Contains ds d → Contains (contour_edges d) t → (s : Edge) × Contains (flat_map contour_steps ds) s × (edge_of s ≡ t)
    edge_entry d t here there = let s = edge_stepped d t there in (s.0, flat_holds contour_steps ds d s.0 here s.1, s.2)

    -- the same edge in the map, with the count of its step
    same_entry : (k : Entry Count) → Contains M k → (s : Edge) × (e : Entry Count) × Contains (flat_map contour_steps ds) s × Contains M e × (e.edge ≡ edge_of s) × (e.count.subject ≡ way s) × (e.edge ≡ k.edge)
    same_entry k here =
        let s = entry_is_step fill rule es arranged cs passed ds stand_in k here in
        let e = entry_of s.0 s.1 in
        (s.0, e.0, s.1, e.1, e.2, e.3, e.2 ∙ s.2)

    -- where each edge fits, at each point the winding is that of the region, or none
    winds_or_not : ((s : Edge) → Contains (flat_map contour_steps ds) s → Fits (edge_of s)) → (p : RationalPoint) → IsRational p
        → (contour_winding ds p ≡ pos 0) ⊎ (contour_winding ds p ≡ turns_of output true)
    winds_or_not fits p some = by (winding_is_last_upper.found M p M_arranged some)
      where
        sided_so : (a : Bool) → contour_winding ds p ≡ turns_of output a → (contour_winding ds p ≡ pos 0) ⊎ (contour_winding ds p ≡ turns_of output true)
        sided_so true e = inr e
        sided_so false e = inl (e ∙ no_turns output)

        last : (k : Entry Count) → IsLastBelow M p k
            → (s : Edge) × (e : Entry Count) × Contains (flat_map contour_steps ds) s × Contains M e × (e.edge ≡ edge_of s) × (e.count.subject ≡ way s) × (e.edge ≡ k.edge)
            → (contour_winding ds p ≡ pos 0) ⊎ (contour_winding ds p ≡ turns_of output true)
        last k h (s, e, among, here, same, count, equal) =
            sided_so (is_above links (edge_of s))
            (ap (λ w. w.subject) (winding_is_last_upper.of_last M e p M_arranged some (record {
              here = here;
              below = ap (λ (t : Edge). is_below t.a t.b p) equal ∙ h.below;
              last = λ f there below other. ap (precedes f.edge) equal ∙ h.last f there below (λ z. other (equal ∙ z));
            }))
            ∙ upper_fits s among (fits s among) e same count)

        by : All (λ e. is_below e.edge.a e.edge.b p ≡ false) M ⊎ ((k : Entry Count) × IsLastBelow M p k) → (contour_winding ds p ≡ pos 0) ⊎ (contour_winding ds p ≡ turns_of output true)
        by (inl none) = inl (ap (λ w. w.subject) (winding_is_last_upper.of_none M p none))
        by (inr (k, h)) = last k h (same_entry k h.here)

    -- ---- what lies below an edge

    -- the last edge below an edge
    record IsBottom (x : ℤ) (t : Edge) : Type 0 where
      step : Edge
      among : Contains (flat_map contour_steps ds) step
      passes : under x t (edge_of step) ≡ true
      last : (f : Entry Count) → Contains M f → under x t f.edge ≡ true → edge_of step ≢ f.edge → precedes f.edge (edge_of step) ≡ true
      lower : Fits (edge_of step) → (lower_side M t).subject ≡ turns_of output (is_above links (edge_of step))

    bottom : (k : Entry Count) → Contains M k → (x : ℤ) → IsLive x k.edge → ((lower_side M k.edge).subject ≡ pos 0) ⊎ IsBottom x k.edge
    bottom k here x live = by (last_one M M_arranged x (under x k.edge) (under_is_lower M M_arranged x k here live))
      where
        found : (g : Entry Count) → IsGreatest precedes (under x k.edge) M g
            → (s : Edge) × (e : Entry Count) × Contains (flat_map contour_steps ds) s × Contains M e × (e.edge ≡ edge_of s) × (e.count.subject ≡ way s) × (e.edge ≡ g.edge)
            → IsBottom x k.edge
        found g top (s, e, among, there, same, count, equal) = record {
          step = s;
          among = among;
          passes = ap (under x k.edge) (is) ∙ top.passes;
          last = λ f hf below other. ap (precedes f.edge) is ∙ top.last f hf below (λ z. other (is ∙ z));
          lower = λ fits.
              lower_of_last M M_arranged k here x live e (record {
                here = there;
                passes = ap (under x k.edge) equal ∙ top.passes;
                last = λ f hf below other. ap (precedes f.edge) equal ∙ top.last f hf below (λ z. other (equal ∙ z));
              })
              ∙ upper_fits s among fits e same count;
        }
          where
            is : edge_of s ≡ g.edge
            is = sym same ∙ equal

        by : All (λ g. under x k.edge g.edge ≡ false) M ⊎ ((g : Entry Count) × IsGreatest precedes (under x k.edge) M g) → ((lower_side M k.edge).subject ≡ pos 0) ⊎ IsBottom x k.edge
        by (inl none) =
            inl (ap (λ w. w.subject) (lower_is_below M M_arranged k here x live)
            ∙ total_zero_on (λ e. cond (under x k.edge e.edge) e.count.subject (pos 0)) M (λ i d l. ap (λ b. cond b (get_or M i d).count.subject (pos 0)) (none i d l)))
        by (inr (g, top)) = inr (found g top (same_entry g top.here))

    -- an anchor's entry
    anchor_entry : (c : Contour) (e : Edge) → Contains cs c → Contains ds c.points → anchor c.points ≡ Some e → (k : Entry Count) × Contains M k × (k.edge ≡ e) × IsLive e.a.x k.edge
    anchor_entry c e here there found =
        let s = edge_entry c.points e there (anchor_here links cs have c here e found) in
        let k = entry_of s.0 s.1 in
        (k.0, k.1, k.2 ∙ s.2, subst (IsLive e.a.x) (sym (k.2 ∙ s.2)) (level e.a.x, wide_anchor links cs have c here e found))
      where
        level : (z : ℤ) → z ≤ℤ z
        level z = omega (arith, ints)

    -- ---- along a contour

    aside : (one other : Pass) → Contains (flat_map passes ds) one → Contains (flat_map passes ds) other → other.at ≡ one.at → AreAside one.at one.from one.to other.from other.to
    aside one other here there same =
        passes_aside rings node fill rule es output arranged one other (has_from_contains (all_passes output cs) one (in_all one here)) (has_from_contains (all_passes output cs) other (in_all other there)) same
      where
        in_all : (p : Pass) → Contains (flat_map passes ds) p → Contains (all_passes output cs) p
        in_all p h =
            let d = flat_tells passes ds p h in
            let c = stand_in d.0 d.1 in
            flat_holds (λ (c : Contour). passes c.points) cs c.0 p c.1 (subst (λ ps. Contains (passes ps) p) (sym c.2) d.2)

    -- where one edge of a contour fits, all do
    spreads : (d : List Point) → Contains ds d → (t u : Edge) → Contains (contour_edges d) t → Contains (contour_edges d) u → Fits t → Fits u
    spreads d here t u ht hu fits = by (edge_stepped d t ht) (edge_stepped d u hu)
      where
        in_ds : (s : Edge) → Contains (contour_steps d) s → Contains (flat_map contour_steps whole) s
        in_ds s h = step_whole s (flat_holds contour_steps ds d s here h)

        by : (s : Edge) × Contains (contour_steps d) s × (edge_of s ≡ t) → (s : Edge) × Contains (contour_steps d) s × (edge_of s ≡ u) → Fits u
        by (s, hs, is) (r, hr, other) =
            subst Fits other
            (below_of_hand (is_before r.a r.b) (is_above links (edge_of r)) output (lower_side M (edge_of r)).subject (way_is r (in_ds r hr))
            (sym (level_along M M_arranged rings node ds (linear fill rule es arranged cs passed ds stand_in) entry_of aside d here s r hs hr)
            ∙ hand_of_below (is_before s.a s.b) (is_above links (edge_of s)) output (lower_side M (edge_of s)).subject (way_is s (in_ds s hs)) (subst Fits (sym is) fits)))

  -- ---- all contours together

  all_within : (d : List Point) → Contains whole d → Contains whole d
  all_within d here = here

  point_list_in : (c : Contour) → Contains cs c → Contains whole c.points
  point_list_in c here = Contains-map (λ (c : Contour). c.points) cs c here

  whole_fits : (t : Edge) → Contains all_edges t → Fits whole all_within once_in_all t
  whole_fits t here = winds fill rule es output (middle t) arranged (omega arith) ∙ ap (turns_of output) (filled_below t here)

  whole_entry : (t : Edge) → Contains all_edges t → (k : Entry Count) × Contains (given whole []) k × (k.edge ≡ t)
  whole_entry t here =
      let c = flat_tells (λ (c : Contour). contour_edges c.points) cs t here in
      let s = edge_entry whole all_within once_in_all c.0.points t (point_list_in c.0 c.1) c.2 in
      let k = entry_of whole all_within once_in_all s.0 s.1 in
      (k.0, k.1, k.2 ∙ s.2)

  -- the last edge of all below a hole's anchor has the region above it, and the way down leads to it
  record IsMet (e : Edge) : Type 0 where
    edge : Edge
    passes : under e.a.x e edge ≡ true
    above : is_above links edge ≡ true
    last : (u : Edge) → Contains all_edges u → under e.a.x e u ≡ true → edge ≢ u → precedes u edge ≡ true
    number : ℕ
    down : way_down (owned_from links zero cs) true e ≡ Some (record { edge = edge; above = is_above links edge; contour = number })
    contour : Contour
    at : contour_at cs number ≡ Some contour
    here : Contains (contour_edges contour.points) edge
    first : Edge
    anchored : anchor contour.points ≡ Some first
    less : anchor_order first e ≡ Less

  same_some : {A : Type 0} (x y : A) → Some x ≡ Some y → x ≡ y
  same_some x y e = cc

  module _ (c : Contour) (e : Edge) (here : Contains cs c) (hole : c.is_hole ≡ true) (found : anchor c.points ≡ Some e) where
    not_above : is_above links e ≡ false
    not_above = All-contains (λ (c : Contour). (e : Edge) → anchor c.points ≡ Some e → is_above links e ≡ not c.is_hole) cs c told here e found ∙ ap not hole

    e_there : Contains all_edges e
    e_there = flat_holds (λ (c : Contour). contour_edges c.points) cs c e here (anchor_here links cs have c here e found)

    met_edge : (t : Edge) → Contains all_edges t → under e.a.x e t ≡ true → is_above links t ≡ true
        → ((u : Edge) → Contains all_edges u → under e.a.x e u ≡ true → t ≢ u → precedes u t ≡ true) → IsMet e
    met_edge t there passes above last = by (flat_tells (λ (c : Contour). contour_edges c.points) cs t there)
      where
        owned_so : ℕ → Owned
        owned_so m = record { edge = t; above = is_above links t; contour = m }

        met_at : (m : ℕ) → Contains (owned_from links zero cs) (owned_so m) → IsOwned links cs zero (owned_so m) → way_down (owned_from links zero cs) true e ≡ Some (owned_so m)
            → (d : Contour) × (f : Edge) × (contour_at cs m ≡ Some d) × (anchor d.points ≡ Some f) × (anchor_order f e ≡ Less) → IsMet e
        met_at m among owned down (d, f, at, anchored, less) =
            let place : owned.place ≡ m = let n = owned.number in omega (arith, n) in
            let same : owned.contour ≡ d = same_some owned.contour d (sym owned.at ∙ (ap (contour_at cs) place ∙ at)) in
            record {
              edge = t;
              passes = passes;
              above = above;
              last = last;
              number = m;
              down = down;
              contour = d;
              at = at;
              here = subst (λ (d : Contour). Contains (contour_edges d.points) t) same owned.here;
              first = f;
              anchored = anchored;
              less = less;
            }

        is_last : (m : ℕ) → Contains (owned_from links zero cs) (owned_so m) → IsLastWanted (owned_from links zero cs) true e (owned_so m)
        is_last m among = record {
          here = among;
          wanted = and_from (is_above links t) (is_under e t) above passes;
          last = λ p hp wanted other.
              let q = owned_tells links zero cs p hp in
              last p.edge (flat_holds (λ (c : Contour). contour_edges c.points) cs q.contour p.edge (contour_there cs q.place q.contour q.at) q.here) (and_parts p.above (is_under e p.edge) wanted).1
              (λ same. other (sym same));
        }

        by : (d : Contour) × Contains cs d × Contains (contour_edges d.points) t → IsMet e
        by (d, hd, ht) =
            let o = owned_holds links zero cs d t hd ht in
            let down = (way_down_is_last.tells (owned_from links zero cs) true e (owned_so o.0) (way_down_is_last.of_contours fill rule es cs arranged passed)).1 (is_last o.0 o.1) in
            met_at o.0 o.1 (owned_tells links zero cs (owned_so o.0) o.1) down (way_descends links cs have c true e (owned_so o.0) here found down)

    met : IsMet e
    met = by (anchor_entry whole all_within once_in_all c e here (point_list_in c here) found)
      where
        filled : (k : Entry Count) → k.edge ≡ e → (lower_side (given whole []) k.edge).subject ≡ turns_of output true
        filled k same = ap (λ t. (lower_side (given whole []) t).subject) same ∙ (whole_fits e e_there ∙ ap (λ a. turns_of output (not a)) not_above)

        from_bottom : (k : Entry Count) → k.edge ≡ e → IsBottom whole all_within once_in_all e.a.x k.edge → IsMet e
        from_bottom k same b =
            let t = edge_of b.step in
            let there : Contains all_edges t = step_there whole all_within once_in_all b.step b.among in
            met_edge t there (ap (λ s. under e.a.x s t) (sym same) ∙ b.passes)
            (some_turns (is_above links t) output (sym (filled k same) ∙ b.lower (whole_fits t there)))
            (λ u hu below other.
            let f = whole_entry u hu in
            ap (λ z. precedes z t) (sym f.2)
            ∙ b.last f.0 f.1 (ap (under e.a.x k.edge) f.2 ∙ (ap (λ s. under e.a.x s u) same ∙ below)) (λ z. other (z ∙ f.2)))

        by_bottom : (k : Entry Count) → k.edge ≡ e → ((lower_side (given whole []) k.edge).subject ≡ pos 0) ⊎ IsBottom whole all_within once_in_all e.a.x k.edge → IsMet e
        by_bottom k same (inl none) = absurd (turns_some output (sym (filled k same) ∙ none))
        by_bottom k same (inr b) = from_bottom k same b

        by : (k : Entry Count) × Contains (given whole []) k × (k.edge ≡ e) × IsLive e.a.x k.edge → IsMet e
        by (k, there, same, live) = by_bottom k same (bottom whole all_within once_in_all k there e.a.x live)

  -- ---- one shape

  directed_anchor : (c : Contour) → Contains cs c → (e : Edge) → anchor c.points ≡ Some e → is_before e.a e.b ≡ true
  directed_anchor c here e found =
      All-contains (λ (s : Edge). is_before s.a s.b ≡ true) (contour_edges c.points) e (clean fill rule es arranged cs passed c here).directed (anchor_here links cs have c here e found)

  module _ (n : ℕ) (o : Contour) (outline_at : contour_at cs n ≡ Some o) (solid : o.is_hole ≡ false)
      (once : (t : Edge) → Contains all_edges t → total (λ d. total (is_it t) (contour_steps d)) (shape_of links cs n o) ≤ℤ pos 1) where
    abbrev shape : List (List Point)
    shape = shape_of links cs n o

    within : (d : List Point) → Contains shape d → Contains whole d
    within d here =
        let p = in_parts links cs n o outline_at d here in
        subst (Contains whole) p.3 (point_list_in p.1 (contour_there cs p.0 p.1 p.2.0))

    abbrev Part : ℕ → Contour → Type 0
    Part m c = IsPart links cs n m c

    there_in : (m : ℕ) (c : Contour) → Part m c → Contains cs c
    there_in m c part = contour_there cs m c part.0

    -- a part is the outline, or a hole that it owns
    part_is : (m : ℕ) (c : Contour) → Part m c → (c ≡ o) ⊎ ((c.is_hole ≡ true) × (hole_owner links cs (length cs) m ≡ Some n))
    part_is m c (at, inl same) = inl (same_some c o (sym at ∙ (ap (contour_at cs) same ∙ outline_at)))
    part_is m c (at, inr h) = inr h

    -- what a hole's anchor meets is of the same shape
    met_part : (m : ℕ) (c : Contour) (e : Edge) → contour_at cs m ≡ Some c → c.is_hole ≡ true → anchor c.points ≡ Some e → hole_owner links cs (length cs) m ≡ Some n
        → (k : IsMet e) → Part k.number k.contour
    met_part m c e at hole found owned k = (k.at, by k.contour.is_hole refl)
      where
        goes_on : hole_owner links cs (length cs) m ≡ cond k.contour.is_hole (hole_owner links cs (length cs) k.number) (Some k.number)
        goes_on = owner_goes_on links cs m c k.contour e (record { edge = k.edge; above = is_above links k.edge; contour = k.number }) have at found k.down k.at

        by : (b : Bool) → k.contour.is_hole ≡ b → (k.number ≡ n) ⊎ ((k.contour.is_hole ≡ true) × (hole_owner links cs (length cs) k.number ≡ Some n))
        by true h = inr (h, sym (goes_on ∙ ap (λ b. cond b (hole_owner links cs (length cs) k.number) (Some k.number)) h) ∙ owned)
        by false h = inl (same_some k.number n (sym (goes_on ∙ ap (λ b. cond b (hole_owner links cs (length cs) k.number) (Some k.number)) h) ∙ owned))

    abbrev place : Edge → ℕ
    place e = rank links cs have e

    module _ (e₀ : Edge) (outline_anchored : anchor o.points ≡ Some e₀) where
      -- no part begins before the outline
      not_earlier : (fuel m : ℕ) (c : Contour) (e : Edge) → Part m c → anchor c.points ≡ Some e → place e < fuel → (e₀ ≡ e) ⊎ (anchor_order e₀ e ≡ Less)
      not_earlier zero m c e part found l = absurd (omega (arith, l))
      not_earlier (suc fuel) m c e part found l = by (part_is m c part) (not_earlier fuel)
        where
          here : Contains cs c
          here = there_in m c part

          by : (c ≡ o) ⊎ ((c.is_hole ≡ true) × (hole_owner links cs (length cs) m ≡ Some n))
              → ((m : ℕ) (c : Contour) (e : Edge) → Part m c → anchor c.points ≡ Some e → place e < fuel → (e₀ ≡ e) ⊎ (anchor_order e₀ e ≡ Less)) → (e₀ ≡ e) ⊎ (anchor_order e₀ e ≡ Less)
          by (inl same) rest = inl (same_some e₀ e (sym outline_anchored ∙ (ap (λ (c : Contour). anchor c.points) (sym same) ∙ found)))
          by (inr (hole, owned)) rest =
              let k = met c e here hole found in
              let among : Contains cs k.contour = contour_there cs k.number k.contour k.at in
              let falls : place k.first < place e = rank_falls links cs have c k.contour e k.first here found among k.anchored k.less in
              through k among (rest k.number k.contour k.first (met_part m c e part.0 hole found owned k) k.anchored (omega (arith, falls, l)))
            where
              through : (k : IsMet e) → Contains cs k.contour → (e₀ ≡ k.first) ⊎ (anchor_order e₀ k.first ≡ Less) → (e₀ ≡ e) ⊎ (anchor_order e₀ e ≡ Less)
              through k among (inl h) = inr (ap (λ z. anchor_order z e) h ∙ k.less)
              through k among (inr h) =
                  inr (anchors_through e₀ k.first e (directed_anchor o (contour_there cs n o outline_at) e₀ outline_anchored) (directed_anchor k.contour among k.first k.anchored)
                  (directed_anchor c here e found) h k.less)

    abbrev FitsHere : Edge → Type 0
    FitsHere t = Fits shape within once t

    -- below the outline's anchor lies no edge of the shape
    outline_fits : (e : Edge) → anchor o.points ≡ Some e → FitsHere e
    outline_fits e found = by (anchor_entry shape within once o e here (parts_in links cs n o outline_at n o (outline_at, inl refl)) found)
      where
        here : Contains cs o
        here = contour_there cs n o outline_at

        above : is_above links e ≡ true
        above = All-contains (λ (c : Contour). (e : Edge) → anchor c.points ≡ Some e → is_above links e ≡ not c.is_hole) cs o told here e found ∙ ap not solid

        -- an edge of a part
        nothing_below : (t : Edge) → under e.a.x e t ≡ true → (m : ℕ) (c : Contour) → Part m c → Contains (contour_edges c.points) t → ⊥
        nothing_below t below m c part there =
            let among = there_in m c part in
            let f = All-contains (λ (c : Contour). (e : Edge) × (anchor c.points ≡ Some e) × (e.a.x <ℤ e.b.x)) cs c have.anchors among in
            let stays = (clean fill rule es arranged cs passed c among).directed in
            let h = and_parts (is_live e.a.x t) (precedes t e) below in
            let less : anchor_order f.0 e ≡ Less = descends c.points f.0 stays (anchor_is c.points stays f.0 f.1) t e there (wide_anchor links cs have o here e found) h.0 h.1 in
            clash f.0 less (directed_anchor c among f.0 f.1) (not_earlier e found (suc (place f.0)) m c f.0 part f.1 (omega arith))
          where
            clash : (f : Edge) → anchor_order f e ≡ Less → is_before f.a f.b ≡ true → (e ≡ f) ⊎ (anchor_order e f ≡ Less) → ⊥
            clash f less directed (inl same) = anchor_itself e (ap (λ z. anchor_order z e) same ∙ less)
            clash f less directed (inr more) = anchor_itself e (anchors_through e f e (directed_anchor o here e found) directed (directed_anchor o here e found) more less)

        from_bottom : (k : Entry Count) → k.edge ≡ e → IsBottom shape within once e.a.x k.edge → ⊥
        from_bottom k same b =
            let d = flat_tells contour_steps shape b.step b.among in
            let p = in_parts links cs n o outline_at d.0 d.1 in
            nothing_below (edge_of b.step) (ap (λ s. under e.a.x s (edge_of b.step)) (sym same) ∙ b.passes) p.0 p.1 p.2
            (subst (λ ps. Contains (contour_edges ps) (edge_of b.step)) (sym p.3)
            (subst (λ ss. Contains ss (edge_of b.step)) (edges_by_steps d.0) (Contains-map edge_of (contour_steps d.0) b.step d.2)))

        by_bottom : (k : Entry Count) → k.edge ≡ e → ((lower_side (given shape []) k.edge).subject ≡ pos 0) ⊎ IsBottom shape within once e.a.x k.edge → FitsHere e
        by_bottom k same (inl none) =
            ap (λ t. (lower_side (given shape []) t).subject) (sym same) ∙ (none ∙ (sym (no_turns output) ∙ ap (λ a. turns_of output (not a)) (sym above)))
        by_bottom k same (inr b) = absurd (from_bottom k same b)

        by : (k : Entry Count) × Contains (given shape []) k × (k.edge ≡ e) × IsLive e.a.x k.edge → FitsHere e
        by (k, there, same, live) = by_bottom k same (bottom shape within once k there e.a.x live)

    -- below a hole's anchor lies an edge that fits
    hole_fits : (c : Contour) (e : Edge) → Contains cs c → Contains shape c.points → c.is_hole ≡ true → anchor c.points ≡ Some e → (k : IsMet e) → Contains shape k.contour.points → FitsHere k.edge → FitsHere e
    hole_fits c e here part hole found k among fits = by (anchor_entry shape within once c e here part found) (edge_entry shape within once k.contour.points k.edge among k.here)
      where
        last_here :
            (s : Edge) → Contains (flat_map contour_steps shape) s → edge_of s ≡ k.edge → (g : Entry Count) → Contains (given shape []) g → g.edge ≡ edge_of s → (j : Entry Count) → j.edge ≡ e
            → IsGreatest precedes (under e.a.x j.edge) (given shape []) g
        last_here s hs is g there same j at = record {
          here = there;
          passes = ap (λ z. under e.a.x z g.edge) at ∙ (ap (under e.a.x e) (same ∙ is) ∙ k.passes);
          last = λ f hf below other.
              let r = same_entry shape within once f hf in
              ap (precedes f.edge) (same ∙ is)
              ∙ k.last f.edge (subst (Contains all_edges) (sym (r.4) ∙ r.6) (step_there shape within once r.0 r.2)) (ap (λ z. under e.a.x z f.edge) (sym at) ∙ below) (λ z. other (same ∙ (is ∙ z)));
        }

        by : (j : Entry Count) × Contains (given shape []) j × (j.edge ≡ e) × IsLive e.a.x j.edge → (s : Edge) × Contains (flat_map contour_steps shape) s × (edge_of s ≡ k.edge) → FitsHere e
        by (j, hj, at, live) (s, hs, is) =
            let g = entry_of shape within once s hs in
            ap (λ t. (lower_side (given shape []) t).subject) (sym at)
            ∙ (lower_of_last (given shape []) (M_arranged shape within once) j hj e.a.x live g.0 (last_here s hs is g.0 g.1 g.2 j at)
            ∙ (upper_fits shape within once s hs (subst FitsHere (sym is) fits) g.0 g.2 g.3
            ∙ ap (turns_of output) (ap (is_above links) is ∙ (k.above ∙ ap not (sym (not_above c e here hole found))))))

    anchors_fit : (fuel m : ℕ) (c : Contour) (e : Edge) → Part m c → anchor c.points ≡ Some e → place e < fuel → FitsHere e
    anchors_fit zero m c e part found l = absurd (omega (arith, l))
    anchors_fit (suc fuel) m c e part found l = by (part_is m c part) (anchors_fit fuel)
      where
        here : Contains cs c
        here = there_in m c part

        by : (c ≡ o) ⊎ ((c.is_hole ≡ true) × (hole_owner links cs (length cs) m ≡ Some n))
            → ((m : ℕ) (c : Contour) (e : Edge) → Part m c → anchor c.points ≡ Some e → place e < fuel → FitsHere e) → FitsHere e
        by (inl same) rest = outline_fits e (ap (λ (c : Contour). anchor c.points) (sym same) ∙ found)
        by (inr (hole, owned)) rest =
            let k = met c e here hole found in
            let among : Contains cs k.contour = contour_there cs k.number k.contour k.at in
            let falls : place k.first < place e = rank_falls links cs have c k.contour e k.first here found among k.anchored k.less in
            let part' = met_part m c e part.0 hole found owned k in
            let in_shape = parts_in links cs n o outline_at k.number k.contour part' in
            hole_fits c e here (parts_in links cs n o outline_at m c part) hole found k in_shape
            (spreads shape within once k.contour.points in_shape k.first k.edge (anchor_here links cs have k.contour among k.first k.anchored) k.here
            (rest k.number k.contour k.first part' k.anchored (omega (arith, falls, l))))

    -- so each edge of the shape fits
    shape_fits : (s : Edge) → Contains (flat_map contour_steps shape) s → FitsHere (edge_of s)
    shape_fits s here =
        let d = flat_tells contour_steps shape s here in
        let p = in_parts links cs n o outline_at d.0 d.1 in
        let among = there_in p.0 p.1 p.2 in
        let e = All-contains (λ (c : Contour). (e : Edge) × (anchor c.points ≡ Some e) × (e.a.x <ℤ e.b.x)) cs p.1 have.anchors among in
        let t : Contains (contour_edges d.0) (edge_of s) = subst (λ ss. Contains ss (edge_of s)) (edges_by_steps d.0) (Contains-map edge_of (contour_steps d.0) s d.2) in
        spreads shape within once d.0 d.1 e.0 (edge_of s) (subst (λ ps. Contains (contour_edges ps) e.0) p.3 (anchor_here links cs have p.1 among e.0 e.1)) t
        (anchors_fit (suc (place e.0)) p.0 p.1 e.0 p.2 e.1 (omega arith))

    shape_winds_or_not : (p : RationalPoint) → IsRational p → (contour_winding shape p ≡ pos 0) ⊎ (contour_winding shape p ≡ turns_of output true)
    shape_winds_or_not p some = winds_or_not shape within once shape_fits p some

  -- ---- all shapes

  abbrev pub shapes : List (List (List Point))
  shapes = shapes_from links cs zero cs

  -- no shape steps along an edge twice
  once_in_shapes : (s : List (List Point)) → Contains shapes s → (t : Edge) → Contains all_edges t → total (λ d. total (is_it t) (contour_steps d)) s ≤ℤ pos 1
  once_in_shapes s here t there =
      at_most (total g s) (total (total g) shapes) (total g whole) (term_of_total (total g) shapes s (λ s. total_not_negative g s steps_not_negative) here)
      (sym (total_flat_map g (λ (s : List (List Point)). s) shapes)
      ∙ total_permutation g whole (all_contours shapes) (nothing_is_lost links cs (walk_holes_are_owned walked sided fill rule es output arranged)))
      (once_in_all t there)
    where
      g : List Point → ℤ
      g d = total (is_it t) (contour_steps d)

      steps_not_negative : (d : List Point) → pos 0 ≤ℤ g d
      steps_not_negative d = total_not_negative (is_it t) (contour_steps d) (is_not_negative t)

      at_most : (a b c : ℤ) → a ≤ℤ b → b ≡ c → c ≤ℤ pos 1 → a ≤ℤ pos 1
      at_most a b c l e m = omega (arith, ints)

  -- at each point a shape winds as the output, or not at all
  pub shapes_wind_or_not : (s : List (List Point)) → Contains shapes s → (p : RationalPoint) → IsRational p → (contour_winding s p ≡ pos 0) ⊎ (contour_winding s p ≡ turns_of output true)
  shapes_wind_or_not s here p some = by (shapes_tell links cs zero cs s here)
    where
      by : (m : ℕ) × (c : Contour) × (contour_at cs m ≡ Some c) × (c.is_hole ≡ false) × (s ≡ shape_of links cs (zero + m) c) → (contour_winding s p ≡ pos 0) ⊎ (contour_winding s p ≡ turns_of output true)
      by (m, c, at, solid, is) =
          let same : s ≡ shape_of links cs m c = is ∙ (let plain : zero + m ≡ m = omega arith in ap (λ k. shape_of links cs k c) plain) in
          subst (λ s. (contour_winding s p ≡ pos 0) ⊎ (contour_winding s p ≡ turns_of output true)) (sym same)
          (shape_winds_or_not m c at solid (subst (λ s. (t : Edge) → Contains all_edges t → total (λ d. total (is_it t) (contour_steps d)) s ≤ℤ pos 1) same (once_in_shapes s here)) p some)
