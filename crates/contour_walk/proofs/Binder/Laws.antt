-- Where walks are bound by a sweep: it can hold their edges, their anchors can be sought, and what it finds tells the owners.
use Rattle.std.proofs.Common.{◌≡◌, ◌≢◌, ℕ, zero, suc, ◌+◌, ◌<◌, Bool, true, List, [], ◌∷◌, ◌++◌, map, filter, flat_map, length, get_or, All, Contains, IsPermutation, ℤ, pos, ◌≤ℤ◌, ◌<ℤ◌, int_lt, refl, sym, ap, ap₂, ◌∙◌, subst, arith}
use Rattle.std.specs.Prelude.{Option, Some, None}
use Rattle.std.proofs.lemmas.Bool.{and_parts}
use Rattle.std.proofs.lemmas.List.{map-append}
use Rattle.std.proofs.lemmas.List.Elements.{All-contains}
use Rattle.std.proofs.lemmas.List.Sorted.{IsPermutation-sym, Contains-permutation}
use Rattle.plane_base.specs.Plane.{Edge}
use Rattle.plane_base.specs.Counts.{Count, Entry}
use Rattle.plane_base.specs.Regions.{FillRule, OverlayRule}
use Rattle.plane_base.specs.Segments.{IsEdgeWithin, parted}
use Rattle.segment_arrangement.specs.SideLaws.{IsArrangement}
use Rattle.segment_arrangement.proofs.Facts.ConstantSides.{Contains-map}
use Rattle.segment_arrangement.proofs.Facts.Rings.{node_ring}
use Rattle.segment_arrangement.proofs.Facts.RingOrder.{points_have_rings}
use Rattle.contour_walk.specs.Walks.{Border, Contour, contour_edges, walks}
use Rattle.contour_walk.specs.WalkLaws.{borders, AllAreWalked, PassAll}
use Rattle.contour_walk.specs.Binding.{Owned, anchor, is_above, owned_from, way_down, contour_at}
use Rattle.contour_walk.specs.BindingLaws.{HaveAnchors, AreApart, HolesAreOwned, PassOnce, AnchorsTell}
use Rattle.contour_walk.specs.ShapeViews.{contour_below, ContoursAreWithin, OwnedAreWithin}
use Rattle.contour_walk.specs.BinderOwners.{owner_below, IsHole, AreBelow, AreOwners, IsBoundary, RunAlong}
use Rattle.contour_walk.specs.BinderSweep.{stepped_from, is_swept, hole_anchors, AreRising, AreSweepable, IsSought, number_met}
use Rattle.contour_walk.proofs.Binder.Assembly.{contour_within}
use Rattle.contour_walk.proofs.Facts.Binding.Anchors.{times}
use Rattle.contour_walk.proofs.Binding.Highest.{way_down_is_last}
use Rattle.contour_walk.proofs.Binding.Owned.{contour_there, owned_holds}
use Rattle.contour_walk.proofs.Binding.Passed.{edge_once, have_anchors}
use Rattle.contour_walk.proofs.Binding.Ranks.{wide_anchor, anchor_here}
use Rattle.contour_walk.proofs.Binding.Walks.{walks_pass_once, walk_anchors_tell}
use Rattle.contour_walk.proofs.Binding.Owners.{holes_have_outlines}
use Rattle.contour_walk.proofs.Facts.Contours.Rays.{below_nothing, below_met, all_owned_within}
use Rattle.contour_walk.proofs.Walks.Nodes.{all_are_walked}
use Rattle.contour_walk.proofs.Walks.Anchors.{anchors_are_sided}
use Rattle.contour_walk.proofs.Facts.Binding.Chains.{owner_is}
use Rattle.contour_walk.proofs.Binder.Edges.{edges_of, swept_tells, swept_apart, swept_once, same_way_down, IsHoleAnchor, anchors_tell, anchors_hold}
use Rattle.contour_walk.proofs.Binder.Steps.{steps_are_owned}
use Rattle.contour_walk.proofs.Binder.Sweeps.{All-from}

-- ---- what binding wants of contours

pub record Binds (output : Bool) (links : List Border) (cs : List Contour) : Type 0 where
  pub apart : AreApart (owned_from links zero cs)
  pub once : (o : Owned) → Contains (owned_from links zero cs) o → times o.edge (edges_of (owned_from links zero cs)) ≤ℤ pos 1
  pub have : HaveAnchors cs
  pub owned : HolesAreOwned links cs
  pub steps : stepped_from output zero cs ≡ owned_from links zero cs

all_owned_edges : (links : List Border) (n : ℕ) (cs : List Contour) → edges_of (owned_from links n cs) ≡ flat_map (λ c. contour_edges c.points) cs
all_owned_edges links n [] = refl
all_owned_edges links n (c ∷ cs) =
    map-append (λ (o : Owned). o.edge) (map own (contour_edges c.points)) (owned_from links (suc n) cs)
    ∙ ap₂ (λ ss ts. ss ++ ts) (same (contour_edges c.points)) (all_owned_edges links (suc n) cs)
  where
    own : Edge → Owned
    own s = record { edge = s; above = is_above links s; contour = n }

    same : (ss : List Edge) → edges_of (map own ss) ≡ ss
    same [] = refl
    same (s ∷ ss) = ap (λ ts. s ∷ ts) (same ss)

walked : AllAreWalked
walked = all_are_walked points_have_rings node_ring

module _ (output : Bool) (fill : FillRule) (rule : OverlayRule) (es : List (Entry Count)) (arranged : IsArrangement es) where
  abbrev bounds : List Border
  bounds = borders fill rule es

  abbrev all : List Contour
  all = walks output bounds

  of_walks : RunAlong output bounds all
  of_walks = record {
    bounds = (fill, rule, es, arranged, refl);
    passed = walked fill rule es output arranged;
    once = walks_pass_once walked fill rule es output arranged;
    told = walk_anchors_tell walked (anchors_are_sided points_have_rings node_ring) fill rule es output arranged;
  }

  of_bounds : (cs : List Contour) → PassAll output bounds (map (λ c. c.points) cs) → PassOnce bounds cs → AnchorsTell bounds cs → Binds output bounds cs
  of_bounds cs passed once told = record {
    apart = way_down_is_last.of_contours fill rule es cs arranged once;
    once = λ o here.
        let among = subst (λ ss. Contains ss o.edge) (all_owned_edges bounds zero cs) (Contains-map (λ (o : Owned). o.edge) (owned_from bounds zero cs) o here) in
        subst (λ ss. times o.edge ss ≤ℤ pos 1) (sym (all_owned_edges bounds zero cs)) (edge_once fill rule es arranged cs once o.edge among);
    have = have_anchors fill rule es arranged cs once;
    owned = holes_have_outlines fill rule es cs arranged once told;
    steps = steps_are_owned fill rule es arranged output cs passed;
  }

-- walks run along their boundary
pub walks_run_along : (output : Bool) (links : List Border) → IsBoundary links → RunAlong output links (walks output links)
walks_run_along output links (fill, rule, es, arranged, same) = subst (λ ls. RunAlong output ls (walks output ls)) (sym same) (of_walks output fill rule es arranged)

-- what runs along a boundary can be bound
pub runs_bind : (output : Bool) (links : List Border) (cs : List Contour) → RunAlong output links cs → Binds output links cs
runs_bind output links cs run = by run.bounds run.passed run.once run.told
  where
    by : IsBoundary links → PassAll output links (map (λ c. c.points) cs) → PassOnce links cs → AnchorsTell links cs → Binds output links cs
    by (fill, rule, es, arranged, same) =
        subst (λ ls. PassAll output ls (map (λ c. c.points) cs) → PassOnce ls cs → AnchorsTell ls cs → Binds output ls cs) (sym same) (of_bounds output fill rule es arranged cs)

-- ---- the sweep over their edges

module _ (output : Bool) (links : List Border) (cs : List Contour) (b : Binds output links cs) where
  abbrev os : List Owned
  os = owned_from links zero cs

  module _ (edges : List Owned) (moved : IsPermutation (filter is_swept (stepped_from output zero cs)) edges) where
    moved_owned : IsPermutation (filter is_swept os) edges
    moved_owned = subst (λ ps. IsPermutation (filter is_swept ps) edges) b.steps moved

    tells : (o : Owned) → Contains edges o → Contains os o × (is_swept o ≡ true)
    tells = swept_tells os edges b.apart moved_owned

    pub sweepable : AreRising edges → AreSweepable edges
    sweepable rising = record {
      above = All-from (λ (o : Owned). o.above ≡ true) edges (λ o here. (and_parts o.above (int_lt o.edge.a.x o.edge.b.x) (tells o here).1).0);
      apart = swept_apart os edges b.apart moved_owned;
      once = swept_once os edges b.apart moved_owned b.once;
      rising = rising;
    }

    pub edges_within : (least greatest : ℤ) → ContoursAreWithin least greatest cs → OwnedAreWithin least greatest edges
    edges_within least greatest within =
        All-from (λ (o : Owned). IsEdgeWithin least greatest o.edge) edges (λ o here.
        All-contains (λ (o : Owned). IsEdgeWithin least greatest o.edge) os o (all_owned_within least greatest links zero cs within) (tells o here).0)

    module _ (anchors : List Owned) (anchored : IsPermutation (hole_anchors zero cs) anchors) where
      of_anchor : (a : Owned) → Contains anchors a → IsHoleAnchor cs zero a
      of_anchor a here = anchors_tell zero cs a (Contains-permutation anchors (hole_anchors zero cs) a (IsPermutation-sym (hole_anchors zero cs) anchors anchored) here)

      place_is : (a : Owned) (h : IsHoleAnchor cs zero a) → a.contour ≡ h.place
      place_is a h = let e = h.number in omega (arith, e)

      among : (a : Owned) (h : IsHoleAnchor cs zero a) → (o : Owned) × Contains os o × (o.edge ≡ a.edge)
      among a h =
          let there = contour_there cs h.place h.contour h.at in
          let o = owned_holds links zero cs h.contour a.edge there (anchor_here links cs b.have h.contour there a.edge h.found) in
          (_, o.1, refl)

      pub sought : All (λ a. IsSought edges a.edge) anchors
      sought = All-from (λ (a : Owned). IsSought edges a.edge) anchors (λ a here.
          let h = of_anchor a here in
          let o = among a h in
          record {
            wide = wide_anchor links cs b.have h.contour (contour_there cs h.place h.contour h.at) a.edge h.found;
            apart = λ p there differ. subst (λ s. s ≢ p.edge → parted s p.edge ≡ true) o.2 (b.apart.in_ends o.0 p o.1 (tells p there).0) differ;
          })

      pub numbers : All (λ a. a.contour < length cs) anchors
      numbers = All-from (λ (a : Owned). a.contour < length cs) anchors (λ a here. let h = of_anchor a here in subst (λ n. n < length cs) (sym (place_is a h)) (contour_within cs h.place h.contour h.at))

      pub anchors_within : (least greatest : ℤ) → ContoursAreWithin least greatest cs → OwnedAreWithin least greatest anchors
      anchors_within least greatest within =
          All-from (λ (a : Owned). IsEdgeWithin least greatest a.edge) anchors (λ a here.
          let o = among a (of_anchor a here) in
          subst (IsEdgeWithin least greatest) o.2 (All-contains (λ (o : Owned). IsEdgeWithin least greatest o.edge) os o.0 (all_owned_within least greatest links zero cs within) o.1))

      below_by : (n : ℕ) (c : Contour) (e : Edge) → contour_at cs n ≡ Some c → anchor c.points ≡ Some e → contour_below os cs n ≡ number_met (way_down os true e)
      below_by n c e at found = by (way_down os true e) refl
        where
          by : (r : Option Owned) → way_down os true e ≡ r → contour_below os cs n ≡ number_met r
          by None f = below_nothing os cs n c at e found f
          by (Some o) f = below_met os cs n c at e o found f

      pub told : All (λ a. number_met (way_down edges true a.edge) ≡ contour_below os cs a.contour) anchors
      told = All-from (λ (a : Owned). number_met (way_down edges true a.edge) ≡ contour_below os cs a.contour) anchors (λ a here.
          let h = of_anchor a here in
          ap number_met (same_way_down os edges b.apart moved_owned a.edge)
          ∙ sym (ap (contour_below os cs) (place_is a h) ∙ below_by h.place h.contour a.edge h.at h.found))

      pub are_below : (below : List (Option ℕ)) → All (λ a. (d : Option ℕ) → get_or below a.contour d ≡ contour_below os cs a.contour) anchors → AreBelow os cs below
      are_below below right n d (c, at, hole) =
          let e = All-contains (λ (c : Contour). (e : Edge) × (anchor c.points ≡ Some e) × (e.a.x <ℤ e.b.x)) cs c b.have.anchors (contour_there cs n c at) in
          let a = anchors_hold zero cs n c e.0 at hole e.1 in
          let same : 0 + n ≡ n = omega arith in
          subst (λ m. get_or below m d ≡ contour_below os cs m) same
          (All-contains (λ (a : Owned). (d : Option ℕ) → get_or below a.contour d ≡ contour_below os cs a.contour) anchors _ right (Contains-permutation (hole_anchors zero cs) anchors _ anchored a) d)

  -- ---- owners

  pub are_owners : (owners : List (Option ℕ)) → ((n : ℕ) (d : Option ℕ) → IsHole cs n → get_or owners n d ≡ owner_below os cs (length cs) n) → AreOwners links cs owners
  are_owners owners right n c d at hole = right n d (c, at, hole) ∙ sym (owner_is links cs (length cs) n)
