-- Each hole lies in the shape of an outline, which the way down finds.
use Rattle.std.proofs.Common.{◌≡◌, ℕ, zero, suc, ◌<◌, Bool, true, false, cond, not, List, length, Contains, ℤ, ◌≤ℤ◌, ◌<ℤ◌, refl, sym, ap, ◌∙◌, subst, arith}
use Rattle.std.specs.Prelude.{Some}
use Rattle.std.specs.declared.cmp.Ordering.TheVariants.{Less}
use Rattle.std.proofs.lemmas.Int.{ints}
use Rattle.std.proofs.lemmas.Bool.{false≢true, and_from}
use Rattle.std.proofs.lemmas.List.Elements.{All-contains}
use Rattle.plane_base.specs.Plane.{Edge}
use Rattle.plane_base.specs.Counts.{Count, Entry}
use Rattle.plane_base.specs.ColumnLaws.{IsLive}
use Rattle.plane_base.specs.Regions.{FillRule, OverlayRule, region}
use Rattle.segment_arrangement.specs.EdgeSides.{lower_side, upper_side, differ, is_boundary, boundary}
use Rattle.segment_arrangement.specs.SideLaws.{IsArrangement}
use Rattle.segment_arrangement.proofs.Facts.LastBelow.{under}
use Rattle.contour_walk.specs.Walks.{Contour}
use Rattle.contour_walk.specs.Binding.{Owned, anchor, is_above, owned_from, way_down, contour_at, hole_owner, is_under}
use Rattle.contour_walk.specs.WalkLaws.{borders}
use Rattle.contour_walk.specs.BindingLaws.{PassOnce, AnchorsTell, HaveAnchors, anchor_order, WayDownExists, HolesHaveOutlines}
use Rattle.contour_walk.proofs.Facts.Binding.Lists.{filter_holds}
use Rattle.contour_walk.proofs.Binding.Owned.{contour_there, owned_holds, way_down_holds}
use Rattle.contour_walk.proofs.Binding.Passed.{above_is, in_boundary, of_boundary, in_contour, have_anchors}
use Rattle.contour_walk.proofs.Binding.Ranks.{wide_anchor, anchor_here, way_descends, rank, rank_falls, rank_small, owner_step}
use Rattle.contour_walk.proofs.Facts.Binding.Regions.{filled_above}

module _
    (fill : FillRule) (rule : OverlayRule) (es : List (Entry Count)) (arranged : IsArrangement es) (cs : List Contour) (passed : PassOnce (borders fill rule es) cs)
    (anchored : AnchorsTell (borders fill rule es) cs)
  where
    have : HaveAnchors cs
    have = have_anchors fill rule es arranged cs passed

    -- the region is below the anchor of a hole
    hole_filled_below : (c : Contour) → Contains cs c → c.is_hole ≡ true → (e : Edge) → anchor c.points ≡ Some e → (k : Entry Count) → Contains (boundary fill rule es) k → k.edge ≡ e → region fill rule (lower_side es k.edge) ≡ true
    hole_filled_below c here hole e found k among same =
        below_if (region fill rule (lower_side es k.edge)) (region fill rule (upper_side es k)) (in_boundary fill rule es arranged k among).1
        (sym (above_is fill rule es arranged k among) ∙ (ap (is_above (borders fill rule es)) same ∙ (All-contains (λ (c : Contour). (e : Edge) → anchor c.points ≡ Some e → is_above (borders fill rule es) e ≡ not c.is_hole) cs c anchored here e found ∙ ap not hole)))
      where
        below_if : (a b : Bool) → differ a b ≡ true → b ≡ false → a ≡ true
        below_if true b h k = refl
        below_if false true h k = absurd (false≢true (sym k))
        below_if false false h k = h

    pub way_exists : (c : Contour) (e : Edge) → Contains cs c → c.is_hole ≡ true → anchor c.points ≡ Some e → (o : Owned) × (way_down (owned_from (borders fill rule es) zero cs) true e ≡ Some o)
    way_exists c e here hole found = by (of_boundary fill rule es arranged cs passed c e here (anchor_here (borders fill rule es) cs have c here e found))
      where
        met : (k : Entry Count) → Contains (boundary fill rule es) k → k.edge ≡ e
            → ((g : Entry Count) × Contains es g × (under e.a.x k.edge g.edge ≡ true) × (region fill rule (upper_side es g) ≡ true) × (region fill rule (lower_side es g.edge) ≡ false))
            → (o : Owned) × (way_down (owned_from (borders fill rule es) zero cs) true e ≡ Some o)
        met k among same (g, there, below, up, down) =
            let bounds : Contains (boundary fill rule es) g = filter_holds (is_boundary fill rule es) es g there (ap (λ b. differ b (region fill rule (upper_side es g))) down ∙ ap (differ false) up) in
            let c' = in_contour fill rule es arranged cs passed g bounds in
            let o = owned_holds (borders fill rule es) zero cs c'.0 g.edge c'.1 c'.2 in
            way_down_holds (owned_from (borders fill rule es) zero cs) true e (record { edge = g.edge; above = is_above (borders fill rule es) g.edge; contour = o.0 }) o.1 (and_from (is_above (borders fill rule es) g.edge) (is_under e g.edge) (above_is fill rule es arranged g bounds ∙ up) (ap (λ s. under e.a.x s g.edge) (sym same) ∙ below))

        by : ((k : Entry Count) × Contains (boundary fill rule es) k × (k.edge ≡ e)) → (o : Owned) × (way_down (owned_from (borders fill rule es) zero cs) true e ≡ Some o)
        by (k, among, same) =
            let live : IsLive e.a.x k.edge = subst (λ s. IsLive e.a.x s) (sym same) (level e.a.x, wide_anchor (borders fill rule es) cs have c here e found) in
            met k among same (filled_above fill rule es arranged k (in_boundary fill rule es arranged k among).0 e.a.x live (hole_filled_below c here hole e found k among same))
          where
            level : (z : ℤ) → z ≤ℤ z
            level z = omega (arith, ints)

    -- ---- the owner

    abbrev HasOutline : ℕ → ℕ → Type 0
    HasOutline n hole = (m : ℕ) × (d : Contour) × (hole_owner (borders fill rule es) cs n hole ≡ Some m) × (contour_at cs m ≡ Some d) × (d.is_hole ≡ false)

    owner_within : (n hole : ℕ) (c : Contour) (e : Edge) → contour_at cs hole ≡ Some c → c.is_hole ≡ true → anchor c.points ≡ Some e → rank (borders fill rule es) cs have e < n → HasOutline n hole
    owner_within zero hole c e at is_hole found l = absurd (omega (arith, l))
    owner_within (suc n) hole c e at is_hole found l = by (way_exists c e here is_hole found) (owner_within n)
      where
        here : Contains cs c
        here = contour_there cs hole c at

        met :
            (o : Owned) → way_down (owned_from (borders fill rule es) zero cs) true e ≡ Some o → (d : Contour) (f : Edge) → contour_at cs o.contour ≡ Some d → anchor d.points ≡ Some f → anchor_order f e ≡ Less →
            (b : Bool) → d.is_hole ≡ b → (rank (borders fill rule es) cs have f < n → b ≡ true → HasOutline n o.contour) → HasOutline (suc n) hole
        met o down d f there found' less true h rest =
            let r = rest (let k = rank_falls (borders fill rule es) cs have c d e f here found (contour_there cs o.contour d there) found' less in omega (arith, k, l)) refl in
            (r.0, r.1, owner_step (borders fill rule es) cs have n hole c d e o at found down there ∙ (ap (λ b. cond b (hole_owner (borders fill rule es) cs n o.contour) (Some o.contour)) h ∙ r.2), r.3, r.4)
        met o down d f there found' less false h rest =
            (o.contour, d, owner_step (borders fill rule es) cs have n hole c d e o at found down there ∙ ap (λ b. cond b (hole_owner (borders fill rule es) cs n o.contour) (Some o.contour)) h, there, h)

        by :
            ((o : Owned) × (way_down (owned_from (borders fill rule es) zero cs) true e ≡ Some o)) →
            ((m : ℕ) (d : Contour) (f : Edge) → contour_at cs m ≡ Some d → d.is_hole ≡ true → anchor d.points ≡ Some f → rank (borders fill rule es) cs have f < n → HasOutline n m) → HasOutline (suc n) hole
        by (o, down) rest =
            let w = way_descends (borders fill rule es) cs have c true e o here found down in
            met o down w.0 w.1 w.2 w.3 w.4 (w.0).is_hole refl (λ k h. rest o.contour w.0 w.1 w.2 h w.3 k)

    pub owner_is_outline : (n : ℕ) (c : Contour) → contour_at cs n ≡ Some c → c.is_hole ≡ true → (m : ℕ) × (d : Contour) × (hole_owner (borders fill rule es) cs (length cs) n ≡ Some m) × (contour_at cs m ≡ Some d) × (d.is_hole ≡ false)
    owner_is_outline n c at is_hole =
        let here = contour_there cs n c at in
        let e = All-contains (λ (c : Contour). (e : Edge) × (anchor c.points ≡ Some e) × (e.a.x <ℤ e.b.x)) cs c have.anchors here in
        owner_within (length cs) n c e.0 at is_hole e.1 (rank_small (borders fill rule es) cs have c e.0 here e.1)

-- ---- the laws

pub way_down_exists : WayDownExists
way_down_exists fill rule es cs n c e arranged passed anchored at hole found =
    way_exists fill rule es arranged cs passed anchored c e (contour_there cs n c at) hole found

pub holes_have_outlines : HolesHaveOutlines
holes_have_outlines fill rule es cs arranged passed anchored = owner_is_outline fill rule es arranged cs passed anchored
