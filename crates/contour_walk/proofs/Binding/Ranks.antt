-- The way down leads from contour to contour, each with a lesser rank; so the owner of a hole is found.
use Rattle.std.proofs.Common.{◌≡◌, ℕ, zero, suc, ◌+◌, ◌<◌, Bool, true, false, cond, not, List, filter, length, Contains, ◌<ℤ◌, refl, sym, ap, ◌∙◌, subst, arith}
use Rattle.std.specs.Prelude.{Option, Some, None}
use Rattle.std.specs.declared.cmp.Ordering.TheVariants.{Less}
use Rattle.std.specs.Ordering.{is_lt}
use Rattle.std.proofs.lemmas.Bool.{and_parts}
use Rattle.std.proofs.lemmas.List.Elements.{All-contains}
use Rattle.plane_base.specs.Plane.{Edge, is_before}
use Rattle.plane_base.specs.Segments.{precedes}
use Rattle.plane_base.proofs.Facts.Points.Orders.{is_less}
use Rattle.segment_arrangement.specs.Columns.{is_live}
use Rattle.contour_walk.specs.Walks.{Border, Contour, contour_edges}
use Rattle.contour_walk.specs.Binding.{Owned, anchor, owned_from, is_under, way_down, contour_at, hole_owner}
use Rattle.contour_walk.specs.BindingLaws.{NeverStays, HaveAnchors, anchor_order, is_wanted, WayDownDescends, OwnerGoesOn}
use Rattle.contour_walk.proofs.Facts.Binding.Lists.{fewer, all_pass}
use Rattle.contour_walk.proofs.Facts.Binding.Orders.{anchor_itself, anchors_through}
use Rattle.contour_walk.proofs.Facts.Binding.Anchors.{anchor_is}
use Rattle.contour_walk.proofs.Facts.Binding.Descents.{descends}
use Rattle.contour_walk.proofs.Binding.Owned.{IsOwned, contour_there, owned_tells, way_down_tells}

module _ (links : List Border) (cs : List Contour) (have : HaveAnchors cs) where
  stays : (c : Contour) → Contains cs c → NeverStays c.points
  stays c here = All-contains (λ (c : Contour). NeverStays c.points) cs c have.go_on here

  anchor_of : (c : Contour) → Contains cs c → (e : Edge) × (anchor c.points ≡ Some e) × (e.a.x <ℤ e.b.x)
  anchor_of c here = All-contains (λ (c : Contour). (e : Edge) × (anchor c.points ≡ Some e) × (e.a.x <ℤ e.b.x)) cs c have.anchors here

  pub wide_anchor : (c : Contour) → Contains cs c → (e : Edge) → anchor c.points ≡ Some e → e.a.x <ℤ e.b.x
  wide_anchor c here e found = let h = anchor_of c here in by h.0 h.1 h.2
    where
      by : (f : Edge) → anchor c.points ≡ Some f → f.a.x <ℤ f.b.x → e.a.x <ℤ e.b.x
      by f there wide = subst (λ (s : Edge). s.a.x <ℤ s.b.x) (inside f e (sym there ∙ found)) wide
        where
          inside : (s t : Edge) → Some s ≡ Some t → s ≡ t
          inside s t h = cc

  pub anchor_here : (c : Contour) → Contains cs c → (e : Edge) → anchor c.points ≡ Some e → Contains (contour_edges c.points) e
  anchor_here c here e found = (anchor_is c.points (stays c here) e found).here

  -- ---- the way down

  pub way_descends :
      (c : Contour) (above : Bool) (e : Edge) (o : Owned) → Contains cs c → anchor c.points ≡ Some e → way_down (owned_from links zero cs) above e ≡ Some o
      → (d : Contour) × (f : Edge) × (contour_at cs o.contour ≡ Some d) × (anchor d.points ≡ Some f) × (anchor_order f e ≡ Less)
  way_descends c above e o here anchored found = by (way_down_tells (owned_from links zero cs) above e o found)
    where
      plain : (n m : ℕ) → n ≡ 0 + m → n ≡ m
      plain n m h = omega (arith, h)

      of_owned : IsOwned links cs zero o → is_wanted above e o ≡ true → (d : Contour) × (f : Edge) × (contour_at cs o.contour ≡ Some d) × (anchor d.points ≡ Some f) × (anchor_order f e ≡ Less)
      of_owned h passes =
          let at : contour_at cs o.contour ≡ Some h.contour = ap (contour_at cs) (plain o.contour h.place h.number) ∙ h.at in
          let there : Contains cs h.contour = contour_there cs o.contour h.contour at in
          let f = anchor_of h.contour there in
          let beneath = and_parts (is_live e.a.x o.edge) (precedes o.edge e) (and_parts (cond above o.above (not o.above)) (is_under e o.edge) passes).1 in
          (h.contour, f.0, at, f.1, descends h.contour.points f.0 (stays h.contour there) (anchor_is h.contour.points (stays h.contour there) f.0 f.1) o.edge e h.here (wide_anchor c here e anchored) beneath.0 beneath.1)

      by : Contains (owned_from links zero cs) o × (is_wanted above e o ≡ true) → (d : Contour) × (f : Edge) × (contour_at cs o.contour ≡ Some d) × (anchor d.points ≡ Some f) × (anchor_order f e ≡ Less)
      by (there, passes) = of_owned (owned_tells links zero cs o there) passes

  -- how many anchors come before

  abbrev pub comes : Edge → Contour → Bool
  comes e c = elim (anchor c.points) [ None ↦ false | Some f ↦ is_lt (anchor_order f e) ]

  abbrev pub rank : Edge → ℕ
  rank e = length (filter (comes e) cs)

  comes_is : (e : Edge) (c : Contour) (f : Edge) → anchor c.points ≡ Some f → comes e c ≡ is_lt (anchor_order f e)
  comes_is e c f found = ap (λ o. elim o [ None ↦ false | Some f ↦ is_lt (anchor_order f e) ]) found

  not_itself : (c : Contour) (e : Edge) → anchor c.points ≡ Some e → comes e c ≡ false
  not_itself c e found = comes_is e c e found ∙ by (is_lt (anchor_order e e)) refl
    where
      by : (b : Bool) → is_lt (anchor_order e e) ≡ b → b ≡ false
      by true h = absurd (anchor_itself e (is_less (anchor_order e e) h))
      by false h = refl

  anchor_directed : (c : Contour) → Contains cs c → (e : Edge) → anchor c.points ≡ Some e → is_before e.a e.b ≡ true
  anchor_directed c here e found = All-contains (λ (s : Edge). is_before s.a s.b ≡ true) (contour_edges c.points) e (stays c here) (anchor_is c.points (stays c here) e found).here

  pub rank_falls : (c d : Contour) (e f : Edge) → Contains cs c → anchor c.points ≡ Some e → Contains cs d → anchor d.points ≡ Some f → anchor_order f e ≡ Less → rank f < rank e
  rank_falls c d e f here found there met less = fewer (comes f) (comes e) cs d through there (not_itself d f met) (comes_is e d f met ∙ ap is_lt less)
    where
      through : (x : Contour) → Contains cs x → comes f x ≡ true → comes e x ≡ true
      through x among h =
          let g = anchor_of x among in
          comes_is e x g.0 g.1
          ∙ ap is_lt (anchors_through g.0 f e (anchor_directed x among g.0 g.1) (anchor_directed d there f met) (anchor_directed c here e found) (is_less (anchor_order g.0 f) (sym (comes_is f x g.0 g.1) ∙ h)) less)

  pub rank_small : (c : Contour) (e : Edge) → Contains cs c → anchor c.points ≡ Some e → rank e < length cs
  rank_small c e here found = subst (λ (xs : List Contour). length (filter (comes e) cs) < length xs) (all_pass cs) (fewer (comes e) (λ x. true) cs c (λ x among h. refl) here (not_itself c e found) refl)

  module _ (n hole : ℕ) where
    abbrev by_mark : Owned → Option Contour → Option ℕ
    by_mark o r = elim r [ None ↦ None | Some d ↦ cond d.is_hole (hole_owner links cs n o.contour) (Some o.contour) ]

    abbrev by_down : Option Owned → Option ℕ
    by_down r = elim r [ None ↦ None | Some o ↦ by_mark o (contour_at cs o.contour) ]

    abbrev by_anchor : Option Edge → Option ℕ
    by_anchor r = elim r [ None ↦ None | Some e ↦ by_down (way_down (owned_from links zero cs) true e) ]

    abbrev by_contour : Option Contour → Option ℕ
    by_contour r = elim r [ None ↦ None | Some c ↦ by_anchor (anchor c.points) ]

    pub owner_step :
        (c d : Contour) (e : Edge) (o : Owned) → contour_at cs hole ≡ Some c → anchor c.points ≡ Some e → way_down (owned_from links zero cs) true e ≡ Some o → contour_at cs o.contour ≡ Some d →
        hole_owner links cs (suc n) hole ≡ cond d.is_hole (hole_owner links cs n o.contour) (Some o.contour)
    owner_step c d e o at found down there = ap by_contour at ∙ (ap by_anchor found ∙ (ap by_down down ∙ ap (by_mark o) there))

  -- more steps than the rank lead to one owner
  owner_same : (n k hole : ℕ) (c : Contour) (e : Edge) → contour_at cs hole ≡ Some c → anchor c.points ≡ Some e → rank e < n → rank e < k → hole_owner links cs n hole ≡ hole_owner links cs k hole
  owner_same zero k hole c e at found l m = absurd (omega (arith, l))
  owner_same (suc n) zero hole c e at found l m = absurd (omega (arith, m))
  owner_same (suc n) (suc k) hole c e at found l m =
      ap (by_contour n hole) at ∙ (ap (by_anchor n hole) found ∙ (by (way_down (owned_from links zero cs) true e) refl (owner_same n k) ∙ (sym (ap (by_anchor k hole) found) ∙ sym (ap (by_contour k hole) at))))
    where
      here : Contains cs c
      here = contour_there cs hole c at

      met : (o : Owned) (d : Contour) (b : Bool) → d.is_hole ≡ b → (b ≡ true → hole_owner links cs n o.contour ≡ hole_owner links cs k o.contour)
          → cond d.is_hole (hole_owner links cs n o.contour) (Some o.contour) ≡ cond d.is_hole (hole_owner links cs k o.contour) (Some o.contour)
      met o d true h same = ap (λ r. cond d.is_hole r (Some o.contour)) (same refl)
      met o d false h same = ap (λ b. cond b (hole_owner links cs n o.contour) (Some o.contour)) h ∙ sym (ap (λ b. cond b (hole_owner links cs k o.contour) (Some o.contour)) h)

      by :
          (r : Option Owned) → way_down (owned_from links zero cs) true e ≡ r →
          ((m : ℕ) (d : Contour) (f : Edge) → contour_at cs m ≡ Some d → anchor d.points ≡ Some f → rank f < n → rank f < k → hole_owner links cs n m ≡ hole_owner links cs k m) →
          by_down n hole r ≡ by_down k hole r
      by None down rest = refl
      by (Some o) down rest =
          let w = way_descends c true e o here found down in
          let falls : rank w.1 < rank e = rank_falls c w.0 e w.1 here found (contour_there cs o.contour w.0 w.2) w.3 w.4 in
          ap (by_mark n hole o) w.2
          ∙ (met o w.0 (w.0).is_hole refl (λ h. rest o.contour w.0 w.1 w.2 w.3 (omega (arith, falls, l)) (omega (arith, falls, m)))
          ∙ sym (ap (by_mark k hole o) w.2))

  goes_on :
      (hole : ℕ) (c d : Contour) (e : Edge) (o : Owned) → contour_at cs hole ≡ Some c → anchor c.points ≡ Some e → way_down (owned_from links zero cs) true e ≡ Some o →
      contour_at cs o.contour ≡ Some d →
      hole_owner links cs (length cs) hole ≡ cond d.is_hole (hole_owner links cs (length cs) o.contour) (Some o.contour)
  goes_on hole c d e o at found down there =
      let small : rank e < length cs = rank_small c e (contour_there cs hole c at) found in
      owner_same (length cs) (suc (length cs)) hole c e at found small (omega (arith, small)) ∙ owner_step (length cs) hole c d e o at found down there

-- ---- the laws

pub way_down_descends : WayDownDescends
way_down_descends links cs n c above e o have at found down = way_descends links cs have c above e o (contour_there cs n c at) found down

pub owner_goes_on : OwnerGoesOn
owner_goes_on links cs n c d e o have at found down there = goes_on links cs have n c d e o at found down there
