-- The edges and anchors of the sweep that binds holes.
use Rattle.std.proofs.Common.{◌≡◌, ◌≢◌, ℕ, zero, suc, ◌+◌, ◌<◌, ◌≤◌, Bool, true, false, cond, List, [], ◌∷◌, ◌++◌, map, filter, length, drop, get_or, AllPairs, Contains, IsPermutation, ◌⊎◌, inl, inr, ℤ, pos, ◌+ℤ◌, ◌≤ℤ◌, ◌<ℤ◌, int_lt, if◌then◌else◌, refl, sym, ap, ◌∙◌, subst, arith}
use Rattle.std.specs.Prelude.{Option, Some, None}
use Rattle.std.specs.Ordering.{is_eq}
use Rattle.std.proofs.lemmas.Bool.{and_parts, and_from}
use Rattle.std.proofs.lemmas.Int.{ints}
use Rattle.std.proofs.Math.ListN.{drop_of_length-le}
use Rattle.std.proofs.lemmas.List.{length-map, get_or-map}
use Rattle.plane_base.proofs.Facts.Lists.Views.{drop-mapped}
use Rattle.std.proofs.lemmas.List.Sorted.{IsPermutation-sym, IsPermutation-map, Contains-permutation}
use Rattle.plane_base.specs.Plane.{Edge, edge_order}
use Rattle.plane_base.specs.Totals.{total}
use Rattle.plane_base.proofs.Facts.Maps.Normal.{AllPairs-nil, AllPairs-cons}
use Rattle.plane_base.proofs.Facts.Points.Orders.{edge_itself}
use Rattle.plane_base.proofs.Facts.Lists.Totals.{total_filter, total_map, total_permutation, total_monotone}
use Rattle.segment_arrangement.proofs.Facts.ColumnPlaces.{lt_holds, live_tells}
use Rattle.segment_arrangement.proofs.Facts.GreatestEntry.{Contains-head, Contains-later, Contains-cases}
use Rattle.contour_walk.specs.Walks.{Contour}
use Rattle.contour_walk.specs.Binding.{Owned, anchor, is_under, way_down, contour_at}
use Rattle.contour_walk.specs.BindingLaws.{AreApart, is_wanted}
use Rattle.contour_walk.specs.BinderSweep.{is_swept, hole_anchors}
use Rattle.contour_walk.proofs.Facts.Binding.Lists.{filter_tells, filter_holds, term_of_total}
use Rattle.contour_walk.proofs.Facts.Binding.Anchors.{times}
use Rattle.contour_walk.proofs.Binding.Highest.{way_down_is_last}
use Rattle.contour_walk.proofs.Binder.Sweeps.{All-from}

-- ---- each edge once

module _ (e : Edge) where
  is_it : Edge → ℤ
  is_it t = cond (is_eq (edge_order t e)) (pos 1) (pos 0)

  some : (b : Bool) → pos 0 ≤ℤ cond b (pos 1) (pos 0)
  some true = omega (arith, ints)
  some false = omega (arith, ints)

  once_there : (ss : List Edge) → Contains ss e → pos 1 ≤ℤ times e ss
  once_there ss here =
      subst (λ z. z ≤ℤ times e ss) (ap (λ o. cond (is_eq o) (pos 1) (pos 0)) (edge_itself e))
      (term_of_total (λ t. cond (is_eq (edge_order t e)) (pos 1) (pos 0)) ss e (λ t. some (is_eq (edge_order t e))) here)

  never_less : (s : Edge) (ss : List Edge) → times e ss ≤ℤ times e (s ∷ ss)
  never_less s ss = more (cond (is_eq (edge_order s e)) (pos 1) (pos 0)) (times e ss) (some (is_eq (edge_order s e)))
    where
      more : (a t : ℤ) → pos 0 ≤ℤ a → t ≤ℤ (a +ℤ t)
      more a t l = omega (arith, ints)

abbrev pub edges_of : List Owned → List Edge
edges_of os = map (λ o. o.edge) os

-- what is there once differs from all others
pub pairs_once : (os : List Owned) → ((o : Owned) → Contains os o → times o.edge (edges_of os) ≤ℤ pos 1) → AllPairs (λ o p. o.edge ≢ p.edge) os
pairs_once [] h = AllPairs-nil (λ (o p : Owned). o.edge ≢ p.edge)
pairs_once (o ∷ os) h =
    AllPairs-cons (λ (o p : Owned). o.edge ≢ p.edge) o os
    (All-from (λ (p : Owned). o.edge ≢ p.edge) os (λ p there same. twice (times o.edge (edges_of os)) itself (once_there o.edge (edges_of os) (at p there same)) (h o (Contains-head o os))))
    (pairs_once os (λ p there. less (times p.edge (edges_of os)) (times p.edge (edges_of (o ∷ os))) (never_less p.edge o.edge (edges_of os)) (h p (Contains-later o os p there))))
  where
    less : (a b : ℤ) → a ≤ℤ b → b ≤ℤ pos 1 → a ≤ℤ pos 1
    less a b l m = omega (arith, ints)

    itself : cond (is_eq (edge_order o.edge o.edge)) (pos 1) (pos 0) ≡ pos 1
    itself = ap (λ o. cond (is_eq o) (pos 1) (pos 0)) (edge_itself o.edge)

    at : (p : Owned) → Contains os p → o.edge ≡ p.edge → Contains (edges_of os) o.edge
    at p (i, l, is) same =
        let m : i < length (edges_of os) = omega (arith, l, length-map os (λ (o : Owned). o.edge)) in
        (i, m, get_or-map (λ (o : Owned). o.edge) os i p o.edge l ∙ (ap (λ (q : Owned). q.edge) is ∙ sym same))

    twice : {a : ℤ} (t : ℤ) → a ≡ pos 1 → pos 1 ≤ℤ t → (a +ℤ t) ≤ℤ pos 1 → ⊥
    twice t e l m = omega (arith, ints, e, l, m)

-- ---- the same edges in another order, without those that nobody wants

wanted_are_swept : (e : Edge) (o : Owned) → is_wanted true e o ≡ true → is_swept o ≡ true
wanted_are_swept e o t =
    let p = and_parts o.above (is_under e o.edge) t in
    let live = live_tells e.a.x o.edge (and_parts _ _ p.1).0 in
    let wide : o.edge.a.x <ℤ o.edge.b.x = omega (arith, ints, live.0, live.1) in
    and_from o.above (int_lt o.edge.a.x o.edge.b.x) p.0 (lt_holds o.edge.a.x o.edge.b.x wide)

module _ (os ss : List Owned) (apart : AreApart os) (moved : IsPermutation (filter is_swept os) ss) where
  pub swept_tells : (o : Owned) → Contains ss o → Contains os o × (is_swept o ≡ true)
  swept_tells o here = filter_tells is_swept os o (Contains-permutation ss (filter is_swept os) o (IsPermutation-sym (filter is_swept os) ss moved) here)

  swept_holds : (o : Owned) → Contains os o → is_swept o ≡ true → Contains ss o
  swept_holds o here t = Contains-permutation (filter is_swept os) ss o moved (filter_holds is_swept os o here t)

  pub swept_apart : AreApart ss
  swept_apart = record {
    in_ends = λ o p ho hp. apart.in_ends o p (swept_tells o ho).0 (swept_tells p hp).0;
    one = λ o p ho hp. apart.one o p (swept_tells o ho).0 (swept_tells p hp).0;
  }

  pub same_way_down : (e : Edge) → way_down ss true e ≡ way_down os true e
  same_way_down e = by (way_down os true e) refl
    where
      by : (r : Option Owned) → way_down os true e ≡ r → way_down ss true e ≡ r
      by None f = (way_down_is_last.none ss true e).1 (λ o here t. (way_down_is_last.none os true e).0 f o (swept_tells o here).0 t)
      by (Some o) f =
          let l = (way_down_is_last.tells os true e o apart).0 f in
          (way_down_is_last.tells ss true e o swept_apart).1 (record {
            here = swept_holds o l.here (wanted_are_swept e o l.wanted);
            wanted = l.wanted;
            last = λ p here t differ. l.last p (swept_tells p here).0 t differ;
          })

  pub swept_once : ((o : Owned) → Contains os o → times o.edge (edges_of os) ≤ℤ pos 1) → AllPairs (λ o p. o.edge ≢ p.edge) ss
  swept_once h = pairs_once ss (λ o here. at_most o (swept_tells o here).0)
    where
      at_most : (o : Owned) → Contains os o → times o.edge (edges_of ss) ≤ℤ pos 1
      at_most o there = less (times o.edge (edges_of ss)) (times o.edge (edges_of (filter is_swept os))) (times o.edge (edges_of os)) moved_times fewer (h o there)
        where
          it : Edge → ℤ
          it t = cond (is_eq (edge_order t o.edge)) (pos 1) (pos 0)

          less : (a b t : ℤ) → a ≡ b → b ≤ℤ t → t ≤ℤ pos 1 → a ≤ℤ pos 1
          less a b t e l m = omega (arith, ints)

          moved_times : times o.edge (edges_of ss) ≡ times o.edge (edges_of (filter is_swept os))
          moved_times = total_permutation it (edges_of (filter is_swept os)) (edges_of ss) (IsPermutation-map (λ (p : Owned). p.edge) (filter is_swept os) ss moved)

          held : (b c : Bool) → (if b then cond c (pos 1) (pos 0) else pos 0) ≤ℤ cond c (pos 1) (pos 0)
          held true true = omega (arith, ints)
          held true false = omega (arith, ints)
          held false true = omega (arith, ints)
          held false false = omega (arith, ints)

          fewer : times o.edge (edges_of (filter is_swept os)) ≤ℤ times o.edge (edges_of os)
          fewer =
              subst (λ z. z ≤ℤ times o.edge (edges_of os)) (sym (total_map it (λ (p : Owned). p.edge) (filter is_swept os) ∙ total_filter (λ (p : Owned). it p.edge) is_swept os))
              (subst (λ z. total (λ (p : Owned). if is_swept p then it p.edge else pos 0) os ≤ℤ z) (sym (total_map it (λ (p : Owned). p.edge) os))
              (total_monotone (λ (p : Owned). if is_swept p then it p.edge else pos 0) (λ (p : Owned). it p.edge) os (λ p. held (is_swept p) (is_eq (edge_order p.edge o.edge)))))

-- ---- anchors of holes

pub record IsHoleAnchor (cs : List Contour) (n : ℕ) (a : Owned) : Type 0 where
  pub place : ℕ
  pub number : a.contour ≡ n + place
  pub contour : Contour
  pub at : contour_at cs place ≡ Some contour
  pub hole : contour.is_hole ≡ true
  pub found : anchor contour.points ≡ Some a.edge

abbrev with_anchor : ℕ → List Contour → Option Edge → List Owned
with_anchor n cs r = elim r [ None ↦ hole_anchors (suc n) cs | Some e ↦ record { edge = e; above = false; contour = n } ∷ hole_anchors (suc n) cs ]

pub anchors_tell : (n : ℕ) (cs : List Contour) (a : Owned) → Contains (hole_anchors n cs) a → IsHoleAnchor cs n a
anchors_tell n [] a here = absurd (omega (arith, here.1))
anchors_tell n (c ∷ cs) a here = by c.is_hole refl (anchor c.points) refl here (anchors_tell (suc n) cs a)
  where
    later : IsHoleAnchor cs (suc n) a → IsHoleAnchor (c ∷ cs) n a
    later h = record { place = suc h.place; number = h.number ∙ omega arith; contour = h.contour; at = h.at; hole = h.hole; found = h.found }

    first : (e : Edge) → c.is_hole ≡ true → anchor c.points ≡ Some e → record { edge = e; above = false; contour = n } ≡ a → IsHoleAnchor (c ∷ cs) n a
    first e hole found same = record {
      place = zero;
      number = ap (λ (x : Owned). x.contour) (sym same) ∙ omega arith;
      contour = c;
      at = refl;
      hole = hole;
      found = found ∙ ap (λ (x : Owned). Some x.edge) same;
    }

    by : (b : Bool) → c.is_hole ≡ b → (r : Option Edge) → anchor c.points ≡ r → Contains (with_anchor n cs (cond b r None)) a → (Contains (hole_anchors (suc n) cs) a → IsHoleAnchor cs (suc n) a) → IsHoleAnchor (c ∷ cs) n a
    by false f r g here rest = later (rest here)
    by true f None g here rest = later (rest here)
    by true f (Some e) g here rest = of_either (Contains-cases (record { edge = e; above = false; contour = n }) (hole_anchors (suc n) cs) a here)
      where
        of_either : (record { edge = e; above = false; contour = n } ≡ a) ⊎ Contains (hole_anchors (suc n) cs) a → IsHoleAnchor (c ∷ cs) n a
        of_either (inl same) = first e f g same
        of_either (inr there) = later (rest there)

pub anchors_hold : (n : ℕ) (cs : List Contour) (place : ℕ) (c : Contour) (e : Edge) → contour_at cs place ≡ Some c → c.is_hole ≡ true → anchor c.points ≡ Some e
    → Contains (hole_anchors n cs) (record { edge = e; above = false; contour = n + place })
anchors_hold n [] place c e at hole found = absurd (cc)
anchors_hold n (b ∷ cs) zero c e at hole found =
    let same : b ≡ c = inside b c at in
    let here : n ≡ n + 0 = omega arith in
    subst (λ (d : Contour). Contains (with_anchor n cs (cond d.is_hole (anchor d.points) None)) (record { edge = e; above = false; contour = n + zero })) (sym same)
    (subst (λ b. Contains (with_anchor n cs (cond b (anchor c.points) None)) (record { edge = e; above = false; contour = n + zero })) (sym hole)
    (subst (λ r. Contains (with_anchor n cs r) (record { edge = e; above = false; contour = n + zero })) (sym found)
    (subst (λ m. Contains (with_anchor n cs (Some e)) (record { edge = e; above = false; contour = m })) here (Contains-head (record { edge = e; above = false; contour = n }) (hole_anchors (suc n) cs)))))
  where
    inside : (b c : Contour) → Some b ≡ Some c → b ≡ c
    inside b c e = cc
anchors_hold n (b ∷ cs) (suc place) c e at hole found =
    let up : suc n + place ≡ n + suc place = omega arith in
    by (cond b.is_hole (anchor b.points) None) (subst (λ m. Contains (hole_anchors (suc n) cs) (record { edge = e; above = false; contour = m })) up (anchors_hold (suc n) cs place c e at hole found))
  where
    by : (r : Option Edge) → Contains (hole_anchors (suc n) cs) (record { edge = e; above = false; contour = n + suc place }) → Contains (with_anchor n cs r) (record { edge = e; above = false; contour = n + suc place })
    by None there = there
    by (Some f) there = Contains-later (record { edge = f; above = false; contour = n }) (hole_anchors (suc n) cs) (record { edge = e; above = false; contour = n + suc place }) there

-- ---- the anchors one contour after another

-- one contour more
pub anchors_more : {X : Type 0} (f : X → Contour) (xs : List X) (i : ℕ) (x : X) → i < length xs → x ≡ get_or xs i x
    → hole_anchors i (drop i (map f xs)) ≡ hole_anchors i (f x ∷ []) ++ hole_anchors (i + 1) (drop (i + 1) (map f xs))
anchors_more f xs i x inside at =
    let up : suc i ≡ i + 1 = omega arith in
    ap (hole_anchors i) (drop-mapped f xs i x inside at)
    ∙ (by (cond (f x).is_hole (anchor (f x).points) None) (drop (i + 1) (map f xs)) ∙ ap (λ n. hole_anchors i (f x ∷ []) ++ hole_anchors n (drop (i + 1) (map f xs))) up)
  where
    by : (r : Option Edge) (cs : List Contour) → with_anchor i cs r ≡ with_anchor i [] r ++ hole_anchors (suc i) cs
    by None cs = refl
    by (Some e) cs = refl

pub no_anchors_left : {X : Type 0} (f : X → Contour) (xs : List X) (i : ℕ) → length xs ≤ i → hole_anchors i (drop i (map f xs)) ≡ []
no_anchors_left f xs i h =
    let long : length (map f xs) ≤ i = omega (arith, length-map xs f) in
    ap (hole_anchors i) (drop_of_length-le (map f xs) long)

-- of one contour
module _ (n : ℕ) (c : Contour) where
  pub no_hole : c.is_hole ≡ false → hole_anchors n (c ∷ []) ≡ []
  no_hole f = ap (λ b. with_anchor n [] (cond b (anchor c.points) None)) f

  pub no_anchor : anchor c.points ≡ None → hole_anchors n (c ∷ []) ≡ []
  no_anchor none = ap (λ r. with_anchor n [] (cond c.is_hole r None)) none ∙ by c.is_hole
    where
      by : (b : Bool) → with_anchor n [] (cond b None None) ≡ []
      by true = refl
      by false = refl

  pub one_anchor : (e : Edge) → c.is_hole ≡ true → anchor c.points ≡ Some e → hole_anchors n (c ∷ []) ≡ record { edge = e; above = false; contour = n } ∷ []
  one_anchor e f found = ap (λ r. with_anchor n [] (cond c.is_hole r None)) found ∙ ap (λ b. with_anchor n [] (cond b (Some e) None)) f
