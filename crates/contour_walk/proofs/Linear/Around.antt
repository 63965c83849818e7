-- The links of a ring in their order round the node: which of them is met first on turning, and which is the topmost.
use Rattle.std.proofs.Common.{◌≡◌, ◌⊎◌, inl, inr, ℕ, zero, suc, ◌+◌, ◌<◌, Bool, true, false, cond, List, [], ◌∷◌, length, get_or, Option, Some, None, ℤ, pos, ◌<ℤ◌, neg_ℤ, int_lt, ◌&&◌, refl, sym, ap, ◌∙◌, subst, arith}
use Rattle.std.proofs.lemmas.Bool.{false≢true, and_from}
use Rattle.std.proofs.lemmas.Int.{ints}
use Rattle.plane_base.specs.Plane.{Point, Edge, turn}
use Rattle.plane_base.proofs.Facts.Points.Turns.{turn_swap_last}
use Rattle.segment_arrangement.specs.declared.graph.VisitState.{VisitState}
use Rattle.segment_arrangement.specs.declared.graph.VisitState.TheVariants.{Skipped}
use Rattle.contour_walk.specs.Turning.{is_met_before}
use Rattle.contour_walk.specs.Walks.{same_point}
use Rattle.contour_walk.specs.Nearest.{Numbered, nearer, nearest}
use Rattle.contour_walk.specs.LinearWalks.{is_left, StayPassed, near_end, other_end, spokes_from, upper_of, top_of}
use Rattle.contour_walk.proofs.Facts.Walks.Turns.{Turns, not_met, Has}
use Rattle.contour_walk.proofs.Facts.Walks.Rings.{Pairs, Triples, has_append_left, has_append_right}
use Rattle.contour_walk.proofs.Walks.Links.{same_point_itself}
use Rattle.contour_walk.proofs.Linear.Left.{each_at}
use Rattle.contour_walk.proofs.Linear.Spokes.{nearest_has}
use Rattle.contour_walk.proofs.Linear.Steps.{IsAt, at_place}

-- ---- lists by places

module _ {A : Type 0} where
  pairs_at : (R : A → A → Type 0) (xs : List A) (i j : ℕ) (d : A) → Pairs R xs → i < j → j < length xs → R (get_or xs i d) (get_or xs j d)
  pairs_at R [] i j d h l m = absurd (omega (arith, m))
  pairs_at R (x ∷ xs) zero zero d h l m = absurd (omega (arith, l))
  pairs_at R (x ∷ xs) zero (suc j) d h l m = each_at (R x) xs j d h.0 (omega (arith, m))
  pairs_at R (x ∷ xs) (suc i) zero d h l m = absurd (omega (arith, l))
  pairs_at R (x ∷ xs) (suc i) (suc j) d h l m = pairs_at R xs i j d h.1 (omega (arith, l)) (omega (arith, m))

  pub triples_at : (R : A → A → A → Type 0) (xs : List A) (i j k : ℕ) (d : A) → Triples R xs → i < j → j < k → k < length xs → R (get_or xs i d) (get_or xs j d) (get_or xs k d)
  triples_at R [] i j k d h l m n = absurd (omega (arith, n))
  triples_at R (x ∷ xs) i zero k d h l m n = absurd (omega (arith, l))
  triples_at R (x ∷ xs) i (suc j) zero d h l m n = absurd (omega (arith, m))
  triples_at R (x ∷ xs) zero (suc j) (suc k) d h l m n = pairs_at (R x) xs j k d h.0 (omega (arith, m)) (omega (arith, n))
  triples_at R (x ∷ xs) (suc i) (suc j) (suc k) d h l m n = triples_at R xs i j k d h.1 (omega (arith, l)) (omega (arith, m)) (omega (arith, n))

-- ---- the one that is met first, and the topmost

module _ (c : Bool) (v a : Point) where
  -- what is met before all others is the nearest
  pub nearest_is : (m : Numbered) (ns : List Numbered) → Has ns m → ((n : Numbered) → Has ns n → (n ≡ m) ⊎ Turns c v a m.point n.point) → nearest c v a ns ≡ Some m
  nearest_is m [] here others = absurd here
  nearest_is m (n ∷ ns) (inl e) others = by (nearest c v a ns) refl
    where
      by : (o : Option Numbered) → nearest c v a ns ≡ o → Some (nearer c v a n o) ≡ Some m
      by None f = ap Some e
      by (Some k) f = found (others k (inr (nearest_has c v a ns k f)))
        where
          found : (k ≡ m) ⊎ Turns c v a m.point k.point → Some (cond (is_met_before c v a k.point n.point) k n) ≡ Some m
          found (inl g) = either (is_met_before c v a k.point n.point)
            where
              either : (b : Bool) → Some (cond b k n) ≡ Some m
              either true = ap Some g
              either false = ap Some e
          found (inr h) = ap (λ b. Some (cond b k n)) (ap (λ (z : Numbered). is_met_before c v a k.point z.point) e ∙ not_met c v a m.point k.point h) ∙ ap Some e
  nearest_is m (n ∷ ns) (inr here) others = ap (λ o. Some (nearer c v a n o)) (nearest_is m ns here (λ k h. others k (inr h))) ∙ found (others n (inl refl))
    where
      found : (n ≡ m) ⊎ Turns c v a m.point n.point → Some (cond (is_met_before c v a m.point n.point) m n) ≡ Some m
      found (inl e) = either (is_met_before c v a m.point n.point)
        where
          either : (b : Bool) → Some (cond b m n) ≡ Some m
          either true = refl
          either false = ap Some e
      found (inr h) = ap (λ b. Some (cond b m n)) h.met

module _ (v : Point) where
  top_has : (ns : List Numbered) (m : Numbered) → top_of v ns ≡ Some m → Has ns m
  top_has [] m e = absurd (cc)
  top_has (n ∷ ns) m e = by (top_of v ns) refl (top_has ns m) (some_is e)
    where
      some_is : {x y : Numbered} → Some x ≡ Some y → x ≡ y
      some_is e = cc

      by : (o : Option Numbered) → top_of v ns ≡ o → (top_of v ns ≡ Some m → Has ns m) → upper_of v n o ≡ m → Has (n ∷ ns) m
      by None f behind g = inl g
      by (Some k) f behind g = either (int_lt (pos 0) (turn v n.point k.point)) g
        where
          either : (b : Bool) → cond b k n ≡ m → Has (n ∷ ns) m
          either true h = inr (behind (f ∙ ap Some h))
          either false h = inl h

  to_left : (p r : Point) → pos 0 <ℤ turn v p r → int_lt (pos 0) (turn v p r) ≡ true
  to_left p r l = by (turn v p r) l
    where
      by : (z : ℤ) → pos 0 <ℤ z → int_lt (pos 0) z ≡ true
      by z l = grind (arith, ints, l)

  not_to_right : (p r : Point) → pos 0 <ℤ turn v p r → int_lt (pos 0) (turn v r p) ≡ false
  not_to_right p r l = by (turn v p r) (turn v r p) (turn_swap_last v r p) l
    where
      by : (y z : ℤ) → z ≡ neg_ℤ y → pos 0 <ℤ y → int_lt (pos 0) z ≡ false
      by y z e l = grind (arith, ints, e, l)

  -- what lies to the left of all others is the topmost
  pub top_is : (m : Numbered) (ns : List Numbered) → Has ns m → ((n : Numbered) → Has ns n → (n ≡ m) ⊎ (pos 0 <ℤ turn v n.point m.point)) → top_of v ns ≡ Some m
  top_is m [] here others = absurd here
  top_is m (n ∷ ns) (inl e) others = by (top_of v ns) refl
    where
      by : (o : Option Numbered) → top_of v ns ≡ o → Some (upper_of v n o) ≡ Some m
      by None f = ap Some e
      by (Some k) f = found (others k (inr (top_has ns k f)))
        where
          found : (k ≡ m) ⊎ (pos 0 <ℤ turn v k.point m.point) → Some (cond (int_lt (pos 0) (turn v n.point k.point)) k n) ≡ Some m
          found (inl g) = either (int_lt (pos 0) (turn v n.point k.point))
            where
              either : (b : Bool) → Some (cond b k n) ≡ Some m
              either true = ap Some g
              either false = ap Some e
          found (inr h) = ap (λ b. Some (cond b k n)) (ap (λ (z : Numbered). int_lt (pos 0) (turn v z.point k.point)) e ∙ not_to_right k.point m.point h) ∙ ap Some e
  top_is m (n ∷ ns) (inr here) others = ap (λ o. Some (upper_of v n o)) (top_is m ns here (λ k h. others k (inr h))) ∙ found (others n (inl refl))
    where
      found : (n ≡ m) ⊎ (pos 0 <ℤ turn v n.point m.point) → Some (cond (int_lt (pos 0) (turn v n.point m.point)) m n) ≡ Some m
      found (inl e) = either (int_lt (pos 0) (turn v n.point m.point))
        where
          either : (b : Bool) → Some (cond b m n) ≡ Some m
          either true = refl
          either false = ap Some e
      found (inr h) = ap (λ b. Some (cond b m n)) (to_left n.point m.point h)

-- ---- links that are left, by older states

abbrev seen_at : Point → ℕ → Numbered
seen_at p i = record { point = p; id = i }

-- a link that is left at the point is among them
at_has : (n : ℕ) (t : Bool) (v : Point) (es : List Edge) (ss : List VisitState) (i : ℕ) (far : Point) → length ss ≡ length es → IsAt t v es ss i far → Has (spokes_from n t v es ss) (seen_at far (n + i))
at_has n t v [] ss i far beside h = absurd (let l = h.inside in omega (arith, l))
at_has n t v (e ∷ es) [] i far beside h = absurd (omega (arith, beside))
at_has n t v (e ∷ es) (s ∷ ss) zero far beside h =
    let same : n ≡ n + 0 = omega arith in
    let near : same_point (near_end t e) v ≡ true = same_point_itself (near_end t e) v (h.near e) in
    has_append_left (cond (is_left s && same_point (near_end t e) v) (seen_at (other_end t e) n ∷ []) []) (spokes_from (n + 1) t v es ss) (seen_at far (n + 0))
    (subst (λ b. Has (cond b (seen_at (other_end t e) n ∷ []) []) (seen_at far (n + 0))) (sym (and_from (is_left s) (same_point (near_end t e) v) h.left near))
    (inl (λ i. seen_at (h.other e i) (same i))))
at_has n t v (e ∷ es) (s ∷ ss) (suc i) far beside h =
    let same : n + 1 + i ≡ n + suc i = omega arith in
    let inside = h.inside in
    has_append_right (cond (is_left s && same_point (near_end t e) v) (seen_at (other_end t e) n ∷ []) []) (spokes_from (n + 1) t v es ss) (seen_at far (n + suc i))
    (subst (λ k. Has (spokes_from (n + 1) t v es ss) (seen_at far k)) same
    (at_has (n + 1) t v es ss i far (omega (arith, beside)) (record { inside = omega (arith, inside); left = h.left; near = h.near; other = h.other })))

pub has_id : (t : Bool) (v : Point) (es : List Edge) (ss : List VisitState) (m : Numbered) → length ss ≡ length es → IsAt t v es ss m.id m.point → Has (spokes_from 0 t v es ss) m
has_id t v es ss m beside h =
    let same : 0 + m.id ≡ m.id = omega arith in
    subst (λ k. Has (spokes_from 0 t v es ss) (seen_at m.point k)) same (at_has 0 t v es ss m.id m.point beside h)

module _ (v : Point) (es : List Edge) (old new : List VisitState) (old_beside : length old ≡ length es) (new_beside : length new ≡ length es) (stay : StayPassed old new) where
  was_left : (i : ℕ) → is_left (get_or new i Skipped) ≡ true → is_left (get_or old i Skipped) ≡ true
  was_left i h = by (is_left (get_or old i Skipped)) refl
    where
      by : (b : Bool) → is_left (get_or old i Skipped) ≡ b → b ≡ true
      by true e = refl
      by false e = absurd (false≢true (sym (stay i e) ∙ h))

  -- what is left was left
  pub was_there : (t : Bool) (m : Numbered) → Has (spokes_from 0 t v es new) m → Has (spokes_from 0 t v es old) m × (is_left (get_or new m.id Skipped) ≡ true)
  was_there t m h =
      let at = at_place t v es new m h in
      (has_id t v es old m old_beside (record { inside = at.inside; left = was_left m.id at.left; near = at.near; other = at.other }), at.left)

  -- what was left and is not passed is left
  pub still_there : (t : Bool) (m : Numbered) → Has (spokes_from 0 t v es old) m → is_left (get_or new m.id Skipped) ≡ true → Has (spokes_from 0 t v es new) m
  still_there t m h left =
      let at = at_place t v es old m h in
      has_id t v es new m new_beside (record { inside = at.inside; left = left; near = at.near; other = at.other })
