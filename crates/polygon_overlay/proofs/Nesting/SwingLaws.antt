-- Round a point at which contours touch: what is counted of the steps there is counted pass by pass.
use Rattle.std.proofs.Common.{◌≡◌, cond, List, [], ◌∷◌, ◌++◌, flat_map, ℤ, pos, ◌+ℤ◌, ◌-ℤ◌, refl, sym, ◌∙◌, arith}
use Rattle.std.proofs.lemmas.Int.{ints}
use Rattle.plane_base.specs.Plane.{Point, Edge}
use Rattle.plane_base.specs.Totals.{total}
use Rattle.plane_base.proofs.Facts.Lists.Totals.{total_append}
use Rattle.segment_arrangement.specs.Rings.{Leads}
use Rattle.contour_walk.specs.Walks.{same_point}
use Rattle.contour_walk.specs.WalkLaws.{steps_to, contour_steps}
use Rattle.polygon_overlay.specs.PassLaws.{Pass, passes_from, passes}

abbrev step : Point → Point → Edge
step u w = record { a = u; b = w }

-- ---- steps and passes at v, by a weight of the points to which they lead

module _ (v : Point) (weight : Point → ℤ) where
  -- what a step out of v counts, less what one into it does
  abbrev pub out_of : Edge → ℤ
  out_of s = cond (same_point s.a v) (weight s.b) (pos 0)

  abbrev pub into : Edge → ℤ
  into s = cond (same_point s.b v) (weight s.a) (pos 0)

  abbrev pub swing : Edge → ℤ
  swing s = out_of s -ℤ into s

  abbrev pub pass_swing : Pass → ℤ
  pass_swing p = out_of (step p.at p.to) -ℤ into (step p.from p.at)

  path_swings : (first second from u : Point) (rest : List Point)
      → total pass_swing (passes_from first second from (u ∷ rest)) ≡ (total swing (steps_to first (u ∷ rest)) +ℤ out_of (step first second)) -ℤ into (step from u)
  path_swings first second from u [] = sum (out_of (step u first)) (into (step from u)) (out_of (step first second)) (into (step u first))
    where
      sum : (a b c d : ℤ) → (a -ℤ b) +ℤ ((c -ℤ d) +ℤ pos 0) ≡ (((a -ℤ d) +ℤ pos 0) +ℤ c) -ℤ b
      sum a b c d = omega (arith, ints)
  path_swings first second from u (w ∷ rest) =
      more (out_of (step u w)) (into (step from u)) (total pass_swing (passes_from first second u (w ∷ rest))) (total swing (steps_to first (w ∷ rest))) (out_of (step first second)) (into (step u w))
      (path_swings first second u w rest)
    where
      more : (a b t s c d : ℤ) → t ≡ (s +ℤ c) -ℤ d → (a -ℤ b) +ℤ t ≡ (((a -ℤ d) +ℤ s) +ℤ c) -ℤ b
      more a b t s c d e = omega (arith, ints)

  pub contour_swings : (points : List Point) → total pass_swing (passes points) ≡ total swing (contour_steps points)
  contour_swings [] = refl
  contour_swings (p ∷ []) = sym (none (out_of (step p p)))
    where
      none : (x : ℤ) → (x -ℤ x) +ℤ pos 0 ≡ pos 0
      none x = omega (arith, ints)
  contour_swings (p ∷ r ∷ rest) = path_swings p r p r rest ∙ moved (total swing (steps_to p (r ∷ rest))) (out_of (step p r)) (into (step p r))
    where
      moved : (s c d : ℤ) → (s +ℤ c) -ℤ d ≡ (c -ℤ d) +ℤ s
      moved s c d = omega (arith, ints)

  pub all_swings : (cs : List (List Point)) → total pass_swing (flat_map passes cs) ≡ total swing (flat_map contour_steps cs)
  all_swings [] = refl
  all_swings (c ∷ cs) =
      total_append pass_swing (passes c) (flat_map passes cs)
      ∙ (both (total pass_swing (passes c)) (total swing (contour_steps c)) (total pass_swing (flat_map passes cs)) (total swing (flat_map contour_steps cs)) (contour_swings c) (all_swings cs)
      ∙ sym (total_append swing (contour_steps c) (flat_map contour_steps cs)))
    where
      both : (a b c d : ℤ) → a ≡ b → c ≡ d → a +ℤ c ≡ b +ℤ d
      both a b c d e f = omega (arith, ints)

-- ---- along a list in which each leads to the next

module _ {A : Type 0} (right left : A → ℤ) where
  abbrev pub change : A → ℤ
  change x = left x -ℤ right x

  pub leads_parts : (from to : ℤ) (xs : List A) (y : A) (ys : List A) → Leads right left from to (xs ++ y ∷ ys)
      → (total change xs ≡ right y -ℤ from) × Leads right left (left y) to ys
  leads_parts from to [] y ys h = (none from (right y) h.0, h.1)
    where
      none : (a b : ℤ) → b ≡ a → pos 0 ≡ b -ℤ a
      none a b e = omega (arith, ints)
  leads_parts from to (x ∷ xs) y ys h =
      let k = leads_parts (left x) to xs y ys h.1 in
      (more (left x) (right x) from (total change xs) (right y) h.0 k.0, k.1)
    where
      more : (l r f t y : ℤ) → r ≡ f → t ≡ y -ℤ l → (l -ℤ r) +ℤ t ≡ y -ℤ f
      more l r f t y e g = omega (arith, ints)

  pub leads_whole : (from to : ℤ) (xs : List A) → Leads right left from to xs → total change xs ≡ to -ℤ from
  leads_whole from to [] h = none from to h
    where
      none : (a b : ℤ) → a ≡ b → pos 0 ≡ b -ℤ a
      none a b e = omega (arith, ints)
  leads_whole from to (x ∷ xs) h = more (left x) (right x) from (total change xs) to h.0 (leads_whole (left x) to xs h.1)
    where
      more : (l r f t y : ℤ) → r ≡ f → t ≡ y -ℤ l → (l -ℤ r) +ℤ t ≡ y -ℤ f
      more l r f t y e g = omega (arith, ints)
