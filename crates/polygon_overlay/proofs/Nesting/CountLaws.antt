-- An edge along which contours step once is counted once by their map: upward or downward, as the step runs.
use Rattle.std.proofs.Common.{◌≡◌, ◌≢◌, ◌⊎◌, inl, inr, zero, suc, Bool, true, false, cond, List, [], ◌∷◌, flat_map, All, Contains, ℤ, pos, negsuc, ◌+ℤ◌, ◌*ℤ◌, ◌≤ℤ◌, refl, sym, ap, ◌∙◌, subst, arith}
use Rattle.std.specs.declared.cmp.Ordering.{Ordering}
use Rattle.std.specs.declared.cmp.Ordering.TheVariants.{Less, Equal, Greater}
use Rattle.std.specs.Ordering.{is_eq, is_lt}
use Rattle.std.proofs.lemmas.Int.{ints}
use Rattle.std.proofs.lemmas.List.Elements.{All-head, All-tail}
use Rattle.std.proofs.Math.IntN.{*ℤ-zero}
use Rattle.plane_base.specs.Plane.{Point, Edge, is_before, point_order, edge_order}
use Rattle.plane_base.specs.Counts.{Count, Entry, boolean, one_subject}
use Rattle.plane_base.specs.Totals.{total}
use Rattle.plane_base.proofs.Facts.Lists.Totals.{total_pointwise, total_not_negative}
use Rattle.plane_base.proofs.Facts.Maps.Laying.{lay_by}
use Rattle.plane_base.proofs.Facts.Maps.Normal.{IsRising}
use Rattle.plane_base.proofs.Facts.Points.Orders.{point_total, point_equal, less_from_greater, is_equal, edge_equal, edge_itself}
use Rattle.segment_arrangement.proofs.Facts.GreatestEntry.{Contains-head, Contains-later, Contains-cases, total_single}
use Rattle.contour_walk.specs.WalkLaws.{contour_steps}
use Rattle.contour_walk.proofs.Binding.Walks.{edge_of}
use Rattle.contour_walk.proofs.Facts.Binding.Lists.{term_of_total}
use Rattle.contour_walk.proofs.Straight.Laws.{steps_on}
use Rattle.contour_walk.proofs.Walks.Links.{between_forward, between_backward}
use Rattle.polygon_overlay.proofs.Nesting.HandLaws.{laid_weight, IsLinear}

-- upward or downward
abbrev pub way : Edge → ℤ
way s = cond (is_before s.a s.b) (pos 1) (negsuc 0)

abbrev is_it : Edge → Edge → ℤ
is_it t u = cond (is_eq (edge_order u t)) (pos 1) (pos 0)

abbrev pub HasLength : Edge → Type 0
HasLength s = is_before (edge_of s).a (edge_of s).b ≡ true

step_weight : (weight : Edge → ℤ) (s : Edge) → HasLength s → laid_weight weight s ≡ way s *ℤ weight (edge_of s)
step_weight weight s long = by (point_order s.a s.b) refl
  where
    up : (n : ℤ) → (pos 1 *ℤ n) +ℤ pos 0 ≡ pos 1 *ℤ n
    up n = omega (arith, ints)

    down : (n : ℤ) → (negsuc 0 *ℤ n) +ℤ pos 0 ≡ negsuc 0 *ℤ n
    down n = omega (arith, ints)

    by : (o : Ordering) → point_order s.a s.b ≡ o → total (λ e. e.count.subject *ℤ weight e.edge) (lay_by boolean o s.a s.b one_subject) ≡ way s *ℤ weight (edge_of s)
    by Less e =
        up (weight s)
        ∙ (ap (λ t. pos 1 *ℤ weight t) (sym (between_forward s.a s.b (ap is_lt e))) ∙ ap (λ b. cond b (pos 1) (negsuc 0) *ℤ weight (edge_of s)) (sym (ap is_lt e)))
    by Equal e = absurd (steps_on s.a s.b long (point_equal s.a s.b e))
    by Greater e =
        let back : point_order s.b s.a ≡ Less = less_from_greater point_total s.a s.b e in
        down (weight (record { a = s.b; b = s.a }))
        ∙ (ap (λ t. negsuc 0 *ℤ weight t) (sym (between_backward s.b s.a (ap is_lt back))) ∙ ap (λ b. cond b (pos 1) (negsuc 0) *ℤ weight (edge_of s)) (sym (ap is_lt e)))

-- ---- among steps

module _ (t : Edge) where
  abbrev here : Edge → ℤ
  here s = is_it t (edge_of s)

  not_negative : (s : Edge) → pos 0 ≤ℤ here s
  not_negative s = by (is_eq (edge_order (edge_of s) t))
    where
      by : (b : Bool) → pos 0 ≤ℤ cond b (pos 1) (pos 0)
      by true = omega (arith, ints)
      by false = omega (arith, ints)

  abbrev counted : Edge → ℤ
  counted s = way s *ℤ here s

  none_counted : (ss : List Edge) → total here ss ≤ℤ pos 0 → total counted ss ≡ pos 0
  none_counted [] h = refl
  none_counted (s ∷ ss) h =
      let few = parts (here s) (total here ss) (not_negative s) (total_not_negative here ss not_negative) h in
      sum (counted s) (total counted ss) (ap (λ n. way s *ℤ n) few.0 ∙ *ℤ-zero (way s)) (none_counted ss few.1)
    where
      parts : (a b : ℤ) → pos 0 ≤ℤ a → pos 0 ≤ℤ b → (a +ℤ b) ≤ℤ pos 0 → (a ≡ pos 0) × (b ≤ℤ pos 0)
      parts a b l m n = (omega (arith, ints, l, m, n), omega (arith, ints, l, m, n))

      sum : (a b : ℤ) → a ≡ pos 0 → b ≡ pos 0 → a +ℤ b ≡ pos 0
      sum a b e f = omega (arith, ints)

  one_counted : (ss : List Edge) (s : Edge) → Contains ss s → edge_of s ≡ t → total here ss ≤ℤ pos 1 → total counted ss ≡ way s
  one_counted [] s at same h = absurd (omega (arith, at.1))
  one_counted (u ∷ ss) s at same h = by (Contains-cases u ss s at) (λ later few. one_counted ss s later same few)
    where
      is_here : (s : Edge) → edge_of s ≡ t → here s ≡ pos 1
      is_here s e = ap (λ o. cond (is_eq o) (pos 1) (pos 0)) (ap (edge_order (edge_of s)) (sym e) ∙ edge_itself (edge_of s))

      rest_none : (a b : ℤ) → a ≡ pos 1 → (a +ℤ b) ≤ℤ pos 1 → b ≤ℤ pos 0
      rest_none a b e l = omega (arith, ints)

      alone : (w n c : ℤ) → n ≡ pos 1 → c ≡ pos 0 → (w *ℤ n) +ℤ c ≡ w
      alone w n c e f = rw (e, f) (omega (arith, ints))

      first_none : (a b : ℤ) → pos 0 ≤ℤ a → pos 1 ≤ℤ b → (a +ℤ b) ≤ℤ pos 1 → (a ≡ pos 0) × (b ≤ℤ pos 1)
      first_none a b l m n = (omega (arith, ints, l, m, n), omega (arith, ints, l, m, n))

      behind : (w n c v : ℤ) → n ≡ pos 0 → c ≡ v → (w *ℤ n) +ℤ c ≡ v
      behind w n c v e f = rw (e, f, *ℤ-zero w) (omega (arith, ints))

      by : (u ≡ s) ⊎ Contains ss s → (Contains ss s → total here ss ≤ℤ pos 1 → total counted ss ≡ way s) → total counted (u ∷ ss) ≡ way s
      by (inl e) more =
          alone (way u) (here u) (total counted ss) (is_here u (ap edge_of e ∙ same)) (none_counted ss (rest_none (here u) (total here ss) (is_here u (ap edge_of e ∙ same)) h))
          ∙ ap way e
      by (inr later) more =
          let few = first_none (here u) (total here ss) (not_negative u)
          (subst (λ n. n ≤ℤ total here ss) (is_here s same) (term_of_total here ss s not_negative later)) h in
          behind (way u) (here u) (total counted ss) (way s) few.0 (more later few.1)

-- ---- in the map

-- what an entry counts on one edge
abbrev share : Edge → Entry Count → ℤ
share t e = e.count.subject *ℤ is_it t e.edge

module _ (es : List (Entry Count)) (rising : IsRising es) (ds : List (List Point)) (linear : IsLinear es ds) where
  -- the edge of a step that no other step takes stands in the map, and counts as the step runs
  pub step_counts :
      (s : Edge) → Contains (flat_map contour_steps ds) s → All HasLength (flat_map contour_steps ds) → total (λ u. is_it (edge_of s) (edge_of u)) (flat_map contour_steps ds) ≤ℤ pos 1
      → (e : Entry Count) × Contains es e × (e.edge ≡ edge_of s) × (e.count.subject ≡ way s)
  step_counts s there long few = found (some_part es (λ none. way_not_zero (is_before s.a s.b) (sym sum ∙ none)))
    where
      steps : List Edge
      steps = flat_map contour_steps ds

      weights : (ss : List Edge) → All HasLength ss → total (laid_weight (is_it (edge_of s))) ss ≡ total (counted (edge_of s)) ss
      weights [] h = refl
      weights (u ∷ ss) h =
          both (step_weight (is_it (edge_of s)) u (All-head HasLength u ss h)) (weights ss (All-tail HasLength u ss h))
        where
          both : {a b c d : ℤ} → a ≡ b → c ≡ d → a +ℤ c ≡ b +ℤ d
          both {a} {b} {c} {d} e f = ap (λ z. z +ℤ c) e ∙ ap (λ z. b +ℤ z) f

      sum : total (λ e. e.count.subject *ℤ is_it (edge_of s) e.edge) es ≡ way s
      sum = linear (is_it (edge_of s)) ∙ (weights steps long ∙ one_counted (edge_of s) steps s there refl few)

      way_not_zero : (b : Bool) → cond b (pos 1) (negsuc 0) ≡ pos 0 → ⊥
      way_not_zero true e = absurd (cc)
      way_not_zero false e = absurd (cc)

      zero_or : (z : ℤ) → (z ≡ pos 0) ⊎ (z ≢ pos 0)
      zero_or (pos zero) = inl refl
      zero_or (pos (suc n)) = inr (λ e. absurd (cc))
      zero_or (negsuc n) = inr (λ e. absurd (cc))

      some_part : (fs : List (Entry Count)) → total (share (edge_of s)) fs ≢ pos 0 → (e : Entry Count) × Contains fs e × (share (edge_of s) e ≢ pos 0)
      some_part [] h = absurd (h refl)
      some_part (f ∷ fs) h = by (zero_or (share (edge_of s) f)) (some_part fs)
        where
          alone : (y z : ℤ) → y ≡ pos 0 → z ≡ pos 0 → y +ℤ z ≡ pos 0
          alone y z e g = omega (arith, ints)

          later : (e : Entry Count) × Contains fs e × (share (edge_of s) e ≢ pos 0) → (e : Entry Count) × Contains (f ∷ fs) e × (share (edge_of s) e ≢ pos 0)
          later (e, there, part) = (e, Contains-later f fs e there, part)

          by : (share (edge_of s) f ≡ pos 0) ⊎ (share (edge_of s) f ≢ pos 0) → (total (share (edge_of s)) fs ≢ pos 0 → (e : Entry Count) × Contains fs e × (share (edge_of s) e ≢ pos 0)) → (e : Entry Count) × Contains (f ∷ fs) e × (share (edge_of s) e ≢ pos 0)
          by (inr some) more = (f, Contains-head f fs, some)
          by (inl none) more = later (more (λ e. h (alone (share (edge_of s) f) (total (share (edge_of s)) fs) none e)))

      found : (e : Entry Count) × Contains es e × (share (edge_of s) e ≢ pos 0) → (e : Entry Count) × Contains es e × (e.edge ≡ edge_of s) × (e.count.subject ≡ way s)
      found (e, inside, part) = by (is_eq (edge_order e.edge (edge_of s))) refl
        where
          one : (n : ℤ) (b : Bool) → n *ℤ cond b (pos 1) (pos 0) ≡ cond b n (pos 0)
          one n true = omega (arith, ints)
          one n false = *ℤ-zero n

          by : (b : Bool) → is_eq (edge_order e.edge (edge_of s)) ≡ b → (e : Entry Count) × Contains es e × (e.edge ≡ edge_of s) × (e.count.subject ≡ way s)
          by false g = absurd (part (ap (λ b. e.count.subject *ℤ cond b (pos 1) (pos 0)) g ∙ *ℤ-zero e.count.subject))
          by true g =
              let same : e.edge ≡ edge_of s = edge_equal e.edge (edge_of s) (is_equal (edge_order e.edge (edge_of s)) g) in (
                e,
                inside,
                same,
                sym (total_single (λ f. f.count.subject) e es rising inside)
                    ∙ (sym (total_pointwise (λ f. f.count.subject *ℤ is_it e.edge f.edge) (λ f. cond (is_eq (edge_order f.edge e.edge)) f.count.subject (pos 0)) es
                    (λ f. one f.count.subject (is_eq (edge_order f.edge e.edge))))
                    ∙ (ap (λ t. total (λ f. f.count.subject *ℤ is_it t f.edge) es) same ∙ sum)),
              )
