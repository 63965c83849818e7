-- What is summed along the steps of a contour, where two steps on one line add what one does: without the points that the contour passes
-- straight the sum is the same.
use Rattle.std.proofs.Common.{◌≡◌, ◌≢◌, Bool, true, false, cond, List, [], ◌∷◌, ◌++◌, All, ℤ, pos, ◌+ℤ◌, refl, sym, ap, ◌∙◌, arith}
use Rattle.std.proofs.lemmas.Int.{ints}
use Rattle.std.specs.Ordering.{int_eq, int_cmp}
use Rattle.std.proofs.lemmas.List.Elements.{All-head, All-tail}
use Rattle.plane_base.specs.Plane.{Point, Edge, turn, is_before}
use Rattle.plane_base.specs.Given.{closed}
use Rattle.plane_base.proofs.Facts.Maps.Laying.{path_sum}
use Rattle.plane_base.proofs.Facts.Points.Orders.{is_equal, int_equal}
use Rattle.plane_base.proofs.Facts.Points.Turns.{turn_start_twice}
use Rattle.contour_walk.specs.Walks.{between, path_edges}
use Rattle.contour_walk.specs.Shapes.{last_of, corners_after, without_straight}
use Rattle.contour_walk.specs.BindingLaws.{NeverStays}
use Rattle.contour_walk.proofs.Straight.Laws.{line_goes_on, steps_on, ends_straight}

abbrev AllDirected : List Edge → Type 0
AllDirected es = All (λ s. is_before s.a s.b ≡ true) es

last_steps_on : (first p : Point) (rest : List Point) → AllDirected (path_edges first (p ∷ rest)) → last_of p rest ≢ first
last_steps_on first p [] h = steps_on p first (All-head (λ s. is_before s.a s.b ≡ true) (between p first) [] h)
last_steps_on first p (r ∷ rest) h = last_steps_on first r rest (All-tail (λ s. is_before s.a s.b ≡ true) (between p r) (path_edges first (r ∷ rest)) h)

straight_or_not : (t : ℤ) (A : Bool → Type 0) → (t ≡ pos 0 → A true) → A false → A (int_eq t (pos 0))
straight_or_not t A if_straight if_not = by (int_eq t (pos 0)) refl
  where
    by : (b : Bool) → int_eq t (pos 0) ≡ b → A b
    by true e = if_straight (int_equal t (pos 0) (is_equal (int_cmp t (pos 0)) e))
    by false e = if_not

module _ (f : Point → Point → ℤ) (stays : (u : Point) → f u u ≡ pos 0) (on_line : (u v w : Point) → turn u v w ≡ pos 0 → f u v +ℤ f v w ≡ f u w) where
  -- u is a point of the line that leads to p: the last corner that is kept
  sum_by_corners :
      (u b first p : Point) (rest : List Point) → b ≢ p → turn u b p ≡ pos 0 → AllDirected (path_edges first (p ∷ rest))
      → f u b +ℤ path_sum f (b ∷ p ∷ rest ++ first ∷ []) ≡ path_sum f (u ∷ corners_after b first (p ∷ rest) ++ first ∷ [])
  sum_by_corners u b first p [] differ line h =
      straight_or_not (turn b p first)
      (λ t. f u b +ℤ path_sum f (b ∷ p ∷ first ∷ []) ≡ path_sum f (u ∷ cond t [] (p ∷ []) ++ first ∷ []))
      (λ z. both (f u b) (f b p) (f u p) (f p first) (f u first) (on_line u b p line) (on_line u p first (line_goes_on u b p first differ line z)))
      (one (f u b) (f b p) (f u p) (f p first +ℤ pos 0) (on_line u b p line))
    where
      both : (ub bp up pf uf : ℤ) → ub +ℤ bp ≡ up → up +ℤ pf ≡ uf → ub +ℤ (bp +ℤ (pf +ℤ pos 0)) ≡ uf +ℤ pos 0
      both ub bp up pf uf e g = omega (arith, ints)

      one : (ub bp up rest : ℤ) → ub +ℤ bp ≡ up → ub +ℤ (bp +ℤ rest) ≡ up +ℤ rest
      one ub bp up rest e = omega (arith, ints)
  sum_by_corners u b first p (r ∷ rest) differ line h =
      let steps : AllDirected (path_edges first (r ∷ rest)) = All-tail (λ s. is_before s.a s.b ≡ true) (between p r) (path_edges first (r ∷ rest)) h in
      let on : p ≢ r = steps_on p r (All-head (λ s. is_before s.a s.b ≡ true) (between p r) (path_edges first (r ∷ rest)) h) in
      straight_or_not (turn b p r)
      (λ t. f u b +ℤ path_sum f (b ∷ p ∷ r ∷ rest ++ first ∷ []) ≡ path_sum f (u ∷ cond t (corners_after p first (r ∷ rest)) (p ∷ corners_after p first (r ∷ rest)) ++ first ∷ []))
      (λ z. past (f u b) (f b p) (f u p) (path_sum f (p ∷ r ∷ rest ++ first ∷ [])) _ (on_line u b p line)
      (sum_by_corners u p first r rest on (line_goes_on u b p r differ line z) steps))
      (kept (f u b) (f b p) (f u p) (f p p) (path_sum f (p ∷ r ∷ rest ++ first ∷ [])) (path_sum f (p ∷ corners_after p first (r ∷ rest) ++ first ∷ [])) (on_line u b p line) (stays p)
      (sum_by_corners p p first r rest on (turn_start_twice p r) steps))
    where
      past : (ub bp up rest end : ℤ) → ub +ℤ bp ≡ up → up +ℤ rest ≡ end → ub +ℤ (bp +ℤ rest) ≡ end
      past ub bp up rest end e g = omega (arith, ints)

      kept : (ub bp up pp rest end : ℤ) → ub +ℤ bp ≡ up → pp ≡ pos 0 → pp +ℤ rest ≡ end → ub +ℤ (bp +ℤ rest) ≡ up +ℤ end
      kept ub bp up pp rest end e g h = omega (arith, ints)

  -- one step more
  path_to : (p : Point) (rest : List Point) (v : Point) → path_sum f (p ∷ rest ++ v ∷ []) ≡ path_sum f (p ∷ rest) +ℤ f (last_of p rest) v
  path_to p [] v = turned (f p v)
    where
      turned : (x : ℤ) → x +ℤ pos 0 ≡ pos 0 +ℤ x
      turned x = omega (arith, ints)
  path_to p (r ∷ rest) v = next (f p r) _ _ _ (path_to r rest v)
    where
      next : (s x y z : ℤ) → x ≡ y +ℤ z → s +ℤ x ≡ (s +ℤ y) +ℤ z
      next s x y z e = omega (arith, ints)

  cycle_by_corners : (a : Point) (rest : List Point) → NeverStays (a ∷ rest) → path_sum f (closed (without_straight (a ∷ rest))) ≡ path_sum f (closed (a ∷ rest))
  cycle_by_corners a rest h = by (corners_after b a (a ∷ rest)) refl
    where
      b : Point
      b = last_of a rest

      differ : b ≢ a
      differ = last_steps_on a a rest h

      all_gone : (s t c : ℤ) → s ≡ pos 0 → s +ℤ (t +ℤ c) ≡ t +ℤ pos 0 → pos 0 ≡ c
      all_gone s t c e g = omega (arith, ints)

      turned : (zb ba za c zk ks rest end : ℤ) → zb +ℤ ba ≡ za → zb +ℤ (ba +ℤ c) ≡ zk +ℤ rest → rest ≡ ks +ℤ za → end ≡ ks +ℤ zk → end ≡ c
      turned zb ba za c zk ks rest end e g h k = omega (arith, ints)

      by : (corners : List Point) → corners_after b a (a ∷ rest) ≡ corners → path_sum f (closed corners) ≡ path_sum f (closed (a ∷ rest))
      by [] e =
          all_gone (f b b) (f b a) (path_sum f (closed (a ∷ rest))) (stays b)
          (sum_by_corners b b a a rest differ (turn_start_twice b a) h ∙ ap (λ c. path_sum f (b ∷ c ++ a ∷ [])) e)
      by (k ∷ ks) e =
          let z : Point = last_of k ks in
          let line : turn z b a ≡ pos 0 = ap (λ c. turn (last_of b c) b a) (sym e) ∙ ends_straight b b a a rest differ (turn_start_twice b a) h in
          turned (f z b) (f b a) (f z a) (path_sum f (closed (a ∷ rest))) (f z k) (path_sum f (k ∷ ks)) (path_sum f (k ∷ ks ++ a ∷ [])) (path_sum f (closed (k ∷ ks)))
          (on_line z b a line)
          (sum_by_corners z b a a rest differ line h ∙ ap (λ c. path_sum f (z ∷ c ++ a ∷ [])) e)
          (path_to k ks a)
          (path_to k ks k)

  pub straight_points_add_nothing : (points : List Point) → NeverStays points → path_sum f (closed (without_straight points)) ≡ path_sum f (closed points)
  straight_points_add_nothing [] h = refl
  straight_points_add_nothing (a ∷ rest) h = cycle_by_corners a rest h
