-- A contour without the points that it passes straight winds as it did.
use Rattle.std.proofs.Common.{◌≡◌, ◌≢◌, Bool, true, false, cond, List, [], ◌∷◌, ◌++◌, All, ◌⊎◌, inl, inr, ℤ, pos, ◌+ℤ◌, ◌-ℤ◌, ◌*ℤ◌, refl, sym, ap, ◌∙◌, arith}
use Rattle.std.proofs.lemmas.Int.{ints}
use Rattle.std.proofs.Math.IntN.{*ℤ-zero}
use Rattle.std.specs.Ordering.{int_eq, int_cmp, is_lt}
use Rattle.std.proofs.lemmas.Bool.{false≢true}
use Rattle.std.proofs.lemmas.List.Elements.{All-head, All-tail}
use Rattle.plane_base.specs.Plane.{Point, Edge, RationalPoint, turn, is_before, step_winding}
use Rattle.plane_base.specs.Windings.{path_winding, cycle_winding}
use Rattle.plane_base.proofs.Facts.Points.Orders.{point_itself, is_equal, int_equal}
use Rattle.plane_base.proofs.Facts.Numbers.Products.{zero_product}
use Rattle.plane_base.proofs.Facts.Numbers.Polynomials.{minus, plus, times, by_ring}
use Rattle.plane_base.proofs.Facts.Points.Turns.{coordinates, place, a_turn, turn_start_twice}
use Rattle.plane_base.proofs.Facts.Points.OneLine.{on_one_line}
use Rattle.contour_walk.specs.Walks.{between, path_edges}
use Rattle.contour_walk.specs.Shapes.{last_of, corners_after, without_straight}
use Rattle.contour_walk.specs.BindingLaws.{NeverStays, StraightPointsDontWind}
use Rattle.plane_base.proofs.Facts.Windings.Paths.{step_winding_still}

-- ---- four points in a row

row_x : (a b c d : Point) → (c.x -ℤ b.x) *ℤ turn a c d ≡ ((d.x -ℤ c.x) *ℤ turn a b c) +ℤ ((c.x -ℤ a.x) *ℤ turn b c d)
row_x a b c d =
    let u = place 0 in let v = place 1 in let w = place 2 in let z = place 3 in
    by_ring (coordinates (a ∷ b ∷ c ∷ d ∷ []) [])
    (times (minus w.x v.x) (a_turn u w z))
    (plus (times (minus z.x w.x) (a_turn u v w)) (times (minus w.x u.x) (a_turn v w z)))
    refl

row_y : (a b c d : Point) → (c.y -ℤ b.y) *ℤ turn a c d ≡ ((d.y -ℤ c.y) *ℤ turn a b c) +ℤ ((c.y -ℤ a.y) *ℤ turn b c d)
row_y a b c d =
    let u = place 0 in let v = place 1 in let w = place 2 in let z = place 3 in
    by_ring (coordinates (a ∷ b ∷ c ∷ d ∷ []) [])
    (times (minus w.y v.y) (a_turn u w z))
    (plus (times (minus z.y w.y) (a_turn u v w)) (times (minus w.y u.y) (a_turn v w z)))
    refl

-- a line through two different points goes on
pub line_goes_on : (a b c d : Point) → b ≢ c → turn a b c ≡ pos 0 → turn b c d ≡ pos 0 → turn a c d ≡ pos 0
line_goes_on a b c d differ e f = by (zero_product (c.x -ℤ b.x) (turn a c d) (row_x a b c d ∙ none (d.x -ℤ c.x) (c.x -ℤ a.x) (turn a b c) (turn b c d) e f)) (zero_product (c.y -ℤ b.y) (turn a c d) (row_y a b c d ∙ none (d.y -ℤ c.y) (c.y -ℤ a.y) (turn a b c) (turn b c d) e f))
  where
    none : (k m t s : ℤ) → t ≡ pos 0 → s ≡ pos 0 → (k *ℤ t) +ℤ (m *ℤ s) ≡ pos 0
    none k m t s p q = ap (λ x. (k *ℤ x) +ℤ (m *ℤ s)) p ∙ (ap (λ x. (k *ℤ pos 0) +ℤ (m *ℤ x)) q ∙ (ap (λ x. x +ℤ (m *ℤ pos 0)) (*ℤ-zero k) ∙ ap (λ x. pos 0 +ℤ x) (*ℤ-zero m)))

    level : (x y : ℤ) → y -ℤ x ≡ pos 0 → x ≡ y
    level x y h = omega (arith, ints)

    same : c.x -ℤ b.x ≡ pos 0 → c.y -ℤ b.y ≡ pos 0 → b ≡ c
    same h k = ap (λ u. record { x = u; y = b.y }) (level b.x c.x h) ∙ ap (λ u. record { x = c.x; y = u }) (level b.y c.y k)

    by : (c.x -ℤ b.x ≡ pos 0) ⊎ (turn a c d ≡ pos 0) → (c.y -ℤ b.y ≡ pos 0) ⊎ (turn a c d ≡ pos 0) → turn a c d ≡ pos 0
    by (inr z) h = z
    by (inl x) (inr z) = z
    by (inl x) (inl y) = absurd (differ (same x y))

-- ---- steps

abbrev AllDirected : List Edge → Type 0
AllDirected es = All (λ s. is_before s.a s.b ≡ true) es

pub steps_on : (u v : Point) → is_before (between u v).a (between u v).b ≡ true → u ≢ v
steps_on u v directed same = false≢true (sym (stays u) ∙ (ap (λ w. is_before (between u w).a (between u w).b) same ∙ directed))
  where
    on_itself : (u : Point) → is_before u u ≡ false
    on_itself u = ap is_lt (point_itself u)

    stays : (u : Point) → is_before (between u u).a (between u u).b ≡ false
    stays u = ap (λ b. let s : Edge = cond b (record { a = u; b = u }) (record { a = u; b = u }) in is_before s.a s.b) (on_itself u) ∙ on_itself u

last_steps_on : (first p : Point) (rest : List Point) → AllDirected (path_edges first (p ∷ rest)) → last_of p rest ≢ first
last_steps_on first p [] h = steps_on p first (All-head (λ s. is_before s.a s.b ≡ true) (between p first) [] h)
last_steps_on first p (r ∷ rest) h = last_steps_on first r rest (All-tail (λ s. is_before s.a s.b ≡ true) (between p r) (path_edges first (r ∷ rest)) h)

straight_or_not : (t : ℤ) (A : Bool → Type 0) → (t ≡ pos 0 → A true) → A false → A (int_eq t (pos 0))
straight_or_not t A if_straight if_not = by (int_eq t (pos 0)) refl
  where
    by : (b : Bool) → int_eq t (pos 0) ≡ b → A b
    by true e = if_straight (int_equal t (pos 0) (is_equal (int_cmp t (pos 0)) e))
    by false e = if_not

-- ---- along the contour

-- u is a point of the line that leads to p: the last corner that is kept
pub ends_straight :
    (u b first p : Point) (rest : List Point) → b ≢ p → turn u b p ≡ pos 0 → AllDirected (path_edges first (p ∷ rest)) →
    turn (last_of u (corners_after b first (p ∷ rest))) (last_of p rest) first ≡ pos 0
ends_straight u b first p [] differ line h =
    straight_or_not (turn b p first) (λ t. turn (last_of u (cond t [] (p ∷ []))) p first ≡ pos 0) (λ z. line_goes_on u b p first differ line z) (turn_start_twice p first)
ends_straight u b first p (r ∷ rest) differ line h =
    let steps : AllDirected (path_edges first (r ∷ rest)) = All-tail (λ s. is_before s.a s.b ≡ true) (between p r) (path_edges first (r ∷ rest)) h in
    let on : p ≢ r = steps_on p r (All-head (λ s. is_before s.a s.b ≡ true) (between p r) (path_edges first (r ∷ rest)) h) in
    straight_or_not (turn b p r) (λ t. turn (last_of u (cond t (corners_after p first (r ∷ rest)) (p ∷ corners_after p first (r ∷ rest)))) (last_of r rest) first ≡ pos 0)
    (λ z. ends_straight u p first r rest on (line_goes_on u b p r differ line z) steps)
    (ends_straight p p first r rest on (turn_start_twice p r) steps)

module _ (q : RationalPoint) where
  winds_by_corners :
      (u b first p : Point) (rest : List Point) → b ≢ p → turn u b p ≡ pos 0 → AllDirected (path_edges first (p ∷ rest)) →
      step_winding u b q +ℤ path_winding (b ∷ p ∷ rest ++ first ∷ []) q ≡ path_winding (u ∷ corners_after b first (p ∷ rest) ++ first ∷ []) q
  winds_by_corners u b first p [] differ line h =
      straight_or_not (turn b p first)
      (λ t. step_winding u b q +ℤ path_winding (b ∷ p ∷ first ∷ []) q ≡ path_winding (u ∷ cond t [] (p ∷ []) ++ first ∷ []) q)
      (λ z. both (step_winding u b q) (step_winding b p q) (step_winding u p q) (step_winding p first q) (step_winding u first q) (on_one_line u b p q line) (on_one_line u p first q (line_goes_on u b p first differ line z)))
      (one (step_winding u b q) (step_winding b p q) (step_winding u p q) (step_winding p first q +ℤ pos 0) (on_one_line u b p q line))
    where
      both : (ub bp up pf uf : ℤ) → ub +ℤ bp ≡ up → up +ℤ pf ≡ uf → ub +ℤ (bp +ℤ (pf +ℤ pos 0)) ≡ uf +ℤ pos 0
      both ub bp up pf uf e f = omega (arith, ints)

      one : (ub bp up rest : ℤ) → ub +ℤ bp ≡ up → ub +ℤ (bp +ℤ rest) ≡ up +ℤ rest
      one ub bp up rest e = omega (arith, ints)
  winds_by_corners u b first p (r ∷ rest) differ line h =
      let steps : AllDirected (path_edges first (r ∷ rest)) = All-tail (λ s. is_before s.a s.b ≡ true) (between p r) (path_edges first (r ∷ rest)) h in
      let on : p ≢ r = steps_on p r (All-head (λ s. is_before s.a s.b ≡ true) (between p r) (path_edges first (r ∷ rest)) h) in
      straight_or_not (turn b p r)
      (λ t. step_winding u b q +ℤ path_winding (b ∷ p ∷ r ∷ rest ++ first ∷ []) q ≡ path_winding (u ∷ cond t (corners_after p first (r ∷ rest)) (p ∷ corners_after p first (r ∷ rest)) ++ first ∷ []) q)
      (λ z. past (step_winding u b q) (step_winding b p q) (step_winding u p q) (path_winding (p ∷ r ∷ rest ++ first ∷ []) q) _ (on_one_line u b p q line)
      (winds_by_corners u p first r rest on (line_goes_on u b p r differ line z) steps))
      (kept (step_winding u b q) (step_winding b p q) (step_winding u p q) (step_winding p p q) (path_winding (p ∷ r ∷ rest ++ first ∷ []) q) (path_winding (p ∷ corners_after p first (r ∷ rest) ++ first ∷ []) q) (on_one_line u b p q line) (step_winding_still p q)
      (winds_by_corners p p first r rest on (turn_start_twice p r) steps))
    where
      past : (ub bp up rest end : ℤ) → ub +ℤ bp ≡ up → up +ℤ rest ≡ end → ub +ℤ (bp +ℤ rest) ≡ end
      past ub bp up rest end e f = omega (arith, ints)

      kept : (ub bp up pp rest end : ℤ) → ub +ℤ bp ≡ up → pp ≡ pos 0 → pp +ℤ rest ≡ end → ub +ℤ (bp +ℤ rest) ≡ up +ℤ end
      kept ub bp up pp rest end e f g = omega (arith, ints)

  -- one step more
  path_to : (p : Point) (rest : List Point) (v : Point) → path_winding (p ∷ rest ++ v ∷ []) q ≡ path_winding (p ∷ rest) q +ℤ step_winding (last_of p rest) v q
  path_to p [] v = turned (step_winding p v q)
    where
      turned : (x : ℤ) → x +ℤ pos 0 ≡ pos 0 +ℤ x
      turned x = omega (arith, ints)
  path_to p (r ∷ rest) v = next (step_winding p r q) _ _ _ (path_to r rest v)
    where
      next : (s x y z : ℤ) → x ≡ y +ℤ z → s +ℤ x ≡ (s +ℤ y) +ℤ z
      next s x y z e = omega (arith, ints)

  corners_wind : (a : Point) (rest : List Point) → NeverStays (a ∷ rest) → cycle_winding (without_straight (a ∷ rest)) q ≡ cycle_winding (a ∷ rest) q
  corners_wind a rest h = by (corners_after b a (a ∷ rest)) refl
    where
      b : Point
      b = last_of a rest

      differ : b ≢ a
      differ = last_steps_on a a rest h

      all_gone : (s t c : ℤ) → s ≡ pos 0 → s +ℤ (t +ℤ c) ≡ t +ℤ pos 0 → pos 0 ≡ c
      all_gone s t c e f = omega (arith, ints)

      turned : (zb ba za c zk ks rest end : ℤ) → zb +ℤ ba ≡ za → zb +ℤ (ba +ℤ c) ≡ zk +ℤ rest → rest ≡ ks +ℤ za → end ≡ ks +ℤ zk → end ≡ c
      turned zb ba za c zk ks rest end e f g h = omega (arith, ints)

      by : (corners : List Point) → corners_after b a (a ∷ rest) ≡ corners → cycle_winding corners q ≡ cycle_winding (a ∷ rest) q
      by [] e =
          all_gone (step_winding b b q) (step_winding b a q) (cycle_winding (a ∷ rest) q) (step_winding_still b q)
          (winds_by_corners b b a a rest differ (turn_start_twice b a) h ∙ ap (λ c. path_winding (b ∷ c ++ a ∷ []) q) e)
      by (k ∷ ks) e =
          let z : Point = last_of k ks in
          let line : turn z b a ≡ pos 0 = ap (λ c. turn (last_of b c) b a) (sym e) ∙ ends_straight b b a a rest differ (turn_start_twice b a) h in
          turned (step_winding z b q) (step_winding b a q) (step_winding z a q) (cycle_winding (a ∷ rest) q) (step_winding z k q) (path_winding (k ∷ ks) q) (path_winding (k ∷ ks ++ a ∷ []) q) (cycle_winding (k ∷ ks) q)
          (on_one_line z b a q line)
          (winds_by_corners z b a a rest differ line h ∙ ap (λ c. path_winding (z ∷ c ++ a ∷ []) q) e)
          (path_to k ks a)
          (path_to k ks k)

pub straight_points_dont_wind : StraightPointsDontWind
straight_points_dont_wind [] q h = refl
straight_points_dont_wind (a ∷ rest) q h = corners_wind q a rest h
