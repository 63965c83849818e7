-- The order of anchors, least points, and the lowest edge at a point.
use Rattle.std.proofs.Common.{◌≡◌, ◌≢◌, Bool, true, false, cond, List, [], ◌∷◌, All, Contains, ◌⊎◌, inl, inr, ℤ, pos, ◌+ℤ◌, ◌-ℤ◌, ◌*ℤ◌, neg_ℤ, ◌≤ℤ◌, ◌<ℤ◌, int_lt, refl, sym, ap, ◌∙◌, subst, arith}
use Rattle.std.specs.Prelude.{Option, Some, None}
use Rattle.std.specs.declared.cmp.Ordering.{Ordering}
use Rattle.std.specs.declared.cmp.Ordering.TheVariants.{Less, Equal, Greater}
use Rattle.std.specs.Ordering.{is_lt, is_eq, ordering_then}
use Rattle.std.proofs.lemmas.Int.{ints}
use Rattle.std.proofs.lemmas.Bool.{false≢true}
use Rattle.std.proofs.lemmas.List.Elements.{All-nil, All-cons, All-head, All-tail, All-contains, All-weaker}
use Rattle.std.proofs.Math.IntN.{zero-*ℤ, *ℤ-zero}
use Rattle.plane_base.specs.Plane.{Point, Edge, turn, is_before, point_order}
use Rattle.plane_base.specs.Segments.{angle_order}
use Rattle.plane_base.proofs.Facts.Points.Orders.{point_total, point_equal, point_itself, point_less, before_is_less, less_then, is_equal, int_less, greater_from_less, less_from_greater}
use Rattle.plane_base.proofs.Facts.Numbers.Products.{product_not_negative, factor_not_negative, factor_not_positive}
use Rattle.plane_base.proofs.Facts.Points.Turns.{turn_end_twice, turn_swap_last}
use Rattle.segment_arrangement.proofs.Facts.Angles.{fan_of_three, angle_is_lawful}
use Rattle.segment_arrangement.proofs.Facts.ColumnPlaces.{lt_tells, lt_tells_not}
use Rattle.segment_arrangement.proofs.Facts.GreatestEntry.{Contains-head, Contains-later, Contains-cases}
use Rattle.contour_walk.specs.Walks.{same_point}
use Rattle.contour_walk.specs.Binding.{lesser_point, least_point, lower, lowest_from}
use Rattle.contour_walk.specs.BindingLaws.{anchor_order}

-- ---- points

pub same_point_tells : (p r : Point) → same_point p r ≡ true → p ≡ r
same_point_tells p r e = point_equal p r (is_equal (point_order p r) e)

pub same_point_itself : (p : Point) → same_point p p ≡ true
same_point_itself p = ap is_eq (point_itself p)

pub not_before_itself : (p : Point) → is_before p p ≡ false
not_before_itself p = ap is_lt (point_itself p)

pub before_through : (p r v : Point) → is_before p r ≡ true → is_before r v ≡ true → is_before p v ≡ true
before_through p r v h k = ap is_lt (point_total.trans p r v (before_is_less p r h) (before_is_less r v k))

not_true : (b : Bool) → (b ≡ true → ⊥) → b ≡ false
not_true true h = absurd (h refl)
not_true false h = refl

pub clash : {b : Bool} → b ≡ false → b ≡ true → ⊥
clash e f = false≢true (sym e ∙ f)

pub before_one_way : (p r : Point) → is_before p r ≡ true → is_before r p ≡ false
before_one_way p r h = ap is_lt (greater_from_less point_total p r (before_is_less p r h))

-- of three points: what is not before the second is not before the first, where the second is not after it
pub not_before_through : (p r v : Point) → is_before r p ≡ false → is_before v r ≡ false → is_before v p ≡ false
not_before_through p r v h k = not_true (is_before v p) (λ e. by (point_order r p) refl e)
  where
    by : (o : Ordering) → point_order r p ≡ o → is_before v p ≡ true → ⊥
    by Less f e = clash h (ap is_lt f)
    by Equal f e = clash k (ap (λ z. is_before v z) (point_equal r p f) ∙ e)
    by Greater f e = clash k (before_through v p r e (ap is_lt (less_from_greater point_total r p f)))

-- ---- the least point

pub record IsLeastPoint (ps : List Point) (v : Point) : Type 0 where
  pub here : Contains ps v
  pub least : All (λ r. is_before r v ≡ false) ps

pub has_least : (p : Point) (ps : List Point) → (v : Point) × (least_point (p ∷ ps) ≡ Some v) × IsLeastPoint (p ∷ ps) v
has_least p [] = (p, refl, record { here = Contains-head p []; least = All-cons (λ r. is_before r p ≡ false) p [] (not_before_itself p) (All-nil (λ r. is_before r p ≡ false)) })
has_least p (r ∷ ps) = by (has_least r ps)
  where
    by : ((v : Point) × (least_point (r ∷ ps) ≡ Some v) × IsLeastPoint (r ∷ ps) v) → (v : Point) × (least_point (p ∷ r ∷ ps) ≡ Some v) × IsLeastPoint (p ∷ r ∷ ps) v
    by (v, found, h) = held (is_before v p) refl
      where
        held : (b : Bool) → is_before v p ≡ b → (v : Point) × (least_point (p ∷ r ∷ ps) ≡ Some v) × IsLeastPoint (p ∷ r ∷ ps) v
        held true e = (
          v,
          ap (λ o. Some (lesser_point p o)) found ∙ ap (λ b. Some (cond b v p)) e,
          record { here = Contains-later p (r ∷ ps) v h.here; least = All-cons (λ z. is_before z v ≡ false) p (r ∷ ps) (before_one_way v p e) h.least },
        )
        held false e = (
          p,
          ap (λ o. Some (lesser_point p o)) found ∙ ap (λ b. Some (cond b v p)) e,
          record {
            here = Contains-head p (r ∷ ps);
            least = All-cons (λ z. is_before z p ≡ false) p (r ∷ ps) (not_before_itself p) (All-weaker (λ z. is_before z v ≡ false) (λ z. is_before z p ≡ false) (λ z. not_before_through p v z e) (r ∷ ps) h.least);
          },
        )

-- ---- the lowest edge

-- among edges from one point, of which none runs back, "not to the right of" goes through
rightward : (v a : Point) → is_before v a ≡ true → pos 0 ≤ℤ (a.x -ℤ v.x)
rightward v a h = by (point_less v a (before_is_less v a h))
  where
    by : (v.x <ℤ a.x) ⊎ ((v.x ≡ a.x) × (v.y <ℤ a.y)) → pos 0 ≤ℤ (a.x -ℤ v.x)
    by (inl l) = omega (arith, ints)
    by (inr l) = omega (arith, ints)

weak_through : (v a b c : Point) → is_before v a ≡ true → is_before v b ≡ true → is_before v c ≡ true → pos 0 ≤ℤ turn v a b → pos 0 ≤ℤ turn v b c → pos 0 ≤ℤ turn v a c
weak_through v a b c da db dc first second = by (point_less v b (before_is_less v b db))
  where
    sum : (x y z : ℤ) → x ≡ y +ℤ z → pos 0 ≤ℤ y → pos 0 ≤ℤ z → pos 0 ≤ℤ x
    sum x y z e l m = omega (arith, ints)

    vertical : (v.x ≡ b.x) × (v.y <ℤ b.y) → pos 0 ≤ℤ turn v a c
    vertical h =
        let flat : (c.x -ℤ v.x) ≤ℤ pos 0 = factor_not_positive (b.y -ℤ v.y) (c.x -ℤ v.x) (omega (arith, ints, h.1)) (right_of ((b.x -ℤ v.x) *ℤ (c.y -ℤ v.y)) ((b.y -ℤ v.y) *ℤ (c.x -ℤ v.x)) (first_none (b.x -ℤ v.x) (c.y -ℤ v.y) (none v.x b.x h.0)) second) in
        let also : c.x -ℤ v.x ≡ pos 0 = level (c.x -ℤ v.x) flat (rightward v c dc) in
        left_of ((a.x -ℤ v.x) *ℤ (c.y -ℤ v.y)) ((a.y -ℤ v.y) *ℤ (c.x -ℤ v.x)) (product_not_negative (a.x -ℤ v.x) (c.y -ℤ v.y) (rightward v a da) (upward also (point_less v c (before_is_less v c dc))))
        (ap (λ z. (a.y -ℤ v.y) *ℤ z) also ∙ *ℤ-zero (a.y -ℤ v.y))
      where
        none : (x y : ℤ) → x ≡ y → y -ℤ x ≡ pos 0
        none x y e = omega (arith, ints)

        first_none : (w k : ℤ) → w ≡ pos 0 → w *ℤ k ≡ pos 0
        first_none w k e = ap (λ z. z *ℤ k) e ∙ zero-*ℤ k

        right_of : (m n : ℤ) → m ≡ pos 0 → pos 0 ≤ℤ (m -ℤ n) → n ≤ℤ pos 0
        right_of m n e l = omega (arith, ints)

        left_of : (m n : ℤ) → pos 0 ≤ℤ m → n ≡ pos 0 → pos 0 ≤ℤ (m -ℤ n)
        left_of m n l e = omega (arith, ints)

        level : (z : ℤ) → z ≤ℤ pos 0 → pos 0 ≤ℤ z → z ≡ pos 0
        level z l m = omega (arith, ints)

        upward : c.x -ℤ v.x ≡ pos 0 → (v.x <ℤ c.x) ⊎ ((v.x ≡ c.x) × (v.y <ℤ c.y)) → pos 0 ≤ℤ (c.y -ℤ v.y)
        upward e (inl l) = absurd (omega (arith, ints))
        upward e (inr l) = omega (arith, ints)

    by : (v.x <ℤ b.x) ⊎ ((v.x ≡ b.x) × (v.y <ℤ b.y)) → pos 0 ≤ℤ turn v a c
    by (inl wide) =
        factor_not_negative (b.x -ℤ v.x) (turn v a c) (omega (arith, ints))
        (sum _ _ _ (fan_of_three v a b c) (product_not_negative (a.x -ℤ v.x) (turn v b c) (rightward v a da) second) (product_not_negative (c.x -ℤ v.x) (turn v a b) (rightward v c dc) first))
    by (inr h) = vertical h

-- e starts at v, and none of the list that does runs to its right
pub record IsLowest (v : Point) (ss : List Edge) (e : Edge) : Type 0 where
  pub here : Contains ss e
  pub starts : e.a ≡ v
  pub least : (s : Edge) → Contains ss s → s.a ≡ v → pos 0 ≤ℤ turn v e.b s.b

abbrev AllDirected : List Edge → Type 0
AllDirected ss = All (λ s. is_before s.a s.b ≡ true) ss

module _ (v : Point) where
  other_start : (t : Edge) → same_point t.a v ≡ false → t.a ≢ v
  other_start t e at = clash e (ap (λ z. same_point z v) at ∙ same_point_itself v)

  nothing_starts : (ss : List Edge) → lowest_from v ss ≡ None → (s : Edge) → Contains ss s → s.a ≢ v
  nothing_starts [] none s here = absurd (omega (arith, here.1))
  nothing_starts (t ∷ ss) none s here = by (same_point t.a v) refl none (nothing_starts ss)
    where
      by : (b : Bool) → same_point t.a v ≡ b → cond b (Some (lower t (lowest_from v ss))) (lowest_from v ss) ≡ None → (lowest_from v ss ≡ None → (s : Edge) → Contains ss s → s.a ≢ v) → s.a ≢ v
      by true e none rest = absurd (cc)
      by false e none rest = of_either (Contains-cases t ss s here)
        where
          of_either : (t ≡ s) ⊎ Contains ss s → s.a ≢ v
          of_either (inl same) = λ at. other_start t e (ap (λ z. z.a) same ∙ at)
          of_either (inr later) = rest none s later

  from_start : (t : Edge) → t.a ≡ v → is_before t.a t.b ≡ true → is_before v t.b ≡ true
  from_start t at h = ap (λ z. is_before z t.b) (sym at) ∙ h

  passed_by : (t : Edge) (ss : List Edge) (e : Edge) → same_point t.a v ≡ false → IsLowest v ss e → IsLowest v (t ∷ ss) e
  passed_by t ss e f h = record { here = Contains-later t ss e h.here; starts = h.starts; least = λ s here at. of_either s at (Contains-cases t ss s here) }
    where
      of_either : (s : Edge) → s.a ≡ v → (t ≡ s) ⊎ Contains ss s → pos 0 ≤ℤ turn v e.b s.b
      of_either s at (inl same) = absurd (other_start t f (ap (λ z. z.a) same ∙ at))
      of_either s at (inr later) = h.least s later at

  level : (z : ℤ) → z ≡ pos 0 → pos 0 ≤ℤ z
  level z e = omega (arith, ints)

  alone : (t : Edge) (ss : List Edge) → t.a ≡ v → lowest_from v ss ≡ None → IsLowest v (t ∷ ss) t
  alone t ss at none = record { here = Contains-head t ss; starts = at; least = λ s here start. of_either s start (Contains-cases t ss s here) }
    where
      of_either : (s : Edge) → s.a ≡ v → (t ≡ s) ⊎ Contains ss s → pos 0 ≤ℤ turn v t.b s.b
      of_either s start (inl same) = level (turn v t.b s.b) (ap (λ z. turn v t.b z.b) (sym same) ∙ turn_end_twice v t.b)
      of_either s start (inr later) = absurd (nothing_starts ss none s later start)

  under_all : (t : Edge) (ss : List Edge) (u : Edge) → t.a ≡ v → turn v t.b u.b <ℤ pos 0 → IsLowest v ss u → IsLowest v (t ∷ ss) u
  under_all t ss u at right h = record { here = Contains-later t ss u h.here; starts = h.starts; least = λ s here start. of_either s start (Contains-cases t ss s here) }
    where
      left : (z w : ℤ) → z ≡ neg_ℤ w → w <ℤ pos 0 → pos 0 ≤ℤ z
      left z w e l = omega (arith, ints)

      of_either : (s : Edge) → s.a ≡ v → (t ≡ s) ⊎ Contains ss s → pos 0 ≤ℤ turn v u.b s.b
      of_either s start (inl same) = left (turn v u.b s.b) (turn v t.b u.b) (ap (λ z. turn v u.b z.b) (sym same) ∙ turn_swap_last v u.b t.b) right
      of_either s start (inr later) = h.least s later start

  over_all : (t : Edge) (ss : List Edge) (u : Edge) → AllDirected (t ∷ ss) → t.a ≡ v → pos 0 ≤ℤ turn v t.b u.b → IsLowest v ss u → IsLowest v (t ∷ ss) t
  over_all t ss u directed at left h = record { here = Contains-head t ss; starts = at; least = λ s here start. of_either s start (Contains-cases t ss s here) }
    where
      others : AllDirected ss
      others = All-tail (λ s. is_before s.a s.b ≡ true) t ss directed

      directed_one : (s : Edge) → Contains ss s → s.a ≡ v → is_before v s.b ≡ true
      directed_one s here start = from_start s start (All-contains (λ s. is_before s.a s.b ≡ true) ss s others here)

      of_either : (s : Edge) → s.a ≡ v → (t ≡ s) ⊎ Contains ss s → pos 0 ≤ℤ turn v t.b s.b
      of_either s start (inl same) = level (turn v t.b s.b) (ap (λ z. turn v t.b z.b) (sym same) ∙ turn_end_twice v t.b)
      of_either s start (inr later) =
          weak_through v t.b u.b s.b (from_start t at (All-head (λ s. is_before s.a s.b ≡ true) t ss directed)) (directed_one u h.here h.starts) (directed_one s later start) left (h.least s later start)

  pub lowest_is : (ss : List Edge) → AllDirected ss → (e : Edge) → lowest_from v ss ≡ Some e → IsLowest v ss e
  lowest_is [] directed e found = absurd (cc)
  lowest_is (t ∷ ss) directed e found = by (same_point t.a v) refl found (lowest_is ss (All-tail (λ s. is_before s.a s.b ≡ true) t ss directed))
    where
      by : (b : Bool) → same_point t.a v ≡ b → cond b (Some (lower t (lowest_from v ss))) (lowest_from v ss) ≡ Some e → ((u : Edge) → lowest_from v ss ≡ Some u → IsLowest v ss u) → IsLowest v (t ∷ ss) e
      by false f found rest = passed_by t ss e f (rest e found)
      by true f found rest = of_rest (lowest_from v ss) refl found
        where
          at : t.a ≡ v
          at = same_point_tells t.a v f

          held : (u : Edge) → lowest_from v ss ≡ Some u → (b : Bool) → int_lt (turn t.a t.b u.b) (pos 0) ≡ b → cond b u t ≡ e → IsLowest v (t ∷ ss) e
          held u g true l same = subst (IsLowest v (t ∷ ss)) same (under_all t ss u at (lt_tells (turn v t.b u.b) (pos 0) (ap (λ z. int_lt (turn z t.b u.b) (pos 0)) (sym at) ∙ l)) (rest u g))
          held u g false l same = subst (IsLowest v (t ∷ ss)) same (over_all t ss u directed at (lt_tells_not (turn v t.b u.b) (pos 0) (ap (λ z. int_lt (turn z t.b u.b) (pos 0)) (sym at) ∙ l)) (rest u g))

          of_rest : (o : Option Edge) → lowest_from v ss ≡ o → Some (lower t o) ≡ Some e → IsLowest v (t ∷ ss) e
          of_rest None g found = subst (IsLowest v (t ∷ ss)) (cc) (alone t ss at g)
          of_rest (Some u) g found = held u g (int_lt (turn t.a t.b u.b) (pos 0)) refl (cc)

  pub has_lowest : (ss : List Edge) (s : Edge) → Contains ss s → s.a ≡ v → (e : Edge) × (lowest_from v ss ≡ Some e)
  has_lowest ss s here at = by (lowest_from v ss) refl
    where
      by : (o : Option Edge) → lowest_from v ss ≡ o → (e : Edge) × (lowest_from v ss ≡ Some e)
      by None none = absurd (nothing_starts ss none s here at)
      by (Some e) found = (e, found)

-- ---- the order of anchors

pub anchors_tell : (s t : Edge) → anchor_order s t ≡ Less → (point_order s.a t.a ≡ Less) ⊎ ((s.a ≡ t.a) × (angle_order s t ≡ Less))
anchors_tell s t e = by (less_then (point_order s.a t.a) (angle_order s t) e)
  where
    by : (point_order s.a t.a ≡ Less) ⊎ ((point_order s.a t.a ≡ Equal) × (angle_order s t ≡ Less)) → (point_order s.a t.a ≡ Less) ⊎ ((s.a ≡ t.a) × (angle_order s t ≡ Less))
    by (inl h) = inl h
    by (inr h) = inr (point_equal s.a t.a h.0, h.1)

pub before_by_point : (s t : Edge) → point_order s.a t.a ≡ Less → anchor_order s t ≡ Less
before_by_point s t e = ap (λ o. ordering_then o (angle_order s t)) e

pub before_by_angle : (s t : Edge) → s.a ≡ t.a → angle_order s t ≡ Less → anchor_order s t ≡ Less
before_by_angle s t at e = ap (λ o. ordering_then o (angle_order s t)) (ap (λ z. point_order z t.a) at ∙ point_itself t.a) ∙ e

pub anchor_itself : (s : Edge) → anchor_order s s ≢ Less
anchor_itself s e = by (anchors_tell s s e)
  where
    none : (z : ℤ) → z ≡ pos 0 → pos 0 <ℤ z → ⊥
    none z e l = omega (arith, ints)

    by : (point_order s.a s.a ≡ Less) ⊎ ((s.a ≡ s.a) × (angle_order s s ≡ Less)) → ⊥
    by (inl h) = clash (not_before_itself s.a) (ap is_lt h)
    by (inr h) = none (turn s.a s.b s.b) (turn_end_twice s.a s.b) (int_less (pos 0) (turn s.a s.b s.b) h.1)

pub anchors_through :
    (s t u : Edge) → is_before s.a s.b ≡ true → is_before t.a t.b ≡ true → is_before u.a u.b ≡ true →
    anchor_order s t ≡ Less → anchor_order t u ≡ Less → anchor_order s u ≡ Less
anchors_through s t u ds dt du first second = by (anchors_tell s t first) (anchors_tell t u second)
  where
    by : (point_order s.a t.a ≡ Less) ⊎ ((s.a ≡ t.a) × (angle_order s t ≡ Less)) → (point_order t.a u.a ≡ Less) ⊎ ((t.a ≡ u.a) × (angle_order t u ≡ Less)) → anchor_order s u ≡ Less
    by (inl h) (inl k) = before_by_point s u (point_total.trans s.a t.a u.a h k)
    by (inl h) (inr k) = before_by_point s u (ap (λ z. point_order s.a z) (sym k.0) ∙ h)
    by (inr h) (inl k) = before_by_point s u (ap (λ z. point_order z u.a) h.0 ∙ k)
    by (inr h) (inr k) = before_by_angle s u (h.0 ∙ k.0) (angle_is_lawful.through s t u h.0 k.0 ds dt du h.1 k.1)
