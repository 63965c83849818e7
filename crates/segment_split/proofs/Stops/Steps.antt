-- The steps that are laid at a stop are those of the redrawn map.
use Rattle.std.proofs.Common.{◌≡◌, ◌↔◌, Bool, true, false, cond, List, [], ◌∷◌, All, AllPairs, Contains, Option, Some, None, ◌⊎◌, inl, inr, ⊎_elim, ℤ, pos, ◌+ℤ◌, ◌≤ℤ◌, ◌<ℤ◌, int_eq, Ordering, Less, Equal, Greater, is_lt, refl, sym, ap, subst, ◌∙◌, arith}
use Rattle.std.specs.Ordering.{is_le}
use Rattle.std.specs.Cmp.{both_ways}
use Rattle.std.proofs.lemmas.Int.{ints}
use Rattle.std.proofs.lemmas.Bool.{false≢true}
use Rattle.std.proofs.lemmas.Bool.Decides.{Decides-int_eq}
use Rattle.std.proofs.lemmas.List.Elements.{All-map, All-contains, All-weaker, All-head, All-tail}
use Rattle.plane_base.specs.Plane.{Point, Edge, is_before, point_order}
use Rattle.plane_base.specs.Counts.{Count, Entry, boolean, lay}
use Rattle.plane_base.specs.Totals.{total}
use Rattle.plane_base.proofs.Facts.Lists.Totals.{total_filter, total_sum, total_pointwise_on}
use Rattle.plane_base.proofs.Facts.Maps.Laying.{lay_by}
use Rattle.plane_base.proofs.Facts.Maps.Normal.{AllPairs-head}
use Rattle.plane_base.proofs.Facts.Points.Orders.{point_total, point_equal, point_less, point_less_x, before_is_less, less_from_greater}
use Rattle.segment_split.specs.Passes.{edges_of}
use Rattle.segment_split.specs.LineLaws.{is_rectilinear, AllRectilinear, is_part, entries_along, sum_along, count_along, SpansHorizontal, SpansUp, IsEndOfSome, first_by, counted_step, step_to}
use Rattle.segment_split.specs.Stops.{LineView, step_with, step_from, above_it}
use Rattle.segment_split.proofs.Spread.Lists.{IsDirectedEdge, edges_contain}
use Rattle.segment_split.specs.Sweeps.{AreInOrder, in_column, in_row, subject_if, clip_if, reached, IsBefore, Stops, first_of, same_y}
use Rattle.segment_split.proofs.Stops.Rows.{other_height, same_height}
use Rattle.segment_split.proofs.Stops.Reached.{kept, gone_of, come_of}
use Rattle.segment_split.proofs.Passes.Steps.{contains_head}
use Rattle.segment_split.proofs.Whole.RectilinearEdges.{IsHorizontal, IsVertical, rectilinear}
use Rattle.segment_split.proofs.Whole.Coordinates.{less_by_x, less_by_y, cut_by_coordinates}
use Rattle.segment_split.proofs.Whole.Neighbours.{contained, not_itself, not_there_and_back}
use Rattle.segment_split.proofs.Whole.StepLists.{IsFirst, first_tells}
use Rattle.segment_split.proofs.Whole.SumsAlong.{adds_along}

-- ---- points in order

pub le_tells : (p q : Point) → is_le (point_order p q) ≡ true → (point_order p q ≡ Less) ⊎ (p ≡ q)
le_tells p q e = by (point_order p q) refl e
  where
    by : (o : Ordering) → point_order p q ≡ o → is_le o ≡ true → (point_order p q ≡ Less) ⊎ (p ≡ q)
    by Less f g = inl f
    by Equal f g = inr (point_equal p q f)
    by Greater f g = absurd (cc)

pub le_from : (p q : Point) → (point_order q p ≡ Less → ⊥) → is_le (point_order p q) ≡ true
le_from p q h = by (point_order p q) refl
  where
    by : (o : Ordering) → point_order p q ≡ o → is_le o ≡ true
    by Less f = refl
    by Equal f = refl
    by Greater f = absurd (h (less_from_greater point_total p q f))

pub le_x : (p q : Point) → is_le (point_order p q) ≡ true → p.x ≤ℤ q.x
le_x p q e = ⊎_elim (point_less_x p q) (λ f. same p.x q.x (ap (λ r. r.x) f)) (le_tells p q e)
  where
    same : (x y : ℤ) → x ≡ y → x ≤ℤ y
    same x y e = omega (arith, ints, e)

pub le_y : (p q : Point) → p.x ≡ q.x → is_le (point_order p q) ≡ true → p.y ≤ℤ q.y
le_y p q x e = ⊎_elim (λ l. less p.y q.y (less_by_y p q x l)) (λ f. same p.y q.y (ap (λ r. r.y) f)) (le_tells p q e)
  where
    same : (x y : ℤ) → x ≡ y → x ≤ℤ y
    same x y e = omega (arith, ints, e)

    less : (x y : ℤ) → x <ℤ y → x ≤ℤ y
    less x y l = omega (arith, ints, l)

-- ---- what runs along a step

pub behind_is : (ps : List Point) (p r : Point) → IsBefore ps p → Contains ps r → point_order p r ≡ Less
behind_is ps p r h at = All-contains (λ q. point_order p q ≡ Less) ps r h at

-- the entry runs on its line where the sweep is
abbrev pub runs_at : Option Point → (Entry Count → Bool) → Entry Count → Bool
runs_at t test e = cond (reached t e.edge.a) false (cond (reached t e.edge.b) (test e) false)

pub three_tell : (a b q : Bool) → cond a false (cond b q false) ≡ true → (a ≡ false) × ((b ≡ true) × (q ≡ true))
three_tell false true q e = (refl, (refl, e))
three_tell false false q e = absurd (false≢true e)
three_tell true b q e = absurd (false≢true e)

pub three_from : (a b q : Bool) → a ≡ false → b ≡ true → q ≡ true → cond a false (cond b q false) ≡ true
three_from a b q e f g = rw (e, f) g

module _ (es : List (Entry Count)) (t : Option Point) (test : Entry Count → Bool) (u : Edge)
    (both : All (λ e. reached t e.edge.a ≡ true → reached t e.edge.b ≡ true) es) (parts : All (λ e. is_part u e.edge ≡ runs_at t test e) es) where
  part_of : (e : Entry Count) (c : ℤ) → (reached t e.edge.a ≡ true → reached t e.edge.b ≡ true) → is_part u e.edge ≡ runs_at t test e
      → kept (is_part u e.edge) c +ℤ kept (reached t e.edge.a) (cond (test e) c (pos 0)) ≡ kept (reached t e.edge.b) (cond (test e) c (pos 0))
  part_of e c h k = ap (λ b. kept b c +ℤ kept (reached t e.edge.a) (cond (test e) c (pos 0))) k ∙ by (reached t e.edge.a) (reached t e.edge.b) (test e) h
    where
      by : (a b q : Bool) → (a ≡ true → b ≡ true) → kept (cond a false (cond b q false)) c +ℤ kept a (cond q c (pos 0)) ≡ kept b (cond q c (pos 0))
      by true true true f = omega (arith, ints)
      by true true false f = omega (arith, ints)
      by true false q f = absurd (false≢true (f refl))
      by false true true f = omega (arith, ints)
      by false true false f = omega (arith, ints)
      by false false q f = omega (arith, ints)

  pub sum_is : (weight : Entry Count → ℤ) (n : ℤ) → n +ℤ total (gone_of t (λ e. cond (test e) (weight e) (pos 0))) es ≡ total (come_of t (λ e. cond (test e) (weight e) (pos 0))) es
      → n ≡ total weight (entries_along es u)
  sum_is weight n runs =
      alone n (total along es) (total (gone_of t w) es) (total (come_of t w) es) runs
      (sym (total_sum along (gone_of t w) es) ∙ total_pointwise_on (λ e. along e +ℤ gone_of t w e) (come_of t w) es each)
      ∙ sym (total_filter weight (λ e. is_part u e.edge) es)
    where
      w : Entry Count → ℤ
      w e = cond (test e) (weight e) (pos 0)

      along : Entry Count → ℤ
      along e = kept (is_part u e.edge) (weight e)

      each : All (λ e. along e +ℤ gone_of t w e ≡ come_of t w e) es
      each k d l = part_of _ (weight _) (both k d l) (parts k d l)

      alone : (n s g c : ℤ) → n +ℤ g ≡ c → s +ℤ g ≡ c → n ≡ s
      alone n s g c e f = omega (arith, ints, e, f)

  -- a line on which the sum is that of the step
  pub step_is : (l : LineView) (p q : Point) → u ≡ record { a = p; b = q } → point_order p q ≡ Less
      → l.sum.subject +ℤ total (gone_of t (subject_if test)) es ≡ total (come_of t (subject_if test)) es
      → l.sum.clip +ℤ total (gone_of t (clip_if test)) es ≡ total (come_of t (clip_if test)) es
      → step_with l.sum p (Some q) ≡ counted_step u (count_along boolean es u)
  step_is l p q e forward subject clip = ap (λ c. step_with c p (Some q)) sum ∙ by (boolean.is_empty (sum_along es u)) refl
    where
      sum : l.sum ≡ sum_along es u
      sum = let m = sum_is (λ e. e.count.subject) l.sum.subject subject in let n = sum_is (λ e. e.count.clip) l.sum.clip clip in λ i. record { subject = m i; clip = n i }

      by : (b : Bool) → boolean.is_empty (sum_along es u) ≡ b → step_with (sum_along es u) p (Some q) ≡ counted_step u (count_along boolean es u)
      by true f = ap (λ b. cond b [] (lay boolean p q (sum_along es u))) f ∙ sym (ap (counted_step u) (adds_along es u ∙ ap (λ b. cond b None (Some (sum_along es u))) f))
      by false f =
          ap (λ b. cond b [] (lay boolean p q (sum_along es u))) f
          ∙ (ap (λ o. lay_by boolean o p q (sum_along es u)) forward
          ∙ (ap (λ s. record { edge = s; count = sum_along es u } ∷ []) (sym e) ∙ sym (ap (counted_step u) (adds_along es u ∙ ap (λ b. cond b None (Some (sum_along es u))) f))))

-- ---- the steps from the next stop

module _ (es : List (Entry Count)) (h : AreInOrder es) (all : AllRectilinear (edges_of es)) (t : Option Point) (ps : List Point) (stops : Stops es t ps) where
  pub directed : (s : Edge) → Contains (edges_of es) s → is_before s.a s.b ≡ true
  directed s at = All-contains IsDirectedEdge (edges_of es) s (All-map IsDirectedEdge (λ (e : Entry Count). e.edge) es h.directed) at

  pub way : (s : Edge) → Contains (edges_of es) s → IsHorizontal s ⊎ IsVertical s
  way s at = rectilinear s (All-contains (λ s. is_rectilinear s ≡ true) (edges_of es) s all at)

  pub reached_end : (p : Point) → IsEndOfSome (edges_of es) p → reached t p ≡ true → Contains ps p
  reached_end p at e = ⊎_elim (λ k. k.1) (λ k. absurd (false≢true (sym k.0 ∙ e))) (stops.ends p at)

  pub end_ahead : (p : Point) → IsEndOfSome (edges_of es) p → reached t p ≡ false → IsBefore ps p
  end_ahead p at e = ⊎_elim (λ k. absurd (false≢true (sym e ∙ k.0))) (λ k. k.1) (stops.ends p at)

  pub first_then_second : (s : Edge) → Contains (edges_of es) s → reached t s.a ≡ true → reached t s.b ≡ true
  first_then_second s at e =
      ⊎_elim (λ k. k.0)
      (λ k. absurd (not_there_and_back s.a s.b (before_is_less s.a s.b (directed s at)) (behind_is ps s.b s.a k.1 (reached_end s.a (s, at, inl refl) e))))
      (stops.ends s.b (s, at, inr refl))

  pub both_reached : All (λ e. reached t e.edge.a ≡ true → reached t e.edge.b ≡ true) es
  both_reached = All-weaker (λ e. Contains (edges_of es) e.edge) (λ e. reached t e.edge.a ≡ true → reached t e.edge.b ≡ true) (λ e at. first_then_second e.edge at) es (edges_contain es)

  module _ (p : Point) (behind : IsBefore ps p) (last : (r : Point) → IsEndOfSome (edges_of es) r → reached t r ≡ false → is_le (point_order r p) ≡ true) where
    -- ---- along

    row_part : (n : Point) → IsFirst (same_y p.y) ps n → (e : Entry Count) → Contains (edges_of es) e.edge → is_part (record { a = p; b = n }) e.edge ≡ runs_at t (in_row p.y) e
    row_part n first e at = both_ways (is_part u s) (runs_at t (in_row p.y) e) forth back
      where
        s : Edge
        s = e.edge

        u : Edge
        u = record { a = p; b = n }

        height : n.y ≡ p.y
        height = (Decides-int_eq n.y p.y).0 first.passes

        next : point_order p n ≡ Less
        next = behind_is ps p n behind first.listed

        spans : (is_part u s ≡ true) ↔ SpansHorizontal s u
        spans = (cut_by_coordinates boolean).horizontal_part u s (ap is_lt next) (directed s at) (sym height)

        clash : (x y : ℤ) → x ≤ℤ y → y <ℤ x → ⊥
        clash x y l m = omega (arith, ints, l, m)

        apart : (x y : ℤ) → x <ℤ y → x ≡ y → ⊥
        apart x y l m = omega (arith, ints, l, m)

        chain : (b p n : ℤ) → b ≤ℤ p → p <ℤ n → n ≤ℤ b → ⊥
        chain b p n k l m = omega (arith, ints, k, l, m)

        forth : is_part u s ≡ true → runs_at t (in_row p.y) e ≡ true
        forth part =
            let k = spans.0 part in
            let wide = less_by_x s.a s.b (k.first ∙ sym k.second) (before_is_less s.a s.b (directed s at)) in
            three_from (reached t s.a) (reached t s.b) (in_row p.y e) (first_not k (reached t s.a) refl) (second_is k (reached t s.b) refl)
            (ap (λ (b : Bool). cond b false (int_eq s.a.y p.y)) (other_height s.a.x s.b.x (apart s.a.x s.b.x wide)) ∙ same_height s.a.y p.y k.first)
          where
            first_not : SpansHorizontal s u → (b : Bool) → reached t s.a ≡ b → b ≡ false
            first_not k false f = refl
            first_not k true f = absurd (clash s.a.x p.x k.from (less_by_x p s.a (sym k.first) (behind_is ps p s.a behind (reached_end s.a (s, at, inl refl) f))))

            second_is : SpansHorizontal s u → (b : Bool) → reached t s.b ≡ b → b ≡ true
            second_is k true f = refl
            second_is k false f = absurd (chain s.b.x p.x n.x (le_x s.b p (last s.b (s, at, inr refl) f)) (less_by_x p n (sym height) next) k.to)

        back : runs_at t (in_row p.y) e ≡ true → is_part u s ≡ true
        back runs =
            let k = three_tell (reached t s.a) (reached t s.b) (in_row p.y e) runs in
            by k.0 k.1.0 (int_eq s.a.x s.b.x) refl k.1.1
          where
            by : reached t s.a ≡ false → reached t s.b ≡ true → (b : Bool) → int_eq s.a.x s.b.x ≡ b → cond b false (int_eq s.a.y p.y) ≡ true → is_part u s ≡ true
            by f g true m k = absurd (false≢true k)
            by f g false m k = ⊎_elim level (λ v. absurd (false≢true (sym m ∙ same_height s.a.x s.b.x v))) (way s at)
              where
                first_y : s.a.y ≡ p.y
                first_y = (Decides-int_eq s.a.y p.y).0 k

                level : IsHorizontal s → is_part u s ≡ true
                level v = spans.1 (record {
                  first = first_y;
                  second = sym v ∙ first_y;
                  from = le_x s.a p (last s.a (s, at, inl refl) f);
                  to = le_x n s.b (le_from n s.b (first.least s.b (reached_end s.b (s, at, inr refl) g) (same_height s.b.y p.y (sym v ∙ first_y))));
                })

    pub step_along : (l : LineView)
        → l.sum.subject +ℤ total (gone_of t (subject_if (in_row p.y))) es ≡ total (come_of t (subject_if (in_row p.y))) es
        → l.sum.clip +ℤ total (gone_of t (clip_if (in_row p.y))) es ≡ total (come_of t (clip_if (in_row p.y))) es
        → l.next ≡ first_by (same_y p.y) ps → step_from p l ≡ step_to boolean es p (first_by (same_y p.y) ps)
    step_along l subject clip next = ap (step_with l.sum p) next ∙ by (first_by (same_y p.y) ps) refl
      where
        by : (o : Option Point) → first_by (same_y p.y) ps ≡ o → step_with l.sum p o ≡ step_to boolean es p o
        by None e = refl
        by (Some n) e =
            let first = first_tells (same_y p.y) ps n stops.rising e in
            step_is es t (in_row p.y) (record { a = p; b = n }) both_reached
            (All-weaker (λ e. Contains (edges_of es) e.edge) (λ e. is_part (record { a = p; b = n }) e.edge ≡ runs_at t (in_row p.y) e) (λ e at. row_part n first e at) es (edges_contain es))
            l p n refl (behind_is ps p n behind first.listed) subject clip

    -- ---- up

    abbrev at_x : Point → Bool
    at_x q = int_eq q.x p.x

    column_part : (q : Point) (rest : List Point) → ps ≡ q ∷ rest → q.x ≡ p.x → (e : Entry Count) → Contains (edges_of es) e.edge → is_part (record { a = p; b = q }) e.edge ≡ runs_at t in_column e
    column_part q rest is place e at = both_ways (is_part u s) (runs_at t in_column e) forth back
      where
        s : Edge
        s = e.edge

        u : Edge
        u = record { a = p; b = q }

        listed : Contains ps q
        listed = subst (λ l. Contains l q) (sym is) (contains_head q rest)

        next : point_order p q ≡ Less
        next = behind_is ps p q behind listed

        least : (r : Point) → Contains ps r → point_order r q ≡ Less → ⊥
        least r there l =
            ⊎_elim (λ e. not_itself q (ap (λ z. point_order z q) e ∙ l)) (λ k. not_there_and_back r q l (All-contains (λ r. point_order q r ≡ Less) rest r (AllPairs-head (λ p q. point_order p q ≡ Less) q rest (subst (AllPairs (λ p q. point_order p q ≡ Less)) is stops.rising)) k))
            (contained q rest r (subst (λ l. Contains l r) is there))

        spans : (is_part u s ≡ true) ↔ SpansUp s u
        spans = (cut_by_coordinates boolean).vertical_part u s (ap is_lt next) (directed s at) (sym place)

        clash : (x y : ℤ) → x ≤ℤ y → y <ℤ x → ⊥
        clash x y l m = omega (arith, ints, l, m)

        chain : (b p n : ℤ) → b ≤ℤ p → p <ℤ n → n ≤ℤ b → ⊥
        chain b p n k l m = omega (arith, ints, k, l, m)

        squeezed : (a b p q : ℤ) → a ≡ b → a ≤ℤ p → q ≤ℤ b → q ≡ p → a ≡ p
        squeezed a b p q e k l f = omega (arith, ints, e, k, l, f)

        forth : is_part u s ≡ true → runs_at t in_column e ≡ true
        forth part =
            let k = spans.0 part in
            three_from (reached t s.a) (reached t s.b) (in_column e) (first_not k (reached t s.a) refl) (second_is k (reached t s.b) refl) (same_height s.a.x s.b.x (k.first ∙ sym k.second))
          where
            first_not : SpansUp s u → (b : Bool) → reached t s.a ≡ b → b ≡ false
            first_not k false f = refl
            first_not k true f = absurd (clash s.a.y p.y k.from (less_by_y p s.a (sym k.first) (behind_is ps p s.a behind (reached_end s.a (s, at, inl refl) f))))

            second_is : SpansUp s u → (b : Bool) → reached t s.b ≡ b → b ≡ true
            second_is k true f = refl
            second_is k false f = absurd (chain s.b.y p.y q.y (le_y s.b p k.second (last s.b (s, at, inr refl) f)) (less_by_y p q (sym place) next) k.to)

        back : runs_at t in_column e ≡ true → is_part u s ≡ true
        back runs =
            let k = three_tell (reached t s.a) (reached t s.b) (in_column e) runs in
            let vertical = (Decides-int_eq s.a.x s.b.x).0 k.1.1 in
            let lower = last s.a (s, at, inl refl) k.0 in
            let upper = le_from q s.b (least s.b (reached_end s.b (s, at, inr refl) k.1.0)) in
            let x = squeezed s.a.x s.b.x p.x q.x vertical (le_x s.a p lower) (le_x q s.b upper) place in
            spans.1 (record { first = x; second = sym vertical ∙ x; from = le_y s.a p x lower; to = le_y q s.b (place ∙ (sym x ∙ vertical)) upper })

    none_right : (qs : List Point) → All (λ q. p.x <ℤ q.x) qs → first_by at_x qs ≡ None
    none_right [] far = refl
    none_right (q ∷ qs) far =
        ap (λ (b : Bool). cond b (Some q) (first_by at_x qs)) (other_height q.x p.x (λ e. beyond p.x q.x (All-head (λ q. p.x <ℤ q.x) q qs far) e)) ∙ none_right qs (All-tail (λ q. p.x <ℤ q.x) q qs far)
      where
        beyond : (x y : ℤ) → x <ℤ y → y ≡ x → ⊥
        beyond x y l e = omega (arith, ints, l, e)

    pub step_up : (l : LineView)
        → l.sum.subject +ℤ total (gone_of t (subject_if in_column)) es ≡ total (come_of t (subject_if in_column)) es
        → l.sum.clip +ℤ total (gone_of t (clip_if in_column)) es ≡ total (come_of t (clip_if in_column)) es
        → l.next ≡ first_of ps → step_with l.sum p (above_it p l.next) ≡ step_to boolean es p (first_by at_x ps)
    step_up l subject clip next = ap (λ o. step_with l.sum p (above_it p o)) next ∙ by ps refl
      where
        by : (qs : List Point) → ps ≡ qs → step_with l.sum p (above_it p (first_of qs)) ≡ step_to boolean es p (first_by at_x qs)
        by [] e = refl
        by (q ∷ qs) e = at (int_eq q.x p.x) refl
          where
            listed : Contains ps q
            listed = subst (λ l. Contains l q) (sym e) (contains_head q qs)

            rising : AllPairs (λ p q. point_order p q ≡ Less) (q ∷ qs)
            rising = subst (AllPairs (λ p q. point_order p q ≡ Less)) e stops.rising

            next_to : point_order p q ≡ Less
            next_to = behind_is ps p q behind listed

            at : (b : Bool) → int_eq q.x p.x ≡ b → step_with l.sum p (cond b (Some q) None) ≡ step_to boolean es p (cond b (Some q) (first_by at_x qs))
            at true f =
                step_is es t in_column (record { a = p; b = q }) both_reached
                (All-weaker (λ e. Contains (edges_of es) e.edge) (λ e. is_part (record { a = p; b = q }) e.edge ≡ runs_at t in_column e) (λ d there. column_part q qs e ((Decides-int_eq q.x p.x).0 f) d there) es (edges_contain es))
                l p q refl next_to subject clip
            at false f = sym (ap (step_to boolean es p) (none_right qs (All-weaker (λ r. point_order q r ≡ Less) (λ r. p.x <ℤ r.x) (λ r m. far p.x q.x r.x (right (point_less p q next_to)) (point_less_x q r m)) qs (AllPairs-head (λ p q. point_order p q ≡ Less) q qs rising))))
              where
                far : (x y z : ℤ) → x <ℤ y → y ≤ℤ z → x <ℤ z
                far x y z k l = omega (arith, ints, k, l)

                right : (p.x <ℤ q.x) ⊎ ((p.x ≡ q.x) × (p.y <ℤ q.y)) → p.x <ℤ q.x
                right (inl l) = l
                right (inr l) = absurd (false≢true (sym f ∙ same_height q.x p.x (sym l.0)))
