-- A contour whose different edges are parted never turns back along its own line. So without the points that it passes straight it has
-- three points or more, and passes none of them straight.
use Rattle.std.proofs.Common.{◌≡◌, ◌≢◌, ◌≤◌, Bool, true, false, cond, not, List, [], ◌∷◌, ◌++◌, length, IsPermutation, ℤ, pos, ◌+ℤ◌, ◌≤ℤ◌, neg_ℤ, refl, sym, ap, ◌∙◌, subst, arith}
use Rattle.std.specs.declared.cmp.Ordering.{Ordering}
use Rattle.std.specs.declared.cmp.Ordering.TheVariants.{Less, Equal, Greater}
use Rattle.std.specs.Ordering.{int_eq, int_cmp, is_lt, is_eq}
use Rattle.std.proofs.lemmas.Int.{ints}
use Rattle.std.proofs.lemmas.Bool.{false≢true}
use Rattle.std.proofs.lemmas.List.Elements.{All-head, All-tail}
use Rattle.std.proofs.lemmas.List.Sorted.{IsPermutation-sym, All-permutation, Contains-permutation}
use Rattle.plane_base.specs.Plane.{Point, Edge, turn, is_before, point_order, edge_order}
use Rattle.plane_base.specs.Segments.{parted}
use Rattle.plane_base.specs.Thinning.{NoneStraight}
use Rattle.plane_base.proofs.Facts.Lists.Totals.{total_not_negative, total_permutation}
use Rattle.plane_base.proofs.Facts.Points.Orders.{point_total, point_equal, is_equal, int_equal, edge_itself, less_from_greater}
use Rattle.plane_base.proofs.Facts.Points.Turns.{turn_cyclic, turn_swap, turn_reverse, turn_start_twice, turn_end_twice, turn_there_and_back}
use Rattle.plane_base.proofs.Facts.Crossings.Parted.{parted_tells}
use Rattle.plane_base.proofs.Facts.Columns.Order.{inside_from}
use Rattle.segment_arrangement.proofs.Facts.GreatestEntry.{Contains-head, Contains-later}
use Rattle.contour_walk.specs.Walks.{between, path_edges, contour_edges}
use Rattle.contour_walk.specs.Shapes.{last_of, corners_after, without_straight}
use Rattle.contour_walk.proofs.Straight.Laws.{line_goes_on, steps_on, ends_straight}
use Rattle.contour_walk.proofs.Walks.Links.{between_forward, between_backward}
use Rattle.contour_walk.proofs.Facts.Binding.Orders.{not_before_itself, before_one_way, before_through, clash}
use Rattle.contour_walk.proofs.Facts.Binding.Anchors.{times, IsClean}

-- ---- directions

-- the second point comes after the first, or before it
record Ahead (s : Bool) (u v : Point) : Type 0 where
  forth : is_before u v ≡ s
  back : is_before v u ≡ not s

ahead_through : (s : Bool) (u v w : Point) → Ahead s u v → Ahead s v w → Ahead s u w
ahead_through true u v w h k = let l = before_through u v w h.forth k.forth in record { forth = l; back = before_one_way u w l }
ahead_through false u v w h k = let l = before_through w v u k.back h.back in record { forth = before_one_way w u l; back = l }

ahead_apart : (s : Bool) (u v : Point) → Ahead s u v → u ≢ v
ahead_apart true u v h same = false≢true (sym (not_before_itself u) ∙ (ap (is_before u) same ∙ h.forth))
ahead_apart false u v h same = false≢true (sym (not_before_itself v) ∙ (ap (is_before v) (sym same) ∙ h.back))

direction : (u v : Point) → u ≢ v → (s : Bool) × Ahead s u v
direction u v differ = by (point_order u v) refl
  where
    by : (o : Ordering) → point_order u v ≡ o → (s : Bool) × Ahead s u v
    by Less h = (true, record { forth = ap is_lt h; back = before_one_way u v (ap is_lt h) })
    by Equal h = absurd (differ (point_equal u v h))
    by Greater h = let l = ap is_lt (less_from_greater point_total u v h) in (false, record { forth = before_one_way v u l; back = l })

-- ---- no way back

zero_back : (x y : ℤ) → x ≡ neg_ℤ y → y ≡ pos 0 → x ≡ pos 0
zero_back x y e f = omega (arith, ints)

-- where two edges of a contour meet on one line, it goes on in its direction
module _ (b p r : Point) (apart : parted (between b p) (between p r) ≡ true) (other : between b p ≢ between p r) (line : turn b p r ≡ pos 0) where
  never_back_from_right : is_before b p ≡ true → is_before r p ≡ true → ⊥
  never_back_from_right h k = by (point_order b r) refl
    where
      are : parted (record { a = b; b = p }) (record { a = r; b = p }) ≡ true
      are = ap (λ s. parted s (record { a = r; b = p })) (sym (between_forward b p h)) ∙ (ap (parted (between b p)) (sym (between_backward r p k)) ∙ apart)

      by : (o : Ordering) → point_order b r ≡ o → ⊥
      by Less e = clash (parted_tells (record { a = b; b = p }) (record { a = r; b = p }) are).first_end (inside_from r (record { a = b; b = p }) line (ap is_lt e) k)
      by Equal e = other (between_forward b p h ∙ (ap (λ (z : Point). record { a = z; b = p }) (point_equal b r e) ∙ sym (between_backward r p k)))
      by Greater e =
          clash (parted_tells (record { a = b; b = p }) (record { a = r; b = p }) are).own_first
          (inside_from b (record { a = r; b = p }) (zero_back (turn r p b) (turn b p r) (turn_reverse r p b) line) (ap is_lt (less_from_greater point_total b r e)) h)

  never_back_from_left : is_before p b ≡ true → is_before p r ≡ true → ⊥
  never_back_from_left h k = by (point_order b r) refl
    where
      are : parted (record { a = p; b = b }) (record { a = p; b = r }) ≡ true
      are = ap (λ s. parted s (record { a = p; b = r })) (sym (between_backward p b h)) ∙ (ap (parted (between b p)) (sym (between_forward p r k)) ∙ apart)

      by : (o : Ordering) → point_order b r ≡ o → ⊥
      by Less e = clash (parted_tells (record { a = p; b = b }) (record { a = p; b = r }) are).own_second (inside_from b (record { a = p; b = r }) (sym (turn_cyclic b p r) ∙ line) h (ap is_lt e))
      by Equal e = other (between_backward p b h ∙ (ap (λ (z : Point). record { a = p; b = z }) (point_equal b r e) ∙ sym (between_forward p r k)))
      by Greater e =
          clash (parted_tells (record { a = p; b = b }) (record { a = p; b = r }) are).second_end
          (inside_from r (record { a = p; b = b }) (zero_back (turn p b r) (turn b p r) (turn_swap p b r) line) k (ap is_lt (less_from_greater point_total b r e)))

  straight_on : p ≢ r → (s : Bool) → Ahead s b p → Ahead s p r
  straight_on differ s h = by s (direction p r differ) h
    where
      by : (s : Bool) → (t : Bool) × Ahead t p r → Ahead s b p → Ahead s p r
      by true (true, k) h = k
      by true (false, k) h = absurd (never_back_from_right h.forth k.back)
      by false (true, k) h = absurd (never_back_from_left h.back k.forth)
      by false (false, k) h = k

-- ---- clean lists of edges

clean_tail : (s : Edge) (ss : List Edge) → IsClean (s ∷ ss) → IsClean ss
clean_tail s ss h = record {
  directed = All-tail (λ s. is_before s.a s.b ≡ true) s ss h.directed;
  in_ends = λ t u ht hu. h.in_ends t u (Contains-later s ss t ht) (Contains-later s ss u hu);
  once = λ e here. less (is_eq (edge_order s e)) (times e ss) (h.once e (Contains-later s ss e here));
}
  where
    less : (b : Bool) (t : ℤ) → (cond b (pos 1) (pos 0) +ℤ t) ≤ℤ pos 1 → t ≤ℤ pos 1
    less true t l = omega (arith, ints)
    less false t l = omega (arith, ints)

clean_two : (s t : Edge) (ss : List Edge) → IsClean (s ∷ t ∷ ss) → s ≢ t
clean_two s t ss h same = twice (times s ss) (times s (s ∷ t ∷ ss)) (two (edge_itself s) (ap (λ u. edge_order u s) (sym same) ∙ edge_itself s)) (total_not_negative (λ u. cond (is_eq (edge_order u s)) (pos 1) (pos 0)) ss (λ u. some (is_eq (edge_order u s)))) (h.once s (Contains-head s (t ∷ ss)))
  where
    twice : (n m : ℤ) → m ≡ pos 1 +ℤ (pos 1 +ℤ n) → pos 0 ≤ℤ n → m ≤ℤ pos 1 → ⊥
    twice n m e l k = omega (arith, ints)

    some : (b : Bool) → pos 0 ≤ℤ cond b (pos 1) (pos 0)
    some true = omega (arith, ints)
    some false = omega (arith, ints)

    two : {o q : Ordering} → o ≡ Equal → q ≡ Equal → cond (is_eq o) (pos 1) (pos 0) +ℤ (cond (is_eq q) (pos 1) (pos 0) +ℤ times s ss) ≡ pos 1 +ℤ (pos 1 +ℤ times s ss)
    two {o} {q} e f = ap (λ x. cond (is_eq x) (pos 1) (pos 0) +ℤ (cond (is_eq q) (pos 1) (pos 0) +ℤ times s ss)) e ∙ ap (λ x. pos 1 +ℤ (cond (is_eq x) (pos 1) (pos 0) +ℤ times s ss)) f

pub clean_permuted : (ss ts : List Edge) → IsPermutation ss ts → IsClean ss → IsClean ts
clean_permuted ss ts moved h = record {
  directed = All-permutation (λ s. is_before s.a s.b ≡ true) ss ts moved h.directed;
  in_ends = λ t u ht hu. h.in_ends t u (Contains-permutation ts ss t back ht) (Contains-permutation ts ss u back hu);
  once = λ e here. subst (λ z. z ≤ℤ pos 1) (sym (total_permutation (λ s. cond (is_eq (edge_order s e)) (pos 1) (pos 0)) ss ts moved)) (h.once e (Contains-permutation ts ss e back here));
}
  where
    back : IsPermutation ts ss
    back = IsPermutation-sym ss ts moved

-- two steps of a path
on_from : (b p r : Point) (ss : List Edge) → IsClean (between b p ∷ between p r ∷ ss) → turn b p r ≡ pos 0 → (s : Bool) → Ahead s b p → Ahead s p r
on_from b p r ss clean line s h =
    straight_on b p r (clean.in_ends (between b p) (between p r) (Contains-head (between b p) (between p r ∷ ss)) (Contains-later (between b p) (between p r ∷ ss) (between p r) (Contains-head (between p r) ss)) (clean_two (between b p) (between p r) ss clean))
    (clean_two (between b p) (between p r) ss clean) line
    (steps_on p r (All-head (λ s. is_before s.a s.b ≡ true) (between p r) ss (clean_tail (between b p) (between p r ∷ ss) clean).directed)) s h

-- ---- along a straight run

pub straight_case : (t : ℤ) (A : Bool → Type 0) → (t ≡ pos 0 → A true) → (t ≢ pos 0 → A false) → A (int_eq t (pos 0))
straight_case t A if_straight if_not = by (int_eq t (pos 0)) refl
  where
    by : (b : Bool) → int_eq t (pos 0) ≡ b → A b
    by true e = if_straight (int_equal t (pos 0) (is_equal (int_cmp t (pos 0)) e))
    by false e = if_not (λ z. clash e (ap (λ t. int_eq t (pos 0)) z))

-- the last corner that is kept is not the point at which the path ends
ends_apart :
    (s : Bool) (u b f p : Point) (rest : List Point) → IsClean (path_edges f (b ∷ p ∷ rest)) → Ahead s u p → Ahead s b p →
    last_of u (corners_after b f (p ∷ rest)) ≢ f
ends_apart s u b f p [] clean h k =
    straight_case (turn b p f) (λ t. last_of u (cond t [] (p ∷ [])) ≢ f)
    (λ z. ahead_apart s u f (ahead_through s u p f h (on_from b p f [] clean z s k)))
    (λ z. steps_on p f (All-head (λ s. is_before s.a s.b ≡ true) (between p f) [] (clean_tail (between b p) (between p f ∷ []) clean).directed))
ends_apart s u b f p (r ∷ rest) clean h k =
    let later : IsClean (path_edges f (p ∷ r ∷ rest)) = clean_tail (between b p) (path_edges f (p ∷ r ∷ rest)) clean in
    let d = direction p r (steps_on p r (All-head (λ s. is_before s.a s.b ≡ true) (between p r) (path_edges f (r ∷ rest)) later.directed)) in
    straight_case (turn b p r) (λ t. last_of u (cond t (corners_after p f (r ∷ rest)) (p ∷ corners_after p f (r ∷ rest))) ≢ f)
    (λ z. let on = on_from b p r (path_edges f (r ∷ rest)) clean z s k in ends_apart s u p f r rest later (ahead_through s u p r h on) on)
    (λ z. ends_apart d.0 p p f r rest later d.1 d.1)

-- ---- three points in a row

zero_swapped : (a b c : Point) → turn a b c ≡ pos 0 → turn b a c ≡ pos 0
zero_swapped a b c e = zero_back (turn b a c) (turn a b c) (turn_swap b a c) e

zero_reversed : (a b c : Point) → turn a b c ≡ pos 0 → turn c b a ≡ pos 0
zero_reversed a b c e = zero_back (turn c b a) (turn a b c) (turn_reverse c b a) e

-- a corner is one, seen from any point of the line that leads to it
corner_from : (u b p r : Point) → u ≢ p → turn u b p ≡ pos 0 → turn b p r ≢ pos 0 → turn u p r ≢ pos 0
corner_from u b p r differ line corner z = corner (line_goes_on b u p r differ (zero_swapped u b p line) z)

-- and to any point of the line that leads from it
corner_to : (t u q w : Point) → w ≢ u → turn u q w ≡ pos 0 → turn t u q ≢ pos 0 → turn t u w ≢ pos 0
corner_to t u q w differ line corner z =
    corner (zero_reversed q u t (line_goes_on q w u t differ (turn_cyclic q w u ∙ turn_cyclic w u q ∙ line) (zero_reversed t u w z)))

-- a point further on the line that leads from u through q
further : (u q p r : Point) → u ≢ p → turn u q p ≡ pos 0 → turn u p r ≡ pos 0 → turn u q r ≡ pos 0
further u q p r differ from line = zero_swapped q u r (line_goes_on q p u r (λ same. differ (sym same)) (sym (turn_cyclic u q p) ∙ from) (zero_swapped u p r line))

-- t, u and q stand in a row, and u is a corner; from u the path leads straight through q and b to p
none_in_a_row :
    (s : Bool) (t u q b f p : Point) (rest : List Point) → IsClean (path_edges f (b ∷ p ∷ rest)) → turn t u q ≢ pos 0 → turn u b p ≡ pos 0 → turn u q p ≡ pos 0 →
    Ahead s u p → Ahead s b p → NoneStraight (t ∷ u ∷ corners_after b f (p ∷ rest) ++ f ∷ [])
none_in_a_row s t u q b f p [] clean corner to from h k =
    straight_case (turn b p f) (λ z. NoneStraight (t ∷ u ∷ cond z [] (p ∷ []) ++ f ∷ []))
    (λ z.
    let on = ahead_through s u p f h (on_from b p f [] clean z s k) in
    (corner_to t u q f (λ same. ahead_apart s u f on (sym same)) (further u q p f (ahead_apart s u p h) from (line_goes_on u b p f (ahead_apart s b p k) to z)) corner, tt))
    (λ z. (corner_to t u q p (λ same. ahead_apart s u p h (sym same)) from corner, (corner_from u b p f (ahead_apart s u p h) to z, tt)))
none_in_a_row s t u q b f p (r ∷ rest) clean corner to from h k =
    let later : IsClean (path_edges f (p ∷ r ∷ rest)) = clean_tail (between b p) (path_edges f (p ∷ r ∷ rest)) clean in
    let d = direction p r (steps_on p r (All-head (λ s. is_before s.a s.b ≡ true) (between p r) (path_edges f (r ∷ rest)) later.directed)) in
    straight_case (turn b p r) (λ z. NoneStraight (t ∷ u ∷ cond z (corners_after p f (r ∷ rest)) (p ∷ corners_after p f (r ∷ rest)) ++ f ∷ []))
    (λ z.
    let on = on_from b p r (path_edges f (r ∷ rest)) clean z s k in
    let line : turn u p r ≡ pos 0 = line_goes_on u b p r (ahead_apart s b p k) to z in
    none_in_a_row s t u q p f r rest later corner line (further u q p r (ahead_apart s u p h) from line) (ahead_through s u p r h on) on)
    (λ z. (
      corner_to t u q p (λ same. ahead_apart s u p h (sym same)) from corner,
      none_in_a_row d.0 u p r p f r rest later (corner_from u b p r (ahead_apart s u p h) to z) (turn_start_twice p r) (turn_end_twice p r) d.1 d.1,
    ))

-- ---- a contour that begins with a corner

module _ (k q : Point) (rest : List Point) (clean : IsClean (contour_edges (k ∷ q ∷ rest))) where
  differ : k ≢ q
  differ = steps_on k q (All-head (λ s. is_before s.a s.b ≡ true) (between k q) (path_edges k (q ∷ rest)) clean.directed)

  -- its other corners are not all at its beginning
  pub ends_elsewhere : last_of k (corners_after k k (q ∷ rest)) ≢ k
  ends_elsewhere = let d = direction k q differ in ends_apart d.0 k k k q rest clean d.1 d.1

  module _ (corner : turn (last_of q rest) k q ≢ pos 0) where
    abbrev others : List Point
    others = corners_after k k (q ∷ rest)

    pub corners_are : without_straight (k ∷ q ∷ rest) ≡ k ∷ others
    corners_are = straight_case (turn (last_of q rest) k q) (λ z. cond z others (k ∷ others) ≡ k ∷ others) (λ z. absurd (corner z)) (λ z. refl)

    pub none_straight : NoneStraight (last_of k others ∷ k ∷ others ++ k ∷ [])
    none_straight =
        let d = direction k q differ in
        let steps = All-tail (λ s. is_before s.a s.b ≡ true) (between k q) (path_edges k (q ∷ rest)) clean.directed in
        let line : turn (last_of k others) (last_of q rest) k ≡ pos 0 = ends_straight k k k q rest differ (turn_start_twice k q) steps in
        none_in_a_row d.0 (last_of k others) k q k k q rest clean (corner_from (last_of k others) (last_of q rest) k q ends_elsewhere line corner) (turn_start_twice k q) (turn_end_twice k q) d.1 d.1

    pub three_corners : 3 ≤ length (k ∷ others)
    three_corners = by others ends_elsewhere none_straight
      where
        by : (xs : List Point) → last_of k xs ≢ k → NoneStraight (last_of k xs ∷ k ∷ xs ++ k ∷ []) → 3 ≤ length (k ∷ xs)
        by [] h n = absurd (h refl)
        by (x ∷ []) h n = absurd (n.0 (turn_there_and_back x k))
        by (x ∷ y ∷ xs) h n = omega arith

-- where none is straight all are kept
pub all_kept : (b f p : Point) (rest : List Point) → NoneStraight (b ∷ p ∷ rest ++ f ∷ []) → corners_after b f (p ∷ rest) ≡ p ∷ rest
all_kept b f p [] n = straight_case (turn b p f) (λ z. cond z [] (p ∷ []) ≡ p ∷ []) (λ z. absurd (n.0 z)) (λ z. refl)
all_kept b f p (r ∷ rest) n =
    straight_case (turn b p r) (λ z. cond z (corners_after p f (r ∷ rest)) (p ∷ corners_after p f (r ∷ rest)) ≡ p ∷ r ∷ rest) (λ z. absurd (n.0 z))
    (λ z. ap (λ xs. p ∷ xs) (all_kept p f r rest n.1))
