-- A convex contour winds once or not at all round every rational point: at most one edge leads to the right over
-- the point's column, so at most one leads to the left over it, and this one lies above the other.
use Rattle.std.proofs.Common.{◌≡◌, ◌<◌, Bool, true, false, not, cond, ◌&&◌, List, [], ◌∷◌, ◌++◌, length, length-append, get_or, All, Contains, ℤ, pos, negsuc, ◌+ℤ◌, ◌*ℤ◌, ◌≤ℤ◌, ◌<ℤ◌, refl, sym, ap, ◌∙◌, subst, ◌⊎◌, inl, inr, arith, append_assoc}
use Rattle.std.specs.Prelude.{int_le, int_lt}
use Rattle.std.proofs.lemmas.Int.{ints}
use Rattle.std.proofs.lemmas.List.{get_or_append_left, get_or_at}
use Rattle.std.proofs.lemmas.List.Elements.{All-nil, All-cons, All-head, All-tail, All-append, All-contains, All-weaker, Contains-push}
use Rattle.plane_base.specs.Plane.{Point, turn, RationalPoint, IsRational, side, step_winding}
use Rattle.plane_base.specs.Cycles.{SameCycle}
use Rattle.plane_base.specs.Convexity.{IsLeftConvex}
use Rattle.plane_base.specs.Windings.{path_winding, cycle_winding}
use Rattle.plane_base.proofs.Facts.Lists.Cycles.{cycle_refl, cycle_sym, cycle_trans, cycle_first_last, cycle_Contains}
use Rattle.plane_base.proofs.Facts.Points.Turns.{turn_there_and_back, turn_end_twice}
use Rattle.plane_base.proofs.Facts.Windings.Paths.{path_winding-append, cycle_winding_same}
use Rattle.plane_base.proofs.Facts.Windings.ConvexEdges.{is_left, LeadsRight, forward_edges_meet, forward_edge_below}

abbrev pub IsZeroOrOne : ℤ → Type 0
IsZeroOrOne x = (x ≡ pos 0) ⊎ (x ≡ pos 1)

-- ---- steps, by the sides of their ends

abbrev step_by : (from_left to_left above_there above_back : Bool) → ℤ
step_by f t s r = cond ((f && not t) && s) (pos 1) (cond ((t && not f) && r) (negsuc 0) (pos 0))

step_by_sides : (u v : Point) (p : RationalPoint) → step_winding u v p ≡ step_by (is_left p u) (is_left p v) (int_lt (pos 0) (side u v p)) (int_lt (pos 0) (side v u p))
step_by_sides u v p =
    by (pos p.q *ℤ u.x) (pos p.q *ℤ v.x) p.x (int_lt (pos 0) (side u v p)) (int_lt (pos 0) (side v u p))
  where
    beyond : (x b : ℤ) → int_lt x b ≡ not (int_le b x)
    beyond x b = grind (arith, ints)

    by : (a b x : ℤ) (s t : Bool) → cond ((int_le a x && int_lt x b) && s) (pos 1) (cond ((int_le b x && int_lt x a) && t) (negsuc 0) (pos 0)) ≡ step_by (int_le a x) (int_le b x) s t
    by a b x s t = rw (beyond x b, beyond x a)

step_on_one_side : (here : Bool) (u v : Point) (p : RationalPoint) → is_left p u ≡ here → is_left p v ≡ here → step_winding u v p ≡ pos 0
step_on_one_side here u v p e f = step_by_sides u v p ∙ by (is_left p u) (is_left p v) here (int_lt (pos 0) (side u v p)) (int_lt (pos 0) (side v u p)) e f
  where
    by : (x y here s t : Bool) → x ≡ here → y ≡ here → step_by x y s t ≡ pos 0
    by true true here s t e f = refl
    by false false here s t e f = refl
    by true false here s t e f = cc
    by false true here s t e f = cc

step_forward : (u v : Point) (p : RationalPoint) → LeadsRight p u v → step_winding u v p ≡ cond (int_lt (pos 0) (side u v p)) (pos 1) (pos 0)
step_forward u v p e = step_by_sides u v p ∙ by (is_left p u) (is_left p v) (int_lt (pos 0) (side u v p)) (int_lt (pos 0) (side v u p)) e.starts e.ends
  where
    by : (x y s t : Bool) → x ≡ true → y ≡ false → step_by x y s t ≡ cond s (pos 1) (pos 0)
    by x y s t e f = rw (e, f)

step_backward : (u v : Point) (p : RationalPoint) → LeadsRight p v u → step_winding u v p ≡ cond (int_lt (pos 0) (side v u p)) (negsuc 0) (pos 0)
step_backward u v p e = step_by_sides u v p ∙ by (is_left p u) (is_left p v) (int_lt (pos 0) (side u v p)) (int_lt (pos 0) (side v u p)) e.ends e.starts
  where
    by : (x y s t : Bool) → x ≡ false → y ≡ true → step_by x y s t ≡ cond t (negsuc 0) (pos 0)
    by x y s t e f = rw (e, f)

path_on_one_side : (here : Bool) (path : List Point) (p : RationalPoint) → All (λ a. is_left p a ≡ here) path → path_winding path p ≡ pos 0
path_on_one_side here [] p h = refl
path_on_one_side here (u ∷ []) p h = refl
path_on_one_side here (u ∷ v ∷ path) p h =
    let tail = All-tail (λ a. is_left p a ≡ here) u (v ∷ path) h in
    none (step_winding u v p) (path_winding (v ∷ path) p)
    (step_on_one_side here u v p (All-head (λ a. is_left p a ≡ here) u (v ∷ path) h) (All-head (λ a. is_left p a ≡ here) v path tail))
    (path_on_one_side here (v ∷ path) p tail)
  where
    none : (x y : ℤ) → x ≡ pos 0 → y ≡ pos 0 → x +ℤ y ≡ pos 0
    none x y e f = omega (arith, ints)

cycle_on_one_side : (here : Bool) (c : List Point) (p : RationalPoint) → All (λ a. is_left p a ≡ here) c → cycle_winding c p ≡ pos 0
cycle_on_one_side here [] p h = refl
cycle_on_one_side here (u ∷ rest) p h =
    path_on_one_side here (u ∷ rest ++ u ∷ []) p
    (All-append (λ a. is_left p a ≡ here) (u ∷ rest) (u ∷ []) h (All-cons (λ a. is_left p a ≡ here) u [] (All-head (λ a. is_left p a ≡ here) u rest h) (All-nil (λ a. is_left p a ≡ here))))

-- ---- where a path first changes its side

data Course (p : RationalPoint) (here : Bool) (path : List Point) : Type 0 where
  stays : All (λ a. is_left p a ≡ here) path → Course p here path
  changes : (front : List Point) (s t : Point) (back : List Point) → path ≡ front ++ s ∷ t ∷ back → All (λ a. is_left p a ≡ here) (front ++ s ∷ []) → is_left p s ≡ here → is_left p t ≡ not here → Course p here path

same_or_not : (x here : Bool) → (x ≡ here) ⊎ (x ≡ not here)
same_or_not true true = inl refl
same_or_not true false = inr refl
same_or_not false true = inr refl
same_or_not false false = inl refl

course : (p : RationalPoint) (here : Bool) (u : Point) (rest : List Point) → is_left p u ≡ here → Course p here (u ∷ rest)
course p here u [] e = stays (All-cons (λ a. is_left p a ≡ here) u [] e (All-nil (λ a. is_left p a ≡ here)))
course p here u (v ∷ rest) e = by (same_or_not (is_left p v) here) (course p here v rest)
  where
    on : Course p here (v ∷ rest) → Course p here (u ∷ v ∷ rest)
    on (stays all) = stays (All-cons (λ a. is_left p a ≡ here) u (v ∷ rest) e all)
    on (changes front s t back is all at_s at_t) = changes (u ∷ front) s t back (ap (λ x. u ∷ x) is) (All-cons (λ a. is_left p a ≡ here) u (front ++ s ∷ []) e all) at_s at_t

    by : (is_left p v ≡ here) ⊎ (is_left p v ≡ not here) → (is_left p v ≡ here → Course p here (v ∷ rest)) → Course p here (u ∷ v ∷ rest)
    by (inl f) further = on (further f)
    by (inr f) further = changes [] u v rest refl (All-cons (λ a. is_left p a ≡ here) u [] e (All-nil (λ a. is_left p a ≡ here))) e f

-- ---- an edge that leads to the right

record Forward (p : RationalPoint) (c : List Point) : Type 0 where
  a : Point
  b : Point
  others : List Point
  turned : SameCycle c (a ∷ b ∷ others)
  leads : LeadsRight p a b

forward_from_left : (u : Point) (rest : List Point) (p : RationalPoint) → is_left p u ≡ true → (cycle_winding (u ∷ rest) p ≡ pos 0) ⊎ Forward p (u ∷ rest)
forward_from_left u rest p e = by (course p true u rest e)
  where
    by : Course p true (u ∷ rest) → (cycle_winding (u ∷ rest) p ≡ pos 0) ⊎ Forward p (u ∷ rest)
    by (stays all) = inl (cycle_on_one_side true (u ∷ rest) p all)
    by (changes front s t back is all at_s at_t) =
        inr (record { a = s; b = t; others = back ++ front; turned = record { front = front; back = s ∷ t ∷ back; first = is; second = refl }; leads = record { starts = at_s; ends = at_t } })

none_or_forward : (c : List Point) (p : RationalPoint) → (cycle_winding c p ≡ pos 0) ⊎ Forward p c
none_or_forward [] p = inl refl
none_or_forward (u ∷ rest) p = by_side (same_or_not (is_left p u) true)
  where
    rotated : (front : List Point) (s t : Point) (back : List Point) → u ∷ rest ≡ front ++ s ∷ t ∷ back → SameCycle (u ∷ rest) (t ∷ back ++ (front ++ s ∷ []))
    rotated front s t back is = record { front = front ++ s ∷ []; back = t ∷ back; first = is ∙ sym (append_assoc front (s ∷ []) (t ∷ back)); second = refl }

    begun_elsewhere : (d : List Point) → SameCycle (u ∷ rest) d → (cycle_winding d p ≡ pos 0) ⊎ Forward p d → (cycle_winding (u ∷ rest) p ≡ pos 0) ⊎ Forward p (u ∷ rest)
    begun_elsewhere d same (inl e) = inl (cycle_winding_same same p ∙ e)
    begun_elsewhere d same (inr f) = inr (record { a = f.a; b = f.b; others = f.others; turned = cycle_trans same f.turned; leads = f.leads })

    by : Course p false (u ∷ rest) → (cycle_winding (u ∷ rest) p ≡ pos 0) ⊎ Forward p (u ∷ rest)
    by (stays all) = inl (cycle_on_one_side false (u ∷ rest) p all)
    by (changes front s t back is all at_s at_t) = begun_elsewhere _ (rotated front s t back is) (forward_from_left t (back ++ (front ++ s ∷ [])) p at_t)

    by_side : (is_left p u ≡ true) ⊎ (is_left p u ≡ false) → (cycle_winding (u ∷ rest) p ≡ pos 0) ⊎ Forward p (u ∷ rest)
    by_side (inl e) = forward_from_left u rest p e
    by_side (inr e) = by (course p false u rest e)

-- ---- one edge to the right, one to the left

-- it doesn't matter where a cycle begins
pub left_convex_same : {c d : List Point} → SameCycle c d → IsLeftConvex c → IsLeftConvex d
left_convex_same same convex a b others turned = convex a b others (cycle_trans same turned)

-- the edges of a cycle, as its closed path has them after the first
step_turned : (a b : Point) (others front : List Point) (s t : Point) (back : List Point) → b ∷ others ++ a ∷ [] ≡ front ++ s ∷ t ∷ back → SameCycle (a ∷ b ∷ others) (s ∷ t ∷ back ++ front)
step_turned a b others front s t back e =
    cycle_trans (cycle_first_last a (b ∷ others)) (record { front = front; back = s ∷ t ∷ back; first = e; second = refl })

-- and where they begin
step_start : (P : Point → Type 0) (a b : Point) (others front : List Point) (s t : Point) (back : List Point) → b ∷ others ++ a ∷ [] ≡ front ++ s ∷ t ∷ back → All P others → (b ≡ s) ⊎ P s
step_start P a b others [] s t back e all = inl (cc)
step_start P a b others (f ∷ front) s t back e all =
    inr (subst P (sym (get_or_append_left others (a ∷ []) s (length front) inside) ∙ (ap (λ x. get_or x (length front) s) rest ∙ get_or_at front s (t ∷ back) s (length front) refl)) (all (length front) s inside))
  where
    rest : others ++ a ∷ [] ≡ front ++ s ∷ t ∷ back
    rest = cc

    inside : length front < length others
    inside = omega (arith, ap length rest, length-append others (a ∷ []), length-append front (s ∷ t ∷ back))

has_first : (a : Point) (rest : List Point) → Contains (a ∷ rest) a
has_first a rest = (0, (omega arith), refl)

has_second : (a b : Point) (rest : List Point) → Contains (a ∷ b ∷ rest) b
has_second a b rest = (1, (omega arith), refl)

-- no point of a left convex cycle is strictly right of an edge
none_right : (c : List Point) → IsLeftConvex c → (s t : Point) (rest : List Point) → SameCycle c (s ∷ t ∷ rest) → (a : Point) → Contains c a → pos 0 ≤ℤ turn s t a
none_right c convex s t rest same a h =
    All-contains (λ a. pos 0 ≤ℤ turn s t a) (s ∷ t ∷ rest) a
    (All-cons (λ a. pos 0 ≤ℤ turn s t a) s (t ∷ rest) (zero _ (turn_there_and_back s t)) (All-cons (λ a. pos 0 ≤ℤ turn s t a) t rest (zero _ (turn_end_twice s t)) (All-weaker (λ a. pos 0 <ℤ turn s t a) (λ a. pos 0 ≤ℤ turn s t a) (λ a. weaker (turn s t a)) rest (convex s t rest same))))
    (cycle_Contains a same h)
  where
    zero : (x : ℤ) → x ≡ pos 0 → pos 0 ≤ℤ x
    zero x e = omega (arith, ints)

    weaker : (x : ℤ) → pos 0 <ℤ x → pos 0 ≤ℤ x
    weaker x h = omega (arith, ints)

-- After an edge that leads to the right over the point's column no other does so.
no_other_forward : (a b : Point) (others front : List Point) (s t : Point) (back : List Point) (p : RationalPoint) → IsLeftConvex (a ∷ b ∷ others) → b ∷ others ++ a ∷ [] ≡ front ++ s ∷ t ∷ back → LeadsRight p a b → LeadsRight p s t → ⊥
no_other_forward a b others front s t back p convex is e f =
    apart (step_start (λ u. pos 0 <ℤ turn a b u) a b others front s t back is (convex a b others (cycle_refl (a ∷ b ∷ others))))
  where
    same : SameCycle (a ∷ b ∷ others) (s ∷ t ∷ back ++ front)
    same = step_turned a b others front s t back is

    apart : (b ≡ s) ⊎ (pos 0 <ℤ turn a b s) → ⊥
    apart (inl h) =
        let at_b : is_left p b ≡ is_left p s = ap (is_left p) h in
        absurd (cc (at_b, e.ends, f.starts))
    apart (inr h) =
        forward_edges_meet a b s t p e f h
        (none_right (a ∷ b ∷ others) convex a b others (cycle_refl (a ∷ b ∷ others)) t (cycle_Contains t (cycle_sym same) (has_second s t (back ++ front))))
        (none_right (a ∷ b ∷ others) convex s t (back ++ front) same a (has_first a (b ∷ others)))
        (none_right (a ∷ b ∷ others) convex s t (back ++ front) same b (has_second a b others))

-- the one that leads to the left lies above it
one_each : (a b s t : Point) (p : RationalPoint) → IsRational p → LeadsRight p a b → LeadsRight p t s → pos 0 ≤ℤ turn s t a → pos 0 ≤ℤ turn s t b → IsZeroOrOne (step_winding a b p +ℤ step_winding s t p)
one_each a b s t p q e f h k =
    rw (step_forward a b p e, step_backward s t p f) (by (int_lt (pos 0) (side a b p)) (int_lt (pos 0) (side t s p)) (above (side t s p) (side a b p) (forward_edge_below a b s t p q e f h k)))
  where
    above : (x y : ℤ) → (pos 0 <ℤ x → pos 0 <ℤ y) → int_lt (pos 0) x ≡ true → int_lt (pos 0) y ≡ true
    above x y f e =
        let h : pos 0 <ℤ y = f (omega (arith, ints)) in
        grind (arith, ints)

    by : (u v : Bool) → (v ≡ true → u ≡ true) → IsZeroOrOne (cond u (pos 1) (pos 0) +ℤ cond v (negsuc 0) (pos 0))
    by true true f = inl refl
    by true false f = inr refl
    by false true f = absurd (cc (f refl))
    by false false f = inl refl

-- After an edge that leads to the right over the point's column, the closed path leads back over it once, and no more.
winding_from_forward : (a b : Point) (others : List Point) (p : RationalPoint) → IsRational p → IsLeftConvex (a ∷ b ∷ others) → LeadsRight p a b → IsZeroOrOne (cycle_winding (a ∷ b ∷ others) p)
winding_from_forward a b others p q convex e = by (course p false b (others ++ a ∷ []) e.ends)
  where
    path : List Point
    path = b ∷ others ++ a ∷ []

    returns : All (λ u. is_left p u ≡ false) path → ⊥
    returns all = absurd (cc (e.starts, All-contains (λ u. is_left p u ≡ false) path a all (Contains-push (b ∷ others) a)))

    closes : (front : List Point) (s t : Point) (back : List Point) → path ≡ front ++ s ∷ t ∷ back → is_left p t ≡ true → All (λ u. is_left p u ≡ true) (t ∷ back)
    closes front s t back is at_t = elim (course p true t back at_t) [
      | stays all ↦ all
      | changes front' s' t' back' is' all' at_s' at_t' ↦ absurd (no_other_forward a b others (front ++ s ∷ front') s' t' back' p convex (is ∙ (ap (λ x. front ++ s ∷ x) is' ∙ sym (append_assoc front (s ∷ front') (s' ∷ t' ∷ back')))) e (record { starts = at_s'; ends = at_t' }))
    ]

    sum : (x y f g w : ℤ) → w ≡ f +ℤ (y +ℤ g) → f ≡ pos 0 → g ≡ pos 0 → x +ℤ w ≡ x +ℤ y
    sum x y f g w e h k = omega (arith, ints)

    two_steps : (front : List Point) (s t : Point) (back : List Point) → path ≡ front ++ s ∷ t ∷ back → All (λ u. is_left p u ≡ false) (front ++ s ∷ []) → All (λ u. is_left p u ≡ true) (t ∷ back) → cycle_winding (a ∷ b ∷ others) p ≡ step_winding a b p +ℤ step_winding s t p
    two_steps front s t back is before after =
        sum (step_winding a b p) (step_winding s t p) (path_winding (front ++ s ∷ []) p) (path_winding (t ∷ back) p) (path_winding path p)
        (ap (λ x. path_winding x p) is ∙ path_winding-append front s (t ∷ back) p)
        (path_on_one_side false (front ++ s ∷ []) p before)
        (path_on_one_side true (t ∷ back) p after)

    by : Course p false path → IsZeroOrOne (cycle_winding (a ∷ b ∷ others) p)
    by (stays all) = absurd (returns all)
    by (changes front s t back is all at_s at_t) =
        let same : SameCycle (a ∷ b ∷ others) (s ∷ t ∷ back ++ front) = step_turned a b others front s t back is in
        rw (two_steps front s t back is all (closes front s t back is at_t))
        (one_each a b s t p q e (record { starts = at_t; ends = at_s })
        (none_right (a ∷ b ∷ others) convex s t (back ++ front) same a (has_first a (b ∷ others)))
        (none_right (a ∷ b ∷ others) convex s t (back ++ front) same b (has_second a b others)))

-- ---- convex cycles

pub left_convex_winding : (c : List Point) → IsLeftConvex c → (p : RationalPoint) → IsRational p → IsZeroOrOne (cycle_winding c p)
left_convex_winding c convex p q = by (none_or_forward c p)
  where
    by : (cycle_winding c p ≡ pos 0) ⊎ Forward p c → IsZeroOrOne (cycle_winding c p)
    by (inl e) = inl e
    by (inr f) =
        rw (cycle_winding_same f.turned p)
        (winding_from_forward f.a f.b f.others p q (left_convex_same f.turned convex) f.leads)
