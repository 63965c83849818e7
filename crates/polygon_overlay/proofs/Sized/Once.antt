-- What runs along parted edges, each along one of its own, passes each place of a row or column once at most, thinned or not.
use Rattle.std.proofs.Common.{◌≡◌, ◌≢◌, ◌⊎◌, inl, inr, ⊎_elim, get_or, Bool, true, false, not, cond, ◌&&◌, List, [], ◌∷◌, ◌++◌, All, AllPairs, ℤ, pos, ◌+ℤ◌, ◌-ℤ◌, ◌*ℤ◌, ◌≤ℤ◌, ◌<ℤ◌, int_lt, int_le, int_eq, refl, sym, ap, ◌∙◌, subst, append-nil, arith}
use Rattle.std.specs.Ordering.{is_lt}
use Rattle.std.proofs.lemmas.Int.{ints}
use Rattle.std.proofs.lemmas.Bool.{false≢true, and_parts, and_from}
use Rattle.std.proofs.lemmas.Bool.Decides.{Decides-int_eq}
use Rattle.std.proofs.lemmas.List.Elements.{All-head, All-tail, All-weaker}
use Rattle.plane_base.specs.Plane.{Point, Edge, RationalPoint, IsRational, turn, is_before}
use Rattle.plane_base.specs.Cycles.{SameCycle}
use Rattle.plane_base.specs.Segments.{cross_properly, strictly_inside, parted}
use Rattle.plane_base.specs.Thinning.{TakesOut, Reaches, same, step, IsThinned, bare, empty}
use Rattle.plane_base.specs.Totals.{total}
use Rattle.plane_base.proofs.Facts.Crossings.Tests.{not_true}
use Rattle.plane_base.proofs.Facts.Lists.Totals.{total_append, total_zero_on, total_not_negative}
use Rattle.plane_base.proofs.Facts.Maps.Normal.{AllPairs-head, AllPairs-tail}
use Rattle.plane_base.proofs.Facts.Numbers.Products.{zero_product, same_of_products, below_of_products}
use Rattle.plane_base.proofs.Facts.Points.Orders.{before_is_less, point_less, point_less_by_x, point_less_by_y}
use Rattle.segment_split.specs.LineLaws.{is_rectilinear}
use Rattle.contour_walk.specs.WalkLaws.{steps_to, contour_steps}
use Rattle.polygon_overlay.proofs.Sized.Terms.{is_under, has_begun, crossing, ThinnedCrossLess, PartedPassOnce}
use Rattle.segment_arrangement.proofs.Facts.ColumnPlaces.{lt_holds, lt_tells, lt_tells_not, le_holds, le_tells}
use Rattle.polygon_overlay.proofs.Tiles.Steps.{le_tells_not, at_most, at_most_below, below_at_most, times_le, weak, rectilinear}
use Rattle.polygon_overlay.proofs.Tiles.Straight.{straight_joined}
use Rattle.polygon_overlay.proofs.Tiles.ThinnedSteps.{steps_append, same_cycle, taken_out}

abbrev IsStraight : Edge → Type 0
IsStraight s = is_rectilinear s ≡ true

-- ---- thinned contours have no more of what two steps along one line have no less of than both as one

module _ (g : Edge → ℤ) (least : (s : Edge) → pos 0 ≤ℤ g s) (S : Point → Point → Type 0) (joined_too : (u v w : Point) → turn u v w ≡ pos 0 → S u v → S v w → S u w)
    (joined : (u v w : Point) → turn u v w ≡ pos 0 → S u v → S v w → g (record { a = u; b = w }) ≤ℤ (g (record { a = u; b = v }) +ℤ g (record { a = v; b = w }))) where
  abbrev Holds : Edge → Type 0
  Holds s = S s.a s.b

  round : (front rest : List Point) → total g (contour_steps (front ++ rest)) ≡ total g (contour_steps (rest ++ front))
  round [] rest = ap (λ c. total g (contour_steps c)) (sym (append-nil rest))
  round (x ∷ xs) [] = ap (λ c. total g (contour_steps c)) (append-nil (x ∷ xs))
  round (x ∷ xs) (y ∷ ys) =
      ap (total g) (steps_append x x y xs ys)
      ∙ (total_append g (steps_to y (x ∷ xs)) (steps_to x (y ∷ ys))
      ∙ (commuted (total g (steps_to y (x ∷ xs))) (total g (steps_to x (y ∷ ys)))
      ∙ (sym (total_append g (steps_to x (y ∷ ys)) (steps_to y (x ∷ xs))) ∙ sym (ap (total g) (steps_append y y x ys xs)))))
    where
      commuted : (m n : ℤ) → m +ℤ n ≡ n +ℤ m
      commuted m n = omega (arith, ints)

  same_total : (c d : List Point) → SameCycle c d → total g (contour_steps c) ≡ total g (contour_steps d)
  same_total c d h = ap (λ z. total g (contour_steps z)) h.first ∙ (round h.front h.back ∙ sym (ap (λ z. total g (contour_steps z)) h.second))

  less_taken_out : (c d : List Point) → TakesOut c d → All Holds (contour_steps c) → total g (contour_steps d) ≤ℤ total g (contour_steps c)
  less_taken_out c d t all =
      fewer (total g (contour_steps c)) (total g (contour_steps d)) (g whole) (g step_in) (g step_out) (total g more) (same_total c (t.before ∷ t.p ∷ t.after ∷ t.others) t.was)
      (same_total d (t.before ∷ t.after ∷ t.others) t.is)
      (joined t.before t.p t.after t.straight (All-head Holds step_in (step_out ∷ more) begun) (All-head Holds step_out more (All-tail Holds step_in (step_out ∷ more) begun)))
    where
      step_in : Edge
      step_in = record { a = t.before; b = t.p }

      step_out : Edge
      step_out = record { a = t.p; b = t.after }

      whole : Edge
      whole = record { a = t.before; b = t.after }

      more : List Edge
      more = steps_to t.before (t.after ∷ t.others)

      begun : All Holds (contour_steps (t.before ∷ t.p ∷ t.after ∷ t.others))
      begun = same_cycle S joined_too c (t.before ∷ t.p ∷ t.after ∷ t.others) t.was all

      fewer : (c d w i o m : ℤ) → c ≡ i +ℤ (o +ℤ m) → d ≡ w +ℤ m → w ≤ℤ (i +ℤ o) → d ≤ℤ c
      fewer c d w i o m e f l = omega (arith, ints)

  less_reached : (c d : List Point) → Reaches c d → All Holds (contour_steps c) → total g (contour_steps d) ≤ℤ total g (contour_steps c)
  less_reached c d (same h) all = level (total g (contour_steps d)) (total g (contour_steps c)) (sym (same_total c d h))
    where
      level : (x y : ℤ) → x ≡ y → x ≤ℤ y
      level x y e = omega (arith, ints)
  less_reached c d (step {d = e} t more) all =
      at_most (total g (contour_steps d)) (total g (contour_steps e)) (total g (contour_steps c)) (less_reached e d more (taken_out S joined_too c e t all)) (less_taken_out c e t all)

  pub less_thinned : (c d : List Point) → IsThinned c d → All Holds (contour_steps c) → total g (contour_steps d) ≤ℤ total g (contour_steps c)
  less_thinned c d (bare more long none) all = less_reached c d more all
  less_thinned c d (empty more short) all = total_not_negative g (contour_steps c) least

-- ---- from one side to the other

module _ (place : Point → ℤ) (side : Point → Bool) (k : ℤ) where
  abbrev apart : Bool → Bool → ℤ
  apart a b = cond a (cond b (pos 0) (pos 1)) (cond b (pos 1) (pos 0))

  zero_or_one : (e a b : Bool) → (cond e (apart a b) (pos 0) ≡ pos 0) ⊎ (cond e (apart a b) (pos 0) ≡ pos 1)
  zero_or_one false a b = inl refl
  zero_or_one true true true = inl refl
  zero_or_one true false false = inl refl
  zero_or_one true true false = inr refl
  zero_or_one true false true = inr refl

  is_zero_or_one : (s : Edge) → (crossing place side k s ≡ pos 0) ⊎ (crossing place side k s ≡ pos 1)
  is_zero_or_one s = zero_or_one (int_eq (place s.a) k) (side s.a) (side s.b)

  pub crosses_none : (s : Edge) → pos 0 ≤ℤ crossing place side k s
  crosses_none s = by (crossing place side k s) (is_zero_or_one s)
    where
      by : (x : ℤ) → (x ≡ pos 0) ⊎ (x ≡ pos 1) → pos 0 ≤ℤ x
      by x (inl e) = omega (arith, ints)
      by x (inr e) = omega (arith, ints)

  -- a step that stays on its side, or at its place
  abbrev pub Keeps : Point → Point → Type 0
  Keeps u v = (place u ≡ place v) ⊎ (side u ≡ side v)

  nothing : (e a b : Bool) → a ≡ b → cond e (apart a b) (pos 0) ≡ pos 0
  nothing false a b h = refl
  nothing true true true h = refl
  nothing true false false h = refl
  nothing true true false h = absurd (false≢true (sym h))
  nothing true false true h = absurd (false≢true h)

  pub crosses_back : (u v : Point) → Keeps u v → crossing place side k (record { a = v; b = u }) ≡ crossing place side k (record { a = u; b = v })
  crosses_back u v (inl e) = ap (λ n. cond (int_eq n k) (apart (side v) (side u)) (pos 0)) (sym e) ∙ by (int_eq (place u) k) (side u) (side v)
    where
      by : (e a b : Bool) → cond e (apart b a) (pos 0) ≡ cond e (apart a b) (pos 0)
      by false a b = refl
      by true true true = refl
      by true true false = refl
      by true false true = refl
      by true false false = refl
  crosses_back u v (inr e) = nothing (int_eq (place v) k) (side v) (side u) (sym e) ∙ sym (nothing (int_eq (place u) k) (side u) (side v) e)

  pub crosses_joined : (u v w : Point) → Keeps u v → Keeps v w → (side u ≡ side v → place v ≡ place w → (place u ≡ place v) ⊎ (side v ≡ side w))
      → crossing place side k (record { a = u; b = w }) ≤ℤ (crossing place side k (record { a = u; b = v }) +ℤ crossing place side k (record { a = v; b = w }))
  crosses_joined u v w h i mixed = by h i
    where
      part : Edge → ℤ
      part s = crossing place side k s

      none : (x y z : ℤ) → x ≡ pos 0 → pos 0 ≤ℤ y → pos 0 ≤ℤ z → x ≤ℤ (y +ℤ z)
      none x y z e l m = omega (arith, ints)

      on_one_side : side u ≡ side v → side v ≡ side w → part (record { a = u; b = w }) ≤ℤ (part (record { a = u; b = v }) +ℤ part (record { a = v; b = w }))
      on_one_side e f =
          none (part (record { a = u; b = w })) (part (record { a = u; b = v })) (part (record { a = v; b = w })) (nothing (int_eq (place u) k) (side u) (side w) (e ∙ f))
          (crosses_none (record { a = u; b = v })) (crosses_none (record { a = v; b = w }))

      through : (e a b c : Bool) → cond e (apart a c) (pos 0) ≤ℤ (cond e (apart a b) (pos 0) +ℤ cond e (apart b c) (pos 0))
      through false a b c = omega (arith, ints)
      through true true true true = omega (arith, ints)
      through true true true false = omega (arith, ints)
      through true true false true = omega (arith, ints)
      through true true false false = omega (arith, ints)
      through true false true true = omega (arith, ints)
      through true false true false = omega (arith, ints)
      through true false false true = omega (arith, ints)
      through true false false false = omega (arith, ints)

      at_one_place : place u ≡ place v → part (record { a = u; b = w }) ≤ℤ (part (record { a = u; b = v }) +ℤ part (record { a = v; b = w }))
      at_one_place e =
          subst (λ n. part (record { a = u; b = w }) ≤ℤ (part (record { a = u; b = v }) +ℤ cond (int_eq n k) (apart (side v) (side w)) (pos 0))) e
          (through (int_eq (place u) k) (side u) (side v) (side w))

      by : Keeps u v → Keeps v w → part (record { a = u; b = w }) ≤ℤ (part (record { a = u; b = v }) +ℤ part (record { a = v; b = w }))
      by (inl e) f = at_one_place e
      by (inr e) (inr f) = on_one_side e f
      by (inr e) (inl f) = last (mixed e f)
        where
          last : (place u ≡ place v) ⊎ (side v ≡ side w) → part (record { a = u; b = w }) ≤ℤ (part (record { a = u; b = v }) +ℤ part (record { a = v; b = w }))
          last (inl g) = at_one_place g
          last (inr g) = on_one_side e g

  abbrev pub Clash : Edge → Edge → Type 0
  Clash s t = crossing place side k s ≡ pos 1 → crossing place side k t ≡ pos 1 → ⊥

  -- no two of a list, so one at most
  pub one_at_most : (ss : List Edge) → AllPairs Clash ss → total (crossing place side k) ss ≤ℤ pos 1
  one_at_most [] h = omega (arith, ints)
  one_at_most (s ∷ ss) h = by (is_zero_or_one s) (one_at_most ss (AllPairs-tail Clash s ss h))
    where
      add : (x y : ℤ) → x ≡ pos 0 → y ≤ℤ pos 1 → (x +ℤ y) ≤ℤ pos 1
      add x y e l = omega (arith, ints)

      alone : (x y : ℤ) → x ≡ pos 1 → y ≡ pos 0 → (x +ℤ y) ≤ℤ pos 1
      alone x y e f = omega (arith, ints)

      zero_else : (x : ℤ) → (x ≡ pos 0) ⊎ (x ≡ pos 1) → (x ≡ pos 1 → ⊥) → x ≡ pos 0
      zero_else x (inl e) h = e
      zero_else x (inr e) h = absurd (h e)

      by : (crossing place side k s ≡ pos 0) ⊎ (crossing place side k s ≡ pos 1) → total (crossing place side k) ss ≤ℤ pos 1 → total (crossing place side k) (s ∷ ss) ≤ℤ pos 1
      by (inl e) rest = add (crossing place side k s) (total (crossing place side k) ss) e rest
      by (inr e) rest =
          alone (crossing place side k s) (total (crossing place side k) ss) e
          (total_zero_on (crossing place side k) ss
          (All-weaker (Clash s) (λ t. crossing place side k t ≡ pos 0) (λ t clash. zero_else (crossing place side k t) (is_zero_or_one t) (clash e)) ss (AllPairs-head Clash s ss h)))

  -- where a step crosses
  pub crosses_there : (s : Edge) → crossing place side k s ≡ pos 1 → (place s.a ≡ k) × (side s.a ≡ not (side s.b))
  crosses_there s h = by (int_eq (place s.a) k) (side s.a) (side s.b) refl h
    where
      by : (e a b : Bool) → int_eq (place s.a) k ≡ e → cond e (apart a b) (pos 0) ≡ pos 1 → (place s.a ≡ k) × (a ≡ not b)
      by true true false e h = ((Decides-int_eq (place s.a) k).0 e, refl)
      by true false true e h = ((Decides-int_eq (place s.a) k).0 e, refl)
      by true true true e h = absurd (omega (arith, ints, h))
      by true false false e h = absurd (omega (arith, ints, h))
      by false a b e h = absurd (omega (arith, ints, h))

-- ---- two parted edges on one line

-- no end of either lies strictly inside the other
record FreeEnds (s r : Edge) : Type 0 where
  r_first : strictly_inside r.a s ≡ false
  r_second : strictly_inside r.b s ≡ false
  s_first : strictly_inside s.a r ≡ false
  s_second : strictly_inside s.b r ≡ false

free_ends : (s r : Edge) → parted s r ≡ true → FreeEnds s r
free_ends s r h =
    let all = (and_parts (not (cross_properly s r)) ((not (strictly_inside r.a s) && not (strictly_inside r.b s)) && (not (strictly_inside s.a r) && not (strictly_inside s.b r))) h).1 in
    let two = and_parts (not (strictly_inside r.a s) && not (strictly_inside r.b s)) (not (strictly_inside s.a r) && not (strictly_inside s.b r)) all in
    let of_r = and_parts (not (strictly_inside r.a s)) (not (strictly_inside r.b s)) two.0 in
    let of_s = and_parts (not (strictly_inside s.a r)) (not (strictly_inside s.b r)) two.1 in
    record {
      r_first = not_true (strictly_inside r.a s) of_r.0;
      r_second = not_true (strictly_inside r.b s) of_r.1;
      s_first = not_true (strictly_inside s.a r) of_s.0;
      s_second = not_true (strictly_inside s.b r) of_s.1;
    }

-- on a line by one number: two that overlap are the same
module _ (f : Point → ℤ) (s r : Edge) (differ : s ≢ r) (parts : parted s r ≡ true) (same_edge : f s.a ≡ f r.a → f s.b ≡ f r.b → s ≡ r)
    (in_s : (u : Point) → (u ≡ r.a) ⊎ (u ≡ r.b) → f s.a <ℤ f u → f u <ℤ f s.b → strictly_inside u s ≡ true)
    (in_r : (u : Point) → (u ≡ s.a) ⊎ (u ≡ s.b) → f r.a <ℤ f u → f u <ℤ f r.b → strictly_inside u r ≡ true)
    (forward_s : f s.a <ℤ f s.b) (forward_r : f r.a <ℤ f r.b) (one : f s.a <ℤ f r.b) (other : f r.a <ℤ f s.b) where
  overlap : ⊥
  overlap = by (int_lt (f s.a) (f r.a)) (int_lt (f r.a) (f s.a)) refl refl
    where
      free : FreeEnds s r
      free = free_ends s r parts

      level : (x y : ℤ) → int_lt x y ≡ false → int_lt y x ≡ false → x ≡ y
      level x y e h = omega (arith, ints)

      seconds : f s.a ≡ f r.a → (a b : Bool) → int_lt (f s.b) (f r.b) ≡ a → int_lt (f r.b) (f s.b) ≡ b → ⊥
      seconds e true b h k =
          false≢true (sym free.s_second ∙ in_r s.b (inr refl) other (lt_tells (f s.b) (f r.b) h))
      seconds e false true h k =
          false≢true (sym free.r_second ∙ in_s r.b (inr refl) one (lt_tells (f r.b) (f s.b) k))
      seconds e false false h k = differ (same_edge e (level (f s.b) (f r.b) h k))

      by : (a b : Bool) → int_lt (f s.a) (f r.a) ≡ a → int_lt (f r.a) (f s.a) ≡ b → ⊥
      by true b h k = false≢true (sym free.r_first ∙ in_s r.a (inl refl) (lt_tells (f s.a) (f r.a) h) other)
      by false true h k = false≢true (sym free.s_first ∙ in_r s.a (inl refl) (lt_tells (f r.a) (f s.a) k) one)
      by false false h k = seconds (level (f s.a) (f r.a) h k) (int_lt (f s.b) (f r.b)) (int_lt (f r.b) (f s.b)) refl refl

on_line : (w v y x : ℤ) → w ≡ pos 0 → x ≡ pos 0 → (w *ℤ y) -ℤ (v *ℤ x) ≡ pos 0
on_line w v y x e h = rw (e, h) (none v y)
  where
    none : (v y : ℤ) → (pos 0 *ℤ y) -ℤ (v *ℤ pos 0) ≡ pos 0
    none v y = omega (arith, ints)

on_horizontal : (w v y x : ℤ) → v ≡ pos 0 → y ≡ pos 0 → (w *ℤ y) -ℤ (v *ℤ x) ≡ pos 0
on_horizontal w v y x e h = rw (e, h) (none w x)
  where
    none : (w x : ℤ) → (w *ℤ pos 0) -ℤ (pos 0 *ℤ x) ≡ pos 0
    none w x = omega (arith, ints)

no_gap : (x y : ℤ) → x ≡ y → y -ℤ x ≡ pos 0
no_gap x y e = omega (arith, ints)

inside : (u : Point) (s : Edge) → turn s.a s.b u ≡ pos 0 → is_before s.a u ≡ true → is_before u s.b ≡ true → strictly_inside u s ≡ true
inside u s flat from to = and_from (int_eq (turn s.a s.b u) (pos 0)) (is_before s.a u && is_before u s.b) ((Decides-int_eq (turn s.a s.b u) (pos 0)).1 flat) (and_from (is_before s.a u) (is_before u s.b) from to)

inside_vertical : (u : Point) (s : Edge) → s.a.x ≡ s.b.x → s.a.x ≡ u.x → s.a.y <ℤ u.y → u.y <ℤ s.b.y → strictly_inside u s ≡ true
inside_vertical u s vertical here from to =
    inside u s (on_line (s.b.x -ℤ s.a.x) (s.b.y -ℤ s.a.y) (u.y -ℤ s.a.y) (u.x -ℤ s.a.x) (no_gap s.a.x s.b.x vertical) (no_gap s.a.x u.x here))
    (ap is_lt (point_less_by_y s.a u here from)) (ap is_lt (point_less_by_y u s.b (sym here ∙ vertical) to))

inside_horizontal : (u : Point) (s : Edge) → s.a.y ≡ s.b.y → s.a.y ≡ u.y → s.a.x <ℤ u.x → u.x <ℤ s.b.x → strictly_inside u s ≡ true
inside_horizontal u s level here from to =
    inside u s (on_horizontal (s.b.x -ℤ s.a.x) (s.b.y -ℤ s.a.y) (u.y -ℤ s.a.y) (u.x -ℤ s.a.x) (no_gap s.a.y s.b.y level) (no_gap s.a.y u.y here))
    (ap is_lt (point_less_by_x s.a u from)) (ap is_lt (point_less_by_x u s.b to))

-- ---- rows and columns

module _ (p : RationalPoint) (k : ℤ) where
  abbrev column : Point → ℤ
  column u = pos p.q *ℤ u.x

  abbrev row : Point → ℤ
  row u = (pos p.q *ℤ u.y) +ℤ pos 1

  pub keeps_across : (u v : Point) → IsStraight (record { a = u; b = v }) → Keeps column (is_under p) k u v
  keeps_across u v h = by (rectilinear u v h)
    where
      by : (u.y ≡ v.y) ⊎ (u.x ≡ v.x) → Keeps column (is_under p) k u v
      by (inl e) = inr (ap (λ y. int_lt (pos p.q *ℤ y) p.y) e)
      by (inr e) = inl (ap (λ x. pos p.q *ℤ x) e)

  pub keeps_up : (u v : Point) → IsStraight (record { a = u; b = v }) → Keeps row (has_begun p) k u v
  keeps_up u v h = by (rectilinear u v h)
    where
      by : (u.y ≡ v.y) ⊎ (u.x ≡ v.x) → Keeps row (has_begun p) k u v
      by (inl e) = inl (ap (λ y. (pos p.q *ℤ y) +ℤ pos 1) e)
      by (inr e) = inr (ap (λ x. int_le (pos p.q *ℤ x) p.y) e)

-- of two straight steps along one line neither turns off
flat_ways : (u v w : Point) → turn u v w ≡ pos 0 → IsStraight (record { a = u; b = v }) → IsStraight (record { a = v; b = w })
    → ((u.y ≡ v.y) ⊎ (v.x ≡ w.x)) × ((u.x ≡ v.x) ⊎ (v.y ≡ w.y))
flat_ways u v w flat h k = by (rectilinear u v h) (rectilinear v w k)
  where
    same_number : (x y : ℤ) → y -ℤ x ≡ pos 0 → x ≡ y
    same_number x y e = omega (arith, ints)

    nothing_left : (m n : ℤ) → n ≡ pos 0 → m -ℤ n ≡ pos 0 → m ≡ pos 0
    nothing_left m n e f = omega (arith, ints)

    nothing_right : (m n : ℤ) → m ≡ pos 0 → m -ℤ n ≡ pos 0 → n ≡ pos 0
    nothing_right m n e f = omega (arith, ints)

    none : (x : ℤ) → pos 0 *ℤ x ≡ pos 0
    none x = omega (arith, ints)

    after_horizontal : u.y ≡ v.y → (v.x -ℤ u.x ≡ pos 0) ⊎ (w.y -ℤ u.y ≡ pos 0) → (u.x ≡ v.x) ⊎ (v.y ≡ w.y)
    after_horizontal e (inl z) = inl (same_number u.x v.x z)
    after_horizontal e (inr z) = inr (sym e ∙ same_number u.y w.y z)

    after_vertical : u.x ≡ v.x → (v.y -ℤ u.y ≡ pos 0) ⊎ (w.x -ℤ u.x ≡ pos 0) → (u.y ≡ v.y) ⊎ (v.x ≡ w.x)
    after_vertical e (inl z) = inl (same_number u.y v.y z)
    after_vertical e (inr z) = inr (sym e ∙ same_number u.x w.x z)

    by : (u.y ≡ v.y) ⊎ (u.x ≡ v.x) → (v.y ≡ w.y) ⊎ (v.x ≡ w.x) → ((u.y ≡ v.y) ⊎ (v.x ≡ w.x)) × ((u.x ≡ v.x) ⊎ (v.y ≡ w.y))
    by (inl e) (inl f) = (inl e, inr f)
    by (inr e) (inr f) = (inr f, inl e)
    by (inl e) (inr f) = (
      inl e,
      after_horizontal e
          (zero_product (v.x -ℤ u.x) (w.y -ℤ u.y)
          (nothing_left ((v.x -ℤ u.x) *ℤ (w.y -ℤ u.y)) ((v.y -ℤ u.y) *ℤ (w.x -ℤ u.x)) (ap (λ z. z *ℤ (w.x -ℤ u.x)) (no_gap u.y v.y e) ∙ none (w.x -ℤ u.x)) flat)),
    )
    by (inr e) (inl f) = (
      after_vertical e
          (zero_product (v.y -ℤ u.y) (w.x -ℤ u.x)
          (nothing_right ((v.x -ℤ u.x) *ℤ (w.y -ℤ u.y)) ((v.y -ℤ u.y) *ℤ (w.x -ℤ u.x)) (ap (λ z. z *ℤ (w.y -ℤ u.y)) (no_gap u.x v.x e) ∙ none (w.y -ℤ u.y)) flat)),
      inl e,
    )

pub thinned_cross_less : ThinnedCrossLess
thinned_cross_less p k c d all is = (
  less_thinned (crossing (column p k) (is_under p) k) (crosses_none (column p k) (is_under p) k) (λ u v. IsStraight (record { a = u; b = v })) straight_joined across c d is all,
  less_thinned (crossing (row p k) (has_begun p) k) (crosses_none (row p k) (has_begun p) k) (λ u v. IsStraight (record { a = u; b = v })) straight_joined up c d is all,
)
  where
    across : (u v w : Point) → turn u v w ≡ pos 0 → IsStraight (record { a = u; b = v }) → IsStraight (record { a = v; b = w })
        → crossing (column p k) (is_under p) k (record { a = u; b = w })
        ≤ℤ (crossing (column p k) (is_under p) k (record { a = u; b = v }) +ℤ crossing (column p k) (is_under p) k (record { a = v; b = w }))
    across u v w flat h i =
        crosses_joined (column p k) (is_under p) k u v w (keeps_across p k u v h) (keeps_across p k v w i)
        (λ e f. ⊎_elim (λ x. inl (ap (λ z. pos p.q *ℤ z) x)) (λ y. inr (ap (λ z. int_lt (pos p.q *ℤ z) p.y) y)) (flat_ways u v w flat h i).1)

    up : (u v w : Point) → turn u v w ≡ pos 0 → IsStraight (record { a = u; b = v }) → IsStraight (record { a = v; b = w })
        → crossing (row p k) (has_begun p) k (record { a = u; b = w })
        ≤ℤ (crossing (row p k) (has_begun p) k (record { a = u; b = v }) +ℤ crossing (row p k) (has_begun p) k (record { a = v; b = w }))
    up u v w flat h i =
        crosses_joined (row p k) (has_begun p) k u v w (keeps_up p k u v h) (keeps_up p k v w i)
        (λ e f. ⊎_elim (λ y. inl (ap (λ z. (pos p.q *ℤ z) +ℤ pos 1) y)) (λ x. inr (ap (λ z. int_le (pos p.q *ℤ z) p.y) x)) (flat_ways u v w flat h i).0)

-- ---- a directed edge that crosses

module _ (p : RationalPoint) (k : ℤ) (some : IsRational p) where
  positive : pos 0 <ℤ pos p.q
  positive = omega (arith, ints, some)

  record PassesUp (s : Edge) : Type 0 where
    vertical : s.a.x ≡ s.b.x
    rises : s.a.y <ℤ s.b.y
    low : (pos p.q *ℤ s.a.y) <ℤ p.y
    high : p.y ≤ℤ (pos p.q *ℤ s.b.y)

  passes_up : (s : Edge) → IsStraight s → is_before s.a s.b ≡ true → is_under p s.a ≡ not (is_under p s.b) → PassesUp s
  passes_up s straight forward sides = by (rectilinear s.a s.b straight)
    where
      not_itself : (b : Bool) → b ≡ not b → ⊥
      not_itself true e = false≢true (sym e)
      not_itself false e = false≢true e

      higher : s.a.x ≡ s.b.x → s.a.y <ℤ s.b.y
      higher e = ⊎_elim (λ l. absurd (omega (arith, ints, l, e))) (λ l. l.1) (point_less s.a s.b (before_is_less s.a s.b forward))

      bits : (a b : Bool) → is_under p s.a ≡ a → is_under p s.b ≡ b → a ≡ not b → s.a.x ≡ s.b.x → PassesUp s
      bits true false e f h vertical = record {
        vertical = vertical;
        rises = higher vertical;
        low = lt_tells (pos p.q *ℤ s.a.y) p.y e;
        high = lt_tells_not (pos p.q *ℤ s.b.y) p.y f;
      }
      bits false true e f h vertical =
          absurd
          (false≢true
          (sym e
          ∙ lt_holds (pos p.q *ℤ s.a.y) p.y
          (at_most_below (pos p.q *ℤ s.a.y) (pos p.q *ℤ s.b.y) p.y (times_le p.q s.a.y s.b.y (weak s.a.y s.b.y (higher vertical))) (lt_tells (pos p.q *ℤ s.b.y) p.y f))))
      bits true true e f h vertical = absurd (false≢true (sym h))
      bits false false e f h vertical = absurd (false≢true h)

      by : (s.a.y ≡ s.b.y) ⊎ (s.a.x ≡ s.b.x) → PassesUp s
      by (inl e) = absurd (not_itself (is_under p s.b) (sym (ap (λ y. int_lt (pos p.q *ℤ y) p.y) e) ∙ sides))
      by (inr e) = bits (is_under p s.a) (is_under p s.b) refl refl sides e

  clash_across : (s r : Edge) → IsStraight s → IsStraight r → is_before s.a s.b ≡ true → is_before r.a r.b ≡ true → s ≢ r → parted s r ≡ true → Clash (column p k) (is_under p) k s r
  clash_across s r straight_s straight_r forward_s forward_r differ parts here there =
      overlap (λ u. u.y) s r differ parts (λ e f. λ i. record { a = record { x = at i; y = e i }; b = record { x = (sym of_s.vertical ∙ (at ∙ of_r.vertical)) i; y = f i } })
      (λ u end from to. inside_vertical u s of_s.vertical (at ∙ r_end u end) from to) (λ u end from to. inside_vertical u r of_r.vertical (sym at ∙ s_end u end) from to)
      of_s.rises of_r.rises (below_of_products (pos p.q) s.a.y r.b.y (omega (arith, ints)) (below_at_most (pos p.q *ℤ s.a.y) p.y (pos p.q *ℤ r.b.y) of_s.low of_r.high))
      (below_of_products (pos p.q) r.a.y s.b.y (omega (arith, ints)) (below_at_most (pos p.q *ℤ r.a.y) p.y (pos p.q *ℤ s.b.y) of_r.low of_s.high))
    where
      at_s : (column p k s.a ≡ k) × (is_under p s.a ≡ not (is_under p s.b))
      at_s = crosses_there (column p k) (is_under p) k s here

      at_r : (column p k r.a ≡ k) × (is_under p r.a ≡ not (is_under p r.b))
      at_r = crosses_there (column p k) (is_under p) k r there

      of_s : PassesUp s
      of_s = passes_up s straight_s forward_s at_s.1

      of_r : PassesUp r
      of_r = passes_up r straight_r forward_r at_r.1

      at : s.a.x ≡ r.a.x
      at = same_of_products (pos p.q) s.a.x r.a.x positive (at_s.0 ∙ sym at_r.0)

      r_end : (u : Point) → (u ≡ r.a) ⊎ (u ≡ r.b) → r.a.x ≡ u.x
      r_end u (inl e) = sym (ap (λ z. z.x) e)
      r_end u (inr e) = of_r.vertical ∙ sym (ap (λ z. z.x) e)

      s_end : (u : Point) → (u ≡ s.a) ⊎ (u ≡ s.b) → s.a.x ≡ u.x
      s_end u (inl e) = sym (ap (λ z. z.x) e)
      s_end u (inr e) = of_s.vertical ∙ sym (ap (λ z. z.x) e)

  record PassesRight (s : Edge) : Type 0 where
    level : s.a.y ≡ s.b.y
    goes : s.a.x <ℤ s.b.x
    from : (pos p.q *ℤ s.a.x) ≤ℤ p.y
    to : p.y <ℤ (pos p.q *ℤ s.b.x)

  passes_right : (s : Edge) → IsStraight s → is_before s.a s.b ≡ true → has_begun p s.a ≡ not (has_begun p s.b) → PassesRight s
  passes_right s straight forward sides = by (rectilinear s.a s.b straight)
    where
      not_itself : (b : Bool) → b ≡ not b → ⊥
      not_itself true e = false≢true (sym e)
      not_itself false e = false≢true e

      onward : s.a.y ≡ s.b.y → s.a.x <ℤ s.b.x
      onward e = ⊎_elim (λ l. l) (λ l. absurd (omega (arith, ints, l.1, e))) (point_less s.a s.b (before_is_less s.a s.b forward))

      bits : (a b : Bool) → has_begun p s.a ≡ a → has_begun p s.b ≡ b → a ≡ not b → s.a.y ≡ s.b.y → PassesRight s
      bits true false e f h level = record {
        level = level;
        goes = onward level;
        from = le_tells (pos p.q *ℤ s.a.x) p.y e;
        to = le_tells_not (pos p.q *ℤ s.b.x) p.y f;
      }
      bits false true e f h level =
          absurd
          (false≢true
          (sym e
          ∙ le_holds (pos p.q *ℤ s.a.x) p.y
          (at_most (pos p.q *ℤ s.a.x) (pos p.q *ℤ s.b.x) p.y (times_le p.q s.a.x s.b.x (weak s.a.x s.b.x (onward level))) (le_tells (pos p.q *ℤ s.b.x) p.y f))))
      bits true true e f h level = absurd (false≢true (sym h))
      bits false false e f h level = absurd (false≢true h)

      by : (s.a.y ≡ s.b.y) ⊎ (s.a.x ≡ s.b.x) → PassesRight s
      by (inr e) = absurd (not_itself (has_begun p s.b) (sym (ap (λ x. int_le (pos p.q *ℤ x) p.y) e) ∙ sides))
      by (inl e) = bits (has_begun p s.a) (has_begun p s.b) refl refl sides e

  clash_up : (s r : Edge) → IsStraight s → IsStraight r → is_before s.a s.b ≡ true → is_before r.a r.b ≡ true → s ≢ r → parted s r ≡ true → Clash (row p k) (has_begun p) k s r
  clash_up s r straight_s straight_r forward_s forward_r differ parts here there =
      overlap (λ u. u.x) s r differ parts (λ e f. λ i. record { a = record { x = e i; y = at i }; b = record { x = f i; y = (sym of_s.level ∙ (at ∙ of_r.level)) i } })
      (λ u end from to. inside_horizontal u s of_s.level (at ∙ r_end u end) from to) (λ u end from to. inside_horizontal u r of_r.level (sym at ∙ s_end u end) from to)
      of_s.goes of_r.goes (below_of_products (pos p.q) s.a.x r.b.x (omega (arith, ints)) (at_most_below (pos p.q *ℤ s.a.x) p.y (pos p.q *ℤ r.b.x) of_s.from of_r.to))
      (below_of_products (pos p.q) r.a.x s.b.x (omega (arith, ints)) (at_most_below (pos p.q *ℤ r.a.x) p.y (pos p.q *ℤ s.b.x) of_r.from of_s.to))
    where
      at_s : (row p k s.a ≡ k) × (has_begun p s.a ≡ not (has_begun p s.b))
      at_s = crosses_there (row p k) (has_begun p) k s here

      at_r : (row p k r.a ≡ k) × (has_begun p r.a ≡ not (has_begun p r.b))
      at_r = crosses_there (row p k) (has_begun p) k r there

      of_s : PassesRight s
      of_s = passes_right s straight_s forward_s at_s.1

      of_r : PassesRight r
      of_r = passes_right r straight_r forward_r at_r.1

      one_less : (x y : ℤ) → x +ℤ pos 1 ≡ y +ℤ pos 1 → x ≡ y
      one_less x y e = omega (arith, ints)

      at : s.a.y ≡ r.a.y
      at = same_of_products (pos p.q) s.a.y r.a.y positive (one_less (pos p.q *ℤ s.a.y) (pos p.q *ℤ r.a.y) (at_s.0 ∙ sym at_r.0))

      r_end : (u : Point) → (u ≡ r.a) ⊎ (u ≡ r.b) → r.a.y ≡ u.y
      r_end u (inl e) = sym (ap (λ z. z.y) e)
      r_end u (inr e) = of_r.level ∙ sym (ap (λ z. z.y) e)

      s_end : (u : Point) → (u ≡ s.a) ⊎ (u ≡ s.b) → s.a.y ≡ u.y
      s_end u (inl e) = sym (ap (λ z. z.y) e)
      s_end u (inr e) = of_s.level ∙ sym (ap (λ z. z.y) e)

pub parted_pass_once : PartedPassOnce
parted_pass_once p k ss some straight forward differ parts = (
  one_at_most (column p k) (is_under p) k ss
      (λ i j d h l. clash_across p k some (get_or ss i d) (get_or ss j d) (straight i d (omega (arith, h, l))) (straight j d l) (forward i d (omega (arith, h, l))) (forward j d l)
      (differ i j d h l) (parts i j d h l)),
  one_at_most (row p k) (has_begun p) k ss
      (λ i j d h l. clash_up p k some (get_or ss i d) (get_or ss j d) (straight i d (omega (arith, h, l))) (straight j d l) (forward i d (omega (arith, h, l))) (forward j d l)
      (differ i j d h l) (parts i j d h l)),
)
