-- Each crossing is one of a pair of edges, and so no more crossings are met than there are pairs that may be looked at.
use Rattle.std.proofs.Common.{◌≡◌, ℕ, ◌+◌, ◌≤◌, Bool, true, false, cond, ◌&&◌, ◌||◌, nat_lt, List, [], ◌∷◌, length, All, AllPairs, Contains, sum_by, count_by, ◌⊎◌, inl, inr, ⊎_elim, ℤ, ◌<ℤ◌, ◌≤ℤ◌, int_eq, int_lt, int_le, Less, refl, sym, ap, ap₂, subst, ◌∙◌, arith}
use Rattle.std.proofs.lemmas.Int.{ints}
use Rattle.std.proofs.lemmas.Bool.Decides.{Decides-int_eq}
use Rattle.std.proofs.lemmas.List.Elements.{All-head, All-tail, All-weaker, All-map}
use Rattle.std.proofs.lemmas.List.Sums.{sum_by-cons, sum_by-le-sum_by, get_or-le-sum_by}
use Rattle.plane_base.specs.Plane.{Point, Edge, is_before, point_order}
use Rattle.plane_base.specs.Counts.{Count, Entry}
use Rattle.plane_base.proofs.Facts.Crossings.Tests.{both_true}
use Rattle.plane_base.proofs.Facts.Maps.Normal.{AllPairs-head, AllPairs-tail}
use Rattle.segment_split.specs.Passes.{edges_of}
use Rattle.segment_split.specs.LineLaws.{PassesUpThrough, PassesHorizontalThrough, IsCrossing}
use Rattle.segment_split.specs.StepBounds.{x_range, share_point, pairs_by, all_pairs, most_by_columns, most_pairs}
use Rattle.segment_split.specs.Sweeps.{AreInOrder, Ticked}
use Rattle.segment_split.specs.declared.solver.Strategy.TheVariants as strategy
use Rattle.segment_split.proofs.Passes.PairCounts.{pairs_among_all}
use Rattle.segment_split.proofs.Passes.Columns.{pairs_in_columns}
use Rattle.segment_split.proofs.Whole.Neighbours.{contained, contains_no, not_itself}
use Rattle.segment_split.proofs.Stops.Rows.{same_height}

-- ---- sums over pairs

abbrev pairs_sum : (Edge → Edge → ℕ) → List Edge → ℕ
pairs_sum w [] = 0
pairs_sum w (s ∷ es) = sum_by (w s) es + pairs_sum w es

pairs_as_sum : (test : Edge → Edge → Bool) (es : List Edge) → pairs_by test es ≡ pairs_sum (λ s t. cond (test s t) 1 0) es
pairs_as_sum test [] = refl
pairs_as_sum test (s ∷ es) = ap (λ n. count_by (test s) es + n) (pairs_as_sum test es)

sum_added : (f g : Edge → ℕ) (es : List Edge) → sum_by (λ s. f s + g s) es ≡ sum_by f es + sum_by g es
sum_added f g [] = refl
sum_added f g (s ∷ es) =
    let all = sum_by-cons (λ s. f s + g s) s es in
    let one = sum_by-cons f s es in
    let other = sum_by-cons g s es in
    let rest = sum_added f g es in
    omega (arith, all, one, other, rest)

pairs_added : (v w : Edge → Edge → ℕ) (es : List Edge) → pairs_sum (λ s t. v s t + w s t) es ≡ pairs_sum v es + pairs_sum w es
pairs_added v w [] = refl
pairs_added v w (s ∷ es) =
    let here = sum_added (v s) (w s) es in
    let rest = pairs_added v w es in
    omega (arith, here, rest)

pairs_no_more : (v w : Edge → Edge → ℕ) (es : List Edge) → ((s t : Edge) → v s t ≤ w s t) → pairs_sum v es ≤ pairs_sum w es
pairs_no_more v w [] h = omega arith
pairs_no_more v w (s ∷ es) h =
    let here = sum_by-le-sum_by (v s) (w s) es (h s) in
    let rest = pairs_no_more v w es h in
    omega (arith, here, rest)

-- ---- pairs that cross at a point

abbrev passes_up : Edge → Point → Bool
passes_up s c = int_eq s.a.x c.x && (int_eq s.b.x c.x && (int_lt s.a.y c.y && int_lt c.y s.b.y))

abbrev passes_horizontal : Edge → Point → Bool
passes_horizontal s c = int_eq s.a.y c.y && (int_eq s.b.y c.y && (int_lt s.a.x c.x && int_lt c.x s.b.x))

abbrev cross_so : Edge → Edge → Point → Bool
cross_so s t c = passes_up s c && passes_horizontal t c

abbrev cross_at : Edge → Edge → Point → Bool
cross_at s t c = cross_so s t c || cross_so t s c

less_is : (x y : ℤ) → x <ℤ y → int_lt x y ≡ true
less_is x y l = grind (arith, ints, l)

up_is : (s : Edge) (c : Point) → PassesUpThrough s c → passes_up s c ≡ true
up_is s c h = rw (same_height s.a.x c.x h.first, same_height s.b.x c.x h.second, less_is s.a.y c.y h.below, less_is c.y s.b.y h.above) refl

horizontal_is : (s : Edge) (c : Point) → PassesHorizontalThrough s c → passes_horizontal s c ≡ true
horizontal_is s c h = rw (same_height s.a.y c.y h.first, same_height s.b.y c.y h.second, less_is s.a.x c.x h.left, less_is c.x s.b.x h.right) refl

up_tells : (s : Edge) (c : Point) → passes_up s c ≡ true → PassesUpThrough s c
up_tells s c e =
    let k = both_true (int_eq s.a.x c.x) (int_eq s.b.x c.x && (int_lt s.a.y c.y && int_lt c.y s.b.y)) e in
    let l = both_true (int_eq s.b.x c.x) (int_lt s.a.y c.y && int_lt c.y s.b.y) k.1 in
    let m = both_true (int_lt s.a.y c.y) (int_lt c.y s.b.y) l.1 in
    record { first = (Decides-int_eq s.a.x c.x).0 k.0; second = (Decides-int_eq s.b.x c.x).0 l.0; below = less s.a.y c.y m.0; above = less c.y s.b.y m.1 }
  where
    less : (x y : ℤ) → int_lt x y ≡ true → x <ℤ y
    less x y e = omega (arith, ints, e)

horizontal_tells : (s : Edge) (c : Point) → passes_horizontal s c ≡ true → PassesHorizontalThrough s c
horizontal_tells s c e =
    let k = both_true (int_eq s.a.y c.y) (int_eq s.b.y c.y && (int_lt s.a.x c.x && int_lt c.x s.b.x)) e in
    let l = both_true (int_eq s.b.y c.y) (int_lt s.a.x c.x && int_lt c.x s.b.x) k.1 in
    let m = both_true (int_lt s.a.x c.x) (int_lt c.x s.b.x) l.1 in
    record { first = (Decides-int_eq s.a.y c.y).0 k.0; second = (Decides-int_eq s.b.y c.y).0 l.0; left = less s.a.x c.x m.0; right = less c.x s.b.x m.1 }
  where
    less : (x y : ℤ) → int_lt x y ≡ true → x <ℤ y
    less x y e = omega (arith, ints, e)

record CrossSo (s t : Edge) (c : Point) : Type 0 where
  up : PassesUpThrough s c
  level : PassesHorizontalThrough t c

so_tells : (s t : Edge) (c : Point) → cross_so s t c ≡ true → CrossSo s t c
so_tells s t c e = let k = both_true (passes_up s c) (passes_horizontal t c) e in record { up = up_tells s c k.0; level = horizontal_tells t c k.1 }

at_tells : (s t : Edge) (c : Point) → cross_at s t c ≡ true → CrossSo s t c ⊎ CrossSo t s c
at_tells s t c e = by (cross_so s t c) refl e
  where
    by : (b : Bool) → cross_so s t c ≡ b → (b || cross_so t s c) ≡ true → CrossSo s t c ⊎ CrossSo t s c
    by true f g = inl (so_tells s t c f)
    by false f g = inr (so_tells t s c g)

so_at : (s t : Edge) (c : Point) → PassesUpThrough s c → PassesHorizontalThrough t c → cross_at s t c ≡ true
so_at s t c up level = ap₂ (λ a b. (a && b) || cross_so t s c) (up_is s c up) (horizontal_is t c level)

so_at_other : (s t : Edge) (c : Point) → PassesUpThrough t c → PassesHorizontalThrough s c → cross_at s t c ≡ true
so_at_other s t c up level = ap₂ (λ a b. cross_so s t c || (a && b)) (up_is t c up) (horizontal_is s c level) ∙ either (cross_so s t c)
  where
    either : (b : Bool) → (b || true) ≡ true
    either true = refl
    either false = refl

both_ways : (s : Edge) (c d : Point) → PassesUpThrough s c → PassesHorizontalThrough s d → ⊥
both_ways s c d up level = none s.a.y c.y s.b.y d.y up.below up.above level.first level.second
  where
    none : (a c b d : ℤ) → a <ℤ c → c <ℤ b → a ≡ d → b ≡ d → ⊥
    none a c b d k l e f = omega (arith, ints, k, l, e, f)

-- two edges cross at one point
at_one : (s t : Edge) (c d : Point) → cross_at s t c ≡ true → cross_at s t d ≡ true → c ≡ d
at_one s t c d e f = ⊎_elim (λ k. ⊎_elim (λ l. same s t k l) (λ l. absurd (both_ways s c d k.up l.level)) (at_tells s t d f)) (λ k. ⊎_elim (λ l. absurd (both_ways s d c l.up k.level)) (λ l. same t s k l) (at_tells s t d f)) (at_tells s t c e)
  where
    same : (s t : Edge) → CrossSo s t c → CrossSo s t d → c ≡ d
    same s t k l = let x = sym k.up.first ∙ l.up.first in let y = sym k.level.first ∙ l.level.first in λ i. record { x = x i; y = y i }

-- and their ranges of x share it
share_x : (s t : Edge) (c : Point) → cross_at s t c ≡ true → share_point (x_range s) (x_range t) ≡ true
share_x s t c e =
    ⊎_elim (λ k. both (s.a.x) (t.b.x) (t.a.x) (s.b.x) (before_right s.a.x c.x t.b.x k.up.first k.level.right) (left_before t.a.x c.x s.b.x k.level.left k.up.second))
    (λ k. both (s.a.x) (t.b.x) (t.a.x) (s.b.x) (left_before s.a.x c.x t.b.x k.level.left k.up.second) (before_right t.a.x c.x s.b.x k.up.first k.level.right)) (at_tells s t c e)
  where
    before_right : (a c b : ℤ) → a ≡ c → c <ℤ b → a ≤ℤ b
    before_right a c b e l = omega (arith, ints, e, l)

    left_before : (a c b : ℤ) → a <ℤ c → b ≡ c → a ≤ℤ b
    left_before a c b l e = omega (arith, ints, l, e)

    at_most : (x y : ℤ) → x ≤ℤ y → int_le x y ≡ true
    at_most x y l = grind (arith, ints, l)

    both : (a b c d : ℤ) → a ≤ℤ b → c ≤ℤ d → (int_le a b && int_le c d) ≡ true
    both a b c d k l = rw (at_most a b k, at_most c d l) refl

-- ---- how many

none_counted : {X : Type 0} (test : X → Bool) (xs : List X) → All (λ x. test x ≡ false) xs → count_by test xs ≡ 0
none_counted test [] h = refl
none_counted test (x ∷ xs) h =
    let parts = sum_by-cons (λ x. cond (test x) 1 0) x xs in
    let here = ap {B = ℕ} (λ (b : Bool). cond b 1 0) (All-head (λ x. test x ≡ false) x xs h) in
    let rest = none_counted test xs (All-tail (λ x. test x ≡ false) x xs h) in
    omega (arith, parts, here, rest)

some_counted : {X : Type 0} (test : X → Bool) (xs : List X) (x : X) → Contains xs x → test x ≡ true → 1 ≤ count_by test xs
some_counted test xs x at e =
    let least = get_or-le-sum_by (λ x. cond (test x) 1 0) xs at.0 x at.1 in
    let here = ap {B = ℕ} (λ (b : Bool). cond b 1 0) (ap test at.2 ∙ e) in
    omega (arith, least, here)

-- a pair crosses at one of several points at most
one_of_points : (s t : Edge) (cs : List Point) → AllPairs (λ p q. point_order p q ≡ Less) cs → count_by (cross_at s t) cs ≤ cond (share_point (x_range s) (x_range t)) 1 0
one_of_points s t [] rising = omega arith
one_of_points s t (c ∷ cs) rising = by (cross_at s t c) refl (one_of_points s t cs (AllPairs-tail (λ p q. point_order p q ≡ Less) c cs rising))
  where
    parts : count_by (cross_at s t) (c ∷ cs) ≡ cond (cross_at s t c) 1 0 + count_by (cross_at s t) cs
    parts = sum_by-cons (λ c. cond (cross_at s t c) 1 0) c cs

    other : cross_at s t c ≡ true → (d : Point) → point_order c d ≡ Less → (b : Bool) → cross_at s t d ≡ b → b ≡ false
    other e d l false f = refl
    other e d l true f = absurd (not_itself c (ap (point_order c) (at_one s t c d e f) ∙ l))

    by : (b : Bool) → cross_at s t c ≡ b → count_by (cross_at s t) cs ≤ cond (share_point (x_range s) (x_range t)) 1 0 → count_by (cross_at s t) (c ∷ cs) ≤ cond (share_point (x_range s) (x_range t)) 1 0
    by false e rest = let here = ap {B = ℕ} (λ (b : Bool). cond b 1 0) e in omega (arith, parts, here, rest)
    by true e rest =
        let here = ap {B = ℕ} (λ (b : Bool). cond b 1 0) e in
        let shared = ap {B = ℕ} (λ (b : Bool). cond b 1 0) (share_x s t c e) in
        let none = none_counted (cross_at s t) cs (All-weaker (λ d. point_order c d ≡ Less) (λ d. cross_at s t d ≡ false) (λ d l. other e d l (cross_at s t d) refl) cs (AllPairs-head (λ p q. point_order p q ≡ Less) c cs rising)) in
        omega (arith, parts, here, shared, none)

-- some pair crosses at a crossing
some_pair : (c : Point) (es : List Edge) (u v : Edge) → Contains es u → Contains es v → PassesUpThrough u c → PassesHorizontalThrough v c → 1 ≤ pairs_by (λ s t. cross_at s t c) es
some_pair c [] u v at there up level = absurd (contains_no u at)
some_pair c (s ∷ es) u v at there up level = by (contained s es u at) (contained s es v there) (some_pair c es u v)
  where
    by : (s ≡ u) ⊎ Contains es u → (s ≡ v) ⊎ Contains es v → (Contains es u → Contains es v → PassesUpThrough u c → PassesHorizontalThrough v c → 1 ≤ pairs_by (λ s t. cross_at s t c) es)
        → 1 ≤ count_by (λ t. cross_at s t c) es + pairs_by (λ s t. cross_at s t c) es
    by (inl e) (inl f) rest = absurd (both_ways u c c up (subst (λ z. PassesHorizontalThrough z c) (sym f ∙ e) level))
    by (inl e) (inr l) rest =
        let one = some_counted (λ t. cross_at s t c) es v l (so_at s v c (subst (λ z. PassesUpThrough z c) (sym e) up) level) in
        omega (arith, one)
    by (inr k) (inl f) rest =
        let one = some_counted (λ t. cross_at s t c) es u k (so_at_other s u c up (subst (λ z. PassesHorizontalThrough z c) (sym f) level)) in
        omega (arith, one)
    by (inr k) (inr l) rest = let one = rest k l up level in omega (arith, one)

module _ (es : List Edge) where
  covered : (cs : List Point) → All (IsCrossing es) cs → length cs ≤ pairs_sum (λ s t. count_by (cross_at s t) cs) es
  covered [] h = omega arith
  covered (c ∷ cs) h =
      let here = All-head (IsCrossing es) c cs h in
      let one = some_pair c es here.0.0 here.1.0 here.0.1 here.1.1 here.0.2 here.1.2 in
      let summed = pairs_as_sum (λ s t. cross_at s t c) es in
      let rest = covered cs (All-tail (IsCrossing es) c cs h) in
      let sums = pairs_added (λ s t. cond (cross_at s t c) 1 0) (λ s t. count_by (cross_at s t) cs) es in
      let whole =
      pairs_no_more (λ s t. cond (cross_at s t c) 1 0 + count_by (cross_at s t) cs) (λ s t. count_by (cross_at s t) (c ∷ cs)) es
      (λ s t. let parts = sum_by-cons (λ c. cond (cross_at s t c) 1 0) c cs in omega (arith, parts)) in
      omega (arith, one, summed, rest, sums, whole)

  pub share_pairs : (cs : List Point) → AllPairs (λ p q. point_order p q ≡ Less) cs → All (IsCrossing es) cs → length cs ≤ pairs_by (λ s t. share_point (x_range s) (x_range t)) es
  share_pairs cs rising h =
      let all = covered cs h in
      let each = pairs_no_more (λ s t. count_by (cross_at s t) cs) (λ s t. cond (share_point (x_range s) (x_range t)) 1 0) es (λ s t. one_of_points s t cs rising) in
      let summed = pairs_as_sum (λ s t. share_point (x_range s) (x_range t)) es in
      omega (arith, all, each, summed)

  crossings_few : All (λ s. is_before s.a s.b ≡ true) es → (cs : List Point) → AllPairs (λ p q. point_order p q ≡ Less) cs → All (IsCrossing es) cs → length cs ≤ most_pairs strategy.Auto es
  crossings_few directed cs rising h = by (nat_lt (length es) 64)
    where
      by : (b : Bool) → length cs ≤ cond b (all_pairs es) (most_by_columns es)
      by true = let shared = share_pairs cs rising h in let most = pairs_among_all (λ s t. share_point (x_range s) (x_range t)) es in omega (arith, shared, most)
      by false = let shared = share_pairs cs rising h in let most = pairs_in_columns es directed in omega (arith, shared, most)

-- So many pairs may be counted.
pub ticks_few : (es : List (Entry Count)) → AreInOrder es → (ps : List Point) (first now : ℕ) → Ticked es ps first now → (first ≤ now) × (now ≤ first + most_pairs strategy.Auto (edges_of es))
ticks_few es h ps first now ticked =
    let most = crossings_few (edges_of es) (All-map (λ s. is_before s.a s.b ≡ true) (λ (e : Entry Count). e.edge) es h.directed) ticked.crossings ticked.rising ticked.only in
    let number = ticked.number in
    (omega (arith, number), omega (arith, number, most))
