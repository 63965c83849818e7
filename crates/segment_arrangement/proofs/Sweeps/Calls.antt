-- How often a sweep calls the collection of live segments.
use Rattle.std.proofs.Common.{◌≡◌, ℕ, ◌+◌, ◌-◌, ◌*◌, ◌<◌, ◌≤◌, ◌<ℤ◌, int_lt, Bool, true, false, cond, ◌||◌, List, [], ◌∷◌, ◌++◌, length, take, drop, get_or, All, Contains, refl, sym, ap, ap₂, ◌∙◌, arith}
use Rattle.std.specs.List.{list_any}
use Rattle.std.specs.Ordering.{is_eq}
use Rattle.std.specs.declared.cmp.Ordering.TheVariants.{Less}
use Rattle.std.proofs.Math.Nat.{mul-le-mul_right}
use Rattle.std.proofs.Math.Seq.{take-add}
use Rattle.std.proofs.lemmas.Int.{ints}
use Rattle.std.proofs.lemmas.List.{take-append-drop, length-take, length-drop}
use Rattle.std.proofs.lemmas.List.Sums.{sum_by-append, count_by_more_yes, count_by-le-length}
use Rattle.std.proofs.lemmas.List.Folds.{list_any-append, list_any_none}
use Rattle.std.proofs.lemmas.List.Elements.{All-head, All-tail, All-contains}
use Rattle.i_tree.specs.Steps.{Counts, CountsAtMost}
use Rattle.plane_base.specs.Plane.{Point, point_order}
use Rattle.plane_base.specs.Counts.{Count, Entry}
use Rattle.plane_base.proofs.Facts.Points.Orders.{point_total, point_itself, greater_from_less}
use Rattle.segment_arrangement.specs.FanLaws.{starts_at}
use Rattle.segment_arrangement.specs.Sweeps.{starts_of, slanted, calls_of, MakesCalls}
use Rattle.segment_arrangement.specs.SweepViews.{AreStartsAt}
use Rattle.segment_arrangement.proofs.Facts.GreatestEntry.{Contains-head, Contains-later}
use Rattle.segment_arrangement.proofs.Sweeps.Seams.{All-from, IsSeam}

-- ---- edges that are not vertical

abbrev is_slanted : Entry Count → ℕ
is_slanted e = cond (int_lt e.edge.a.x e.edge.b.x) 1 0

module _ (es : List (Entry Count)) where
  pub slanted_rises : (m n : ℕ) → m ≤ n → slanted (take m es) ≤ slanted (take n es)
  slanted_rises m n l =
      let e : m + (n - m) ≡ n = omega (arith, l) in
      let f : slanted (take n es) ≡ slanted (take m es) + slanted (take (n - m) (drop m es)) = ap (λ k. slanted (take k es)) (sym e) ∙ (ap slanted (take-add m (n - m) es) ∙ sum_by-append is_slanted (take m es) (take (n - m) (drop m es))) in
      omega (arith, f)

  pub slanted_whole : (n : ℕ) → slanted (take n es) ≤ slanted es
  slanted_whole n =
      let f : slanted es ≡ slanted (take n es) + slanted (drop n es) = ap slanted (sym (take-append-drop n es)) ∙ sum_by-append is_slanted (take n es) (drop n es) in
      omega (arith, f)

  pub slanted_more : (n : ℕ) (d : Entry Count) → n < length es → (get_or es n d).edge.a.x <ℤ (get_or es n d).edge.b.x → slanted (take (n + 1) es) ≡ slanted (take n es) + 1
  slanted_more n d within right = let yes : int_lt (get_or es n d).edge.a.x (get_or es n d).edge.b.x ≡ true = grind (arith, ints, right) in count_by_more_yes (λ e. int_lt e.edge.a.x e.edge.b.x) es n d within yes

-- ---- points at which edges start

or_false : (b : Bool) → (b || false) ≡ b
or_false true = refl
or_false false = refl

starts_of-append : (xs ys : List (Entry Count)) → ((e f : Entry Count) → Contains xs e → Contains ys f → starts_at e.edge.a f ≡ false) → starts_of (xs ++ ys) ≡ starts_of xs + starts_of ys
starts_of-append [] ys apart = omega arith
starts_of-append (x ∷ xs) ys apart =
    let rest = starts_of-append xs ys (λ e f c. apart e f (Contains-later x xs e c)) in
    let own = list_any-append (starts_at x.edge.a) xs ys ∙ (ap (λ b. list_any (starts_at x.edge.a) xs || b) (list_any_none (starts_at x.edge.a) ys (All-from (λ f. starts_at x.edge.a f ≡ false) ys (λ f. apart x f (Contains-head x xs)))) ∙ or_false (list_any (starts_at x.edge.a) xs)) in
    ap₂ (λ b n. cond b 0 1 + n) own rest ∙ omega arith

one_start : (v : Point) (x : Entry Count) (xs : List (Entry Count)) → All (λ e. e.edge.a ≡ v) (x ∷ xs) → starts_of (x ∷ xs) ≡ 1
one_start v x [] same = refl
one_start v x (y ∷ ys) same =
    let rest = All-tail (λ e. e.edge.a ≡ v) x (y ∷ ys) same in
    let level : starts_at x.edge.a y ≡ true = ap₂ (λ p q. is_eq (point_order p q)) (All-head (λ e. e.edge.a ≡ v) y ys rest) (All-head (λ e. e.edge.a ≡ v) x (y ∷ ys) same) ∙ ap is_eq (point_itself v) in
    ap (λ b. cond (b || list_any (starts_at x.edge.a) ys) 0 1 + starts_of (y ∷ ys)) level ∙ (ap (λ n. 0 + n) (one_start v y ys rest))

-- a point more at each fan
module _ (es : List (Entry Count)) where
  pub one_more_start : (v : Point) (from to : ℕ) → from < to → to ≤ length es → AreStartsAt es v from to → starts_of (take to es) ≡ starts_of (take from es) + 1
  one_more_start v from to some within starts =
      let e : from + (to - from) ≡ to = omega (arith, some) in
      ap (λ k. starts_of (take k es)) (sym e)
      ∙ (ap starts_of (take-add from (to - from) es)
      ∙ (starts_of-append (take from es) (take (to - from) (drop from es)) apart
      ∙ ap (λ n. starts_of (take from es) + n) (single (take (to - from) (drop from es)) starts.here (omega (arith, some, within, length-take (to - from) (drop from es), length-drop from es)))))
    where
      apart : (e f : Entry Count) → Contains (take from es) e → Contains (take (to - from) (drop from es)) f → starts_at e.edge.a f ≡ false
      apart e f c d =
          ap (λ p. is_eq (point_order p e.edge.a)) (All-contains (λ g. g.edge.a ≡ v) (take (to - from) (drop from es)) f starts.here d)
          ∙ ap is_eq (greater_from_less point_total e.edge.a v (All-contains (λ g. point_order g.edge.a v ≡ Less) (take from es) e starts.before c))

      single : (xs : List (Entry Count)) → All (λ e. e.edge.a ≡ v) xs → 0 < length xs → starts_of xs ≡ 1
      single [] same l = absurd (omega (arith, l))
      single (x ∷ xs) same l = one_start v x xs same

  pub calls_whole : (n : ℕ) → IsSeam es n → calls_of (take n es) ≤ calls_of es
  calls_whole n seam =
      let f : starts_of es ≡ starts_of (take n es) + starts_of (drop n es) =
      ap starts_of (sym (take-append-drop n es)) ∙ starts_of-append (take n es) (drop n es) (λ e f c d. ap is_eq (greater_from_less point_total e.edge.a f.edge.a (seam e f c d))) in
      let h = slanted_whole es n in
      omega (arith, f, h)

-- ---- comparisons

pub no_call : (old : Counts) (m n most : ℕ) → m ≤ n → MakesCalls old old m n most
no_call old m n most l = let p : m * most ≤ n * most = mul-le-mul_right most l in record { never_falls = omega arith; bound = omega (arith, p); pairs = refl }

pub one_call : (old new : Counts) (k m n most : ℕ) → CountsAtMost old new k → k ≤ most → m + 1 ≤ n → MakesCalls old new m n most
one_call old new k m n most made l more =
    let p : (m + 1) * most ≤ n * most = mul-le-mul_right most more in
    let q : (m + 1) * most ≡ m * most + most = omega arith in
    record { never_falls = made.never_falls; bound = omega (arith, made.bound, p, q, l); pairs = made.pairs }

pub and_then : (a b c : Counts) (m n o most : ℕ) → MakesCalls a b m n most → MakesCalls b c n o most → MakesCalls a c m o most
and_then a b c m n o most first second = record {
  never_falls = omega (arith, first.never_falls, second.never_falls);
  bound = omega (arith, first.bound, second.bound);
  pairs = second.pairs ∙ first.pairs;
}

pub no_more_than : (a b : Counts) (m n o most : ℕ) → MakesCalls a b m n most → n ≤ o → MakesCalls a b m o most
no_more_than a b m n o most made l = let p : n * most ≤ o * most = mul-le-mul_right most l in record { never_falls = made.never_falls; bound = omega (arith, made.bound, p); pairs = made.pairs }

pub beside : (a b : Counts) (k m n most : ℕ) → MakesCalls a b m n most → MakesCalls a b (k + m) (k + n) most
beside a b k m n most made =
    let p : (k + m) * most ≡ k * most + m * most = omega arith in
    let q : (k + n) * most ≡ k * most + n * most = omega arith in
    record { never_falls = made.never_falls; bound = omega (arith, made.bound, p, q); pairs = made.pairs }

pub in_all : (a b : Counts) (n o most : ℕ) → MakesCalls a b 0 n most → n ≤ o → CountsAtMost a b (o * most)
in_all a b n o most made l =
    let p : n * most ≤ o * most = mul-le-mul_right most l in
    let q : 0 * most ≡ 0 = omega arith in
    record { never_falls = made.never_falls; bound = omega (arith, made.bound, p, q); pairs = made.pairs }

-- ---- in all

starts_of-le : (es : List (Entry Count)) → starts_of es ≤ length es
starts_of-le [] = omega arith
starts_of-le (e ∷ rest) = by (list_any (starts_at e.edge.a) rest) (starts_of-le rest) where
  by : (b : Bool) → starts_of rest ≤ length rest → cond b 0 1 + starts_of rest ≤ length (e ∷ rest)
  by true l = omega (arith, l)
  by false l = omega (arith, l)

-- no more than two calls for each edge
pub calls_of-le : (es : List (Entry Count)) → calls_of es ≤ 2 * length es
calls_of-le es = omega (arith, starts_of-le es, count_by-le-length (λ e. int_lt e.edge.a.x e.edge.b.x) es)

-- so 4nk comparisons, where each call makes 2k
pub with_tree : (a b : Counts) (calls n k : ℕ) → calls ≤ 2 * n → CountsAtMost a b (calls * (2 * k)) → CountsAtMost a b (4 * n * k)
with_tree a b calls n k few made =
    let p : calls * (2 * k) ≤ 2 * n * (2 * k) = mul-le-mul_right (2 * k) few in
    let q : 2 * n * (2 * k) ≡ 4 * n * k = omega arith in
    record { never_falls = made.never_falls; bound = omega (arith, made.bound, p, q); pairs = made.pairs }
