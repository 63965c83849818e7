-- Lines in the middle of the sweep: what runs along each, by how far the sweep came.
use Rattle.std.proofs.Common.{◌≡◌, ℕ, zero, suc, ◌<◌, Bool, true, false, cond, List, [], ◌∷◌, ◌++◌, All, Contains, Option, ⊎_elim, subst, ℤ, pos, ◌+ℤ◌, ◌≤ℤ◌, ◌<ℤ◌, int_lt, refl, sym, ap, ◌∙◌, arith}
use Rattle.std.proofs.lemmas.Int.{ints}
use Rattle.std.proofs.lemmas.Bool.{false≢true}
use Rattle.std.proofs.lemmas.List.Elements.{All-head, All-tail, All-weaker}
use Rattle.plane_base.specs.Plane.{Point}
use Rattle.plane_base.specs.Counts.{Count, Entry}
use Rattle.plane_base.specs.Totals.{total}
use Rattle.plane_base.proofs.Facts.Lists.Totals.{total_append, total_zero_on, total_pointwise_on, total_permutation, total_monotone_on}
use Rattle.segment_split.specs.Stops.{LineView}
use Rattle.segment_split.specs.Sweeps.{one_if, subject_if, clip_if, Runs, reached, Cut}
use Rattle.segment_split.proofs.Whole.Neighbours.{contained, contains_no}

abbrev pub kept : Bool → ℤ → ℤ
kept b n = cond b n (pos 0)

-- ---- sums over what was reached

module _ {X : Type 0} (g : X → Bool) (w : X → ℤ) where
  none : (xs : List X) → All (λ x. g x ≡ false) xs → total (λ x. kept (g x) (w x)) xs ≡ pos 0
  none xs h = total_zero_on (λ x. kept (g x) (w x)) xs (All-weaker (λ x. g x ≡ false) (λ x. kept (g x) (w x) ≡ pos 0) (λ x e. ap (λ b. kept b (w x)) e) xs h)

  all : (xs : List X) → All (λ x. g x ≡ true) xs → total (λ x. kept (g x) (w x)) xs ≡ total w xs
  all xs h = total_pointwise_on (λ x. kept (g x) (w x)) w xs (All-weaker (λ x. g x ≡ true) (λ x. kept (g x) (w x) ≡ w x) (λ x e. ap (λ b. kept b (w x)) e) xs h)

  pub total_reached : (before behind : List X) → All (λ x. g x ≡ false) before → All (λ x. g x ≡ true) behind → total (λ x. kept (g x) (w x)) (before ++ behind) ≡ total w behind
  total_reached before behind h k = total_append (λ x. kept (g x) (w x)) before behind ∙ by (total (λ x. kept (g x) (w x)) before) (total (λ x. kept (g x) (w x)) behind) (total w behind) (none before h) (all behind k)
    where
      by : (m n t : ℤ) → m ≡ pos 0 → n ≡ t → m +ℤ n ≡ t
      by m n t e f = omega (arith, ints, e, f)

-- what is gone of the weights, and what came
abbrev pub gone_of : Option Point → (Entry Count → ℤ) → Entry Count → ℤ
gone_of t w e = kept (reached t e.edge.a) (w e)

abbrev pub come_of : Option Point → (Entry Count → ℤ) → Entry Count → ℤ
come_of t w e = kept (reached t e.edge.b) (w e)

module _ (es : List (Entry Count)) (t u : Option Point) (before gone ahead come : List (Entry Count)) (cut : Cut es t u before gone ahead come) where
  pub gone_total : (w : Entry Count → ℤ) → total (gone_of t w) es ≡ total w gone
  gone_total w = ap (total (gone_of t w)) cut.firsts ∙ total_reached (λ e. reached t e.edge.a) w before gone cut.not_gone cut.is_gone

  pub come_total : (w : Entry Count → ℤ) → total (come_of u w) es ≡ total w come
  come_total w = sym (total_permutation (come_of u w) es (ahead ++ come) cut.seconds) ∙ total_reached (λ e. reached u e.edge.b) w ahead come cut.not_come cut.is_come

  pub by_reach : (test : Entry Count → Bool) (l : LineView) → Runs test gone come l
      → (pos l.running +ℤ total (gone_of t (one_if test)) es ≡ total (come_of u (one_if test)) es)
      × (l.sum.subject +ℤ total (gone_of t (subject_if test)) es ≡ total (come_of u (subject_if test)) es)
      × (l.sum.clip +ℤ total (gone_of t (clip_if test)) es ≡ total (come_of u (clip_if test)) es)
  by_reach test l h = (moved (pos l.running) (one_if test) h.running, moved l.sum.subject (subject_if test) h.subject, moved l.sum.clip (clip_if test) h.clip)
    where
      moved : (n : ℤ) (w : Entry Count → ℤ) → n +ℤ total w gone ≡ total w come → n +ℤ total (gone_of t w) es ≡ total (come_of u w) es
      moved n w e = ap (λ m. n +ℤ m) (gone_total w) ∙ (e ∙ sym (come_total w))

-- ---- some key runs along a line

-- the key began before the sweep, and comes to it
pub record RunsOn (es : List (Entry Count)) (t u : Option Point) (test : Entry Count → Bool) : Type 0 where
  pub key : Entry Count
  pub listed : Contains es key
  pub passes : test key ≡ true
  pub first : reached t key.edge.a ≡ false
  pub second : reached u key.edge.b ≡ true

pub greater_at : {X : Type 0} (f g : X → ℤ) (xs : List X) → total f xs <ℤ total g xs → (x : X) × Contains xs x × (f x <ℤ g x)
greater_at f g [] l = absurd (omega (arith, ints, l))
greater_at {X} f g (x ∷ xs) l = by (int_lt (f x) (g x)) refl (greater_at f g xs)
  where
    by : (b : Bool) → int_lt (f x) (g x) ≡ b → (total f xs <ℤ total g xs → (y : X) × Contains xs y × (f y <ℤ g y)) → (y : X) × Contains (x ∷ xs) y × (f y <ℤ g y)
    by true e rest = (x, (zero, omega arith, refl), omega (arith, ints, e))
    by false e rest =
        let later = rest (omega (arith, ints, e, l)) in
        (later.0, (suc later.1.0, omega (arith, later.1.1), later.1.2), later.2)

pub total_less : {X : Type 0} (f g : X → ℤ) (xs : List X) (x : X) → All (λ y. f y ≤ℤ g y) xs → Contains xs x → f x <ℤ g x → total f xs <ℤ total g xs
total_less f g [] x h at l = absurd (contains_no x at)
total_less f g (y ∷ xs) x h at l =
    let first : f y ≤ℤ g y = All-head (λ y. f y ≤ℤ g y) y xs h in
    let rest = All-tail (λ y. f y ≤ℤ g y) y xs h in
    ⊎_elim (λ e. here (f y) (g y) (total f xs) (total g xs) (subst (λ z. f z <ℤ g z) (sym e) l) (total_monotone_on f g xs rest)) (λ k. there (f y) (g y) (total f xs) (total g xs) first (total_less f g xs x rest k l)) (contained y xs x at)
  where
    here : (a b s u : ℤ) → a <ℤ b → s ≤ℤ u → (a +ℤ s) <ℤ (b +ℤ u)
    here a b s u h k = omega (arith, ints, h, k)

    there : (a b s u : ℤ) → a ≤ℤ b → s <ℤ u → (a +ℤ s) <ℤ (b +ℤ u)
    there a b s u h k = omega (arith, ints, h, k)

module _ (es : List (Entry Count)) (t u : Option Point) (test : Entry Count → Bool) (n : ℕ) (runs : pos n +ℤ total (gone_of t (one_if test)) es ≡ total (come_of u (one_if test)) es) where
  pub some_runs : 0 < n → RunsOn es t u test
  some_runs l =
      let found = greater_at (gone_of t (one_if test)) (come_of u (one_if test)) es (fewer n (total (gone_of t (one_if test)) es) (total (come_of u (one_if test)) es) l runs) in
      let told = by (test found.0) (reached t found.0.edge.a) (reached u found.0.edge.b) found.2 in
      record { key = found.0; listed = found.1; passes = told.0; first = told.1.0; second = told.1.1 }
    where
      fewer : (n : ℕ) (g c : ℤ) → 0 < n → pos n +ℤ g ≡ c → g <ℤ c
      fewer n g c l e = omega (arith, ints, l, e)

      by : (p a b : Bool) → kept a (cond p (pos 1) (pos 0)) <ℤ kept b (cond p (pos 1) (pos 0)) → (p ≡ true) × ((a ≡ false) × (b ≡ true))
      by true false true l = (refl, (refl, refl))
      by true false false l = absurd (omega (arith, ints, l))
      by true true true l = absurd (omega (arith, ints, l))
      by true true false l = absurd (omega (arith, ints, l))
      by false false true l = absurd (omega (arith, ints, l))
      by false false false l = absurd (omega (arith, ints, l))
      by false true true l = absurd (omega (arith, ints, l))
      by false true false l = absurd (omega (arith, ints, l))

  pub is_running : All (λ e. reached t e.edge.a ≡ true → reached u e.edge.b ≡ true) es → RunsOn es t u test → 0 < n
  is_running both on = some n (total (gone_of t (one_if test)) es) (total (come_of u (one_if test)) es) runs
      (total_less (gone_of t (one_if test)) (come_of u (one_if test)) es on.key
      (All-weaker (λ e. reached t e.edge.a ≡ true → reached u e.edge.b ≡ true) (λ e. gone_of t (one_if test) e ≤ℤ come_of u (one_if test) e) (λ e h. at_most (test e) (reached t e.edge.a) (reached u e.edge.b) h) es both)
      on.listed (less (test on.key) (reached t on.key.edge.a) (reached u on.key.edge.b) on.passes on.first on.second))
    where
      some : (n : ℕ) (g c : ℤ) → pos n +ℤ g ≡ c → g <ℤ c → 0 < n
      some n g c e l = omega (arith, ints, e, l)

      at_most : (p a b : Bool) → (a ≡ true → b ≡ true) → kept a (cond p (pos 1) (pos 0)) ≤ℤ kept b (cond p (pos 1) (pos 0))
      at_most true true true h = omega (arith, ints)
      at_most true true false h = absurd (false≢true (h refl))
      at_most true false true h = omega (arith, ints)
      at_most true false false h = omega (arith, ints)
      at_most false true true h = omega (arith, ints)
      at_most false true false h = omega (arith, ints)
      at_most false false true h = omega (arith, ints)
      at_most false false false h = omega (arith, ints)

      less : (p a b : Bool) → p ≡ true → a ≡ false → b ≡ true → kept a (cond p (pos 1) (pos 0)) <ℤ kept b (cond p (pos 1) (pos 0))
      less p a b e f g = rw (e, f, g) (omega (arith, ints))
