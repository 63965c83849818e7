-- Sums over entries that add up their counts: they are the same over the normal list.
use Rattle.std.proofs.Common.{◌≡◌, Bool, true, false, cond, List, [], ◌∷◌, ℤ, pos, ◌+ℤ◌, ◌*ℤ◌, ◌≤ℤ◌, Ordering, Less, Equal, Greater, int_eq, refl, sym, ap, ◌∙◌, arith}
use Rattle.std.proofs.lemmas.Bool.{and_parts}
use Rattle.std.proofs.lemmas.Bool.Decides.{Decides-int_eq}
use Rattle.std.proofs.lemmas.Int.{ints}
use Rattle.std.proofs.Math.IntN.{zero-*ℤ}
use Rattle.plane_base.specs.Plane.{Edge, edge_order}
use Rattle.plane_base.specs.Totals.{total}
use Rattle.plane_base.specs.Counts.{Count, Counting, Entry, boolean, unless_empty, joined, normal}
use Rattle.plane_base.specs.Balance.{IsAdditive}
use Rattle.plane_base.proofs.Facts.Numbers.Products.{sum_product}
use Rattle.plane_base.proofs.Facts.Points.Orders.{edge_equal}
use Rattle.plane_base.proofs.Facts.Maps.Normal.{joined_by}

-- g is additive in the count at each edge
module _ {C : Type 0} (kind : Counting C) (g : Edge → C → ℤ) (of_join : (s : Edge) (c d : C) → g s (kind.join c d) ≡ g s c +ℤ g s d) (of_empty : (s : Edge) (c : C) → kind.is_empty c ≡ true → g s c ≡ pos 0) where
  sum_of_unless_empty : (e : Entry C) (es : List (Entry C)) → total (λ e. g e.edge e.count) (unless_empty kind e es) ≡ g e.edge e.count +ℤ total (λ e. g e.edge e.count) es
  sum_of_unless_empty e es = by (kind.is_empty e.count) refl
    where
      nothing : (x t : ℤ) → x ≡ pos 0 → t ≡ x +ℤ t
      nothing x t h = omega (arith, ints)

      by : (empty : Bool) → kind.is_empty e.count ≡ empty → total (λ e. g e.edge e.count) (cond empty es (e ∷ es)) ≡ g e.edge e.count +ℤ total (λ e. g e.edge e.count) es
      by true h = nothing (g e.edge e.count) (total (λ e. g e.edge e.count) es) (of_empty e.edge e.count h)
      by false h = refl

  pub sum_of_joined : (e : Entry C) (es : List (Entry C)) → total (λ e. g e.edge e.count) (joined kind e es) ≡ g e.edge e.count +ℤ total (λ e. g e.edge e.count) es
  sum_of_joined e [] = sum_of_unless_empty e []
  sum_of_joined e (f ∷ rest) = by (edge_order e.edge f.edge) refl (sum_of_joined e rest)
    where
      both : (x y t : ℤ) → (x +ℤ y) +ℤ t ≡ x +ℤ (y +ℤ t)
      both x y t = omega (arith, ints)

      later : (x y t u : ℤ) → u ≡ x +ℤ t → y +ℤ u ≡ x +ℤ (y +ℤ t)
      later x y t u h = omega (arith, ints)

      by : (o : Ordering) → edge_order e.edge f.edge ≡ o → total (λ e. g e.edge e.count) (joined kind e rest) ≡ g e.edge e.count +ℤ total (λ e. g e.edge e.count) rest
          → total (λ e. g e.edge e.count) (joined_by kind o e f rest) ≡ g e.edge e.count +ℤ (g f.edge f.count +ℤ total (λ e. g e.edge e.count) rest)
      by Less h k = sum_of_unless_empty e (f ∷ rest)
      by Equal h k =
          sum_of_unless_empty (record { edge = f.edge; count = kind.join e.count f.count }) rest
          ∙ ap (λ x. x +ℤ total (λ e. g e.edge e.count) rest) (of_join f.edge e.count f.count)
          ∙ both (g f.edge e.count) (g f.edge f.count) (total (λ e. g e.edge e.count) rest)
          ∙ ap (λ s. g s e.count +ℤ (g f.edge f.count +ℤ total (λ e. g e.edge e.count) rest)) (sym (edge_equal e.edge f.edge h))
      by Greater h k = later (g e.edge e.count) (g f.edge f.count) (total (λ e. g e.edge e.count) rest) (total (λ e. g e.edge e.count) (joined kind e rest)) k

  pub sum_of_normal : (es : List (Entry C)) → total (λ e. g e.edge e.count) (normal kind es) ≡ total (λ e. g e.edge e.count) es
  sum_of_normal [] = refl
  sum_of_normal (e ∷ es) = sum_of_joined e (normal kind es) ∙ ap (λ t. g e.edge e.count +ℤ t) (sum_of_normal es)

module _ {C : Type 0} {kind : Counting C} {n : C → ℤ} (additive : IsAdditive kind n) where
  -- each count times a number of its edge
  pub linear_sum_normal : (weight : Edge → ℤ) (es : List (Entry C)) → total (λ e. n e.count *ℤ weight e.edge) (normal kind es) ≡ total (λ e. n e.count *ℤ weight e.edge) es
  linear_sum_normal weight =
      sum_of_normal kind (λ s c. n c *ℤ weight s)
      (λ s c d. ap (λ x. x *ℤ weight s) (additive.of_join c d) ∙ sum_product (n c) (n d) (weight s))
      (λ s c h. ap (λ x. x *ℤ weight s) (additive.of_empty c h) ∙ zero-*ℤ (weight s))

  -- the counts of the edges that pass a test
  pub passing_sum_normal : (test : Edge → Bool) (es : List (Entry C)) → total (λ e. cond (test e.edge) (n e.count) (pos 0)) (normal kind es) ≡ total (λ e. cond (test e.edge) (n e.count) (pos 0)) es
  passing_sum_normal test = sum_of_normal kind (λ s c. cond (test s) (n c) (pos 0)) (λ s. join (test s)) (λ s. empty (test s))
    where
      join : (passed : Bool) (c d : C) → cond passed (n (kind.join c d)) (pos 0) ≡ cond passed (n c) (pos 0) +ℤ cond passed (n d) (pos 0)
      join true c d = additive.of_join c d
      join false c d = refl

      empty : (passed : Bool) (c : C) → kind.is_empty c ≡ true → cond passed (n c) (pos 0) ≡ pos 0
      empty true c h = additive.of_empty c h
      empty false c h = refl

-- ---- the readings of Boolean counts

pub boolean_empty : (c : Count) → boolean.is_empty c ≡ true → (c.subject ≡ pos 0) × (c.clip ≡ pos 0)
boolean_empty c h =
    let both = and_parts (int_eq c.subject (pos 0)) (int_eq c.clip (pos 0)) h in
    ((Decides-int_eq c.subject (pos 0)).0 both.0, (Decides-int_eq c.clip (pos 0)).0 both.1)

pub subject_additive : IsAdditive boolean (λ c. c.subject)
subject_additive = record { of_join = λ c d. refl; of_turned = λ c. refl; of_empty = λ c h. (boolean_empty c h).0 }

pub clip_additive : IsAdditive boolean (λ c. c.clip)
clip_additive = record { of_join = λ c d. refl; of_turned = λ c. refl; of_empty = λ c h. (boolean_empty c h).1 }

-- ---- sums that look at the edges alone

-- a weight of edges that is never below 0 adds up to no more over the normal list
module _ {C : Type 0} (kind : Counting C) (weight : Edge → ℤ) (bounded : (s : Edge) → pos 0 ≤ℤ weight s) where
  weight_of_unless_empty : (e : Entry C) (es : List (Entry C)) → total (λ e. weight e.edge) (unless_empty kind e es) ≤ℤ (weight e.edge +ℤ total (λ e. weight e.edge) es)
  weight_of_unless_empty e es = by (kind.is_empty e.count)
    where
      less : (x t : ℤ) → pos 0 ≤ℤ x → t ≤ℤ (x +ℤ t)
      less x t h = omega (arith, ints)

      same : (x : ℤ) → x ≤ℤ x
      same x = omega (arith, ints)

      by : (empty : Bool) → total (λ e. weight e.edge) (cond empty es (e ∷ es)) ≤ℤ (weight e.edge +ℤ total (λ e. weight e.edge) es)
      by true = less (weight e.edge) (total (λ e. weight e.edge) es) (bounded e.edge)
      by false = same (weight e.edge +ℤ total (λ e. weight e.edge) es)

  weight_of_joined : (e : Entry C) (es : List (Entry C)) → total (λ e. weight e.edge) (joined kind e es) ≤ℤ (weight e.edge +ℤ total (λ e. weight e.edge) es)
  weight_of_joined e [] = weight_of_unless_empty e []
  weight_of_joined e (f ∷ rest) = by (edge_order e.edge f.edge) (weight_of_joined e rest)
    where
      one_less : (x y t u : ℤ) → pos 0 ≤ℤ x → u ≤ℤ (y +ℤ t) → u ≤ℤ (x +ℤ (y +ℤ t))
      one_less x y t u h k = omega (arith, ints)

      later : (x y t u : ℤ) → u ≤ℤ (x +ℤ t) → (y +ℤ u) ≤ℤ (x +ℤ (y +ℤ t))
      later x y t u h = omega (arith, ints)

      by : (o : Ordering) → total (λ e. weight e.edge) (joined kind e rest) ≤ℤ (weight e.edge +ℤ total (λ e. weight e.edge) rest)
          → total (λ e. weight e.edge) (joined_by kind o e f rest) ≤ℤ (weight e.edge +ℤ (weight f.edge +ℤ total (λ e. weight e.edge) rest))
      by Less k = weight_of_unless_empty e (f ∷ rest)
      by Equal k =
          one_less (weight e.edge) (weight f.edge) (total (λ e. weight e.edge) rest) (total (λ e. weight e.edge) (unless_empty kind (record { edge = f.edge; count = kind.join e.count f.count }) rest)) (bounded e.edge)
          (weight_of_unless_empty (record { edge = f.edge; count = kind.join e.count f.count }) rest)
      by Greater k = later (weight e.edge) (weight f.edge) (total (λ e. weight e.edge) rest) (total (λ e. weight e.edge) (joined kind e rest)) k

  pub weight_sum_normal : (es : List (Entry C)) → total (λ e. weight e.edge) (normal kind es) ≤ℤ total (λ e. weight e.edge) es
  weight_sum_normal [] = omega (arith, ints)
  weight_sum_normal (e ∷ es) = chain (total (λ e. weight e.edge) (normal kind (e ∷ es))) (weight e.edge) (total (λ e. weight e.edge) (normal kind es)) (total (λ e. weight e.edge) es) (weight_of_joined e (normal kind es)) (weight_sum_normal es)
    where
      chain : (s x t u : ℤ) → s ≤ℤ (x +ℤ t) → t ≤ℤ u → s ≤ℤ (x +ℤ u)
      chain s x t u h k = omega (arith, ints)
