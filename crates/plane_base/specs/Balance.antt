-- Maps in which as much leaves each point as enters it.
use Rattle.std.specs.Prelude.{◌≡◌, ℤ, pos, ◌+ℤ◌, ◌-ℤ◌, ◌*ℤ◌, neg_ℤ, true, cond, List}
use Rattle.std.specs.Ordering.{is_eq}
use Rattle.plane_base.specs.Plane.{Point, point_order}
use Rattle.plane_base.specs.Counts.{Count, Counting, Entry}
use Rattle.plane_base.specs.Totals.{total}

-- A reading of counts as numbers: joined counts are added, a turned one is negated, and an empty one is 0.
pub record IsAdditive {C : Type 0} (kind : Counting C) (n : C → ℤ) : Type 0 where
  pub of_join : (c d : C) → n (kind.join c d) ≡ n c +ℤ n d
  pub of_turned : (c : C) → n (kind.turned c) ≡ neg_ℤ (n c)
  pub of_empty : (c : C) → kind.is_empty c ≡ true → n c ≡ pos 0

-- 1 at the point v, and 0 at each other
abbrev pub mark : Point → Point → ℤ
mark v p = cond (is_eq (point_order p v)) (pos 1) (pos 0)

-- the sum of what f loses along each edge, as often as the edge counts
abbrev pub fall : {C : Type 0} → (C → ℤ) → (Point → ℤ) → List (Entry C) → ℤ
fall n f es = total (λ e. n e.count *ℤ (f e.edge.a -ℤ f e.edge.b)) es

-- the counts of the edges that begin at the point are, in sum, those of the edges that end there
abbrev pub BalancedAt : {C : Type 0} → (C → ℤ) → List (Entry C) → Point → Type 0
BalancedAt n es v = fall n (mark v) es ≡ pos 0

abbrev pub IsBalanced : {C : Type 0} → (C → ℤ) → List (Entry C) → Type 0
IsBalanced n es = (v : Point) → BalancedAt n es v

-- No function of points is lost or won along all edges: the same, as proofs use it.
abbrev pub IsBalancedForAll : {C : Type 0} → (C → ℤ) → List (Entry C) → Type 0
IsBalancedForAll n es = (f : Point → ℤ) → fall n f es ≡ pos 0

-- balanced in subject and in clip
pub record IsBalancedMap (es : List (Entry Count)) : Type 0 where
  pub subject : IsBalanced (λ c. c.subject) es
  pub clip : IsBalanced (λ c. c.clip) es
