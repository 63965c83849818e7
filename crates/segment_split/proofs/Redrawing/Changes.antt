-- When joining shortens a list: where two of its entries lie on one edge. So what redrawing answers is known.
use Rattle.std.specs.Prelude.{◌≡◌, ◌≢◌, ℕ, ◌≤◌, ◌<◌, ◌↔◌, suc, Bool, true, false, cond, nat_lt, List, [], ◌∷◌, length, map, All, AllPairs}
use Rattle.std.specs.declared.cmp.Ordering.{Ordering}
use Rattle.std.specs.declared.cmp.Ordering.TheVariants.{Less, Equal, Greater}
use Rattle.std.proofs.Common.{refl, sym, ap, ◌∙◌, subst, inl, inr, ⊎_elim, arith}
use Rattle.std.proofs.lemmas.Bool.{lt-ltb}
use Rattle.std.proofs.lemmas.List.{length-map}
use Rattle.std.proofs.lemmas.List.Elements.{All-nil, All-cons, All-head, All-tail, All-weaker}
use Rattle.plane_base.specs.Plane.{Edge, edge_order}
use Rattle.plane_base.specs.Counts.{Counting, Entry, unless_empty, joined, normal}
use Rattle.plane_base.proofs.Facts.Points.Orders.{edge_total, edge_equal, less_apart, less_from_greater}
use Rattle.plane_base.proofs.Facts.Maps.Normal.{IsAbove, IsRising, AllPairs-nil, AllPairs-cons, AllPairs-head, AllPairs-tail, above_all, rising_rest, joined_by, normal_edges, normal_rising}
use Rattle.segment_split.specs.Redrawing.{MarksInPass, IsChanged}
use Rattle.segment_split.specs.SegmentViews.{AreCounted}
use Rattle.segment_split.specs.declared.solver.Precision.{Precision}

module _ {C : Type 0} (kind : Counting C) where
  -- no entry of the list lies on the edge
  abbrev IsNew : Edge → List (Entry C) → Type 0
  IsNew s es = All (λ f. s ≢ f.edge) es

  -- no two entries lie on one edge
  abbrev AreApart : List (Entry C) → Type 0
  AreApart es = AllPairs (λ e f. e.edge ≢ f.edge) es

  unless_empty_length : (e : Entry C) (es : List (Entry C)) → length (unless_empty kind e es) ≤ suc (length es)
  unless_empty_length e es = by (kind.is_empty e.count)
    where
      by : (empty : Bool) → length (cond empty es (e ∷ es)) ≤ suc (length es)
      by true = omega arith
      by false = omega arith

  joined_length : (e : Entry C) (es : List (Entry C)) → length (joined kind e es) ≤ suc (length es)
  joined_length e [] = unless_empty_length e []
  joined_length e (f ∷ rest) = by (edge_order e.edge f.edge) (joined_length e rest)
    where
      by : (o : Ordering) → length (joined kind e rest) ≤ suc (length rest) → length (joined_by kind o e f rest) ≤ suc (suc (length rest))
      by Less k = unless_empty_length e (f ∷ rest)
      by Equal k = let h = unless_empty_length (record { edge = f.edge; count = kind.join e.count f.count }) rest in omega (arith, h)
      by Greater k = omega (arith, k)

  pub normal_length : (es : List (Entry C)) → length (normal kind es) ≤ length es
  normal_length [] = omega arith
  normal_length (e ∷ es) = let h = joined_length e (normal kind es) in let k = normal_length es in omega (arith, h, k)

  -- an entry with a count on a new edge makes the list longer
  new_longer : (e : Entry C) (es : List (Entry C)) → kind.is_empty e.count ≡ false → IsNew e.edge es → length (joined kind e es) ≡ suc (length es)
  new_longer e [] h new = ap (λ b. length (cond b [] (e ∷ []))) h
  new_longer e (f ∷ rest) h new = by (edge_order e.edge f.edge) refl (new_longer e rest h (All-tail (λ g. e.edge ≢ g.edge) f rest new))
    where
      by : (o : Ordering) → edge_order e.edge f.edge ≡ o → length (joined kind e rest) ≡ suc (length rest) → length (joined_by kind o e f rest) ≡ suc (suc (length rest))
      by Less p k = ap (λ b. length (cond b (f ∷ rest) (e ∷ f ∷ rest))) h
      by Equal p k = absurd (All-head (λ g. e.edge ≢ g.edge) f rest new (edge_equal e.edge f.edge p))
      by Greater p k = ap suc k

  -- where it becomes longer, its edge is new
  longer_new : (e : Entry C) (es : List (Entry C)) → IsRising es → length (joined kind e es) ≡ suc (length es) → IsNew e.edge es
  longer_new e [] rising h = All-nil (λ g. e.edge ≢ g.edge)
  longer_new e (f ∷ rest) rising h = by (edge_order e.edge f.edge) refl (longer_new e rest (rising_rest f rest rising)) h
    where
      by : (o : Ordering) → edge_order e.edge f.edge ≡ o → (length (joined kind e rest) ≡ suc (length rest) → IsNew e.edge rest)
          → length (joined_by kind o e f rest) ≡ suc (suc (length rest)) → IsNew e.edge (f ∷ rest)
      by Less p later k =
          All-weaker (IsAbove e.edge) (λ g. e.edge ≢ g.edge) (λ g l. less_apart edge_total e.edge g.edge l) (f ∷ rest) (above_all e.edge f rest p rising)
      by Equal p later k = let l = unless_empty_length (record { edge = f.edge; count = kind.join e.count f.count }) rest in absurd (omega (arith, k, l))
      by Greater p later k =
          All-cons (λ g. e.edge ≢ g.edge) f rest
          (λ same. less_apart edge_total f.edge e.edge (less_from_greater edge_total e.edge f.edge p) (sym same))
          (later (omega (arith, k)))

  -- and what holds of all edges then holds of the entry's, and of those before
  longer_all : (P : Edge → Type 0) (e : Entry C) (es : List (Entry C)) → length (joined kind e es) ≡ suc (length es)
      → All (λ f. P f.edge) (joined kind e es) → P e.edge × All (λ f. P f.edge) es
  longer_all P e [] h all = first (kind.is_empty e.count) h all
    where
      first : (empty : Bool) → length (cond empty [] (e ∷ [])) ≡ 1 → All (λ f. P f.edge) (cond empty [] (e ∷ [])) → P e.edge × All (λ (f : Entry C). P f.edge) []
      first true k all = absurd (omega (arith, k))
      first false k all = (All-head (λ f. P f.edge) e [] all, All-nil (λ (f : Entry C). P f.edge))
  longer_all P e (f ∷ rest) h all = by (edge_order e.edge f.edge) (longer_all P e rest) h all
    where
      first : (empty : Bool) → length (cond empty (f ∷ rest) (e ∷ f ∷ rest)) ≡ suc (suc (length rest))
          → All (λ f. P f.edge) (cond empty (f ∷ rest) (e ∷ f ∷ rest)) → P e.edge × All (λ f. P f.edge) (f ∷ rest)
      first true k all = absurd (omega (arith, k))
      first false k all = (All-head (λ f. P f.edge) e (f ∷ rest) all, All-tail (λ f. P f.edge) e (f ∷ rest) all)

      by : (o : Ordering) → (length (joined kind e rest) ≡ suc (length rest) → All (λ f. P f.edge) (joined kind e rest) → P e.edge × All (λ f. P f.edge) rest)
          → length (joined_by kind o e f rest) ≡ suc (suc (length rest)) → All (λ f. P f.edge) (joined_by kind o e f rest) → P e.edge × All (λ f. P f.edge) (f ∷ rest)
      by Less later k all = first (kind.is_empty e.count) k all
      by Equal later k all = let l = unless_empty_length (record { edge = f.edge; count = kind.join e.count f.count }) rest in absurd (omega (arith, k, l))
      by Greater later k all =
          let p = later (omega (arith, k)) (All-tail (λ f. P f.edge) f (joined kind e rest) all) in
          (p.0, All-cons (λ f. P f.edge) f rest (All-head (λ f. P f.edge) f (joined kind e rest) all) p.1)

  -- A list that is as long when it is joined: of each entry, joining it made the list longer.
  longest : (e : Entry C) (es : List (Entry C)) → length (normal kind (e ∷ es)) ≡ suc (length es)
      → (length (joined kind e (normal kind es)) ≡ suc (length (normal kind es))) × (length (normal kind es) ≡ length es)
  longest e es h = let k = joined_length e (normal kind es) in let l = normal_length es in (omega (arith, h, k, l), omega (arith, h, k, l))

  edges_kept : (P : Edge → Type 0) (es : List (Entry C)) → length (normal kind es) ≡ length es → All (λ f. P f.edge) (normal kind es) → All (λ f. P f.edge) es
  edges_kept P [] h all = all
  edges_kept P (e ∷ es) h all =
      let both = longest e es h in
      let p = longer_all P e (normal kind es) both.0 all in
      All-cons (λ f. P f.edge) e es p.0 (edges_kept P es both.1 p.1)

  apart_where_as_long : (es : List (Entry C)) → length (normal kind es) ≡ length es → AreApart es
  apart_where_as_long [] h = AllPairs-nil (λ e f. e.edge ≢ f.edge)
  apart_where_as_long (e ∷ es) h =
      let both = longest e es h in
      AllPairs-cons (λ e f. e.edge ≢ f.edge) e es
      (edges_kept (λ s. e.edge ≢ s) es both.1 (longer_new e (normal kind es) (normal_rising kind es) both.0))
      (apart_where_as_long es both.1)

  as_long_where_apart : (es : List (Entry C)) → AreCounted kind es → AreApart es → length (normal kind es) ≡ length es
  as_long_where_apart [] h apart = refl
  as_long_where_apart (e ∷ es) h apart =
      let counted = λ (f : Entry C). kind.is_empty f.count ≡ false in
      let new = normal_edges kind (λ s. e.edge ≢ s) es (AllPairs-head (λ e f. e.edge ≢ f.edge) e es apart) in
      let longer = new_longer e (normal kind es) (All-head counted e es h) new in
      let rest = as_long_where_apart es (All-tail counted e es h) (AllPairs-tail (λ e f. e.edge ≢ f.edge) e es apart) in
      omega (arith, longer, rest)

  -- ---- the flag of redrawing

  -- Of a list that stands for entries, and one that stands for their normal list: so long are the two.
  module _ {X : Type 0} (f : X → Entry C) (precision : Precision) (given now : List X) (same : map f now ≡ normal kind (map f given))
      (n m : ℕ) (so_long : n ≡ length now) (given_long : m ≡ length given) where
    n_is : n ≡ length (normal kind (map f given))
    n_is = so_long ∙ (sym (length-map now f) ∙ ap length same)

    m_is : m ≡ length (map f given)
    m_is = given_long ∙ sym (length-map given f)

    pub changed_by_joining : AreCounted kind (map f given) → n < m → (nat_lt n m ≡ true) ↔ IsChanged kind precision (map f given)
    changed_by_joining counted less =
        (λ _. inl (λ apart. let h = as_long_where_apart (map f given) counted apart in omega (arith, less, h, n_is, m_is)), λ _. lt-ltb n m less)

    pub changed_by_marking : (changed : Bool) → m ≤ n → ((changed ≡ true) ↔ ((k : ℕ) × MarksInPass kind precision (map f now) k))
        → (changed ≡ true) ↔ IsChanged kind precision (map f given)
    changed_by_marking changed as_long is =
        let shorter = normal_length (map f given) in
        let apart : AreApart (map f given) = apart_where_as_long (map f given) (omega (arith, as_long, shorter, n_is, m_is)) in
        let marked : (changed ≡ true) ↔ ((k : ℕ) × MarksInPass kind precision (normal kind (map f given)) k) =
        subst (λ l. (changed ≡ true) ↔ ((k : ℕ) × MarksInPass kind precision l k)) same is in
        (λ up. inr (marked.0 up), λ c. ⊎_elim (λ level. absurd (level apart)) marked.1 c)
