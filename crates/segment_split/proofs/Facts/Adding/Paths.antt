-- Paths laid step by step, and how many edges are laid.
use Rattle.std.specs.Prelude.{◌≡◌, ℤ, Bool, true, ◌&&◌, ℕ, suc, ◌+◌, ◌<◌, ◌≤◌, List, [], ◌∷◌, ◌++◌, length, map, take, drop}
use Rattle.std.specs.declared.cmp.Ordering.{Ordering}
use Rattle.std.specs.declared.cmp.Ordering.TheVariants.{Less, Equal, Greater}
use Rattle.std.proofs.Common.{refl, sym, ap, ap₂, ◌∙◌, append_assoc, append-nil, get_or, ◌⊎◌, inl, inr, is_eq, int_cmp, arith}
use Rattle.std.proofs.Math.Seq.{split_at}
use Rattle.std.proofs.Math.ListN.{get_or-map}
use Rattle.std.proofs.lemmas.Bool.{and_parts}
use Rattle.std.proofs.lemmas.List.{take_more, length-map, length-append}
use Rattle.plane_base.specs.Plane.{Point, point_order}
use Rattle.plane_base.specs.Counts.{Counting, Entry, lay}
use Rattle.plane_base.specs.Given.{laid_path, closed, laid}
use Rattle.plane_base.specs.Views.{point_of}
use Rattle.plane_base.specs.declared.point.IntPoint.{IntPoint}
use Rattle.segment_split.specs.Data.{MayBeTurned, LaysWith}
use Rattle.plane_base.proofs.Facts.Points.Orders.{int_equal, is_equal, point_itself}
use Rattle.plane_base.proofs.Facts.Maps.Laying.{lay_by}
use Rattle.plane_base.proofs.Facts.Maps.Given.{laid_inner, laid_closing}

-- ---- how many

module _ {C D : Type 0} (kind : Counting C) (other : Counting D) (c : C) (d : D) where
  pub lay_length : (u v : Point) → length (lay kind u v c) ≡ length (lay other u v d)
  lay_length u v = by (point_order u v)
    where
      by : (o : Ordering) → length (lay_by kind o u v c) ≡ length (lay_by other o u v d)
      by Less = refl
      by Equal = refl
      by Greater = refl

  laid_path_length : (path : List Point) → length (laid_path kind c path) ≡ length (laid_path other d path)
  laid_path_length [] = refl
  laid_path_length (p ∷ []) = refl
  laid_path_length (p ∷ q ∷ rest) =
      length-append (lay kind p q c) (laid_path kind c (q ∷ rest))
      ∙ ap₂ (λ m n. m + n) (lay_length p q) (laid_path_length (q ∷ rest))
      ∙ sym (length-append (lay other p q d) (laid_path other d (q ∷ rest)))

  -- as many edges are laid whatever they count
  pub laid_length : (contour : List Point) → length (laid kind c contour) ≡ length (laid other d contour)
  laid_length contour = laid_path_length (closed contour)

-- a step lays one edge, or none
pub lay_few : {C : Type 0} (kind : Counting C) (c : C) (u v : Point) → length (lay kind u v c) ≤ 1
lay_few kind c u v = by (point_order u v)
  where
    by : (o : Ordering) → length (lay_by kind o u v c) ≤ 1
    by Less = omega arith
    by Equal = omega arith
    by Greater = omega arith

-- ---- an edge with its datum

-- points whose coordinates are told to be equal
module _ {D : Type 0} (value : D → ℤ) (cmp : D → D → Ordering) (eq : D → D → Bool) (ordered : (a b : D) → cmp a b ≡ int_cmp (value a) (value b))
    (matches : (a b : D) → eq a b ≡ is_eq (cmp a b)) where
  equal_values : (a b : D) → eq a b ≡ true → value a ≡ value b
  equal_values a b h = int_equal (value a) (value b) (sym (ordered a b) ∙ is_equal (cmp a b) (sym (matches a b) ∙ h))

  pub equal_points : (p q : IntPoint D) → (eq p.x q.x && eq p.y q.y) ≡ true → point_of value p ≡ point_of value q
  equal_points p q h =
      let both = and_parts (eq p.x q.x) (eq p.y q.y) h in
      ap₂ (λ (x y : ℤ). record { x = x; y = y }) (equal_values p.x q.x both.0) (equal_values p.y q.y both.1)

module _ {C D : Type 0} (kind : Counting (C × D)) (joins : Bool) (turns : D → D → Type 0) (u v : Point) (c : C) (d : D) where
  -- between equal points nothing is laid
  pub lays_nothing : (es : List (Entry (C × D))) → u ≡ v → LaysWith kind (MayBeTurned joins turns) u v c d es es
  lays_nothing es same = (
    d,
    ((λ j. refl, inl refl), λ ahead. refl),
    sym (append-nil es) ∙ ap (λ l. es ++ l) (sym (ap (λ o. lay_by kind o u v (c, d)) (ap (point_order u) (sym same) ∙ point_itself u))),
  )

  -- what is laid alone is laid behind others
  pub laid_behind : (old laid new : List (Entry (C × D))) → LaysWith kind (MayBeTurned joins turns) u v c d [] laid → new ≡ old ++ laid
      → LaysWith kind (MayBeTurned joins turns) u v c d old new
  laid_behind old laid new (e, has, is) behind = (e, has, behind ∙ ap (λ l. old ++ l) is)

-- ---- a step more

-- which place follows in a contour of so many points
abbrev pub IsNext : ℕ → ℕ → ℕ → Type 0
IsNext n i next = ((i + 1 < n) × (next ≡ i + 1)) ⊎ ((n ≤ i + 1) × (next ≡ 0))

module _ {C : Type 0} (kind : Counting C) (c : C) where
  -- the step to the next point, and those from there on
  pub step_round : {X : Type 0} (f : X → Point) (xs : List X) (i next : ℕ) (from to : X) → i < length xs → IsNext (length xs) i next
      → from ≡ get_or xs i from → to ≡ get_or xs next to
      → laid_path kind c (drop i (closed (map f xs))) ≡ lay kind (f from) (f to) c ++ laid_path kind c (drop (i + 1) (closed (map f xs)))
  step_round f xs i next from to inside (inl h) here there = laid_inner kind c f xs i next from to h.1 (omega (arith, h.0, h.1)) here there
  step_round f xs i next from to inside (inr h) here there =
      laid_closing kind c f xs i from to (omega (arith, h.0)) here (there ∙ ap (λ n. get_or xs n to) h.1)

  laid_to : (before : List Point) (from to : Point)
      → laid_path kind c (before ++ from ∷ to ∷ []) ≡ laid_path kind c (before ++ from ∷ []) ++ lay kind from to c
  laid_to [] from to = append-nil (lay kind from to c)
  laid_to (p ∷ []) from to =
      ap (λ l. lay kind p from c ++ l) (append-nil (lay kind from to c)) ∙ ap (λ l. l ++ lay kind from to c) (sym (append-nil (lay kind p from c)))
  laid_to (p ∷ q ∷ rest) from to =
      ap (λ l. lay kind p q c ++ l) (laid_to (q ∷ rest) from to)
      ∙ sym (append_assoc (lay kind p q c) (laid_path kind c ((q ∷ rest) ++ from ∷ [])) (lay kind from to c))

  -- the first point alone lays nothing
  pub laid_first : (path : List Point) → laid_path kind c (take 1 path) ≡ []
  laid_first [] = refl
  laid_first (p ∷ rest) = refl

  module _ {X : Type 0} (f : X → Point) (xs : List X) (i j : ℕ) (from to : X)
      (on : i ≡ j + 1) (inside : i < length xs) (here : from ≡ get_or xs j from) (next : to ≡ get_or xs i to) where
    place : (k : ℕ) (x : X) → x ≡ get_or xs k x → f x ≡ get_or (map f xs) k (f x)
    place k x is = ap f is ∙ sym (get_or-map f xs k x)

    front_to : take i (map f xs) ≡ take j (map f xs) ++ f from ∷ []
    front_to =
        ap (λ n. take n (map f xs)) on
        ∙ take_more (map f xs) j (f from) (omega (arith, length-map xs f))
        ∙ ap (λ p. take j (map f xs) ++ p ∷ []) (sym (place j from here))

    pub laid_so_far : laid_path kind c (take i (map f xs)) ≡ laid_path kind c (take j (map f xs) ++ f from ∷ [])
    laid_so_far = ap (laid_path kind c) front_to

    pub step_more : laid_path kind c (take (i + 1) (map f xs)) ≡ laid_path kind c (take i (map f xs)) ++ lay kind (f from) (f to) c
    step_more =
        ap (laid_path kind c)
        (take_more (map f xs) i (f to) (omega (arith, length-map xs f))
        ∙ ap₂ (λ l p. l ++ p ∷ []) front_to (sym (place i to next))
        ∙ append_assoc (take j (map f xs)) (f from ∷ []) (f to ∷ []))
        ∙ laid_to (take j (map f xs)) (f from) (f to)
        ∙ ap (λ l. l ++ lay kind (f from) (f to) c) (sym laid_so_far)

    pub parted_at : map f xs ≡ take j (map f xs) ++ f from ∷ f to ∷ drop (suc i) (map f xs)
    parted_at =
        split_at (map f xs) i (f to) (omega (arith, length-map xs f))
        ∙ ap₂ (λ l p. l ++ p ∷ drop (suc i) (map f xs)) front_to (sym (place i to next))
        ∙ append_assoc (take j (map f xs)) (f from ∷ []) (f to ∷ drop (suc i) (map f xs))
