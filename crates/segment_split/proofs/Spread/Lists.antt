-- Lists of entries and their edges, lists joined end to end, and counts of what passes a test.
use Rattle.std.proofs.Common.{◌≡◌, ℕ, ◌+◌, Bool, true, false, cond, ltb, get_or, List, [], ◌∷◌, ◌++◌, length, flat_map, count_by, Contains, All, refl, sym, ap₂, ◌∙◌, arith}
use Rattle.std.proofs.lemmas.Bool.{ltb-false}
use Rattle.std.proofs.lemmas.List.{length-map, get_or-map}
use Rattle.std.proofs.lemmas.List.Elements.{All-nil, All-cons, All-head, All-tail, All-append}
use Rattle.std.proofs.lemmas.List.Sums.{sum_by-cons}
use Rattle.plane_base.specs.Plane.{Edge, is_before}
use Rattle.plane_base.specs.Counts.{Entry}
use Rattle.segment_split.specs.Passes.{edges_of}

abbrev pub IsDirectedEdge : Edge → Type 0
IsDirectedEdge s = is_before s.a s.b ≡ true

pub flat_map_same : {X Y : Type 0} (f g : X → List Y) (xs : List X) → All (λ x. f x ≡ g x) xs → flat_map f xs ≡ flat_map g xs
flat_map_same f g [] h = refl
flat_map_same f g (x ∷ xs) h = ap₂ (λ ys zs. ys ++ zs) (All-head (λ x. f x ≡ g x) x xs h) (flat_map_same f g xs (All-tail (λ x. f x ≡ g x) x xs h))

pub all_flat_map : {X Y : Type 0} (P : Y → Type 0) (f : X → List Y) (xs : List X) → All (λ x. All P (f x)) xs → All P (flat_map f xs)
all_flat_map P f [] h = All-nil P
all_flat_map P f (x ∷ xs) h =
    All-append P (f x) (flat_map f xs) (All-head (λ x. All P (f x)) x xs h) (all_flat_map P f xs (All-tail (λ x. All P (f x)) x xs h))

-- the entries' edges are those of the list
pub edges_contain : {C : Type 0} (es : List (Entry C)) → All (λ e. Contains (edges_of es) e.edge) es
edges_contain {C} es k d h = (k, omega (arith, length-map es (λ (e : Entry C). e.edge)), get_or-map (λ (e : Entry C). e.edge) es k d (get_or es k d).edge h)

-- ---- what is none

module _ {X : Type 0} where
  pub count_none : (p : X → Bool) (xs : List X) → count_by p xs ≡ 0 → All (λ x. p x ≡ false) xs
  count_none p [] e = All-nil (λ x. p x ≡ false)
  count_none p (x ∷ xs) e =
      All-cons (λ x. p x ≡ false) x xs (first (p x) (count_by p xs) (sym (sum_by-cons (λ x. cond (p x) 1 0) x xs) ∙ e))
      (count_none p xs (rest (p x) (count_by p xs) (sym (sum_by-cons (λ x. cond (p x) 1 0) x xs) ∙ e)))
    where
      first : (b : Bool) (n : ℕ) → cond b 1 0 + n ≡ 0 → b ≡ false
      first true n e = absurd (omega arith)
      first false n e = refl

      rest : (b : Bool) (n : ℕ) → cond b 1 0 + n ≡ 0 → n ≡ 0
      rest true n e = absurd (omega arith)
      rest false n e = omega arith

  pub is_none : (xs : List X) → ltb 0 (length xs) ≡ false → xs ≡ []
  is_none [] e = refl
  is_none (x ∷ xs) e = let h = ltb-false 0 (length (x ∷ xs)) e in absurd (omega arith)

pub none_of_flat_map : {X Y : Type 0} (f : X → List Y) (xs : List X) → flat_map f xs ≡ [] → All (λ x. f x ≡ []) xs
none_of_flat_map f [] e = All-nil (λ x. f x ≡ [])
none_of_flat_map f (x ∷ xs) e =
    All-cons (λ x. f x ≡ []) x xs (first (f x) (flat_map f xs) e) (none_of_flat_map f xs (rest (f x) (flat_map f xs) e))
  where
    first : {Y : Type 0} (ys zs : List Y) → ys ++ zs ≡ [] → ys ≡ []
    first [] zs e = refl
    first (y ∷ ys) zs e = absurd (cc)

    rest : {Y : Type 0} (ys zs : List Y) → ys ++ zs ≡ [] → zs ≡ []
    rest [] zs e = e
    rest (y ∷ ys) zs e = absurd (cc)
