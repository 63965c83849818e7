-- From contour to contour downward, to an outline.
use Rattle.std.proofs.Common.{◌≡◌, ℕ, zero, suc, ◌≤◌, ◌<◌, ◌⊎◌, inl, inr, Bool, true, false, cond, List, [], ◌∷◌, filter, length, Contains, refl, sym, ap}
use Rattle.std.proofs.Common.{◌∙◌, subst, arith}
use Rattle.std.specs.Prelude.{Option, Some, None}
use Rattle.std.specs.Option.{is_some}
use Rattle.std.proofs.lemmas.Bool.{false≢true, cases_order}
use Rattle.segment_arrangement.proofs.Facts.GreatestEntry.{Contains-head, Contains-later, Contains-cases}
use Rattle.contour_walk.specs.Walks.{Border, Contour}
use Rattle.contour_walk.specs.Binding.{Owned, owned_from, contour_at, hole_owner}
use Rattle.contour_walk.specs.ShapeViews.{contour_below}
use Rattle.contour_walk.specs.BinderOwners.{owner_below}
use Rattle.contour_walk.proofs.Facts.Binding.Lists.{fewer, all_pass}
use Rattle.contour_walk.proofs.Binder.Assembly.{contour_within}
use Rattle.contour_walk.proofs.Facts.Contours.Rays.{below_none, no_owner, owner_lost, owner_found, owner_passed}

-- ---- numbers up to a bound

abbrev numbers_below : ℕ → List ℕ
numbers_below zero = []
numbers_below (suc n) = n ∷ numbers_below n

so_many : (n : ℕ) → length (numbers_below n) ≡ n
so_many zero = refl
so_many (suc n) = ap suc (so_many n)

is_number : (n h : ℕ) → h < n → Contains (numbers_below n) h
is_number zero h l = absurd (omega (arith, l))
is_number (suc n) h l = by (cases_order h n) (is_number n h)
  where
    by : (h ≡ n) ⊎ ((h < n) ⊎ (n < h)) → (h < n → Contains (numbers_below n) h) → Contains (n ∷ numbers_below n) h
    by (inl same) rest = subst (Contains (n ∷ numbers_below n)) (sym same) (Contains-head n (numbers_below n))
    by (inr (inl less)) rest = Contains-later n (numbers_below n) h (rest less)
    by (inr (inr more)) rest = absurd (omega (arith, l, more))

-- an element passes the second test alone, or the first lets all pass that the second does
module _ {X : Type 0} (p q : X → Bool) where
  new_or_old : (xs : List X) → ((x : X) × Contains xs x × (p x ≡ false) × (q x ≡ true)) ⊎ ((x : X) → Contains xs x → q x ≡ true → p x ≡ true)
  new_or_old [] = inr (λ x here. absurd (omega (arith, here.1)))
  new_or_old (y ∷ xs) = by (p y) (q y) refl refl (new_or_old xs)
    where
      old : (q y ≡ true → p y ≡ true) → ((x : X) → Contains xs x → q x ≡ true → p x ≡ true) → (x : X) → Contains (y ∷ xs) x → q x ≡ true → p x ≡ true
      old first rest x here passes = at (Contains-cases y xs x here)
        where
          at : (y ≡ x) ⊎ Contains xs x → p x ≡ true
          at (inl same) = ap p (sym same) ∙ first (ap q same ∙ passes)
          at (inr later) = rest x later passes

      by :
          (a b : Bool) → p y ≡ a → q y ≡ b → ((x : X) × Contains xs x × (p x ≡ false) × (q x ≡ true)) ⊎ ((x : X) → Contains xs x → q x ≡ true → p x ≡ true) →
          ((x : X) × Contains (y ∷ xs) x × (p x ≡ false) × (q x ≡ true)) ⊎ ((x : X) → Contains (y ∷ xs) x → q x ≡ true → p x ≡ true)
      by a b e f (inl h) = inl (h.0, Contains-later y xs h.0 h.1, h.2, h.3)
      by true b e f (inr rest) = inr (old (λ passes. e) rest)
      by false true e f (inr rest) = inl (y, Contains-head y xs, e, f)
      by false false e f (inr rest) = inr (old (λ passes. absurd (false≢true (sym f ∙ passes))) rest)

module _ (edges : List Owned) (cs : List Contour) where
  abbrev by_contour : ℕ → ℕ → Option Contour → Option ℕ
  by_contour n m r = elim r [ None ↦ None | Some d ↦ cond d.is_hole (owner_below edges cs n m) (Some m) ]

  abbrev by_number : ℕ → Option ℕ → Option ℕ
  by_number n r = elim r [ None ↦ None | Some m ↦ by_contour n m (contour_at cs m) ]

  -- ---- one step

  module _ (n k hole : ℕ) (more : k ≡ suc n) where
    one_step : owner_below edges cs k hole ≡ by_number n (contour_below edges cs hole)
    one_step = ap (λ j. owner_below edges cs j hole) more

    pub met_none : contour_below edges cs hole ≡ None → owner_below edges cs k hole ≡ None
    met_none e = one_step ∙ ap (by_number n) e

    module _ (m : ℕ) (e : contour_below edges cs hole ≡ Some m) where
      pub met_lost : contour_at cs m ≡ None → owner_below edges cs k hole ≡ None
      met_lost none = one_step ∙ (ap (by_number n) e ∙ ap (by_contour n m) none)

      pub met_outline : (d : Contour) → contour_at cs m ≡ Some d → d.is_hole ≡ false → owner_below edges cs k hole ≡ Some m
      met_outline d at f = one_step ∙ (ap (by_number n) e ∙ (ap (by_contour n m) at ∙ ap (λ b. cond b (owner_below edges cs n m) (Some m)) f))

      pub met_hole : (d : Contour) → contour_at cs m ≡ Some d → d.is_hole ≡ true → owner_below edges cs k hole ≡ owner_below edges cs n m
      met_hole d at f = one_step ∙ (ap (by_number n) e ∙ (ap (by_contour n m) at ∙ ap (λ b. cond b (owner_below edges cs n m) (Some m)) f))

  -- ---- more steps lead to the same outline

  more_steps : (n hole m : ℕ) → owner_below edges cs n hole ≡ Some m → owner_below edges cs (suc n) hole ≡ Some m
  more_steps zero hole m e = absurd (cc)
  more_steps (suc n) hole m e = by (contour_below edges cs hole) e (more_steps n)
    where
      by :
          (r : Option ℕ) → by_number n r ≡ Some m → ((h k : ℕ) → owner_below edges cs n h ≡ Some k → owner_below edges cs (suc n) h ≡ Some k)
          → by_number (suc n) r ≡ Some m
      by None e rest = absurd (cc)
      by (Some k) e rest = at (contour_at cs k) e
        where
          side : (b : Bool) → cond b (owner_below edges cs n k) (Some k) ≡ Some m → cond b (owner_below edges cs (suc n) k) (Some k) ≡ Some m
          side true e = rest k m e
          side false e = e

          at : (r : Option Contour) → by_contour n k r ≡ Some m → by_contour (suc n) k r ≡ Some m
          at None e = absurd (cc)
          at (Some d) e = side d.is_hole e

  -- ---- as many steps as there are contours are enough

  abbrev found_in : ℕ → ℕ → Bool
  found_in n hole = is_some (owner_below edges cs n hole)

  -- no hole is told more by one step more
  abbrev AreEnough : ℕ → Type 0
  AreEnough n = (hole : ℕ) → owner_below edges cs n hole ≡ owner_below edges cs (suc n) hole

  then_enough : (n : ℕ) → AreEnough n → AreEnough (suc n)
  then_enough n enough hole = by (contour_below edges cs hole)
    where
      at : (m : ℕ) (r : Option Contour) → by_contour n m r ≡ by_contour (suc n) m r
      at m None = refl
      at m (Some d) = ap (λ o. cond d.is_hole o (Some m)) (enough m)

      by : (r : Option ℕ) → by_number n r ≡ by_number (suc n) r
      by None = refl
      by (Some m) = at m (contour_at cs m)

  some_is : (r : Option ℕ) → is_some r ≡ true → (m : ℕ) × (r ≡ Some m)
  some_is None h = absurd (false≢true h)
  some_is (Some m) h = (m, refl)

  -- where all holes that have an owner in one step more have one
  none_new : (n : ℕ) → ((hole : ℕ) → found_in (suc n) hole ≡ true → found_in n hole ≡ true) → AreEnough n
  none_new n all hole = by (owner_below edges cs (suc n) hole) refl (owner_below edges cs n hole) refl
    where
      by : (r : Option ℕ) → owner_below edges cs (suc n) hole ≡ r → (o : Option ℕ) → owner_below edges cs n hole ≡ o
          → owner_below edges cs n hole ≡ owner_below edges cs (suc n) hole
      by r e (Some m) f = f ∙ sym (more_steps n hole m f)
      by None e None f = f ∙ sym e
      by (Some m) e None f = absurd (false≢true (sym (ap is_some f) ∙ all hole (ap is_some e)))

  no_owner_there : (n hole : ℕ) → contour_at cs hole ≡ None → owner_below edges cs n hole ≡ None
  no_owner_there zero hole none = refl
  no_owner_there (suc n) hole none = ap (by_number n) (below_none edges cs hole none)

  abbrev found_so_many : ℕ → ℕ
  found_so_many n = length (filter (found_in n) (numbers_below (length cs)))

  among_numbers : (n : ℕ) → ((hole : ℕ) → Contains (numbers_below (length cs)) hole → found_in (suc n) hole ≡ true → found_in n hole ≡ true) → AreEnough n
  among_numbers n all = none_new n (λ hole found. by hole found (contour_at cs hole) refl)
    where
      by : (hole : ℕ) → found_in (suc n) hole ≡ true → (r : Option Contour) → contour_at cs hole ≡ r → found_in n hole ≡ true
      by hole found None none = absurd (false≢true (sym (ap is_some (no_owner_there (suc n) hole none)) ∙ found))
      by hole found (Some c) at = all hole (is_number (length cs) hole (contour_within cs hole c at)) found

  -- each step more finds an owner that was not found, or is the last that does
  each_finds : (n : ℕ) → (n ≤ found_so_many n) ⊎ AreEnough n
  each_finds zero = inl (omega arith)
  each_finds (suc n) = by (each_finds n)
    where
      kept : (hole : ℕ) → found_in n hole ≡ true → found_in (suc n) hole ≡ true
      kept hole found = let o = some_is (owner_below edges cs n hole) found in ap is_some (more_steps n hole o.0 o.1)

      next : n ≤ found_so_many n →
          ((hole : ℕ) × Contains (numbers_below (length cs)) hole × (found_in n hole ≡ false) × (found_in (suc n) hole ≡ true))
          ⊎ ((hole : ℕ) → Contains (numbers_below (length cs)) hole → found_in (suc n) hole ≡ true → found_in n hole ≡ true) →
          (suc n ≤ found_so_many (suc n)) ⊎ AreEnough (suc n)
      next l (inl h) =
          let more = fewer (found_in n) (found_in (suc n)) (numbers_below (length cs)) h.0 (λ hole here. kept hole) h.1 h.2 h.3 in
          inl (omega (arith, l, more))
      next l (inr all) = inr (then_enough n (among_numbers n all))

      by : (n ≤ found_so_many n) ⊎ AreEnough n → (suc n ≤ found_so_many (suc n)) ⊎ AreEnough (suc n)
      by (inl l) = next l (new_or_old (found_in n) (found_in (suc n)) (numbers_below (length cs)))
      by (inr enough) = inr (then_enough n enough)

  pub enough_steps : AreEnough (length cs)
  enough_steps = by (each_finds (length cs))
    where
      full : length cs ≤ found_so_many (length cs) →
          ((hole : ℕ) × Contains (numbers_below (length cs)) hole × (found_in (length cs) hole ≡ false) × (true ≡ true))
          ⊎ ((hole : ℕ) → Contains (numbers_below (length cs)) hole → true ≡ true → found_in (length cs) hole ≡ true) → AreEnough (length cs)
      full l (inl h) =
          let less = fewer (found_in (length cs)) (λ hole. true) (numbers_below (length cs)) h.0 (λ hole here found. refl) h.1 h.2 refl in
          absurd (omega (arith, l, less, ap length (all_pass (numbers_below (length cs))), so_many (length cs)))
      full l (inr all) = among_numbers (length cs) (λ hole here found. all hole here refl)

      by : (length cs ≤ found_so_many (length cs)) ⊎ AreEnough (length cs) → AreEnough (length cs)
      by (inl l) = full l (new_or_old (found_in (length cs)) (λ hole. true) (numbers_below (length cs)))
      by (inr enough) = enough

-- ---- the owner of the definition

module _ (links : List Border) (cs : List Contour) where
  abbrev os : List Owned
  os = owned_from links zero cs

  pub owner_is : (n hole : ℕ) → hole_owner links cs n hole ≡ owner_below os cs n hole
  owner_is zero hole = refl
  owner_is (suc n) hole = by (contour_below os cs hole) refl (owner_is n)
    where
      by : (r : Option ℕ) → contour_below os cs hole ≡ r → ((h : ℕ) → hole_owner links cs n h ≡ owner_below os cs n h)
          → hole_owner links cs (suc n) hole ≡ owner_below os cs (suc n) hole
      by None e rest = no_owner links cs n (suc n) hole refl e ∙ sym (met_none os cs n (suc n) hole refl e)
      by (Some m) e rest = at (contour_at cs m) refl
        where
          side : (d : Contour) → contour_at cs m ≡ Some d → (b : Bool) → d.is_hole ≡ b → hole_owner links cs (suc n) hole ≡ owner_below os cs (suc n) hole
          side d f true g = owner_passed links cs n (suc n) hole refl m e d f g ∙ (rest m ∙ sym (met_hole os cs n (suc n) hole refl m e d f g))
          side d f false g = owner_found links cs n (suc n) hole refl m e d f g ∙ sym (met_outline os cs n (suc n) hole refl m e d f g)

          at : (r : Option Contour) → contour_at cs m ≡ r → hole_owner links cs (suc n) hole ≡ owner_below os cs (suc n) hole
          at None f = owner_lost links cs n (suc n) hole refl m e f ∙ sym (met_lost os cs n (suc n) hole refl m e f)
          at (Some d) f = side d f d.is_hole refl
