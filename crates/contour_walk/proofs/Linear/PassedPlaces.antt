-- Ways over the passed places of a ring.
use Rattle.std.proofs.Common.{◌≡◌, ◌⊎◌, inl, inr, ℕ, ◌+◌, ◌-◌, ◌<◌, ◌≤◌, Bool, true, false, List, [], ◌∷◌, length, get_or, set, All, length-set, sym, ap, ◌∙◌, subst, arith}
use Rattle.std.proofs.lemmas.Bool.{cases_lt, cases_order, false≢true}
use Rattle.std.proofs.lemmas.List.{get_or-set_same, get_or-set_other, get_or_default}
use Rattle.segment_arrangement.specs.declared.graph.VisitState.{VisitState}
use Rattle.segment_arrangement.specs.declared.graph.VisitState.TheVariants.{Skipped}
use Rattle.contour_walk.specs.declared.walk.spoke.Spoke.{Spoke}
use Rattle.contour_walk.specs.LinearWalks.{is_left}
use Rattle.contour_walk.specs.NodeRings.{IsPassed, IsLeftAt, LeadAhead, LeadBack, IsBefore, IsNextPlace}

module _ (n : ℕ) (passed : ℕ → Type 0) where
  same_place : (i j : ℕ) → passed i → i ≡ j → passed j
  same_place i j h e = subst passed e h

  -- ---- ahead

  module _ (ahead : List ℕ) (lead : LeadAhead n passed ahead) (at over : ℕ) (inside : at < n) (is : over ≡ get_or ahead at 0) (there : passed at) where
    pub step_over : (i : ℕ) → at ≤ i → i < over → passed i
    step_over i l m = by (cases_order i at)
      where
        by : (i ≡ at) ⊎ ((i < at) ⊎ (at < i)) → passed i
        by (inl e) = same_place at i there (sym e)
        by (inr (inl less)) = absurd (omega (arith, l, less))
        by (inr (inr more)) = lead.between at i inside more (omega (arith, m, is))

    module _ (more : over < n) (gone : passed over) (further : ℕ) (leads : further ≡ get_or ahead over 0) where
      pub step_further : (i : ℕ) → at ≤ i → i < further → passed i
      step_further i l m = by (cases_order i over)
        where
          by : (i ≡ over) ⊎ ((i < over) ⊎ (over < i)) → passed i
          by (inl e) = same_place over i gone (sym e)
          by (inr (inl less)) = step_over i l less
          by (inr (inr after)) = lead.between over i more after (omega (arith, m, leads))

      pub further_later : at < further
      further_later =
          let first = lead.later at inside in
          let second = lead.later over more in
          omega (arith, first, second, is, leads)

      pub further_within : further ≤ n
      further_within = let second = lead.within over more in omega (arith, second, leads)

      pub ahead_longer : LeadAhead n passed (set ahead at further)
      ahead_longer = record {
        beside = length-set ahead at further ∙ lead.beside;
        later = λ i l. later i l (cases_order i at);
        within = λ i l. within i l (cases_order i at);
        between = λ i j l m k. between i j l m k (cases_order i at);
      }
        where
          long : at < length ahead
          long = omega (arith, inside, lead.beside)

          here : (i : ℕ) → i ≡ at → get_or (set ahead at further) i 0 ≡ further
          here i e = ap (λ i. get_or (set ahead at further) i 0) e ∙ get_or-set_same ahead at further 0 long

          other : (i : ℕ) → (i ≡ at → ⊥) → get_or (set ahead at further) i 0 ≡ get_or ahead i 0
          other i d = get_or-set_other ahead at i further 0 d

          later : (i : ℕ) → i < n → (i ≡ at) ⊎ ((i < at) ⊎ (at < i)) → i < get_or (set ahead at further) i 0
          later i l (inl e) = let h = here i e in let k = further_later in omega (arith, h, k, e)
          later i l (inr (inl m)) = let h = other i (λ e. absurd (omega (arith, e, m))) in let k = lead.later i l in omega (arith, h, k)
          later i l (inr (inr m)) = let h = other i (λ e. absurd (omega (arith, e, m))) in let k = lead.later i l in omega (arith, h, k)

          within : (i : ℕ) → i < n → (i ≡ at) ⊎ ((i < at) ⊎ (at < i)) → get_or (set ahead at further) i 0 ≤ n
          within i l (inl e) = let h = here i e in let k = further_within in omega (arith, h, k)
          within i l (inr (inl m)) = let h = other i (λ e. absurd (omega (arith, e, m))) in let k = lead.within i l in omega (arith, h, k)
          within i l (inr (inr m)) = let h = other i (λ e. absurd (omega (arith, e, m))) in let k = lead.within i l in omega (arith, h, k)

          between : (i j : ℕ) → i < n → i < j → j < get_or (set ahead at further) i 0 → (i ≡ at) ⊎ ((i < at) ⊎ (at < i)) → passed j
          between i j l m k (inl e) = let h = here i e in step_further j (omega (arith, m, e)) (omega (arith, k, h))
          between i j l m k (inr (inl b)) = let h = other i (λ e. absurd (omega (arith, e, b))) in lead.between i j l m (omega (arith, k, h))
          between i j l m k (inr (inr b)) = let h = other i (λ e. absurd (omega (arith, e, b))) in lead.between i j l m (omega (arith, k, h))

  -- ---- back

  module _ (back : List ℕ) (lead : LeadBack n passed back) (at over : ℕ) (inside : at < n) (is : over ≡ get_or back at 0) (there : passed at) where
    pub step_back_over : (i : ℕ) → over ≤ i → i ≤ at → passed i
    step_back_over i l m = by (cases_order i at)
      where
        by : (i ≡ at) ⊎ ((i < at) ⊎ (at < i)) → passed i
        by (inl e) = same_place at i there (sym e)
        by (inr (inl less)) = lead.between at i inside (omega (arith, l, is)) less
        by (inr (inr more)) = absurd (omega (arith, m, more))

    module _ (more : 0 < over) (gone : passed (over - 1)) (further : ℕ) (leads : further ≡ get_or back (over - 1) 0) where
      before : over - 1 < n
      before = let first = lead.earlier at inside in omega (arith, first, inside, is)

      pub step_back_further : (i : ℕ) → further ≤ i → i ≤ at → passed i
      step_back_further i l m = by (cases_order i (over - 1))
        where
          by : (i ≡ over - 1) ⊎ ((i < over - 1) ⊎ (over - 1 < i)) → passed i
          by (inl e) = same_place (over - 1) i gone (sym e)
          by (inr (inl less)) = lead.between (over - 1) i before (omega (arith, l, leads)) less
          by (inr (inr after)) = step_back_over i (omega (arith, after, more)) m

      pub further_earlier : further ≤ at
      further_earlier =
          let first = lead.earlier at inside in
          let second = lead.earlier (over - 1) before in
          omega (arith, first, second, is, leads)

      pub back_longer : LeadBack n passed (set back at further)
      back_longer = record {
        beside = length-set back at further ∙ lead.beside;
        earlier = λ i l. earlier i l (cases_order i at);
        between = λ i j l m k. between i j l m k (cases_order i at);
      }
        where
          long : at < length back
          long = omega (arith, inside, lead.beside)

          here : (i : ℕ) → i ≡ at → get_or (set back at further) i 0 ≡ further
          here i e = ap (λ i. get_or (set back at further) i 0) e ∙ get_or-set_same back at further 0 long

          other : (i : ℕ) → (i ≡ at → ⊥) → get_or (set back at further) i 0 ≡ get_or back i 0
          other i d = get_or-set_other back at i further 0 d

          earlier : (i : ℕ) → i < n → (i ≡ at) ⊎ ((i < at) ⊎ (at < i)) → get_or (set back at further) i 0 ≤ i
          earlier i l (inl e) = let h = here i e in let k = further_earlier in omega (arith, h, k, e)
          earlier i l (inr (inl m)) = let h = other i (λ e. absurd (omega (arith, e, m))) in let k = lead.earlier i l in omega (arith, h, k)
          earlier i l (inr (inr m)) = let h = other i (λ e. absurd (omega (arith, e, m))) in let k = lead.earlier i l in omega (arith, h, k)

          between : (i j : ℕ) → i < n → get_or (set back at further) i 0 ≤ j → j < i → (i ≡ at) ⊎ ((i < at) ⊎ (at < i)) → passed j
          between i j l m k (inl e) = let h = here i e in step_back_further j (omega (arith, m, h)) (omega (arith, k, e))
          between i j l m k (inr (inl b)) = let h = other i (λ e. absurd (omega (arith, e, b))) in lead.between i j l (omega (arith, m, h)) k
          between i j l m k (inr (inr b)) = let h = other i (λ e. absurd (omega (arith, e, b))) in lead.between i j l (omega (arith, m, h)) k

-- ---- what is read at a place

module _ {I : Type 0} (states : List VisitState) (spokes : List (Spoke I)) (inside : All (λ s. s.place < length states) spokes) (i : ℕ) (k : Spoke I) (within : i < length spokes) where
  pub read_at : (e : VisitState) (b : Bool) → is_left (get_or states (get_or spokes i k).place e) ≡ b → (d : Spoke I) → is_left (get_or states (get_or spokes i d).place Skipped) ≡ b
  read_at e b read d =
      ap (λ (s : Spoke I). is_left (get_or states s.place Skipped)) (get_or_default spokes i d k within)
      ∙ (ap is_left (get_or_default states (get_or spokes i k).place Skipped e (inside i k within)) ∙ read)

-- ---- the first on turning

module _ {I : Type 0} (states : List VisitState) (spokes : List (Spoke I)) where
  abbrev Gone : ℕ → Type 0
  Gone i = IsPassed states spokes i

  abbrev Stays : ℕ → Type 0
  Stays i = IsLeftAt states spokes i

  pub some_spoke : (i : ℕ) → i < length spokes → Spoke I
  some_spoke i l = by spokes i l
    where
      by : (ss : List (Spoke I)) (i : ℕ) → i < length ss → Spoke I
      by [] i l = absurd (omega arith)
      by (s ∷ ss) i l = s

  pub never_both : (i : ℕ) → i < length spokes → Gone i → Stays i → ⊥
  never_both i l g s = let d = some_spoke i l in false≢true (sym (g d) ∙ s d)

  module _ (from place : ℕ) (start : from < length spokes) (gone : Gone from) where
    pub next_is_ahead : place < length spokes → Stays place → from ≤ place → ((i : ℕ) → from ≤ i → i < place → Gone i) → IsNextPlace false states spokes from place
    next_is_ahead inside left after passed = record { inside = inside; left = left; first = λ i l s. by i l s (cases_order i place) (cases_order from place) (cases_lt i from) }
      where
        by : (i : ℕ) → i < length spokes → Stays i → (i ≡ place) ⊎ ((i < place) ⊎ (place < i)) → (from ≡ place) ⊎ ((from < place) ⊎ (place < from)) → (i < from) ⊎ (from ≤ i) → (i ≡ place) ⊎ IsBefore false from place i
        by i l s (inl e) f g = inl e
        by i l s o (inl e) g = absurd (never_both from start gone (λ d. ap (λ j. is_left (get_or states (get_or spokes j d).place Skipped)) e ∙ left d))
        by i l s (inr (inl less)) (inr f) (inr g) = absurd (never_both i l (passed i g less) s)
        by i l s (inr (inl less)) (inr (inl f)) (inl g) = inr (inr (inr (g, f)))
        by i l s (inr (inr more)) (inr (inl f)) g = inr (inl (f, more))
        by i l s o (inr (inr f)) g = absurd (omega (arith, f, after))

    pub next_is_round : place < length spokes → Stays place → ((i : ℕ) → from ≤ i → i < length spokes → Gone i) → ((i : ℕ) → 0 ≤ i → i < place → Gone i) → IsNextPlace false states spokes from place
    next_is_round inside left ahead passed = record { inside = inside; left = left; first = λ i l s. by i l s (cases_order i place) (cases_lt i from) }
      where
        by : (i : ℕ) → i < length spokes → Stays i → (i ≡ place) ⊎ ((i < place) ⊎ (place < i)) → (i < from) ⊎ (from ≤ i) → (i ≡ place) ⊎ IsBefore false from place i
        by i l s (inl e) g = inl e
        by i l s o (inr g) = absurd (never_both i l (ahead i g l) s)
        by i l s (inr (inl less)) (inl g) = absurd (never_both i l (passed i (omega arith) less) s)
        by i l s (inr (inr more)) (inl g) = inr (inr (inl (more, g)))

    pub next_is_back : place < from → Stays place → ((i : ℕ) → place + 1 ≤ i → i < from → Gone i) → IsNextPlace true states spokes from place
    next_is_back before left passed = record { inside = omega (arith, before, start); left = left; first = λ i l s. by i l s (cases_order i place) (cases_order i from) }
      where
        by : (i : ℕ) → i < length spokes → Stays i → (i ≡ place) ⊎ ((i < place) ⊎ (place < i)) → (i ≡ from) ⊎ ((i < from) ⊎ (from < i)) → (i ≡ place) ⊎ IsBefore true from place i
        by i l s (inl e) f = inl e
        by i l s o (inl e) = absurd (never_both from start gone (λ d. ap (λ j. is_left (get_or states (get_or spokes j d).place Skipped)) (sym e) ∙ s d))
        by i l s (inr (inl less)) (inr f) = inr (inr (inl (less, before)))
        by i l s (inr (inr more)) (inr (inl f)) = absurd (never_both i l (passed i (omega (arith, more)) f) s)
        by i l s (inr (inr more)) (inr (inr f)) = inr (inr (inr (before, f)))

    pub next_is_back_round : place < length spokes → Stays place → ((i : ℕ) → 0 ≤ i → i < from → Gone i) → ((i : ℕ) → place + 1 ≤ i → i < length spokes → Gone i) → IsNextPlace true states spokes from place
    next_is_back_round inside left back passed = record { inside = inside; left = left; first = λ i l s. by i l s (cases_order i place) (cases_order i from) }
      where
        by : (i : ℕ) → i < length spokes → Stays i → (i ≡ place) ⊎ ((i < place) ⊎ (place < i)) → (i ≡ from) ⊎ ((i < from) ⊎ (from < i)) → (i ≡ place) ⊎ IsBefore true from place i
        by i l s (inl e) f = inl e
        by i l s o (inl e) = absurd (never_both from start gone (λ d. ap (λ j. is_left (get_or states (get_or spokes j d).place Skipped)) (sym e) ∙ s d))
        by i l s o (inr (inl f)) = absurd (never_both i l (back i (omega arith) f) s)
        by i l s (inr (inl less)) (inr (inr f)) = inr (inl (f, less))
        by i l s (inr (inr more)) (inr (inr f)) = absurd (never_both i l (passed i (omega (arith, more)) l) s)
