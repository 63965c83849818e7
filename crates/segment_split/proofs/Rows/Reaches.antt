-- The number of the first edge that begins past the end of another, and the reaches of edges.
use Rattle.std.specs.Prelude.{◌≡◌, ◌⊎◌, ◌+◌, ◌-◌, ◌<◌, ◌≤◌, ℕ, pos, ◌≤ℤ◌, ◌<ℤ◌, ℤ, true, List, [], ◌∷◌, ◌++◌, length, drop, All, AllPairs, slice_index_or}
use Rattle.std.specs.declared.cmp.Ordering.TheVariants.{Less}
use Rattle.std.proofs.Common.{sym, ap, ◌∙◌, subst, inl, inr, arith}
use Rattle.std.proofs.lemmas.Int.{ints}
use Rattle.std.proofs.lemmas.Bool.{cases_lt, cases_order}
use Rattle.std.proofs.lemmas.List.{get_or_default, get_or_append_left, get_or-drop}
use Rattle.std.proofs.lemmas.List.Elements.{All-contains}
use Rattle.std.proofs.Math.Seq.{get_or-append_seam, get_or-append_right}
use Rattle.plane_base.specs.Plane.{Edge, is_before, edge_order}
use Rattle.segment_split.specs.MarkLists.{IsAt}
use Rattle.segment_split.specs.Rows.{LiesOnward, IsReach, AreReaches, AreTold, reaches_of, all_reaches, IsRun, AreRuns}
use Rattle.segment_split.proofs.Passes.MarkLists.{at_same, at_contains, forward_x}
use Rattle.segment_split.proofs.Passes.Skips.{length_pushed}
use Rattle.segment_split.proofs.Rows.Laws.{ArePasts, pasts_are}

clash : (x y : ℤ) → x ≤ℤ y → y <ℤ x → ⊥
clash x y a b = omega (arith, ints)

module _ (es : List Edge) (rising : AllPairs (λ s t. edge_order s t ≡ Less) es) (ahead : All (λ s. is_before s.a s.b ≡ true) es) where
  -- a number that parts those that begin past the end from those before
  pub reach_is : (i : ℕ) (s : Edge) → IsAt es i s → (r : ℕ) → i + 1 ≤ r → r ≤ length es → ((j : ℕ) (t : Edge) → i + 1 ≤ j → j < r → IsAt es j t → t.a.x ≤ℤ s.b.x)
      → ((j : ℕ) (t : Edge) → r ≤ j → IsAt es j t → s.b.x <ℤ t.a.x) → r ≡ slice_index_or (reaches_of es) i 0
  reach_is i s at r from to near past = by (cases_order r reach)
    where
      reach : ℕ
      reach = slice_index_or (reaches_of es) i 0

      far : ArePasts es
      far = pasts_are es rising

      within : reach ≤ length es
      within = far.within i

      nth : (j : ℕ) → j < length es → IsAt es j (slice_index_or es j s)
      nth j l = (l, get_or_default es j s (slice_index_or es j s) l)

      later : reach < r → (reach < i + 1) ⊎ (i + 1 ≤ reach) → r ≡ reach
      later less (inl low) = absurd (clash s.a.x s.b.x (forward_x s (All-contains (λ s. is_before s.a s.b ≡ true) es s ahead (at_contains es i s at))) (far.past i i s s at at (omega (arith, low))))
      later less (inr high) =
          let there = nth reach (omega (arith, less, to)) in
          let t = slice_index_or es reach s in
          absurd (clash t.a.x s.b.x (near reach t high less there) (far.past i reach s t at there (omega arith)))

      by : (r ≡ reach) ⊎ ((r < reach) ⊎ (reach < r)) → r ≡ reach
      by (inl e) = e
      by (inr (inl less)) =
          let there = nth r (omega (arith, less, within)) in
          let t = slice_index_or es r s in
          absurd (clash t.a.x s.b.x (far.near i r s t at there less) (past r t (omega arith) there))
      by (inr (inr more)) = later more (cases_lt reach (i + 1))

-- one told more
pub told_more : (es : List Edge) (told : List ℕ) (s : Edge) (v : ℕ) → IsAt es (length told) s → IsReach es s v → (more : List ℕ) → more ≡ told ++ v ∷ [] → AreTold es told → AreTold es more
told_more es told s v here is more e h = record {
  short = let within = here.0 in omega (arith, long, within);
  each = λ i u at l. by i u at l (cases_lt i (length told));
}
  where
    long : length more ≡ length told + 1
    long = ap length e ∙ length_pushed told v

    by : (i : ℕ) (u : Edge) → IsAt es i u → i < length more → (i < length told) ⊎ (length told ≤ i) → IsReach es u (slice_index_or more i 0)
    by i u at l (inl less) =
        let same : slice_index_or more i 0 ≡ slice_index_or told i 0 = ap (λ ns. slice_index_or ns i 0) e ∙ get_or_append_left told (v ∷ []) 0 i less in
        subst (IsReach es u) (sym same) (h.each i u at less)
    by i u at l (inr last) =
        let level : length told ≡ i = omega (arith, l, long, last) in
        let own : slice_index_or more i 0 ≡ v = ap (λ ns. slice_index_or ns i 0) e ∙ (ap (λ n. slice_index_or (told ++ v ∷ []) n 0) (sym level) ∙ get_or-append_seam told v [] 0) in
        subst (IsReach es u) (sym own) (subst (λ w. IsReach es w v) (at_same es i s u (subst (λ n. IsAt es n s) level here) at) is)

-- those that are told, and the rest
module _ (es : List Edge) (told : List ℕ) where
  pub reach_told : (i : ℕ) → i < length told → slice_index_or (all_reaches es told) i 0 ≡ slice_index_or told i 0
  reach_told i l = get_or_append_left told (drop (length told) (reaches_of es)) 0 i l

  pub reach_untold : (i : ℕ) → length told ≤ i → slice_index_or (all_reaches es told) i 0 ≡ slice_index_or (reaches_of es) i 0
  reach_untold i l =
      let same : length told + (i - length told) ≡ i = omega (arith, l) in
      get_or-append_right told (drop (length told) (reaches_of es)) i 0 l ∙ (get_or-drop (length told) (reaches_of es) (i - length told) 0 ∙ ap (λ n. slice_index_or (reaches_of es) n 0) same)

  pub told_are : AllPairs (λ s t. edge_order s t ≡ Less) es → AreTold es told → AreReaches es (all_reaches es told)
  told_are rising h = record {
    within = λ i. bounded i (cases_lt i (length told));
    past = λ i j s t at there l. beyond i j s t at there (cases_lt i (length told)) l;
    near = λ i j s t at there l. before i j s t at there (cases_lt i (length told)) l;
  }
    where
      far : ArePasts es
      far = pasts_are es rising

      bounded : (i : ℕ) → (i < length told) ⊎ (length told ≤ i) → slice_index_or (all_reaches es told) i 0 ≤ length es
      bounded i (inl l) = let within = (h.each i (slice_index_or es i origin) (nth i (omega (arith, l, h.short))) l).within in let is = reach_told i l in omega (arith, within, is)
        where
          origin : Edge
          origin = record { a = record { x = pos 0; y = pos 0 }; b = record { x = pos 0; y = pos 0 } }

          nth : (j : ℕ) → j < length es → IsAt es j (slice_index_or es j origin)
          nth j l = (l, get_or_default es j origin (slice_index_or es j origin) l)
      bounded i (inr l) = let within = far.within i in let is = reach_untold i l in omega (arith, within, is)

      beyond : (i j : ℕ) (s t : Edge) → IsAt es i s → IsAt es j t → (i < length told) ⊎ (length told ≤ i) → slice_index_or (all_reaches es told) i 0 ≤ j → LiesOnward s t
      beyond i j s t at there (inl l) k = (h.each i s at l).past j t there (subst (λ r. r ≤ j) (reach_told i l) k)
      beyond i j s t at there (inr l) k = inl (far.past i j s t at there (subst (λ r. r ≤ j) (reach_untold i l) k))

      before : (i j : ℕ) (s t : Edge) → IsAt es i s → IsAt es j t → (i < length told) ⊎ (length told ≤ i) → j < slice_index_or (all_reaches es told) i 0 → t.a.x ≤ℤ s.b.x
      before i j s t at there (inl l) k = (h.each i s at l).near j t there (subst (λ r. j < r) (reach_told i l) k)
      before i j s t at there (inr l) k = far.near i j s t at there (subst (λ r. j < r) (reach_untold i l) k)

-- ---- without those that begin at the end

module _ (es : List Edge) (rising : AllPairs (λ s t. edge_order s t ≡ Less) es) where
  -- the number from which on all begin past the end
  pub past_is_reach : (i : ℕ) (s : Edge) → IsAt es i s → (r : ℕ) → r ≡ slice_index_or (reaches_of es) i 0 → IsReach es s r
  past_is_reach i s at r is = let far = pasts_are es rising in subst (IsReach es s) (sym is) (record {
    within = far.within i;
    past = λ j t there l. inl (far.past i j s t at there l);
    near = λ j t there l. far.near i j s t at there l;
  })

  -- the begin of the run that ends before it, where that begins at the end
  pub run_is_reach : (i : ℕ) (s : Edge) → IsAt es i s → (r : ℕ) → r ≡ slice_index_or (reaches_of es) i 0 → (k : ℕ) (u : Edge) → r ≡ k + 1 → IsAt es k u → s.a.x <ℤ s.b.x → u.a.x ≡ s.b.x
      → (n : ℕ) → n ≤ r → IsRun es k n → IsReach es s n
  run_is_reach i s at r is k u last there wide meet n upto run = record {
    within = let w = whole.within in omega (arith, w, upto);
    past = λ j t at' l. beyond j t at' l (cases_lt j r);
    near = λ j t at' l. whole.near j t at' (omega (arith, l, upto));
  }
    where
      whole : IsReach es s r
      whole = past_is_reach i s at r is

      beyond : (j : ℕ) (t : Edge) → IsAt es j t → n ≤ j → (j < r) ⊎ (r ≤ j) → LiesOnward s t
      beyond j t at' l (inl less) = let of_run = run j u t there at' l (omega (arith, less, last)) in inr (of_run.0 ∙ meet, wide, of_run.1)
      beyond j t at' l (inr more) = whole.past j t at' more

-- ---- runs

-- a vertical edge ends every run
pub run_none : (es : List Edge) (j r : ℕ) → j < r → IsRun es j r
run_none es j r l k u t at there h m = absurd (omega (arith, l, h, m))

-- an edge alone
pub run_one : (es : List Edge) (j : ℕ) (s : Edge) → IsAt es j s → s.a.x <ℤ s.b.x → IsRun es j j
run_one es j s here wide k u t at there h m =
    let level : k ≡ j = omega (arith, h, m) in
    let own : t ≡ s = at_same es j t s (subst (λ n. IsAt es n t) level there) here in
    let other : u ≡ s = at_same es j u s at here in
    (ap (λ e. e.a.x) (own ∙ sym other), subst (λ e. e.a.x <ℤ e.b.x) (sym own) wide)

-- one more at the same x
pub run_more : (es : List Edge) (j r : ℕ) (p s : Edge) → IsAt es j p → IsAt es (j + 1) s → p.a.x ≡ s.a.x → s.a.x <ℤ s.b.x → IsRun es j r → IsRun es (j + 1) r
run_more es j r p s before here same wide run k u t at there h m = by (cases_lt j k)
  where
    by : (j < k) ⊎ (k ≤ j) → (t.a.x ≡ u.a.x) × (t.a.x <ℤ t.b.x)
    by (inl last) = run_one es (j + 1) s here wide k u t at there (omega (arith, last)) m
    by (inr l) =
        let of_run = run k p t before there h l in
        let other : s ≡ u = at_same es (j + 1) s u here at in
        (of_run.0 ∙ (same ∙ ap (λ e. e.a.x) other), of_run.1)

-- one run more
pub runs_more : (es : List Edge) (runs : List ℕ) (v : ℕ) → v ≤ length runs + 1 → IsRun es (length runs) v → (more : List ℕ) → more ≡ runs ++ v ∷ [] → AreRuns es runs → AreRuns es more
runs_more es runs v upto run more e h = record {
  within = λ j l. bounded j l (cases_lt j (length runs));
  each = λ j l. by j l (cases_lt j (length runs));
}
  where
    long : length more ≡ length runs + 1
    long = ap length e ∙ length_pushed runs v

    earlier : (j : ℕ) → j < length runs → slice_index_or more j 0 ≡ slice_index_or runs j 0
    earlier j less = ap (λ ns. slice_index_or ns j 0) e ∙ get_or_append_left runs (v ∷ []) 0 j less

    latest : (j : ℕ) → length runs ≡ j → slice_index_or more j 0 ≡ v
    latest j level = ap (λ ns. slice_index_or ns j 0) e ∙ (ap (λ n. slice_index_or (runs ++ v ∷ []) n 0) (sym level) ∙ get_or-append_seam runs v [] 0)

    bounded : (j : ℕ) → j < length more → (j < length runs) ⊎ (length runs ≤ j) → slice_index_or more j 0 ≤ j + 1
    bounded j l (inl less) = let w = h.within j less in let is = earlier j less in omega (arith, w, is)
    bounded j l (inr last) = let level : length runs ≡ j = omega (arith, l, long, last) in let is = latest j level in omega (arith, is, upto, level)

    by : (j : ℕ) → j < length more → (j < length runs) ⊎ (length runs ≤ j) → IsRun es j (slice_index_or more j 0)
    by j l (inl less) = subst (IsRun es j) (sym (earlier j less)) (h.each j less)
    by j l (inr last) =
        let level : length runs ≡ j = omega (arith, l, long, last) in
        subst (IsRun es j) (sym (latest j level)) (subst (λ n. IsRun es n v) level run)
