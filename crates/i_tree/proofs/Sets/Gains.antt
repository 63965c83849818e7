-- A set's values after a search or an insertion.
use Rattle.std.proofs.Common.{◌≡◌, ◌≢◌, ℕ, ◌+◌, ◌-◌, ◌^◌, ◌≤◌, ◌<◌, ◌⊎◌, inl, inr, List, [], ◌∷◌, ◌++◌, map, Bool, true, false, Option, Some, All, IsSome, refl, sym, ap, ◌∙◌, arith, subst}
use Rattle.std.proofs.lemmas.Bool.{cases_eq}
use Rattle.std.proofs.lemmas.List.{map-append}
use Rattle.std.proofs.lemmas.List.Elements.{All-nil, All-cons, All-head, All-tail, All-append}
use Rattle.std.specs.List.{slice_get}
use Rattle.std.specs.Cmp.{IsTotalOrder}
use Rattle.std.specs.Ordering.{is_lt, is_le, ordering_index}
use Rattle.std.specs.declared.cmp.Ordering.{Ordering}
use Rattle.std.specs.declared.cmp.Ordering.TheVariants.{Less, Equal, Greater}
use Rattle.i_tree.specs.declared.TheConstants.{EMPTY_REF}
use Rattle.i_tree.specs.Tree.Pool.{count_in}
use Rattle.i_tree.specs.Tree.Entries.{EntryTree, tree_names, tree_entries_of, IsAddedTo}
use Rattle.i_tree.specs.IndexedSet.{AreRising, IsNewSetKey, IsMonotoneBy, with_value, values_of, index_sought}
use Rattle.i_tree.specs.IndexesKept.{AddsOne}
use Rattle.i_tree.specs.Tree.SetView.{held, set_of, IsSetTree}
use Rattle.i_tree.specs.Tree.SetSearch.{IsGap}
use Rattle.i_tree.proofs.Trees.Shapes.{one-same}
use Rattle.i_tree.proofs.Trees.Names.{count_in-append}
use Rattle.i_tree.proofs.Trees.Cursors.{Place-entries}
use Rattle.i_tree.proofs.Trees.Nodes.{names-tree_entries_of}
use Rattle.i_tree.proofs.Sets.Held.{held-append, held-last, last_passes, with_value-parts}
use Rattle.i_tree.proofs.Keys.LiveParts.{All-left, All-right}

-- along rising keys, none of them the new one, each is below the new one or above it
module _ {K V : Type 0} (cmp : K → K → Ordering) (key : V → K) (new : K) (total : IsTotalOrder cmp) where
  rises : (x y : K) → cmp x y ≡ Less → cmp y new ≢ Equal → ordering_index (cmp x new) ≤ ordering_index (cmp y new)
  rises x y less ne = by (cmp y new) refl where
    at_most : (o : Ordering) → ordering_index o ≤ 2
    at_most Less = omega arith
    at_most Equal = omega arith
    at_most Greater = omega arith

    by : (o : Ordering) → cmp y new ≡ o → ordering_index (cmp x new) ≤ ordering_index (cmp y new)
    by Less e = rw (total.trans x y new less e, e) (omega arith)
    by Equal e = absurd (ne e)
    by Greater e = rw e (at_most (cmp x new))

  all-rise : (x : V) (xs : List V) → All (λ later. cmp (key x) (key later) ≡ Less) xs → IsNewSetKey cmp key new xs → All (λ later. ordering_index (cmp (key x) new) ≤ ordering_index (cmp (key later) new)) xs
  all-rise x [] less fresh = All-nil (λ later. ordering_index (cmp (key x) new) ≤ ordering_index (cmp (key later) new))
  all-rise x (y ∷ xs) less fresh =
      All-cons (λ later. ordering_index (cmp (key x) new) ≤ ordering_index (cmp (key later) new)) y xs
      (rises (key x) (key y) (All-head (λ later. cmp (key x) (key later) ≡ Less) y xs less) (All-head (λ value. cmp (key value) new ≢ Equal) y xs fresh))
      (all-rise x xs (All-tail (λ later. cmp (key x) (key later) ≡ Less) y xs less) (All-tail (λ value. cmp (key value) new ≢ Equal) y xs fresh))

  pub rising-monotone : (xs : List V) → AreRising cmp key xs → IsNewSetKey cmp key new xs → IsMonotoneBy key (λ k. cmp k new) xs
  rising-monotone [] rising fresh = tt
  rising-monotone (x ∷ xs) rising fresh =
      let later = All-tail (λ value. cmp (key value) new ≢ Equal) x xs fresh in
      (all-rise x xs rising.0 later, rising-monotone xs rising.1 later)

  less-of : (o : Ordering) → is_le o ≡ true → o ≢ Equal → is_lt o ≡ true
  less-of Less e ne = refl
  less-of Equal e ne = absurd (ne refl)
  less-of Greater e ne = cc

  not-less-of : (o : Ordering) → is_le o ≡ false → is_lt o ≡ false
  not-less-of Less e = cc
  not-less-of Equal e = cc
  not-less-of Greater e = refl

  all-below : (es : List (ℕ × V)) → All (λ entry. is_le (cmp (key entry.1) new) ≡ true) es → IsNewSetKey cmp key new (map (λ entry. entry.1) es) → All (λ value. is_lt (cmp (key value) new) ≡ true) (map (λ entry. entry.1) es)
  all-below [] below fresh = All-nil (λ value. is_lt (cmp (key value) new) ≡ true)
  all-below (x ∷ es) below fresh =
      All-cons (λ value. is_lt (cmp (key value) new) ≡ true) x.1 (map (λ entry. entry.1) es)
      (less-of (cmp (key x.1) new) (All-head (λ entry. is_le (cmp (key entry.1) new) ≡ true) x es below) (All-head (λ value. cmp (key value) new ≢ Equal) x.1 (map (λ entry. entry.1) es) fresh))
      (all-below es (All-tail (λ entry. is_le (cmp (key entry.1) new) ≡ true) x es below) (All-tail (λ value. cmp (key value) new ≢ Equal) x.1 (map (λ entry. entry.1) es) fresh))

  all-above : (es : List (ℕ × V)) → All (λ entry. is_le (cmp (key entry.1) new) ≡ false) es → All (λ value. is_lt (cmp (key value) new) ≡ false) (map (λ entry. entry.1) es)
  all-above [] above = All-nil (λ value. is_lt (cmp (key value) new) ≡ false)
  all-above (x ∷ es) above =
      All-cons (λ value. is_lt (cmp (key value) new) ≡ false) x.1 (map (λ entry. entry.1) es)
      (not-less-of (cmp (key x.1) new) (All-head (λ entry. is_le (cmp (key entry.1) new) ≡ false) x es above))
      (all-above es (All-tail (λ entry. is_le (cmp (key entry.1) new) ≡ false) x es above))

module _ {K V : Type 0} (tells : (K → Ordering) → Type 0) (key : V → K) (tree : EntryTree (Option V)) (n : ℕ) (is : IsSetTree tree n) (parent : ℕ) (side : Bool) (deep index : ℕ) (gap : IsGap tells key tree parent side deep index) where
  gap-entries : tree_entries_of tree ≡ gap.before ++ gap.after
  gap-entries = Place-entries tree parent side deep gap.before [] gap.after gap.place

  gap-held : held (tree_entries_of tree) ≡ held gap.before ++ held gap.after
  gap-held = ap held gap-entries ∙ held-append gap.before gap.after

  gap-some : All (λ entry. IsSome entry.1) (gap.before ++ gap.after)
  gap-some = subst (λ (es : List (ℕ × Option V)). All (λ entry. IsSome entry.1) es) gap-entries is.each_node

  -- the index sought
  pub gap-index : (by : K → Ordering) → tells by → IsMonotoneBy key by (values_of (set_of tree n)) → index ≡ index_sought key by EMPTY_REF (set_of tree n).entries
  gap-index by t mono =
      let p = gap.parted by t mono in
      gap.index_is ∙ sym (held-last EMPTY_REF gap.before (All-left (λ (entry : ℕ × Option V). IsSome entry.1) gap.before gap.after gap-some))
      ∙ sym (ap (index_sought key by EMPTY_REF) gap-held ∙ last_passes (λ value. is_le (by (key value))) EMPTY_REF (held gap.before) (held gap.after) p.below p.above)

  -- an insertion there
  module _ (new : EntryTree (Option V)) (at : ℕ) (value : V) (added : IsAddedTo tree new gap.before (at, Some value) gap.after) where
    new-held : held (tree_entries_of new) ≡ held gap.before ++ ((at, value) ∷ held gap.after)
    new-held = ap held added.entries_are ∙ held-append gap.before ((at, Some value) ∷ gap.after)

    pub AddsOne-gap : (m : ℕ) → AddsOne value (set_of tree n) (set_of new m)
    AddsOne-gap m = record { before = held gap.before; index = at; after = held gap.after; old_is = gap-held; new_is = new-held }

    pub with_value-gap : (cmp : K → K → Ordering) → IsTotalOrder cmp → tells (λ k. cmp k (key value)) → AreRising cmp key (values_of (set_of tree n)) → IsNewSetKey cmp key (key value) (values_of (set_of tree n)) → (m : ℕ) → values_of (set_of new m) ≡ with_value cmp key value (values_of (set_of tree n))
    with_value-gap cmp total t rising fresh m =
        let p = gap.parted (λ k. cmp k (key value)) t (rising-monotone cmp key (key value) total (values_of (set_of tree n)) rising fresh) in
        let a = map (λ (entry : ℕ × V). entry.1) (held gap.before) in
        let b = map (λ (entry : ℕ × V). entry.1) (held gap.after) in
        let old : values_of (set_of tree n) ≡ a ++ b = ap (map (λ (entry : ℕ × V). entry.1)) gap-held ∙ map-append (λ (entry : ℕ × V). entry.1) (held gap.before) (held gap.after) in
        let apart = subst (λ (vs : List V). IsNewSetKey cmp key (key value) vs) old fresh in
        ap (map (λ (entry : ℕ × V). entry.1)) new-held ∙ map-append (λ (entry : ℕ × V). entry.1) (held gap.before) ((at, value) ∷ held gap.after)
        ∙ sym (ap (with_value cmp key value) old
        ∙ with_value-parts cmp key value a b (all-below cmp key (key value) total (held gap.before) p.below (All-left (λ v. cmp (key v) (key value) ≢ Equal) a b apart)) (all-above cmp key (key value) total (held gap.after) p.above))

    -- the names in the new tree
    names-new : (j : ℕ) → count_in j (tree_names new.pool) ≡ count_in j (map (λ entry. entry.0) gap.before) + (count_in j (at ∷ []) + count_in j (map (λ entry. entry.0) gap.after))
    names-new j =
        let e = ap (count_in j) (sym (names-tree_entries_of new added.tree) ∙ ap (map (λ entry. entry.0)) added.entries_are ∙ map-append (λ (entry : ℕ × Option V). entry.0) gap.before ((at, Some value) ∷ gap.after)) in
        let a = count_in-append j (map (λ entry. entry.0) gap.before) (at ∷ map (λ entry. entry.0) gap.after) in
        omega arith

    names-old : (j : ℕ) → count_in j (tree_names tree.pool) ≡ count_in j (map (λ entry. entry.0) gap.before) + count_in j (map (λ entry. entry.0) gap.after)
    names-old j =
        let e = ap (count_in j) (sym (names-tree_entries_of tree is.is_tree) ∙ ap (map (λ entry. entry.0)) gap-entries ∙ map-append (λ (entry : ℕ × Option V). entry.0) gap.before gap.after) in
        let a = count_in-append j (map (λ entry. entry.0) gap.before) (map (λ entry. entry.0) gap.after) in
        omega arith

    pub IsSetTree-added : n < 2 ^ 31 - 1 → IsSetTree new (n + 1)
    IsSetTree-added room = record {
      is_tree = added.tree;
      each_node = subst (λ (es : List (ℕ × Option V)). All (λ entry. IsSome entry.1) es) (sym added.entries_are)
          (All-append (λ (entry : ℕ × Option V). IsSome entry.1) gap.before ((at, Some value) ∷ gap.after) (All-left (λ (entry : ℕ × Option V). IsSome entry.1) gap.before gap.after gap-some)
          (All-cons (λ (entry : ℕ × Option V). IsSome entry.1) (at, Some value) gap.after refl (All-right (λ (entry : ℕ × Option V). IsSome entry.1) gap.before gap.after gap-some)));
      each_value = λ j w e. by j w e (cases_eq j at);
      few = let a = added.one_more in let b = is.few in omega arith;
      bounded = omega arith;
    } where
      by : (j : ℕ) (w : V) → slice_get new.entries j ≡ Some (Some w) → (j ≡ at) ⊎ (j ≡ at → ⊥) → 0 < count_in j (tree_names new.pool)
      by j w e (inl same) = let a = names-new j in let s = one-same at in let t : count_in j (at ∷ []) ≡ count_in at (at ∷ []) = ap (λ i. count_in i (at ∷ [])) same in omega arith
      by j w e (inr ne) = let there = is.each_value j w (sym (added.elsewhere j ne) ∙ e) in let a = names-new j in let b = names-old j in omega arith
