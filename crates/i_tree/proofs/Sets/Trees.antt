-- The indexed set behind a tree, and its values by their indexes.
use Rattle.std.proofs.Common.{◌≡◌, ◌≢◌, ℕ, ◌≤◌, ◌<◌, ◌⊎◌, inl, inr, List, [], ◌∷◌, ◌++◌, length, set, map, ◌==◌, if◌then◌else◌, Option, Some, None, All, Contains, IsSome, refl, sym, ap, ◌∙◌, arith, subst}
use Rattle.std.proofs.lemmas.Bool.{cases_eq, cond_both, false≢true}
use Rattle.std.proofs.lemmas.List.{get_or_default, length-map, map-append}
use Rattle.std.proofs.lemmas.List.Elements.{All-nil, All-head, All-map, All-weaker, Contains-append_right}
use Rattle.std.proofs.lemmas.Option.{same_Some, none-some}
use Rattle.std.specs.List.{slice_get}
use Rattle.std.specs.Prelude.{slice_index}
use Rattle.i_tree.specs.declared.TheConstants.{EMPTY_REF}
use Rattle.i_tree.specs.declared.tree.pool.TheConstants.{NO_NODE}
use Rattle.i_tree.specs.Tree.Pool.{count_in}
use Rattle.i_tree.specs.Tree.Entries.{EntryTree, no_entries, tree_names, tree_entries_of, with_entry, last_named}
use Rattle.i_tree.specs.IndexedSet.{empty_set, HasIndex, index_just_before, IsNamed, indexes_of, with_value_at}
use Rattle.i_tree.specs.Tree.SetView.{held, set_of, IsSetTree}
use Rattle.i_tree.proofs.Keys.LiveParts.{All-left, All-right}
use Rattle.i_tree.proofs.Trees.Shapes.{one-same}
use Rattle.i_tree.proofs.Trees.Names.{count_in-append}
use Rattle.i_tree.proofs.Trees.Cursors.{entries-few}
use Rattle.i_tree.proofs.Trees.Kept.{places-none, tree_entries_of-none, IsTree-none}
use Rattle.i_tree.proofs.Trees.Entries.{slice_get-set_other}
use Rattle.i_tree.proofs.Sets.Held.{count_in-there, count_in-Contains, once-apart, held-append, held-names, held-length, held-last, held-written, index_before-parts}
use Rattle.i_tree.proofs.Trees.Nodes.{names-tree_entries_of, name-within, name-once, places-fit, HasNode, node-of, Node-entries, IsTree-written, tree_entries_of-written}

-- a value by its index
pub record HasValue {V : Type 0} (tree : EntryTree (Option V)) (i : ℕ) : Type 0 where
  pub value : V
  pub entry_is : slice_get tree.entries i ≡ Some (Some value)
  pub within : i < length tree.entries
  pub contains : Contains (held (tree_entries_of tree)) (i, value)

pub some-value : {V : Type 0} (x : Option V) → IsSome x → (v : V) × (x ≡ Some v)
some-value None e = absurd (false≢true e)
some-value (Some v) e = (v, refl)

-- the last name is one of the names, and where there is none, the one given
last-within : {T : Type 0} (m none : ℕ) (xs : List (ℕ × T)) → none < m → ((i : ℕ) → 0 < count_in i (map (λ entry. entry.0) xs) → i < m) → last_named none xs < m
last-within m none [] h within = h
last-within m none (x ∷ rest) h within = last-within m x.0 rest (within x.0 (omega (arith, one-same x.0))) (λ i k. within i (omega arith))

last-none : {T : Type 0} (m none other : ℕ) (xs : List (ℕ × T)) → m ≤ none → ((i : ℕ) → 0 < count_in i (map (λ entry. entry.0) xs) → i < m) → last_named none xs ≡ none → last_named other xs ≡ other
last-none m none other [] le within e = refl
last-none m none other (x ∷ rest) le within e =
    let w = last-within m x.0 rest (within x.0 (omega (arith, one-same x.0))) (λ i k. within i (omega arith)) in
    absurd (omega arith)

last-some : {T : Type 0} (none other : ℕ) (xs : List (ℕ × T)) → last_named none xs ≢ none → last_named other xs ≡ last_named none xs
last-some none other [] ne = absurd (ne refl)
last-some none other (x ∷ rest) ne = refl

module _ {V : Type 0} (tree : EntryTree (Option V)) (n : ℕ) (is : IsSetTree tree n) where
  pub indexes-names : indexes_of (set_of tree n) ≡ tree_names tree.pool
  indexes-names = held-names (tree_entries_of tree) is.each_node ∙ names-tree_entries_of tree is.is_tree

  -- an index is live where its name is in the tree
  pub index-among : (i : ℕ) → HasIndex (set_of tree n) i → 0 < count_in i (tree_names tree.pool)
  index-among i has = subst (λ ns. 0 < count_in i ns) indexes-names (count_in-there (indexes_of (set_of tree n)) has.0 i has.1 has.2)

  pub among-index : (i : ℕ) → 0 < count_in i (tree_names tree.pool) → HasIndex (set_of tree n) i
  among-index i h = count_in-Contains (indexes_of (set_of tree n)) i (subst (λ ns. 0 < count_in i ns) (sym indexes-names) h)

  pub IsNamed-tree : IsNamed EMPTY_REF (set_of tree n)
  IsNamed-tree = record {
    apart = λ j k a b e.
        once-apart (indexes_of (set_of tree n)) (λ i. let o = name-once tree is.is_tree i in let same = ap (count_in i) indexes-names in omega arith) j k
        (omega (arith, a, length-map (held (tree_entries_of tree)) (λ (entry : ℕ × V). entry.0))) (omega (arith, b, length-map (held (tree_entries_of tree)) (λ (entry : ℕ × V). entry.0))) e;
    named = λ j a e.
        let ns = indexes_of (set_of tree n) in
        let h : j < length ns = omega (arith, a, length-map (held (tree_entries_of tree)) (λ (entry : ℕ × V). entry.0)) in
        let among : 0 < count_in (slice_index ns j) ns = count_in-there ns j (slice_index ns j) h (get_or_default ns j _ 0 h) in
        let w = name-within tree is.is_tree (slice_index ns j) (subst (λ ms. 0 < count_in (slice_index ns j) ms) indexes-names among) in
        let each = is.is_tree.each_place in
        let fits = places-fit tree is.is_tree in
        absurd (omega arith);
    few = let a = held-length (tree_entries_of tree) is.each_node in let b = entries-few tree is.is_tree in let c = is.few in omega arith;
  }

  -- the value at a node
  module _ (i : ℕ) (h : 0 < count_in i (tree_names tree.pool)) where
    pub at-node : HasNode tree i
    at-node = node-of tree is.is_tree i h

    left-of : List (ℕ × Option V)
    left-of = at-node.before ++ at-node.near

    right-of : List (ℕ × Option V)
    right-of = at-node.far ++ at-node.after

    parts : tree_entries_of tree ≡ left-of ++ ((i, at-node.entry) ∷ right-of)
    unfolding left-of right-of
    parts = Node-entries tree at-node.parent at-node.side at-node.deep at-node.before at-node.near i at-node.entry at-node.far at-node.after at-node.node

    each-part : All (λ entry. IsSome entry.1) (left-of ++ ((i, at-node.entry) ∷ right-of))
    each-part = subst (λ es. All (λ entry. IsSome entry.1) es) parts is.each_node

    pub value-there : HasValue tree i
    value-there =
        let (v, e) = some-value at-node.entry (All-head (λ entry. IsSome entry.1) (i, at-node.entry) right-of (All-right (λ entry. IsSome entry.1) left-of ((i, at-node.entry) ∷ right-of) each-part)) in
        let split : held (tree_entries_of tree) ≡ held left-of ++ ((i, v) ∷ held right-of) = ap held parts ∙ held-append left-of ((i, at-node.entry) ∷ right-of) ∙ ap (λ x. held left-of ++ held ((i, x) ∷ right-of)) e in
        record {
          value = v;
          entry_is = at-node.node.entry_is ∙ ap Some e;
          within = name-within tree is.is_tree i h;
          contains = subst (λ es. Contains es (i, v)) (sym split) (Contains-append_right (held left-of) ((i, v) ∷ held right-of) (i, v) (0, omega arith, refl));
        }

    -- the index before it
    apart-left : count_in i (map (λ entry. entry.0) left-of) ≡ 0
    apart-left =
        let once = name-once tree is.is_tree i in
        let whole = ap (count_in i) (sym (names-tree_entries_of tree is.is_tree) ∙ ap (map (λ entry. entry.0)) parts ∙ map-append (λ (entry : ℕ × Option V). entry.0) left-of ((i, at-node.entry) ∷ right-of)) in
        let a = count_in-append i (map (λ entry. entry.0) left-of) (i ∷ map (λ entry. entry.0) right-of) in
        let s = one-same i in
        omega arith

    pub index-before : last_named EMPTY_REF (at-node.before ++ at-node.near) ≡ index_just_before EMPTY_REF i (held (tree_entries_of tree))
    unfolding left-of right-of
    index-before =
        let (v, e) = some-value at-node.entry (All-head (λ entry. IsSome entry.1) (i, at-node.entry) right-of (All-right (λ entry. IsSome entry.1) left-of ((i, at-node.entry) ∷ right-of) each-part)) in
        let all = All-left (λ (entry : ℕ × Option V). IsSome entry.1) left-of ((i, at-node.entry) ∷ right-of) each-part in
        let none : count_in i (map (λ entry. entry.0) (held left-of)) ≡ 0 = ap (count_in i) (held-names left-of all) ∙ apart-left in
        sym (ap (index_just_before EMPTY_REF i) (ap held parts ∙ held-append left-of ((i, at-node.entry) ∷ right-of) ∙ ap (λ x. held left-of ++ held ((i, x) ∷ right-of)) e)
        ∙ index_before-parts EMPTY_REF (held left-of) i v (held right-of) none ∙ held-last EMPTY_REF left-of all)

    left-within : (k : ℕ) → 0 < count_in k (map (λ entry. entry.0) left-of) → k < length tree.entries
    left-within k h =
        let whole = ap (count_in k) (sym (names-tree_entries_of tree is.is_tree) ∙ ap (map (λ entry. entry.0)) parts ∙ map-append (λ (entry : ℕ × Option V). entry.0) left-of ((i, at-node.entry) ∷ right-of)) in
        let a = count_in-append k (map (λ entry. entry.0) left-of) (i ∷ map (λ entry. entry.0) right-of) in
        name-within tree is.is_tree k (omega arith)

    -- where no node is before it, the answer is EMPTY_REF, and else that node
    pub index-none : last_named NO_NODE (at-node.before ++ at-node.near) ≡ NO_NODE → EMPTY_REF ≡ index_just_before EMPTY_REF i (held (tree_entries_of tree))
    unfolding left-of
    index-none e =
        let fits = places-fit tree is.is_tree in
        let each = is.is_tree.each_place in
        sym (last-none (length tree.entries) NO_NODE EMPTY_REF left-of (omega arith) left-within e) ∙ index-before

    pub index-some : last_named NO_NODE (at-node.before ++ at-node.near) ≢ NO_NODE → last_named NO_NODE (at-node.before ++ at-node.near) ≡ index_just_before EMPTY_REF i (held (tree_entries_of tree))
    index-some ne = sym (last-some NO_NODE EMPTY_REF (at-node.before ++ at-node.near) ne) ∙ index-before

    -- a value written over
    pub IsSetTree-written : (v : V) → IsSetTree (with_entry tree i (Some v)) n
    IsSetTree-written v = record {
      is_tree = IsTree-written tree i (Some v) is.is_tree;
      each_node = subst (λ es. All (λ entry. IsSome entry.1) es) (sym (tree_entries_of-written tree i (Some v) is.is_tree))
          (All-map (λ (entry : ℕ × Option V). IsSome entry.1) (λ entry. if entry.0 == i then (i, Some v) else entry) (tree_entries_of tree)
          (All-weaker (λ entry. IsSome entry.1) (λ entry. IsSome (if entry.0 == i then (i, Some v) else entry).1) (λ entry p. cond_both (entry.0 == i) (i, Some v) entry (λ (x : ℕ × Option V). IsSome x.1) (λ _. refl) (λ _. p)) (tree_entries_of tree) is.each_node));
      each_value = λ j w e. by j w e (cases_eq j i);
      few = is.few;
      bounded = is.bounded;
    } where
      by : (j : ℕ) (w : V) → slice_get (set tree.entries i (Some v)) j ≡ Some (Some w) → (j ≡ i) ⊎ (j ≡ i → ⊥) → 0 < count_in j (tree_names tree.pool)
      by j w e (inl same) = rw same h
      by j w e (inr ne) = is.each_value j w (sym (slice_get-set_other tree.entries i j (Some v) ne) ∙ e)

  -- what is read at a live index
  module _ (i : ℕ) (has : HasIndex (set_of tree n) i) where
    pub live-within : i < length tree.entries
    live-within = (value-there i (index-among i has)).within

    module _ (x : Option V) (e : slice_get tree.entries i ≡ Some x) where
      pub live-some : IsSome x
      live-some = let o = value-there i (index-among i has) in let same : x ≡ Some o.value = same_Some x (Some o.value) (sym e ∙ o.entry_is) in rw same refl

      pub live-contains : (v : V) → x ≡ Some v → Contains (held (tree_entries_of tree)) (i, v)
      live-contains v f =
          let o = value-there i (index-among i has) in
          let same : v ≡ o.value = same_Some v o.value (sym f ∙ same_Some x (Some o.value) (sym e ∙ o.entry_is)) in
          rw same o.contains

  -- a place that holds a value has a live index
  pub some-live : (i : ℕ) (x : Option V) → slice_get tree.entries i ≡ Some x → IsSome x → HasIndex (set_of tree n) i
  some-live i x e some = let (v, f) = some-value x some in among-index i (is.each_value i v (e ∙ ap Some f))

  pub set_of-written : (i : ℕ) (v : V) → set_of (with_entry tree i (Some v)) n ≡ with_value_at i v (set_of tree n)
  set_of-written i v = ap (λ (es : List (ℕ × V)). record { insertions = n; entries = es }) (ap held (tree_entries_of-written tree i (Some v) is.is_tree) ∙ held-written i v (tree_entries_of tree) is.each_node)

-- a set with no value
pub IsSetTree-none : {V : Type 0} (tree : EntryTree (Option V)) → tree ≡ no_entries → IsSetTree tree 0
IsSetTree-none {V} tree e = subst (λ t. IsSetTree t 0) (sym e) (record {
  is_tree = IsTree-none;
  each_node = subst (λ (es : List (ℕ × Option V)). All (λ entry. IsSome entry.1) es) (sym tree_entries_of-none) (All-nil (λ (entry : ℕ × Option V). IsSome entry.1));
  each_value = λ i v f. absurd (none-some (Some v) f);
  few = omega (arith, places-none);
  bounded = omega arith;
})

pub set_of-none : {V : Type 0} (tree : EntryTree (Option V)) → tree ≡ no_entries → set_of tree 0 ≡ empty_set
set_of-none {V} tree e = ap (λ (es : List (ℕ × V)). record { insertions = 0; entries = es }) (ap (λ (t : EntryTree (Option V)). held (tree_entries_of t)) e ∙ ap held tree_entries_of-none)
