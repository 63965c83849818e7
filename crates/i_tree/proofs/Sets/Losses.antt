-- A set's values after a deletion.
use Rattle.std.proofs.Common.{◌≡◌, ℕ, ◌+◌, ◌≤◌, ◌<◌, ◌⊎◌, inl, inr, List, ◌∷◌, ◌++◌, length-set, map, filter, Bool, not, ◌==◌, Option, Some, None, All, IsSome, refl, sym, ap, ◌∙◌, arith, subst, append_assoc}
use Rattle.std.proofs.lemmas.Bool.{cases_eq}
use Rattle.std.proofs.lemmas.List.{map-append}
use Rattle.std.proofs.lemmas.List.Elements.{All-cons, All-head, All-tail, All-append}
use Rattle.std.proofs.lemmas.Option.{same_Some, none-some}
use Rattle.std.specs.List.{slice_get}
use Rattle.i_tree.specs.Tree.Shape.{one, names, names_before, names_after}
use Rattle.i_tree.specs.Tree.Pool.{count_in}
use Rattle.i_tree.specs.Tree.Entries.{EntryTree, IsTree, tree_names, tree_entries_of, Node, with_entry, IsWithout, itself, next, IsTakenFrom}
use Rattle.i_tree.specs.IndexedSet.{IndexedSet, indexes_of, values_of, values_without}
use Rattle.i_tree.specs.IndexesKept.{DropsOne, dropped, moved}
use Rattle.i_tree.specs.Tree.SetView.{held, set_of, IsSetTree}
use Rattle.i_tree.proofs.Trees.Shapes.{one-same}
use Rattle.i_tree.proofs.Trees.Names.{count_in-append}
use Rattle.i_tree.proofs.Trees.Cursors.{Place-entries, Place-tree}
use Rattle.i_tree.proofs.Trees.Entries.{slice_get-set_same, slice_get-set_other, entries_at-set}
use Rattle.i_tree.proofs.Trees.Losses.{counts, at-within}
use Rattle.i_tree.proofs.Trees.Nodes.{one-zero, names-tree_entries_of, name-once, Node-entries}
use Rattle.i_tree.proofs.Sets.Held.{held-append, without-parts}
use Rattle.i_tree.proofs.Keys.LiveParts.{All-left, All-right}
use Rattle.i_tree.proofs.Sets.Trees.{some-value, indexes-names, at-node}

-- a node with another entry
module _ {T : Type 0} (tree : EntryTree T) (parent : ℕ) (side : Bool) (deep : ℕ) (before near : List (ℕ × T)) (at : ℕ) (entry : T) (far after : List (ℕ × T)) (node : Node tree parent side deep before near at entry far after) where
  pub Node-written : (y : T) → Node (with_entry tree at y) parent side deep before near at y far after
  Node-written y =
      let c = counts tree parent side deep before near at entry far after node at in
      let s = one-same at in
      record {
        spare = node.spare;
        context = node.context;
        red = node.red;
        left = node.left;
        right = node.right;
        filled = node.filled;
        each_place = length-set tree.entries at y ∙ node.each_place;
        parent_is = node.parent_is;
        side_is = node.side_is;
        deep_is = node.deep_is;
        before_is = entries_at-set tree.entries at y (names_before node.context) (omega arith) ∙ node.before_is;
        near_is = entries_at-set tree.entries at y (names node.left) (omega arith) ∙ node.near_is;
        entry_is = slice_get-set_same tree.entries at y (at-within tree parent side deep before near at entry far after node);
        far_is = entries_at-set tree.entries at y (names node.right) (omega arith) ∙ node.far_is;
        after_is = entries_at-set tree.entries at y (names_after node.context) (omega arith) ∙ node.after_is;
      }

-- the entries after a removal, by those on the left of the node and those on its right
data Leaves {T : Type 0} (at gone : ℕ) (left right : List (ℕ × T)) : List (ℕ × T) → Type 0 where
  gone_itself : gone ≡ at → Leaves at gone left right (left ++ right)
  gone_next : (x : T) (rest : List (ℕ × T)) → right ≡ (gone, x) ∷ rest → Leaves at gone left right (left ++ ((at, x) ∷ rest))

Leaves-without : {T : Type 0} (at gone : ℕ) (before near far after here : List (ℕ × T)) → IsWithout near at far gone here → Leaves at gone (before ++ near) (far ++ after) (before ++ (here ++ after))
Leaves-without at gone before near far after _ (itself e) =
    subst (λ es. Leaves at gone (before ++ near) (far ++ after) es) (append_assoc before near (far ++ after) ∙ ap (λ es. before ++ es) (sym (append_assoc near far after))) (gone_itself e)
Leaves-without at gone before near far after _ (next x rest e) =
    subst (λ es. Leaves at gone (before ++ near) (far ++ after) es) (append_assoc before near ((at, x) ∷ (rest ++ after)) ∙ ap (λ es. before ++ es) (sym (append_assoc near ((at, x) ∷ rest) after)))
    (gone_next x (rest ++ after) (ap (λ es. es ++ after) e))

module _ {V : Type 0} (at gone : ℕ) (left right : List (ℕ × Option V)) where
  -- each entry still holds a value
  Leaves-some : (es : List (ℕ × Option V)) → Leaves at gone left right es → All (λ entry. IsSome entry.1) left → All (λ entry. IsSome entry.1) right → All (λ entry. IsSome entry.1) es
  Leaves-some _ (gone_itself e) l r = All-append (λ (entry : ℕ × Option V). IsSome entry.1) left right l r
  Leaves-some _ (gone_next x rest e) l r =
      let both = subst (λ (es : List (ℕ × Option V)). All (λ entry. IsSome entry.1) es) e r in
      All-append (λ (entry : ℕ × Option V). IsSome entry.1) left ((at, x) ∷ rest) l
      (All-cons (λ (entry : ℕ × Option V). IsSome entry.1) (at, x) rest (All-head (λ (entry : ℕ × Option V). IsSome entry.1) (gone, x) rest both) (All-tail (λ (entry : ℕ × Option V). IsSome entry.1) (gone, x) rest both))

  -- every name but the one that is gone still stands there
  Leaves-names : (es : List (ℕ × Option V)) → Leaves at gone left right es → (j : ℕ) → one gone j ≡ 0 → 0 < count_in j (map (λ entry. entry.0) left) + (one at j + count_in j (map (λ entry. entry.0) right)) → 0 < count_in j (map (λ entry. entry.0) es)
  Leaves-names _ (gone_itself e) j ne h =
      let m = ap (count_in j) (map-append (λ (entry : ℕ × Option V). entry.0) left right) in
      let a = count_in-append j (map (λ entry. entry.0) left) (map (λ entry. entry.0) right) in
      let same : one at j ≡ one gone j = ap (λ i. one i j) (sym e) in
      omega arith
  Leaves-names _ (gone_next x rest e) j ne h =
      let m = ap (count_in j) (map-append (λ (entry : ℕ × Option V). entry.0) left ((at, x) ∷ rest)) in
      let a = count_in-append j (map (λ entry. entry.0) left) (at ∷ map (λ entry. entry.0) rest) in
      let r : count_in j (map (λ entry. entry.0) right) ≡ one gone j + count_in j (map (λ entry. entry.0) rest) = ap (λ (es : List (ℕ × Option V)). count_in j (map (λ entry. entry.0) es)) e in
      omega arith

  -- the values and their indexes
  Leaves-drops : (es : List (ℕ × Option V)) → Leaves at gone left right es → All (λ entry. IsSome entry.1) right → (value : V) (m n : ℕ) → DropsOne at (record { insertions = m; entries = held left ++ ((at, value) ∷ held right) }) (record { insertions = n; entries = held es })
  Leaves-drops _ (gone_itself e) r value m n = dropped (held left) value (held right) refl (held-append left right)
  Leaves-drops _ (gone_next x rest e) r value m n =
      let both = subst (λ (es : List (ℕ × Option V)). All (λ entry. IsSome entry.1) es) e r in
      let (w, f) = some-value x (All-head (λ (entry : ℕ × Option V). IsSome entry.1) (gone, x) rest both) in
      moved (held left) value gone w (held rest)
      (ap (λ (es : List (ℕ × V)). held left ++ ((at, value) ∷ es)) (ap held e ∙ ap (λ y. held ((gone, y) ∷ rest)) f))
      (held-append left ((at, x) ∷ rest) ∙ ap (λ y. held left ++ held ((at, y) ∷ rest)) f)

-- the values without the one at an index
pub DropsOne-values : {V : Type 0} (i : ℕ) (old new : IndexedSet V) → ((j : ℕ) → count_in j (indexes_of old) ≤ 1) → DropsOne i old new → values_of new ≡ values_without i old
DropsOne-values {V} i old new once drops = by drops where
  apart : (before : List (ℕ × V)) (value : V) (after : List (ℕ × V)) → old.entries ≡ before ++ ((i, value) ∷ after) → count_in i (map (λ entry. entry.0) before) + count_in i (map (λ entry. entry.0) after) ≡ 0
  apart before value after e =
      let o = once i in
      let m = ap (λ (es : List (ℕ × V)). count_in i (map (λ entry. entry.0) es)) e in
      let f = ap (count_in i) (map-append (λ (entry : ℕ × V). entry.0) before ((i, value) ∷ after)) in
      let a = count_in-append i (map (λ entry. entry.0) before) (i ∷ map (λ entry. entry.0) after) in
      let s = one-same i in
      omega arith

  left-over : (before : List (ℕ × V)) (value : V) (after : List (ℕ × V)) → old.entries ≡ before ++ ((i, value) ∷ after) → values_without i old ≡ map (λ entry. entry.1) before ++ map (λ entry. entry.1) after
  left-over before value after e =
      let none = apart before value after e in
      ap (λ (es : List (ℕ × V)). map (λ entry. entry.1) (filter (λ entry. not (entry.0 == i)) es)) e
      ∙ ap (map (λ (entry : ℕ × V). entry.1)) (without-parts before i value after (omega arith) (omega arith))
      ∙ map-append (λ (entry : ℕ × V). entry.1) before after

  by : DropsOne i old new → values_of new ≡ values_without i old
  by (dropped before value after e f) = ap (map (λ (entry : ℕ × V). entry.1)) f ∙ map-append (λ (entry : ℕ × V). entry.1) before after ∙ sym (left-over before value after e)
  by (moved before value left taken after e f) =
      ap (map (λ (entry : ℕ × V). entry.1)) f ∙ map-append (λ (entry : ℕ × V). entry.1) before ((i, taken) ∷ after) ∙ sym (left-over before value ((left, taken) ∷ after) e)

module _ {V : Type 0} (tree : EntryTree (Option V)) (n : ℕ) (is : IsSetTree tree n) (i : ℕ) (h : 0 < count_in i (tree_names tree.pool)) where
  abbrev pub emptied : (y : Option V) → Node (with_entry tree i y) (at-node tree n is i h).parent (at-node tree n is i h).side (at-node tree n is i h).deep (at-node tree n is i h).before (at-node tree n is i h).near i y (at-node tree n is i h).far (at-node tree n is i h).after
  emptied y = let o = at-node tree n is i h in Node-written tree o.parent o.side o.deep o.before o.near i o.entry o.far o.after o.node y

  left-of : List (ℕ × Option V)
  left-of = let o = at-node tree n is i h in o.before ++ o.near

  right-of : List (ℕ × Option V)
  right-of = let o = at-node tree n is i h in o.far ++ o.after

  parts : tree_entries_of tree ≡ left-of ++ ((i, (at-node tree n is i h).entry) ∷ right-of)
  unfolding left-of right-of
  parts = let o = at-node tree n is i h in Node-entries tree o.parent o.side o.deep o.before o.near i o.entry o.far o.after o.node

  each : All (λ entry. IsSome entry.1) (left-of ++ ((i, (at-node tree n is i h).entry) ∷ right-of))
  each = subst (λ (es : List (ℕ × Option V)). All (λ entry. IsSome entry.1) es) parts is.each_node

  each-left : All (λ entry. IsSome entry.1) left-of
  each-left = All-left (λ (entry : ℕ × Option V). IsSome entry.1) left-of ((i, (at-node tree n is i h).entry) ∷ right-of) each

  each-from : All (λ entry. IsSome entry.1) ((i, (at-node tree n is i h).entry) ∷ right-of)
  each-from = All-right (λ (entry : ℕ × Option V). IsSome entry.1) left-of ((i, (at-node tree n is i h).entry) ∷ right-of) each

  each-right : All (λ entry. IsSome entry.1) right-of
  each-right = All-tail (λ (entry : ℕ × Option V). IsSome entry.1) (i, (at-node tree n is i h).entry) right-of each-from

  module _ (y : Option V) (none : y ≡ None) (new : EntryTree (Option V)) (gone : ℕ) (taken : IsTakenFrom (with_entry tree i y) new (at-node tree n is i h).parent (at-node tree n is i h).side (at-node tree n is i h).deep (at-node tree n is i h).before (at-node tree n is i h).near i (at-node tree n is i h).far (at-node tree n is i h).after gone) where
    is-tree : IsTree new
    is-tree = let o = at-node tree n is i h in Place-tree new o.parent o.side taken.deeper o.before taken.here o.after taken.place

    leaves : Leaves i gone left-of right-of (tree_entries_of new)
    unfolding left-of right-of
    leaves =
        let o = at-node tree n is i h in
        subst (λ es. Leaves i gone (o.before ++ o.near) (o.far ++ o.after) es) (sym (Place-entries new o.parent o.side taken.deeper o.before taken.here o.after taken.place))
        (Leaves-without i gone o.before o.near o.far o.after taken.here taken.without)

    names-old : (j : ℕ) → count_in j (tree_names tree.pool) ≡ count_in j (map (λ entry. entry.0) left-of) + (one i j + count_in j (map (λ entry. entry.0) right-of))
    names-old j =
        let e = ap (count_in j) (sym (names-tree_entries_of tree is.is_tree) ∙ ap (map (λ (entry : ℕ × Option V). entry.0)) parts ∙ map-append (λ (entry : ℕ × Option V). entry.0) left-of ((i, (at-node tree n is i h).entry) ∷ right-of)) in
        let a = count_in-append j (map (λ entry. entry.0) left-of) (i ∷ map (λ entry. entry.0) right-of) in
        omega arith

    still-there : (j : ℕ) → one gone j ≡ 0 → 0 < count_in j (tree_names tree.pool) → 0 < count_in j (tree_names new.pool)
    still-there j ne among =
        let a = names-old j in
        let e = ap (count_in j) (names-tree_entries_of new is-tree) in
        let l = Leaves-names i gone left-of right-of (tree_entries_of new) leaves j ne (omega arith) in
        omega arith

    gone-holds-none : slice_get new.entries gone ≡ Some None
    gone-holds-none = let o = at-node tree n is i h in taken.at_gone ∙ slice_get-set_same tree.entries i y (at-within tree o.parent o.side o.deep o.before o.near i o.entry o.far o.after o.node) ∙ ap Some none

    each-value : (j : ℕ) (w : V) → slice_get new.entries j ≡ Some (Some w) → 0 < count_in j (tree_names new.pool)
    each-value j w e = by (cases_eq gone j) (cases_eq j i) where
      by : (gone ≡ j) ⊎ (gone ≡ j → ⊥) → (j ≡ i) ⊎ (j ≡ i → ⊥) → 0 < count_in j (tree_names new.pool)
      by (inl same) _ = absurd (none-some w (same_Some None (Some w) (sym gone-holds-none ∙ ap (slice_get new.entries) same ∙ e)))
      by (inr ne) (inl same) = still-there j (one-zero gone j ne) (subst (λ k. 0 < count_in k (tree_names tree.pool)) (sym same) h)
      by (inr ne) (inr other) = still-there j (one-zero gone j ne) (is.each_value j w (sym (slice_get-set_other tree.entries i j y other) ∙ sym (taken.elsewhere j other (λ f. ne (sym f))) ∙ e))

    pub IsSetTree-removed : IsSetTree new n
    IsSetTree-removed = record {
      is_tree = is-tree;
      each_node = Leaves-some i gone left-of right-of (tree_entries_of new) leaves each-left each-right;
      each_value = each-value;
      few = let a = taken.same_places in let b = is.few in omega arith;
      bounded = is.bounded;
    }

    pub DropsOne-removed : DropsOne i (set_of tree n) (set_of new n)
    DropsOne-removed =
        let o = at-node tree n is i h in
        let (v, e) = some-value o.entry (All-head (λ (entry : ℕ × Option V). IsSome entry.1) (i, o.entry) right-of each-from) in
        let old : held (tree_entries_of tree) ≡ held left-of ++ ((i, v) ∷ held right-of) = ap held parts ∙ held-append left-of ((i, o.entry) ∷ right-of) ∙ ap (λ x. held left-of ++ held ((i, x) ∷ right-of)) e in
        subst (λ (es : List (ℕ × V)). DropsOne i (record { insertions = n; entries = es }) (set_of new n)) (sym old)
        (Leaves-drops i gone left-of right-of (tree_entries_of new) leaves each-right v n n)

    pub values-removed : values_of (set_of new n) ≡ values_without i (set_of tree n)
    values-removed = DropsOne-values i (set_of tree n) (set_of new n) (λ j. let o = name-once tree is.is_tree j in let e = ap (count_in j) (indexes-names tree n is) in omega arith) DropsOne-removed
