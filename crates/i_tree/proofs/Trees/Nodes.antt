-- The nodes of a tree by their names, and an entry written over.
use Rattle.std.proofs.Common.{◌≡◌, ◌≢◌, ℕ, suc, ◌≤◌, ◌<◌, ◌⊎◌, inl, inr, List, [], ◌∷◌, ◌++◌, length, set, map, Bool, true, false, nat_eq, ◌==◌, if◌then◌else◌, Some, refl, sym, ap, ◌∙◌, arith, subst, append_assoc}
use Rattle.std.proofs.lemmas.Bool.{cases_lt, cases_eq, ne_eqb}
use Rattle.std.proofs.lemmas.Bool.Decides.{nat_tests}
use Rattle.std.proofs.lemmas.List.{length-set}
use Rattle.std.specs.List.{slice_get}
use Rattle.i_tree.specs.declared.tree.pool.TheConstants.{NO_NODE}
use Rattle.i_tree.specs.Tree.Shape.{Tree, leaf, fork, Context, top, under, join, plug, one, count, names, names_before, names_after, root_redness, IsRedBlack}
use Rattle.i_tree.specs.Tree.Pool.{places, parent_of, IsOnSide, count_in, Stands}
use Rattle.i_tree.specs.Tree.Insertion.{depth}
use Rattle.i_tree.specs.Tree.Removal.{append}
use Rattle.i_tree.specs.Tree.Entries.{EntryTree, IsTree, tree_names, before_others, entries_at, tree_entries_of, Place, Node, Site, IsAtPlace, vacant, node, with_entry, last_named}
use Rattle.i_tree.specs.Tree.Order.{Fork, last_of}
use Rattle.i_tree.proofs.Trees.Shapes.{one-same, names-plug}
use Rattle.i_tree.proofs.Trees.Names.{names_below-root, count-names, count_in-append}
use Rattle.i_tree.proofs.Trees.Reads.{node-there}
use Rattle.i_tree.proofs.Trees.Fills.{append-plug}
use Rattle.i_tree.proofs.Trees.Firsts.{names_before-left}
use Rattle.i_tree.proofs.Trees.Entries.{slice_get-set_same, slice_get-set_other, slice_get-there, entries_at-cons, entries_at-append, entries_at-round, names-within-places, names-once, round-within}
use Rattle.i_tree.proofs.Sets.Held.{last_of-names}

-- what stands round a node, put together
abbrev pub site : {T : Type 0} → ℕ → Bool → ℕ → List (ℕ × T) → List (ℕ × T) → T → List (ℕ × T) → List (ℕ × T) → Site T
site parent side deep before near entry far after =
    record { parent = parent; side = side; deep = deep; before = before; near = near; entry = entry; far = far; after = after }

-- the names of entries
pub names-entries_at : {T : Type 0} (xs : List T) (ns : List ℕ) → ((i : ℕ) → 0 < count_in i ns → i < length xs) → map (λ entry. entry.0) (entries_at xs ns) ≡ ns
unfolding entries_at
names-entries_at xs [] within = refl
names-entries_at xs (i ∷ ns) within =
    let (x, e) = slice_get-there xs i (within i (omega (arith, one-same i))) in
    ap (λ o. map (λ entry. entry.0) (before_others i o (entries_at xs ns))) e ∙ ap (λ ms. i ∷ ms) (names-entries_at xs ns (λ j h. within j (omega arith)))

module _ {T : Type 0} (tree : EntryTree T) (is : IsTree tree) where
  shape-names : tree_names tree.pool ≡ names is.balanced.tree
  shape-names = sym is.balanced.names_are

  pub name-within : (i : ℕ) → 0 < count_in i (tree_names tree.pool) → i < length tree.entries
  name-within i h = let w = names-within-places tree.pool is.spare is.balanced.tree is.balanced.stands i (rw (← shape-names) h) in let e = is.each_place in omega arith

  pub name-once : (i : ℕ) → count_in i (tree_names tree.pool) ≤ 1
  name-once i = let o = names-once tree.pool is.spare is.balanced.tree is.balanced.stands i in let e = ap (count_in i) shape-names in omega arith

  pub names-tree_entries_of : map (λ entry. entry.0) (tree_entries_of tree) ≡ tree_names tree.pool
  names-tree_entries_of = names-entries_at tree.entries (tree_names tree.pool) name-within

  pub places-fit : places tree.pool ≤ NO_NODE
  places-fit = is.balanced.stands.fits

-- a name in a tree stands at a node
pub record OpensIn (t : Tree) (i : ℕ) : Type 0 where
  pub inner : Context
  pub red : Bool
  pub left : Tree
  pub right : Tree
  pub is : t ≡ plug inner (join true i red left right)

in-left : (j : ℕ) (r : Bool) (a b : Tree) (i : ℕ) → OpensIn a i → OpensIn (fork j r a b) i
unfolding join
in-left j r a b i o = record {
  inner = append o.inner (under top true j r b);
  red = o.red;
  left = o.left;
  right = o.right;
  is = ap (λ x. fork j r x b) o.is ∙ sym (append-plug o.inner (under top true j r b) (join true i o.red o.left o.right));
}

in-right : (j : ℕ) (r : Bool) (a b : Tree) (i : ℕ) → OpensIn b i → OpensIn (fork j r a b) i
unfolding join
in-right j r a b i o = record {
  inner = append o.inner (under top false j r a);
  red = o.red;
  left = o.left;
  right = o.right;
  is = ap (λ x. fork j r a x) o.is ∙ sym (append-plug o.inner (under top false j r a) (join true i o.red o.left o.right));
}

at-root : (j : ℕ) (r : Bool) (a b : Tree) (i : ℕ) → j ≡ i → OpensIn (fork j r a b) i
unfolding join
at-root j r a b i e = record { inner = top; red = r; left = a; right = b; is = ap (λ x. fork x r a b) e }

pub one-zero : (i j : ℕ) → (i ≡ j → ⊥) → one i j ≡ 0
unfolding one
one-zero i j ne = let e : nat_eq i j ≡ false = ne_eqb i j ne in rw e refl

pub opens-in : (t : Tree) (i : ℕ) → 0 < count i t → OpensIn t i
unfolding count
opens-in leaf i h = absurd (omega arith)
opens-in (fork j r a b) i h = by (cases_eq j i) (λ x. opens-in a i x) (λ x. opens-in b i x) where
  deeper : one j i ≡ 0 → (0 < count i a) ⊎ (count i a ≤ 0) → (0 < count i a → OpensIn a i) → (0 < count i b → OpensIn b i) → OpensIn (fork j r a b) i
  deeper e (inl x) f g = in-left j r a b i (f x)
  deeper e (inr x) f g = in-right j r a b i (g (omega arith))

  by : (j ≡ i) ⊎ (j ≡ i → ⊥) → (0 < count i a → OpensIn a i) → (0 < count i b → OpensIn b i) → OpensIn (fork j r a b) i
  by (inl e) f g = at-root j r a b i e
  by (inr ne) f g = deeper (one-zero j i ne) (cases_lt 0 (count i a)) f g

-- a name's node, and the entries round it
pub record HasNode {T : Type 0} (tree : EntryTree T) (i : ℕ) : Type 0 where
  pub parent : ℕ
  pub side : Bool
  pub deep : ℕ
  pub before : List (ℕ × T)
  pub near : List (ℕ × T)
  pub entry : T
  pub far : List (ℕ × T)
  pub after : List (ℕ × T)
  pub node : Node tree parent side deep before near i entry far after

side-of : (c : Context) → (s : Bool) × IsOnSide s c
side-of top = (true, tt)
side-of (under c s i r u) = (s, refl)

pub node-of : {T : Type 0} (tree : EntryTree T) → IsTree tree → (i : ℕ) → 0 < count_in i (tree_names tree.pool) → HasNode tree i
node-of tree is i h =
    let o = opens-in is.balanced.tree i (let x = count-names i is.balanced.tree in let y = ap (count_in i) is.balanced.names_are in omega arith) in
    let (x, e) = slice_get-there tree.entries i (name-within tree is i h) in
    let (s, on) = side-of o.inner in
    record {
      parent = parent_of o.inner;
      side = s;
      deep = depth o.inner;
      before = entries_at tree.entries (names_before o.inner);
      near = entries_at tree.entries (names o.left);
      entry = x;
      far = entries_at tree.entries (names o.right);
      after = entries_at tree.entries (names_after o.inner);
      node = record {
        spare = is.spare;
        context = o.inner;
        red = o.red;
        left = o.left;
        right = o.right;
        filled = record {
          height = is.balanced.height;
          stands = subst (λ t. Stands tree.pool is.spare t) o.is is.balanced.stands;
          good = subst (λ t. IsRedBlack is.balanced.height t) o.is is.balanced.red_black;
          black = subst (λ t. root_redness t ≡ 0) o.is is.balanced.black;
        };
        each_place = is.each_place;
        parent_is = refl;
        side_is = on;
        deep_is = refl;
        before_is = refl;
        near_is = refl;
        entry_is = e;
        far_is = refl;
        after_is = refl;
      };
    }

-- a node parts the tree's entries
module _ {T : Type 0} (tree : EntryTree T) (parent : ℕ) (side : Bool) (deep : ℕ) (before near : List (ℕ × T)) (at : ℕ) (entry : T) (far after : List (ℕ × T)) (node : Node tree parent side deep before near at entry far after) where
  round : names (plug node.context (join true at node.red node.left node.right)) ≡ (names_before node.context ++ names node.left) ++ (at ∷ (names node.right ++ names_after node.context))
  unfolding names join
  round = names-plug node.context (join true at node.red node.left node.right) ∙ simp append_assoc

  pub Node-entries : tree_entries_of tree ≡ (before ++ near) ++ ((at, entry) ∷ (far ++ after))
  Node-entries =
      let es = tree.entries in
      ap (entries_at es) (names_below-root tree.pool node.spare (plug node.context (join true at node.red node.left node.right)) node.filled.stands ∙ round)
      ∙ entries_at-round es (names_before node.context ++ names node.left) at entry (names node.right ++ names_after node.context) node.entry_is
      ∙ ap (λ (xs : List (ℕ × T)). xs ++ ((at, entry) ∷ entries_at es (names node.right ++ names_after node.context))) (entries_at-append es (names_before node.context) (names node.left))
      ∙ ap (λ (xs : List (ℕ × T)). (entries_at es (names_before node.context) ++ entries_at es (names node.left)) ++ ((at, entry) ∷ xs)) (entries_at-append es (names node.right) (names_after node.context))
      ∙ rw (node.before_is, node.near_is, node.far_is, node.after_is) refl

  abbrev pub Node-fork : Fork tree.pool at
  Node-fork = record { spare = node.spare; context = node.context; red = node.red; left = node.left; right = node.right; stands = node.filled.stands }

  pub Node-there : at ≢ NO_NODE
  Node-there = node-there tree.pool node.spare node.context true at node.red node.left node.right node.filled.stands

  -- the last of the entries on a node's left
  left-within : (i : ℕ) → 0 < count_in i (names_before node.context ++ names node.left) → i < length tree.entries
  left-within i h =
      let e = ap (count_in i) (names_before-left node.context at node.red node.right) in
      let a = count_in-append i (names_before node.context) (names node.left) in
      let w = round-within tree.pool node.spare (under node.context true at node.red node.right) node.left node.filled.stands i (omega arith) in
      let each = node.each_place in
      omega arith

  pub Node-last : last_of NO_NODE (names_before node.context ++ names node.left) ≡ last_named NO_NODE (before ++ near)
  Node-last =
      let es = tree.entries in
      let ns = names_before node.context ++ names node.left in
      let parts : entries_at es ns ≡ before ++ near = entries_at-append es (names_before node.context) (names node.left) ∙ rw (node.before_is, node.near_is) refl in
      ap (last_of NO_NODE) (sym (names-entries_at es ns left-within))
      ∙ last_of-names NO_NODE (entries_at es ns)
      ∙ ap (last_named NO_NODE) parts

-- what is at a place, by the name that shows it
pub record HasFork {T : Type 0} (tree : EntryTree T) (parent : ℕ) (side : Bool) (deep : ℕ) (before here after : List (ℕ × T)) (at : ℕ) : Type 0 where
  pub near : List (ℕ × T)
  pub entry : T
  pub far : List (ℕ × T)
  pub here_is : here ≡ near ++ ((at, entry) ∷ far)
  pub node : Node tree parent side deep before near at entry far after
  pub left : Place tree at true (suc deep) before near ((at, entry) ∷ (far ++ after))
  pub right : Place tree at false (suc deep) (before ++ (near ++ ((at, entry) ∷ []))) far after

module _ {T : Type 0} (tree : EntryTree T) (parent : ℕ) (side : Bool) (deep : ℕ) (before here after : List (ℕ × T)) (at : ℕ) where
  pub place-vacant : IsAtPlace tree parent side deep before here after at → at ≡ NO_NODE → here ≡ []
  place-vacant (vacant e none) empty = none
  place-vacant (node near entry far is n l r) empty = absurd (Node-there tree parent side deep before near at entry far after n empty)

  pub place-node : IsAtPlace tree parent side deep before here after at → at ≢ NO_NODE → HasFork tree parent side deep before here after at
  place-node (vacant e none) ne = absurd (ne e)
  place-node (node near entry far is n l r) ne = record { near = near; entry = entry; far = far; here_is = is; node = n; left = l; right = r }

-- an entry written over
entries_at-written : {T : Type 0} (xs : List T) (i : ℕ) (y : T) (ns : List ℕ) → ((j : ℕ) → 0 < count_in j ns → j < length xs) → entries_at (set xs i y) ns ≡ map (λ entry. if entry.0 == i then (i, y) else entry) (entries_at xs ns)
unfolding entries_at
entries_at-written xs i y [] within = refl
entries_at-written {T} xs i y (j ∷ ns) within =
    let (x, e) = slice_get-there xs j (within j (omega (arith, one-same j))) in
    by (cases_eq j i) x e (within j (omega (arith, one-same j))) (entries_at-written xs i y ns (λ k h. within k (omega arith))) where
      write : ℕ × T → ℕ × T
      write = λ entry. if entry.0 == i then (i, y) else entry

      by : (j ≡ i) ⊎ (j ≡ i → ⊥) → (x : T) → slice_get xs j ≡ Some x → j < length xs → entries_at (set xs i y) ns ≡ map write (entries_at xs ns) → entries_at (set xs i y) (j ∷ ns) ≡ map write (entries_at xs (j ∷ ns))
      by (inl same) x e h rest =
          let here : (j == i) ≡ true = grind (arith, nat_tests) in
          let there : slice_get (set xs i y) j ≡ Some y = ap (λ k. slice_get (set xs i y) k) same ∙ slice_get-set_same xs i y (omega arith) in
          entries_at-cons (set xs i y) j y ns there ∙ ap (λ (l : List (ℕ × T)). (j, y) ∷ l) rest ∙ ap (λ k. (k, y) ∷ map write (entries_at xs ns)) same
          ∙ ap (λ b. (if b then (i, y) else (j, x)) ∷ map write (entries_at xs ns)) (sym here) ∙ ap (map write) (sym (entries_at-cons xs j x ns e))
      by (inr ne) x e h rest =
          let here : (j == i) ≡ false = grind (arith, nat_tests) in
          entries_at-cons (set xs i y) j x ns (slice_get-set_other xs i j y ne ∙ e) ∙ ap (λ (l : List (ℕ × T)). (j, x) ∷ l) rest
          ∙ ap (λ b. (if b then (i, y) else (j, x)) ∷ map write (entries_at xs ns)) (sym here) ∙ ap (map write) (sym (entries_at-cons xs j x ns e))

pub IsTree-written : {T : Type 0} (tree : EntryTree T) (i : ℕ) (y : T) → IsTree tree → IsTree (with_entry tree i y)
IsTree-written tree i y is = record { spare = is.spare; balanced = is.balanced; each_place = length-set tree.entries i y ∙ is.each_place }

pub tree_entries_of-written : {T : Type 0} (tree : EntryTree T) (i : ℕ) (y : T) → IsTree tree → tree_entries_of (with_entry tree i y) ≡ map (λ entry. if entry.0 == i then (i, y) else entry) (tree_entries_of tree)
tree_entries_of-written tree i y is = entries_at-written tree.entries i y (tree_names tree.pool) (name-within tree is)
