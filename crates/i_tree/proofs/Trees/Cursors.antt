-- Places of a tree, and the tree's entries.
use Rattle.std.proofs.Common.{◌≡◌, ℕ, ◌≤◌, List, [], ◌++◌, length, Bool, true, false, nat_eq, if◌then◌else◌, refl, sym, ap, ◌∙◌, arith}
use Rattle.std.proofs.lemmas.Bool.{eqb-true, eqb-false}
use Rattle.i_tree.specs.declared.tree.pool.TheConstants.{NO_NODE}
use Rattle.i_tree.specs.Tree.Shape.{Tree, Context, top, plug, names, names_before, names_after, size}
use Rattle.i_tree.specs.Tree.Pool.{Nodes, places, links_at, child_of, root_of, parent_of, IsOnSide, Stands}
use Rattle.i_tree.specs.Tree.Addition.{names_below}
use Rattle.i_tree.specs.Tree.Entries.{EntryTree, IsTree, Place, entries_at, tree_entries_of, held_below}
use Rattle.i_tree.specs.TreeBound.{most_comparisons}
use Rattle.i_tree.proofs.Trees.Shapes.{names-plug, names_before-top, names_after-top, size-plug}
use Rattle.i_tree.proofs.Trees.Pools.{Parts, Stands-parts}
use Rattle.i_tree.proofs.Trees.Names.{names_below-at, names_below-root, down-root, down-child, size-names}
use Rattle.i_tree.proofs.Trees.Bounds.{shallow}
use Rattle.i_tree.proofs.Trees.Powers.{power-half}
use Rattle.i_tree.proofs.Trees.Entries.{entries_at-none, entries_at-append, length-entries_at, names-within-places, round-within}

-- the place of the whole tree
pub whole-place : {T : Type 0} (tree : EntryTree T) (side : Bool) → IsTree tree → Place tree NO_NODE side 0 [] (tree_entries_of tree) []
whole-place tree side is = record {
  spare = is.spare;
  context = top;
  subtree = is.balanced.tree;
  filled = record { height = is.balanced.height; stands = is.balanced.stands; good = is.balanced.red_black; black = is.balanced.black };
  each_place = is.each_place;
  parent_is = refl;
  side_is = tt;
  deep_is = refl;
  before_is = ap (entries_at tree.entries) names_before-top ∙ entries_at-none tree.entries;
  here_is = ap (entries_at tree.entries) is.balanced.names_are;
  after_is = ap (entries_at tree.entries) names_after-top ∙ entries_at-none tree.entries;
}

-- a place parts the tree's entries
pub Place-tree : {T : Type 0} (tree : EntryTree T) (parent : ℕ) (side : Bool) (deep : ℕ) (before here after : List (ℕ × T)) → Place tree parent side deep before here after → IsTree tree
Place-tree tree parent side deep before here after place = record {
  spare = place.spare;
  balanced = record {
    tree = plug place.context place.subtree;
    height = place.filled.height;
    stands = place.filled.stands;
    red_black = place.filled.good;
    black = place.filled.black;
    names_are = sym (names_below-root tree.pool place.spare (plug place.context place.subtree) place.filled.stands);
  };
  each_place = place.each_place;
}

pub Place-entries : {T : Type 0} (tree : EntryTree T) (parent : ℕ) (side : Bool) (deep : ℕ) (before here after : List (ℕ × T)) → Place tree parent side deep before here after → tree_entries_of tree ≡ before ++ (here ++ after)
Place-entries {T} tree parent side deep before here after place =
    let es = tree.entries in
    let b = names_before place.context in
    let h = names place.subtree in
    let a = names_after place.context in
    ap (entries_at es) (names_below-root tree.pool place.spare (plug place.context place.subtree) place.filled.stands ∙ names-plug place.context place.subtree)
    ∙ entries_at-append es b (h ++ a)
    ∙ ap (λ (xs : List (ℕ × T)). entries_at es b ++ xs) (entries_at-append es h a)
    ∙ ap (λ (xs : List (ℕ × T)). xs ++ (entries_at es h ++ entries_at es a)) place.before_is
    ∙ ap (λ (xs : List (ℕ × T)). before ++ (xs ++ entries_at es a)) place.here_is
    ∙ ap (λ (xs : List (ℕ × T)). before ++ (here ++ xs)) place.after_is

-- the root of the subtree at a place, read from the links
root-read : (pool : Nodes) (sp : List ℕ) (c : Context) (t : Tree) (side : Bool) → Stands pool sp (plug c t) → IsOnSide side c → (if nat_eq (parent_of c) NO_NODE then pool.root else child_of side (links_at pool (parent_of c))) ≡ root_of t
root-read pool sp c t side stands on = by (nat_eq (parent_of c) NO_NODE) refl where
  by : (b : Bool) → nat_eq (parent_of c) NO_NODE ≡ b → (if b then pool.root else child_of side (links_at pool (parent_of c))) ≡ root_of t
  by true e = down-root pool sp c t stands (eqb-true _ _ e)
  by false e = down-child pool sp c t side _ stands (eqb-false _ _ e) on refl

pub Place-held : {T : Type 0} (tree : EntryTree T) (parent : ℕ) (side : Bool) (deep : ℕ) (before here after : List (ℕ × T)) → Place tree parent side deep before here after → held_below tree.pool parent side ≡ length here
unfolding held_below
Place-held tree parent side deep before here after place =
    let pool = tree.pool in
    let stands = place.filled.stands in
    let root = root-read pool place.spare place.context place.subtree side stands place.side_is in
    let all = stands.all in
    let whole = size-plug place.context place.subtree in
    let below = names_below-at pool (parent_of place.context) place.subtree (places pool) (Parts.at (Stands-parts place.context place.subtree stands)) stands.fits (omega arith) in
    let there = length-entries_at tree.entries (names place.subtree) (λ i h. let w = round-within pool place.spare place.context place.subtree stands i (omega arith) in let e = place.each_place in omega arith) in
    rw (← place.parent_is) (ap (λ x. length (names_below (places pool) pool x)) root ∙ ap length below ∙ sym there ∙ ap length place.here_is)

-- the tree's entries are as many as its nodes
tree-size : {T : Type 0} (tree : EntryTree T) (sp : List ℕ) (t : Tree) → length tree.entries ≡ places tree.pool → Stands tree.pool sp t → length (tree_entries_of tree) ≡ size t
tree-size tree sp t each stands =
    ap (λ ns. length (entries_at tree.entries ns)) (names_below-root tree.pool sp t stands)
    ∙ length-entries_at tree.entries (names t) (λ i h. let w = names-within-places tree.pool sp t stands i h in omega arith)
    ∙ sym (size-names t)

pub entries-few : {T : Type 0} (tree : EntryTree T) → IsTree tree → length (tree_entries_of tree) ≤ places tree.pool
entries-few tree is =
    let n = tree-size tree is.spare is.balanced.tree is.each_place is.balanced.stands in
    let all = is.balanced.stands.all in
    omega arith

-- no place lies deeper
pub Place-shallow : {T : Type 0} (tree : EntryTree T) (parent : ℕ) (side : Bool) (deep : ℕ) (before here after : List (ℕ × T)) → Place tree parent side deep before here after → deep ≤ most_comparisons (length (tree_entries_of tree))
Place-shallow tree parent side deep before here after place =
    let n = length (tree_entries_of tree) in
    let e = tree-size tree place.spare (plug place.context place.subtree) place.each_place place.filled.stands in
    let s = shallow place.filled.height place.context place.subtree place.filled.good place.filled.black in
    let d = place.deep_is in
    let g = power-half s.half n (rw e (s.power)) in
    let deep_enough = s.deep in
    omega arith
