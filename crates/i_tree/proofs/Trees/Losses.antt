-- A tree's entries after a removal.
use Rattle.std.proofs.Common.{◌≡◌, ℕ, suc, ◌+◌, ◌≤◌, ◌<◌, ◌⊎◌, inl, inr, List, [], ◌∷◌, ◌++◌, length, length-append, Bool, true, Some, refl, sym, ap, ◌∙◌, arith}
use Rattle.std.specs.List.{slice_get}
use Rattle.i_tree.specs.Tree.Shape.{join, plug, names, names_before, names_after, one}
use Rattle.i_tree.specs.Tree.Pool.{Nodes, places, root_of, count_in}
use Rattle.i_tree.specs.Tree.Insertion.{depth}
use Rattle.i_tree.specs.Tree.Removal.{Removes, itself, next, IsRemoved}
use Rattle.i_tree.specs.Tree.Entries.{EntryTree, entries_at, Node, IsWithout, itself as without_itself, next as without_next, IsSwapped, IsTakenFrom}
use Rattle.i_tree.proofs.Trees.Shapes.{one-same, names-plug}
use Rattle.i_tree.proofs.Trees.Pools.{root_of-join}
use Rattle.i_tree.proofs.Trees.Reads.{node-within}
use Rattle.i_tree.proofs.Trees.Names.{count_in-append, places-names}
use Rattle.i_tree.proofs.Trees.Grows.{Grown-depth, Grown-parent, Grown-side, Grown-before, Grown-after}
use Rattle.i_tree.proofs.Trees.Firsts.{join-names}
use Rattle.i_tree.proofs.Trees.Entries.{slice_get-there, entries_at-cons, entries_at-append, entries_at-round, entries_at-swapped, count_in-round}

-- a list parts at a name in one way where the name stands once
part-once : (a b a' b' : List ℕ) (i : ℕ) → a ++ (i ∷ b) ≡ a' ++ (i ∷ b') → count_in i a' + count_in i b' ≡ 0 → (a ≡ a') × (b ≡ b')
part-once [] b [] b' i e none = (refl, cc)
part-once [] b (y ∷ a') b' i e none =
    let here : i ≡ y = cc in
    let same : one y i ≡ one i i = ap (λ n. one n i) (sym here) in
    let s = one-same i in
    absurd (omega arith)
part-once (x ∷ a) b [] b' i e none =
    let rest : a ++ (i ∷ b) ≡ b' = cc in
    let c = ap (count_in i) rest in
    let n = count_in-append i a (i ∷ b) in
    let s = one-same i in
    absurd (omega arith)
part-once (x ∷ a) b (y ∷ a') b' i e none =
    let front : x ≡ y = cc in
    let rest : a ++ (i ∷ b) ≡ a' ++ (i ∷ b') = cc in
    let (f, g) = part-once a b a' b' i rest (omega arith) in
    (cc, g)

-- the names round one without it, or with it in the place of the next
abbrev AreLeft : (i j : ℕ) (a b ms : List ℕ) → Type 0
AreLeft i j a b ms = ((j ≡ i) × (ms ≡ a ++ b)) ⊎ ((rest : List ℕ) × ((b ≡ j ∷ rest) × (ms ≡ a ++ (i ∷ rest))))

removes-parts : (i j : ℕ) (ns ms a b : List ℕ) → Removes i j ns ms → ns ≡ a ++ (i ∷ b) → count_in i a + count_in i b ≡ 0 → AreLeft i j a b ms
removes-parts i j ns ms a b (itself c d) e none = let (f, g) = part-once c d a b i e none in inl (refl, rw (f, g) refl)
removes-parts i j ns ms a b (next _ c d) e none = let (f, g) = part-once c (j ∷ d) a b i e none in inr (d, (sym g, rw f refl))

module _ {T : Type 0} (tree : EntryTree T) (parent : ℕ) (side : Bool) (deep : ℕ) (before near : List (ℕ × T)) (at : ℕ) (entry : T) (far after : List (ℕ × T)) (node : Node tree parent side deep before near at entry far after) where
  pub root-is : root_of (join true at node.red node.left node.right) ≡ at
  root-is = root_of-join true at node.red node.left node.right

  pub at-within : at < length tree.entries
  at-within = let w = node-within tree.pool node.spare node.context true at node.red node.left node.right node.filled.stands in let e = node.each_place in omega arith

  -- how often a name stands among the node's, and among those round it
  pub counts : (i : ℕ) → count_in i (names_before node.context) + (count_in i (names node.left) + (one at i + count_in i (names node.right)) + count_in i (names_after node.context)) + count_in i node.spare ≤ 1
  counts i =
      let c = count_in-round tree.pool node.spare node.context (join true at node.red node.left node.right) node.filled.stands i in
      let e = ap (count_in i) (join-names at node.red node.left node.right) in
      let a = count_in-append i (names node.left) (at ∷ names node.right) in
      omega arith

  module _ (new : Nodes) (gone : ℕ) (removed : IsRemoved new node.spare node.context (names (join true at node.red node.left node.right)) at gone) where
    parts : AreLeft at gone (names node.left) (names node.right) (names removed.tree)
    parts =
        let c = counts at in
        let s = one-same at in
        removes-parts at gone _ (names removed.tree) (names node.left) (names node.right) removed.removes (join-names at node.red node.left node.right) (omega arith)

    gone-inside : 1 ≤ one at gone + count_in gone (names node.right)
    gone-inside = by parts where
      by : AreLeft at gone (names node.left) (names node.right) (names removed.tree) → 1 ≤ one at gone + count_in gone (names node.right)
      by (inl (e, f)) = let s = one-same gone in let same : one at gone ≡ one gone gone = ap (λ n. one n gone) (sym e) in omega arith
      by (inr (rest, (e, f))) = let s = one-same gone in let c = ap (count_in gone) e in omega arith

    one-fewer : length (names removed.tree) + 1 ≡ length (names (join true at node.red node.left node.right))
    one-fewer = by parts where
      whole : length (names (join true at node.red node.left node.right)) ≡ length (names node.left) + suc (length (names node.right))
      whole = ap length (join-names at node.red node.left node.right) ∙ length-append (names node.left) (at ∷ names node.right)

      by : AreLeft at gone (names node.left) (names node.right) (names removed.tree) → length (names removed.tree) + 1 ≡ length (names (join true at node.red node.left node.right))
      by (inl (e, f)) = let w = whole in let l = ap length f ∙ length-append (names node.left) (names node.right) in omega arith
      by (inr (rest, (e, f))) = let w = whole in let l = ap length f ∙ length-append (names node.left) (at ∷ rest) in let r = ap length e in omega arith

    pub places-same : places new ≡ places tree.pool
    places-same =
        let old_names = places-names tree.pool node.spare (plug node.context (join true at node.red node.left node.right)) node.filled.stands in
        let new_names = places-names new (gone ∷ node.spare) (plug removed.grown removed.tree) removed.filled.stands in
        let old_parts = ap length (names-plug node.context (join true at node.red node.left node.right)) in
        let new_parts = ap length (names-plug removed.grown removed.tree) in
        let b = ap length (Grown-before node.context removed.grown removed.grows) in
        let a = ap length (Grown-after node.context removed.grown removed.grows) in
        let one = one-fewer in
        omega (arith, length-append {A = ℕ})

    pub gone-within : gone < length tree.entries
    gone-within = let w = removed.filled.stands.spares.1.0 in let p = places-same in let e = node.each_place in omega arith

    module _ (entries : List T) (swapped : IsSwapped tree.entries entries at gone) where
      -- the other entries stay
      kept : (ns : List ℕ) → count_in at ns ≡ 0 → count_in gone ns ≡ 0 → entries_at entries ns ≡ entries_at tree.entries ns
      kept ns = entries_at-swapped tree.entries entries at gone swapped ns

      kept-before : entries_at entries (names_before node.context) ≡ before
      kept-before =
          let a = counts at in
          let g = counts gone in
          let s = one-same at in
          let i = gone-inside in
          kept (names_before node.context) (omega arith) (omega arith) ∙ node.before_is

      kept-after : entries_at entries (names_after node.context) ≡ after
      kept-after =
          let a = counts at in
          let g = counts gone in
          let s = one-same at in
          let i = gone-inside in
          kept (names_after node.context) (omega arith) (omega arith) ∙ node.after_is

      kept-near : entries_at entries (names node.left) ≡ near
      kept-near =
          let a = counts at in
          let g = counts gone in
          let s = one-same at in
          let i = gone-inside in
          kept (names node.left) (omega arith) (omega arith) ∙ node.near_is

      taken : (here : List (ℕ × T)) → entries_at entries (names removed.tree) ≡ here → IsWithout near at far gone here → IsTakenFrom tree (record { pool = new; entries = entries }) parent side deep before near at far after gone
      taken here here_is without = record {
        deeper = depth removed.grown;
        not_less = let g = Grown-depth node.context removed.grown removed.grows in let d = node.deep_is in omega arith;
        here = here;
        without = without;
        place = record {
          spare = gone ∷ node.spare;
          context = removed.grown;
          subtree = removed.tree;
          filled = removed.filled;
          each_place = swapped.same_length ∙ node.each_place ∙ sym places-same;
          parent_is = Grown-parent node.context removed.grown removed.grows ∙ node.parent_is;
          side_is = Grown-side node.context removed.grown side removed.grows node.side_is;
          deep_is = refl;
          before_is = ap (entries_at entries) (Grown-before node.context removed.grown removed.grows) ∙ kept-before;
          here_is = here_is;
          after_is = ap (entries_at entries) (Grown-after node.context removed.grown removed.grows) ∙ kept-after;
        };
        same_places = places-same;
        at_gone = swapped.second;
        elsewhere = swapped.elsewhere;
      }

      pub taken-out : IsTakenFrom tree (record { pool = new; entries = entries }) parent side deep before near at far after gone
      taken-out = by parts where
        by : AreLeft at gone (names node.left) (names node.right) (names removed.tree) → IsTakenFrom tree (record { pool = new; entries = entries }) parent side deep before near at far after gone
        by (inl (e, f)) =
            let a = counts at in
            let s = one-same at in
            let same = ap (λ n. count_in n (names node.right)) e in
            let right = kept (names node.right) (omega arith) (omega arith) ∙ node.far_is in
            taken (near ++ far)
            (ap (entries_at entries) f ∙ entries_at-append entries (names node.left) (names node.right) ∙ ap (λ (xs : List (ℕ × T)). xs ++ entries_at entries (names node.right)) kept-near ∙ ap (λ (xs : List (ℕ × T)). near ++ xs) right)
            (without_itself e)
        by (inr (rest, (e, f))) =
            let a = counts at in
            let g = counts gone in
            let s = one-same at in
            let t = one-same gone in
            let at_rest = ap (count_in at) e in
            let gone_rest = ap (count_in gone) e in
            let rest_kept = kept rest (omega arith) (omega arith) in
            let (moved, moved_is) = slice_get-there tree.entries gone gone-within in
            let there : slice_get entries at ≡ Some moved = swapped.first ∙ moved_is in
            taken (near ++ ((at, moved) ∷ entries_at tree.entries rest))
            (ap (entries_at entries) f ∙ entries_at-round entries (names node.left) at moved rest there ∙ ap (λ (xs : List (ℕ × T)). xs ++ ((at, moved) ∷ entries_at entries rest)) kept-near ∙ ap (λ (xs : List (ℕ × T)). near ++ ((at, moved) ∷ xs)) rest_kept)
            (without_next moved (entries_at tree.entries rest) (sym node.far_is ∙ ap (entries_at tree.entries) e ∙ entries_at-cons tree.entries gone moved rest moved_is))
