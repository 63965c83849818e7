-- A tree's entries after an addition.
use Rattle.std.proofs.Common.{◌≡◌, ◌≢◌, ℕ, ◌+◌, ◌≤◌, ◌<◌, List, [], ◌∷◌, ◌++◌, length, Bool, Some, refl, sym, ap, ◌∙◌, arith, subst}
use Rattle.std.specs.List.{slice_get}
use Rattle.i_tree.specs.declared.tree.pool.TheConstants.{NO_NODE}
use Rattle.i_tree.specs.Tree.Shape.{Tree, leaf, fork, plug, names, names_before, names_after, size}
use Rattle.i_tree.specs.Tree.Pool.{Nodes, places, count_in, AreSpare, IsPlaceOfNew, reused, one_more}
use Rattle.i_tree.specs.Tree.Addition.{Gap, IsAdded}
use Rattle.i_tree.specs.Tree.Entries.{EntryTree, entries_at, tree_entries_of, Place, IsAddedTo}
use Rattle.i_tree.proofs.Trees.Shapes.{one-same}
use Rattle.i_tree.proofs.Trees.Names.{names_below-root, size-names, count_in-append}
use Rattle.i_tree.proofs.Trees.Fills.{IsFilled-same}
use Rattle.i_tree.proofs.Trees.Entries.{length-entries_at, entries_at-same, entries_at-round, names-within-places, names-once, round-within}

empty-leaf : (t : Tree) → size t ≡ 0 → t ≡ leaf
unfolding size
empty-leaf leaf e = refl
empty-leaf (fork i r a b) e = absurd (omega arith)

module _ {T : Type 0} (tree : EntryTree T) (parent : ℕ) (side : Bool) (deep : ℕ) (before after : List (ℕ × T)) (place : Place tree parent side deep before [] after) where
  pub vacant-leaf : place.subtree ≡ leaf
  vacant-leaf =
      let there = length-entries_at tree.entries (names place.subtree) (λ i h. let w = round-within tree.pool place.spare place.context place.subtree place.filled.stands i (omega arith) in let e = place.each_place in omega arith) in
      let none : length (entries_at tree.entries (names place.subtree)) ≡ 0 = ap length place.here_is in
      let n = size-names place.subtree in
      empty-leaf place.subtree (omega arith)

  abbrev pub place-gap : Gap tree.pool parent side
  place-gap = record {
    spare = place.spare;
    context = place.context;
    filled = IsFilled-same tree.pool place.spare place.context place.context place.subtree leaf (ap (plug place.context) vacant-leaf) place.filled;
    parent_is = place.parent_is;
    side_is = place.side_is;
  }

  module _ (new : Nodes) (i : ℕ) (added : IsAdded tree.pool new place.context i) where
    -- the new name is not among the others
    apart : count_in i (names_before place.context) + count_in i (names_after place.context) ≡ 0
    apart =
        let o = names-once new added.spare added.balanced.tree added.balanced.stands i in
        let e = ap (count_in i) added.balanced.names_are in
        let a = count_in-append i (names_before place.context) (i ∷ names_after place.context) in
        let s = one-same i in
        omega arith

    few : places new ≤ places tree.pool + 1
    few = by added.place where
      by : IsPlaceOfNew tree.pool.spare (places tree.pool) (places new) i → places new ≤ places tree.pool + 1
      by (reused some first l e) = omega arith
      by (one_more none l e) = omega arith

    -- where no place is spare, each has an entry
    full : tree.pool.spare ≡ NO_NODE → length (tree_entries_of tree) ≡ places tree.pool
    full none = by place.spare refl where
      whole : Tree
      whole = plug place.context place.subtree

      entries : length (entries_at tree.entries (names whole)) ≡ length (names whole)
      entries = length-entries_at tree.entries (names whole) (λ i h. let w = names-within-places tree.pool place.spare whole place.filled.stands i h in let e = place.each_place in omega arith)

      by : (spare : List ℕ) → place.spare ≡ spare → length (tree_entries_of tree) ≡ places tree.pool
      by [] e =
          let all = place.filled.stands.all in
          let no = ap length e in
          let n = size-names whole in
          let named = ap (λ ns. length (entries_at tree.entries ns)) (names_below-root tree.pool place.spare whole place.filled.stands) in
          omega (arith, entries)
      by (j ∷ rest) e =
          let first : AreSpare tree.pool tree.pool.spare (j ∷ rest) = subst (λ (sp : List ℕ). AreSpare tree.pool tree.pool.spare sp) e place.filled.stands.spares in
          let w = first.1.0 in let f = first.0 in let fits = place.filled.stands.fits in
          absurd (omega arith)

    reuses : length (tree_entries_of tree) < places tree.pool → places new ≡ places tree.pool
    reuses fewer = by added.place where
      by : IsPlaceOfNew tree.pool.spare (places tree.pool) (places new) i → places new ≡ places tree.pool
      by (reused some first l e) = e
      by (one_more none l e) = let f = full none in absurd (omega arith)

    other : (j : ℕ) → 0 < count_in j (names_before place.context) + count_in j (names_after place.context) → j ≢ i
    other j k f =
        let same = ap (λ n. count_in n (names_before place.context) + count_in n (names_after place.context)) f in
        let none = apart in
        absurd (omega arith)

    pub added-entries : (entries : List T) (entry : T) → length entries ≡ places new → slice_get entries i ≡ Some entry
        → ((j : ℕ) → j ≢ i → slice_get entries j ≡ slice_get tree.entries j)
        → IsAddedTo tree (record { pool = new; entries = entries }) before (i, entry) after
    added-entries entries entry each there same =
        let b = names_before place.context in
        let a = names_after place.context in
        let all = names_below-root new added.spare added.balanced.tree added.balanced.stands in
        record {
          tree = record {
            spare = added.spare;
            balanced = record {
              tree = added.balanced.tree;
              height = added.balanced.height;
              stands = added.balanced.stands;
              red_black = added.balanced.red_black;
              black = added.balanced.black;
              names_are = sym all;
            };
            each_place = each;
          };
          entries_are =
              ap (entries_at entries) (all ∙ added.balanced.names_are) ∙ entries_at-round entries b i entry a there
              ∙ ap (λ (xs : List (ℕ × T)). xs ++ ((i, entry) ∷ entries_at entries a)) (entries_at-same tree.entries entries b (λ j h. same j (other j (omega arith))) ∙ place.before_is)
              ∙ ap (λ (xs : List (ℕ × T)). before ++ ((i, entry) ∷ xs)) (entries_at-same tree.entries entries a (λ j h. same j (other j (omega arith))) ∙ place.after_is);
          one_more = few;
          reuses = reuses;
          elsewhere = same;
        }
