-- What is at a place of a tree.
use Rattle.std.proofs.Common.{◌≡◌, ◌≢◌, ℕ, suc, ◌<◌, ◌⊎◌, inl, inr, List, [], ◌∷◌, ◌++◌, length, Bool, true, false, Some, refl, sym, ap, ◌∙◌, arith}
use Rattle.std.proofs.lemmas.Bool.{cases_eq}
use Rattle.std.specs.List.{slice_get}
use Rattle.i_tree.specs.declared.tree.pool.TheConstants.{NO_NODE}
use Rattle.i_tree.specs.Tree.Shape.{Tree, leaf, Context, under, join, plug, names, names_before, names_after}
use Rattle.i_tree.specs.Tree.Pool.{root_of}
use Rattle.i_tree.specs.Tree.Removal.{IsFilled}
use Rattle.i_tree.specs.Tree.Entries.{EntryTree, entries_at, Place, Node, IsAtPlace, vacant, node}
use Rattle.i_tree.proofs.Trees.Shapes.{join-turned}
use Rattle.i_tree.proofs.Trees.Reads.{node-within}
use Rattle.i_tree.proofs.Trees.Pools.{Parts, Stands-parts}
use Rattle.i_tree.proofs.Trees.Fills.{IsFilled-same}
use Rattle.i_tree.proofs.Trees.Firsts.{OpensAt, root-opens, root-empty, names_before-left, join-names}
use Rattle.i_tree.proofs.Trees.Entries.{entries_at-none, entries_at-cons, entries_at-append, entries_at-round, slice_get-there}
use Rattle.i_tree.proofs.Trees.Orders.{names_after-right}

-- the names round a node's children
names_after-left : (c : Context) (i : ℕ) (r : Bool) (u : Tree) → names_after (under c true i r u) ≡ (i ∷ names u) ++ names_after c
unfolding names_after
names_after-left c i r u = refl

names_before-right : (c : Context) (i : ℕ) (r : Bool) (t : Tree) → names_before (under c false i r t) ≡ names_before c ++ (names t ++ (i ∷ []))
unfolding names_before
names_before-right c i r t = refl

names-empty : (t : Tree) → t ≡ leaf → names t ≡ []
unfolding names
names-empty t e = ap names e

module _ {T : Type 0} (tree : EntryTree T) (parent : ℕ) (side : Bool) (deep : ℕ) (before here after : List (ℕ × T)) (place : Place tree parent side deep before here after) where
  vacant-here : root_of place.subtree ≡ NO_NODE → here ≡ []
  vacant-here e =
      let stands = place.filled.stands in
      let empty = root-empty tree.pool _ place.subtree (Parts.at (Stands-parts place.context place.subtree stands)) stands.fits e in
      sym place.here_is ∙ ap (entries_at tree.entries) (names-empty place.subtree empty) ∙ entries_at-none tree.entries

  module _ (at : ℕ) (o : OpensAt place.subtree at) where
    opened : IsFilled tree.pool place.spare place.context (join true at o.red o.left o.right)
    opened = IsFilled-same tree.pool place.spare place.context place.context place.subtree (join true at o.red o.left o.right) (ap (plug place.context) o.is) place.filled

    within : at < length tree.entries
    within = let w = node-within tree.pool place.spare place.context true at o.red o.left o.right opened.stands in let e = place.each_place in omega arith

    module _ (entry : T) (entry_is : slice_get tree.entries at ≡ Some entry) where
      node-here : here ≡ entries_at tree.entries (names o.left) ++ ((at, entry) ∷ entries_at tree.entries (names o.right))
      node-here = sym place.here_is ∙ ap (λ t. entries_at tree.entries (names t)) o.is ∙ ap (entries_at tree.entries) (join-names at o.red o.left o.right) ∙ entries_at-round tree.entries (names o.left) at entry (names o.right) entry_is

      abbrev the-node : Node tree parent side deep before (entries_at tree.entries (names o.left)) at entry (entries_at tree.entries (names o.right)) after
      the-node = record {
        spare = place.spare;
        context = place.context;
        red = o.red;
        left = o.left;
        right = o.right;
        filled = opened;
        each_place = place.each_place;
        parent_is = place.parent_is;
        side_is = place.side_is;
        deep_is = place.deep_is;
        before_is = place.before_is;
        near_is = refl;
        entry_is = entry_is;
        far_is = refl;
        after_is = place.after_is;
      }

      abbrev left-place : Place tree at true (suc deep) before (entries_at tree.entries (names o.left)) ((at, entry) ∷ (entries_at tree.entries (names o.right) ++ after))
      left-place = record {
        spare = place.spare;
        context = under place.context true at o.red o.right;
        subtree = o.left;
        filled = IsFilled-same tree.pool place.spare place.context (under place.context true at o.red o.right) (join true at o.red o.left o.right) o.left refl opened;
        each_place = place.each_place;
        parent_is = refl;
        side_is = refl;
        deep_is = ap suc place.deep_is;
        before_is = ap (entries_at tree.entries) (names_before-left place.context at o.red o.right) ∙ place.before_is;
        here_is = refl;
        after_is =
            ap (entries_at tree.entries) (names_after-left place.context at o.red o.right)
            ∙ entries_at-cons tree.entries at entry (names o.right ++ names_after place.context) entry_is
            ∙ ap (λ (xs : List (ℕ × T)). (at, entry) ∷ xs) (entries_at-append tree.entries (names o.right) (names_after place.context) ∙ ap (λ (xs : List (ℕ × T)). entries_at tree.entries (names o.right) ++ xs) place.after_is);
      }

      abbrev right-place : Place tree at false (suc deep) (before ++ (entries_at tree.entries (names o.left) ++ ((at, entry) ∷ []))) (entries_at tree.entries (names o.right)) after
      right-place = record {
        spare = place.spare;
        context = under place.context false at o.red o.left;
        subtree = o.right;
        filled = IsFilled-same tree.pool place.spare place.context (under place.context false at o.red o.left) (join true at o.red o.left o.right) o.right (ap (plug place.context) (sym (join-turned true at o.red o.right o.left))) opened;
        each_place = place.each_place;
        parent_is = refl;
        side_is = refl;
        deep_is = ap suc place.deep_is;
        before_is =
            ap (entries_at tree.entries) (names_before-right place.context at o.red o.left)
            ∙ entries_at-append tree.entries (names_before place.context) (names o.left ++ (at ∷ []))
            ∙ ap (λ (xs : List (ℕ × T)). xs ++ entries_at tree.entries (names o.left ++ (at ∷ []))) place.before_is
            ∙ ap (λ (xs : List (ℕ × T)). before ++ xs) (entries_at-round tree.entries (names o.left) at entry [] entry_is ∙ ap (λ (xs : List (ℕ × T)). entries_at tree.entries (names o.left) ++ ((at, entry) ∷ xs)) (entries_at-none tree.entries));
        here_is = refl;
        after_is = ap (entries_at tree.entries) (names_after-right place.context at o.red o.left) ∙ place.after_is;
      }

    node-there : IsAtPlace tree parent side deep before here after at
    node-there =
        let (entry, entry_is) = slice_get-there tree.entries at within in
        node (entries_at tree.entries (names o.left)) entry (entries_at tree.entries (names o.right)) (node-here entry entry_is) (the-node entry entry_is) (left-place entry entry_is) (right-place entry entry_is)

  -- a place's root shows what is there
  pub IsAtPlace-root : (at : ℕ) → at ≡ root_of place.subtree → IsAtPlace tree parent side deep before here after at
  IsAtPlace-root at e = by (cases_eq at NO_NODE) where
    by : (at ≡ NO_NODE) ⊎ (at ≢ NO_NODE) → IsAtPlace tree parent side deep before here after at
    by (inl empty) = vacant empty (vacant-here (sym e ∙ empty))
    by (inr ne) = node-there at (root-opens place.subtree at (sym e) ne)
