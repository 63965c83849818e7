-- Colours, leaves and cuts in a pool.
use Rattle.std.proofs.Common.{◌≡◌, ◌≢◌, ℕ, ◌+◌, ◌≤◌, List, Bool, true, refl, sym, ap, ◌∙◌, arith, subst}
use Rattle.i_tree.specs.declared.tree.pool.TheConstants.{NO_NODE}
use Rattle.i_tree.specs.declared.tree.pool.Links.{Links}
use Rattle.i_tree.specs.Tree.Shape.{Tree, leaf, fork, Context, join, plug, one, count, count_around, redness, root_redness}
use Rattle.i_tree.specs.Tree.Pool.{Nodes, places, links_at, root_of, parent_of, IsAt, AreSpare, count_in, Stands, IsPut}
use Rattle.i_tree.proofs.Trees.Shapes.{count-join, count-plug, size-join, size-plug}
use Rattle.i_tree.proofs.Trees.Pools.{wired-red, wired-painted, root_of-join, IsFork, IsAt-fork, IsAt-join, Parts, Stands-parts, root_of-plug, IsAt-plug, IsAt-kept, IsAround-kept, AreSpare-kept}

-- a subtree's root shows its colour
pub root_redness-links : (pool : Nodes) (p : ℕ) (t : Tree) → IsAt pool p t → root_of t ≢ NO_NODE → root_redness t ≡ redness (links_at pool (root_of t)).red
unfolding IsAt root_of root_redness
root_redness-links pool p leaf at ne = absurd (ne refl)
root_redness-links pool p (fork i r t u) (node, rest) ne = sym (ap (λ (l : Links). redness l.red) node.is ∙ ap redness (wired-red true p r _ _))

pub root_redness-empty : (pool : Nodes) (p : ℕ) (t : Tree) → IsAt pool p t → places pool ≤ NO_NODE → root_of t ≡ NO_NODE → root_redness t ≡ 0
unfolding IsAt root_of root_redness
root_redness-empty pool p leaf at fits e = refl
root_redness-empty pool p (fork i r t u) (node, rest) fits e = let w = node.within in absurd (omega arith)

-- a change of one node, by pieces
module _ (a b : Nodes) (sp : List ℕ) (c : Context) (s : Bool) (i : ℕ) (r q : Bool) (t u : Tree) (stands : Stands a sp (plug c (join s i r t u)))
    (put : IsPut a b i (record (links_at a i) { red = q })) where
  parts : Parts a c (join s i r t u)
  parts = Stands-parts c (join s i r t u) stands

  node : IsFork a (parent_of c) s i r t u
  node = IsAt-fork a (parent_of c) s i r t u parts.at

  apart : (j : ℕ) → count_around j c + (one i j + (count j t + count j u)) + count_in j sp ≤ 1
  apart j =
      let x = count-plug j c (join s i r t u) in
      let y = count-join j s i r t u in
      let o = stands.once j in
      omega arith

  pub Stands-painted : Stands b sp (plug c (join s i q t u))
  Stands-painted =
      let f : IsFork b (parent_of c) s i q t u = record {
        node = record { within = rw put.only.places node.node.within; is = put.there ∙ ap (λ (l : Links). record l { red = q }) node.node.is ∙ wired-painted s (parent_of c) r q _ _ };
        near = IsAt-kept put.only i t (λ j h. let o = apart j in omega arith) node.near;
        far = IsAt-kept put.only i u (λ j h. let o = apart j in omega arith) node.far;
      } in
      let p : Parts b c (join s i q t u) = record {
        around = rw root_of-join (IsAround-kept put.only put.root c i (λ j h. let o = apart j in omega arith) (rw root_of-join at parts.around));
        at = IsAt-join b (parent_of c) s i q t u f;
      } in
      record {
        root = root_of-plug b c (join s i q t u) p;
        at = IsAt-plug b c (join s i q t u) p;
        spares = subst (λ (x : ℕ). AreSpare b x sp) (sym put.spare) (AreSpare-kept put.only a.spare sp (λ j h. let o = apart j in omega arith) stands.spares);
        once = λ j. let o = apart j in let x = count-plug j c (join s i q t u) in let y = count-join j s i q t u in omega arith;
        all =
            let x = size-plug c (join s i q t u) in let y = size-join s i q t u in
            let x' = size-plug c (join s i r t u) in let y' = size-join s i r t u in
            let e = stands.all in let w = put.only.places in omega arith;
        fits = rw put.only.places stands.fits;
      }
