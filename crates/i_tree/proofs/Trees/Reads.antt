-- What the links of a node show of the tree that it stands in.
use Rattle.std.proofs.Common.{◌≡◌, ◌≢◌, ℕ, ◌+◌, ◌≤◌, ◌<◌, List, Bool, not, sym, ap, ◌∙◌, arith, subst}
use Rattle.i_tree.specs.declared.tree.pool.TheConstants.{NO_NODE}
use Rattle.i_tree.specs.declared.tree.pool.Links.{Links}
use Rattle.i_tree.specs.Tree.Shape.{Tree, Context, join, plug, one, count, count_around}
use Rattle.i_tree.specs.Tree.Pool.{Nodes, places, links_at, child_of, root_of, parent_of, count_in, Stands, Focus, Subtree}
use Rattle.i_tree.proofs.Trees.Shapes.{count-join, count-plug, join-turned}
use Rattle.i_tree.proofs.Trees.Pools.{child_of-near, child_of-far, wired-parent, wired-red, root_of-join, IsFork, IsAt-fork, Parts, Stands-parts}

module _ (pool : Nodes) (sp : List ℕ) (c : Context) (s : Bool) (i : ℕ) (r : Bool) (t u : Tree) (stands : Stands pool sp (plug c (join s i r t u))) where
  pub forks : IsFork pool (parent_of c) s i r t u
  forks = IsAt-fork pool (parent_of c) s i r t u (Parts.at (Stands-parts c (join s i r t u) stands))

  pub node-within : i < places pool
  node-within = forks.node.within

  pub node-there : i ≢ NO_NODE
  node-there e = let w = node-within in let f = stands.fits in absurd (omega arith)

  pub near-read : (node : Links) (x : ℕ) → node ≡ links_at pool i → x ≡ child_of s node → x ≡ root_of t
  near-read node x n e = e ∙ ap (child_of s) (n ∙ forks.node.is) ∙ child_of-near s _ _ _ _

  pub far-read : (node : Links) (x : ℕ) → node ≡ links_at pool i → x ≡ child_of (not s) node → x ≡ root_of u
  far-read node x n e = e ∙ ap (child_of (not s)) (n ∙ forks.node.is) ∙ child_of-far s _ _ _ _

  pub red-read : (node : Links) → node ≡ links_at pool i → node.red ≡ r
  red-read node n = ap (λ (x : Links). x.red) (n ∙ forks.node.is) ∙ wired-red s _ _ _ _

  pub parent-read : (node : Links) → node ≡ links_at pool i → node.parent ≡ parent_of c
  parent-read node n = ap (λ (x : Links). x.parent) (n ∙ forks.node.is) ∙ wired-parent s _ _ _ _

  pub apart-read : (j : ℕ) → count_around j c + (one i j + (count j t + count j u)) + count_in j sp ≤ 1
  apart-read j =
      let a = count-plug j c (join s i r t u) in
      let b = count-join j s i r t u in
      let o = stands.once j in
      omega arith

  abbrev pub node-focus : Focus pool i
  node-focus = record { spare = sp; context = c; tree = join s i r t u; stands = stands; root_is = root_of-join s i r t u; there = node-there }

  abbrev pub near-subtree : (x : ℕ) → x ≡ root_of t → Subtree pool x
  near-subtree x e = record { tree = t; parent = i; at = forks.near; root_is = sym e; once = λ j. let o = apart-read j in omega arith; fits = stands.fits }

  abbrev pub far-subtree : (x : ℕ) → x ≡ root_of u → Subtree pool x
  far-subtree x e = record { tree = u; parent = i; at = forks.far; root_is = sym e; once = λ j. let o = apart-read j in omega arith; fits = stands.fits }

  -- the same node from its other side
  pub Stands-turned : Stands pool sp (plug c (join (not s) i r u t))
  Stands-turned = subst (λ (x : Tree). Stands pool sp (plug c x)) (sym (join-turned s i r u t)) stands
