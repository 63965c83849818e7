-- What a node's links say of a removal.
use Rattle.std.proofs.Common.{◌≡◌, ◌≢◌, ℕ, List, true, false, sym, ap, ◌∙◌, subst}
use Rattle.i_tree.specs.declared.tree.pool.TheConstants.{NO_NODE}
use Rattle.i_tree.specs.declared.tree.pool.Links.{Links}
use Rattle.i_tree.specs.Tree.Shape.{Tree, leaf, Context, under, join, plug}
use Rattle.i_tree.specs.Tree.Pool.{Nodes, links_at, root_of, parent_of, Stands, Focus}
use Rattle.i_tree.specs.Tree.Removal.{IsFilled, TakesNodeOut}
use Rattle.i_tree.proofs.Trees.Shapes.{join-turned}
use Rattle.i_tree.proofs.Trees.Pools.{IsFork, wired-left, wired-right}
use Rattle.i_tree.proofs.Trees.Reads.{forks, Stands-turned}
use Rattle.i_tree.proofs.Trees.Fills.{IsFilled-same}
use Rattle.i_tree.proofs.Trees.Firsts.{OpensAt, root-empty}

module _ (pool : Nodes) (sp : List ℕ) (c : Context) (t : Tree) (i : ℕ) (filled : IsFilled pool sp c t) (o : OpensAt t i) where
  pub opened-stands : Stands pool sp (plug c (join true i o.red o.left o.right))
  opened-stands = subst (λ x. Stands pool sp (plug c x)) o.is filled.stands

  module _ (node : Links) (n : node ≡ links_at pool i) where
    fork-is : IsFork pool (parent_of c) true i o.red o.left o.right
    fork-is = forks pool sp c true i o.red o.left o.right opened-stands

    pub left-is : node.left ≡ root_of o.left
    left-is = ap (λ (x : Links). x.left) (n ∙ fork-is.node.is) ∙ wired-left _ _ _ _

    pub right-is : node.right ≡ root_of o.right
    right-is = ap (λ (x : Links). x.right) (n ∙ fork-is.node.is) ∙ wired-right _ _ _ _

    pub left-read : node.left ≡ NO_NODE → t ≡ join true i o.red leaf o.right
    left-read e = o.is ∙ ap (λ x. join true i o.red x o.right) (root-empty pool i o.left fork-is.near filled.stands.fits (sym left-is ∙ e))

    pub right-read : node.right ≡ NO_NODE → t ≡ join false i o.red leaf o.left
    right-read e = o.is ∙ ap (λ x. join true i o.red o.left x) (root-empty pool i o.right fork-is.far filled.stands.fits (sym right-is ∙ e)) ∙ sym (join-turned true i o.red leaf o.left)

    abbrev pub left-missing : node.left ≡ NO_NODE → TakesNodeOut pool i true
    left-missing e = record { spare = sp; context = c; red = o.red; child = o.right; filled = IsFilled-same pool sp c c t (join true i o.red leaf o.right) (ap (plug c) (left-read e)) filled }

    abbrev pub right-missing : node.right ≡ NO_NODE → TakesNodeOut pool i false
    right-missing e = record { spare = sp; context = c; red = o.red; child = o.left; filled = IsFilled-same pool sp c c t (join false i o.red leaf o.left) (ap (plug c) (right-read e)) filled }

    abbrev pub right-focus : node.right ≢ NO_NODE → Focus pool node.right
    right-focus ne = record { spare = sp; context = under c false i o.red o.left; tree = o.right; stands = Stands-turned pool sp c true i o.red o.left o.right opened-stands; root_is = sym right-is; there = ne }
