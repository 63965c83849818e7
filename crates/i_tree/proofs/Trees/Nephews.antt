-- What the code reads below a node whose other child is black: that child and its children.
use Rattle.std.proofs.Common.{◌≡◌, ℕ, ◌<◌, Bool, false, not, ap, ◌∙◌}
use Rattle.i_tree.specs.declared.tree.pool.Links.{Links}
use Rattle.i_tree.specs.Tree.Shape.{under, redness, root_redness}
use Rattle.i_tree.specs.Tree.Pool.{Nodes, places, links_at, child_of, Subtree}
use Rattle.i_tree.specs.Tree.Removal.{LacksBelow, LacksByBlack}
use Rattle.i_tree.proofs.Trees.Pools.{root_of-join}
use Rattle.i_tree.proofs.Trees.Reads.{node-within, near-read, far-read, near-subtree, far-subtree}
use Rattle.i_tree.proofs.Trees.Lacks.{Opens, Opens-black}
use Rattle.i_tree.proofs.Trees.Refills.{opened, sibling-stands}

module _ (old : Nodes) (i : ℕ) (s : Bool) (l : LacksByBlack old i s) where
  abbrev pub opening : Opens s false (LacksBelow.sibling l.below)
  opening = Opens-black s l.below.lacks.height l.below.sibling l.below.lacks.fits.1.1.0 l.sibling_black

  pub lack-within : i < places old
  lack-within = node-within old l.below.spare l.below.above s i l.below.red l.below.tree l.below.sibling l.below.lacks.stands

  pub sibling-read : (node : Links) (sibling : ℕ) → node ≡ links_at old i → sibling ≡ child_of (not s) node → sibling ≡ opening.name
  sibling-read node sibling n e =
      far-read old l.below.spare l.below.above s i l.below.red l.below.tree _ (opened old i s l opening).stands node sibling n e
      ∙ root_of-join s opening.name false opening.near opening.far

  module _ (sibling : ℕ) (is : sibling ≡ opening.name) where
    pub sibling-within : sibling < places old
    sibling-within =
        rw is (node-within old l.below.spare (under l.below.above (not s) i l.below.red l.below.tree) s opening.name false opening.near opening.far (sibling-stands old i s l opening))

    module _ (nephews : Links) (are : nephews ≡ links_at old sibling) (x : ℕ) where
      abbrev pub far-nephew : x ≡ child_of (not s) nephews → Subtree old x
      far-nephew e =
          let around = under l.below.above (not s) i l.below.red l.below.tree in
          let stands = sibling-stands old i s l opening in
          far-subtree old l.below.spare around s opening.name false opening.near opening.far stands x
          (far-read old l.below.spare around s opening.name false opening.near opening.far stands nephews x (are ∙ ap (links_at old) is) e)

      abbrev pub near-nephew : x ≡ child_of s nephews → Subtree old x
      near-nephew e =
          let around = under l.below.above (not s) i l.below.red l.below.tree in
          let stands = sibling-stands old i s l opening in
          near-subtree old l.below.spare around s opening.name false opening.near opening.far stands x
          (near-read old l.below.spare around s opening.name false opening.near opening.far stands nephews x (are ∙ ap (links_at old) is) e)

      -- what the test of a child's colour says of the tree
      module _ (red : Bool) (tells : (subtree : Subtree old x) → root_redness subtree.tree ≡ redness red) where
        pub far-red : x ≡ child_of (not s) nephews → root_redness opening.far ≡ redness red
        far-red e = tells (far-nephew e)

        pub near-red : x ≡ child_of s nephews → root_redness opening.near ≡ redness red
        near-red e = tells (near-nephew e)
