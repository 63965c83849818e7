-- Taking a node with one child at most out of a pool's tree: splicing it out.
use Rattle.std.proofs.Common.{◌≡◌, ℕ, ◌+◌, ◌≤◌, ◌∷◌, Bool, true, false, not, refl, sym, ap, ◌∙◌, arith, subst}
use Rattle.i_tree.specs.declared.tree.pool.TheConstants.{NO_NODE}
use Rattle.i_tree.specs.declared.tree.pool.Links.{Links}
use Rattle.i_tree.specs.Tree.Shape.{leaf, join, plug, one, count, count_around}
use Rattle.i_tree.specs.Tree.Pool.{Nodes, links_at, wired, child_of, root_of, parent_of, IsOnSide, AreSpare, count_in, Stands, ChangesOnly, IsPut, Focus, Subtree, IsAdopted, Hangs, IsHung, Cuts}
use Rattle.i_tree.proofs.Trees.Shapes.{size-leaf, count-join, count-plug, size-join, size-plug}
use Rattle.i_tree.proofs.Trees.Pools.{child_of-far, wired-parent, wired-left, root_of-join, IsFork, IsAt-fork, Parts, Stands-parts, root_of-plug, IsAt-plug, ChangesOnly-trans, IsAt-kept, IsAround-kept, AreSpare-kept}

module _ (pool : Nodes) (i : ℕ) (s : Bool) (l : Cuts pool i s) where
  pub parts : Parts pool l.context (join s i l.red leaf l.child)
  parts = Stands-parts l.context _ l.stands

  pub lower : IsFork pool (parent_of l.context) s i l.red leaf l.child
  lower = IsAt-fork pool (parent_of l.context) s i l.red leaf l.child parts.at

  pub child_is : (node : Links) (child : ℕ) → node ≡ links_at pool i → child ≡ child_of (not s) node → child ≡ root_of l.child
  child_is node child n e = e ∙ ap (child_of (not s)) (n ∙ lower.node.is) ∙ child_of-far s _ _ _ _

  pub parent_is : (node : Links) → node ≡ links_at pool i → node.parent ≡ parent_of l.context
  parent_is node n = ap (λ (x : Links). x.parent) (n ∙ lower.node.is) ∙ wired-parent s _ _ _ _

  pub apart : (j : ℕ) → count_around j l.context + (one i j + count j l.child) + count_in j l.spare ≤ 1
  apart j =
      let a = count-plug j l.context (join s i l.red leaf l.child) in
      let b = count-join j s i l.red leaf l.child in
      let o = l.stands.once j in
      omega arith

  abbrev pub child_subtree : (x : ℕ) → x ≡ root_of l.child → Subtree pool x
  child_subtree x e = record { tree = l.child; parent = i; at = lower.far; root_is = sym e; once = λ j. let o = apart j in omega arith; fits = l.stands.fits }

  abbrev pub focus : Focus pool i
  focus = record { spare = l.spare; context = l.context; tree = join s i l.red leaf l.child; stands = l.stands; root_is = root_of-join s i l.red leaf l.child; there = λ e. let w = lower.node.within in let f = l.stands.fits in absurd (omega arith) }

  module _ (a : Nodes) (adopted : IsAdopted pool a (parent_of l.context) l.child) where
    abbrev pub place : (parent : ℕ) (on_left : Bool) → parent ≡ parent_of l.context → IsOnSide on_left l.context → Hangs a parent on_left
    place parent on_left e side = record {
      context = l.context;
      child = i;
      around = IsAround-kept adopted.only adopted.root l.context i (λ j h. let o = apart j in omega arith) (rw root_of-join at parts.around);
      parent_is = sym e;
      side_is = side;
      once = λ j. let o = apart j in omega arith;
      fits = rw (adopted.only.places) (l.stands.fits);
    }

    module _ (b d new : Nodes) (hung : IsHung a b l.context (root_of l.child))
        (put : IsPut b d i (wired true NO_NODE false b.spare NO_NODE))
        (first : new.spare ≡ i) (root : new.root ≡ d.root) (only : ChangesOnly (λ _. 0) d new) where
      whole : ChangesOnly (λ j. ((count j l.child + count_around j l.context) + one i j) + 0) pool new
      whole = ChangesOnly-trans (ChangesOnly-trans (ChangesOnly-trans adopted.only hung.only) put.only) only

      pub Stands-cut : Stands new (i ∷ l.spare) (plug l.context l.child)
      Stands-cut =
          let p : Parts new l.context l.child = record {
            around = IsAround-kept (ChangesOnly-trans put.only only) (root ∙ put.root) l.context (root_of l.child) (λ j h. let o = apart j in omega arith) hung.around;
            at = IsAt-kept (ChangesOnly-trans (ChangesOnly-trans hung.only put.only) only) (parent_of l.context) l.child (λ j h. let o = apart j in omega arith) adopted.at;
          } in
          let next : (links_at new i).left ≡ pool.spare =
          ap (λ (x : Links). x.left) (only.elsewhere i refl ∙ put.there) ∙ wired-left _ _ _ _ ∙ hung.spare ∙ adopted.spare in
          record {
            root = root_of-plug new l.context l.child p;
            at = IsAt-plug new l.context l.child p;
            spares = (first, (rw (whole.places) (lower.node.within), subst (λ (x : ℕ). AreSpare new x l.spare) (sym next) (AreSpare-kept whole pool.spare l.spare (λ j h. let o = apart j in omega arith) l.stands.spares)));
            once = λ j. let o = apart j in let x = count-plug j l.context l.child in omega arith;
            all =
                let x = size-plug l.context l.child in
                let x' = size-plug l.context (join s i l.red leaf l.child) in
                let y' = size-join s i l.red leaf l.child in
                let e = l.stands.all in let w = whole.places in let z = size-leaf in omega arith;
            fits = rw (whole.places) (l.stands.fits);
          }
