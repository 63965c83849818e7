-- Lifting a child over its parent in a pool: a rotation.
use Rattle.std.proofs.Common.{◌≡◌, ℕ, ◌+◌, ◌≤◌, Bool, not, sym, ap, ◌∙◌, arith, subst}
use Rattle.i_tree.specs.declared.tree.pool.Links.{Links}
use Rattle.i_tree.specs.Tree.Shape.{join, one, count, count_around}
use Rattle.i_tree.specs.Tree.Pool.{Nodes, links_at, wired, child_of, root_of, parent_of, IsOnSide, IsAround, AreSpare, count_in, Stands, ChangesOnly, IsPut, Focus, Subtree, IsAdopted, Hangs, IsHung, Lifts, lifted}
use Rattle.i_tree.proofs.Trees.Shapes.{one-same, count-join, count-plug, size-join, size-plug}
use Rattle.i_tree.proofs.Trees.Pools.{child_of-near, child_of-far, wired-parent, wired-red, root_of-join, IsFork, IsAt-fork, IsAt-join, Parts, Stands-parts, root_of-plug, IsAt-plug, ChangesOnly-trans, IsNode-kept, IsAt-kept, IsAround-kept, AreSpare-kept}

module _ (pool : Nodes) (i : ℕ) (s : Bool) (l : Lifts pool i s) where
  parts : Parts pool l.context (join s i l.parent_red (join s l.child l.child_red l.outer l.inner) l.sibling)
  parts = Stands-parts l.context _ l.stands

  pub lower : IsFork pool (parent_of l.context) s i l.parent_red (join s l.child l.child_red l.outer l.inner) l.sibling
  lower = IsAt-fork pool (parent_of l.context) s i l.parent_red _ l.sibling parts.at

  pub upper : IsFork pool i s l.child l.child_red l.outer l.inner
  upper = IsAt-fork pool i s l.child l.child_red l.outer l.inner lower.near

  pub node_is : links_at pool i ≡ wired s (parent_of l.context) l.parent_red l.child (root_of l.sibling)
  node_is = rw root_of-join at lower.node.is

  -- what the links show
  pub above_is : (node : Links) (above : ℕ) → node ≡ links_at pool i → above ≡ child_of s node → above ≡ l.child
  above_is node above n e = e ∙ ap (child_of s) (n ∙ node_is) ∙ child_of-near s _ _ _ _

  pub sibling_is : (node : Links) (sibling : ℕ) → node ≡ links_at pool i → sibling ≡ child_of (not s) node → sibling ≡ root_of l.sibling
  sibling_is node sibling n e = e ∙ ap (child_of (not s)) (n ∙ node_is) ∙ child_of-far s _ _ _ _

  pub red_is : (node : Links) → node ≡ links_at pool i → node.red ≡ l.parent_red
  red_is node n = ap (λ (x : Links). x.red) (n ∙ node_is) ∙ wired-red s _ _ _ _

  pub parent_is : (node : Links) → node ≡ links_at pool i → node.parent ≡ parent_of l.context
  parent_is node n = ap (λ (x : Links). x.parent) (n ∙ node_is) ∙ wired-parent s _ _ _ _

  pub over_is : (over : Links) (above : ℕ) → over ≡ links_at pool above → above ≡ l.child → over ≡ wired s i l.child_red (root_of l.outer) (root_of l.inner)
  over_is over above o e = o ∙ ap (links_at pool) e ∙ upper.node.is

  pub inner_is : (over : Links) (inner : ℕ) → over ≡ wired s i l.child_red (root_of l.outer) (root_of l.inner) → inner ≡ child_of (not s) over → inner ≡ root_of l.inner
  inner_is over inner o e = e ∙ ap (child_of (not s)) o ∙ child_of-far s _ _ _ _

  pub outer_is : (over : Links) (outer : ℕ) → over ≡ wired s i l.child_red (root_of l.outer) (root_of l.inner) → outer ≡ child_of s over → outer ≡ root_of l.outer
  outer_is over outer o e = e ∙ ap (child_of s) o ∙ child_of-near s _ _ _ _

  pub upper_red_is : (over : Links) → over ≡ wired s i l.child_red (root_of l.outer) (root_of l.inner) → over.red ≡ l.child_red
  upper_red_is over o = ap (λ (x : Links). x.red) o ∙ wired-red s _ _ _ _

  -- each place is counted at most once among the pieces
  pub apart : (j : ℕ) → count_around j l.context + (one i j + ((one l.child j + (count j l.outer + count j l.inner)) + count j l.sibling)) + count_in j l.spare ≤ 1
  apart j =
      let a = count-plug j l.context (join s i l.parent_red (join s l.child l.child_red l.outer l.inner) l.sibling) in
      let b = count-join j s i l.parent_red (join s l.child l.child_red l.outer l.inner) l.sibling in
      let d = count-join j s l.child l.child_red l.outer l.inner in
      let o = l.stands.once j in
      omega arith

  abbrev pub inner_subtree : (x : ℕ) → x ≡ root_of l.inner → Subtree pool x
  inner_subtree x e = record { tree = l.inner; parent = l.child; at = upper.far; root_is = sym e; once = λ j. let o = apart j in omega arith; fits = l.stands.fits }

  abbrev pub focus : Focus pool i
  focus = record { spare = l.spare; context = l.context; tree = join s i l.parent_red (join s l.child l.child_red l.outer l.inner) l.sibling; stands = l.stands; root_is = root_of-join s i l.parent_red _ l.sibling; there = λ e. let w = lower.node.within in let f = l.stands.fits in absurd (omega arith) }

  module _ (a b d : Nodes)
      (adopted : IsAdopted pool a i l.inner)
      (put : IsPut a b i (wired s l.child l.child_red (root_of l.inner) (root_of l.sibling)))
      (put2 : IsPut b d l.child (wired s (parent_of l.context) l.parent_red (root_of l.outer) i)) where
    -- what the three writes leave alone
    pub so_far : ChangesOnly (λ j. (count j l.inner + one i j) + one l.child j) pool d
    so_far = ChangesOnly-trans (ChangesOnly-trans adopted.only put.only) put2.only

    pub around_kept : IsAround d l.context i
    around_kept =
        IsAround-kept so_far (put2.root ∙ put.root ∙ adopted.root) l.context i (λ j h. let o = apart j in omega arith) (rw root_of-join at parts.around)

    module _ (parent : ℕ) (on_left : Bool) (e : parent ≡ parent_of l.context) (side : IsOnSide on_left l.context) where
      abbrev pub place : Hangs d parent on_left
      place = record { context = l.context; child = i; around = around_kept; parent_is = sym e; side_is = side; once = λ j. let o = apart j in omega arith; fits = rw (so_far.places) (l.stands.fits) }

    module _ (new : Nodes) (hung : IsHung d new l.context l.child) where
      whole : ChangesOnly (λ j. ((count j l.inner + one i j) + one l.child j) + count_around j l.context) pool new
      whole = ChangesOnly-trans so_far hung.only

      later : ChangesOnly (λ j. (one i j + one l.child j) + count_around j l.context) a new
      later = ChangesOnly-trans (ChangesOnly-trans put.only put2.only) hung.only

      pub node_lower : IsFork new l.child s i l.child_red l.inner l.sibling
      node_lower = record {
        node = let o = apart i in let e = one-same i in
            IsNode-kept (ChangesOnly-trans put2.only hung.only) (omega arith) (record { within = rw (put.only.places ∙ adopted.only.places) (lower.node.within); is = put.there });
        near = IsAt-kept later i l.inner (λ j h. let o = apart j in omega arith) adopted.at;
        far = IsAt-kept whole i l.sibling (λ j h. let o = apart j in omega arith) lower.far;
      }

      pub node_upper : IsFork new (parent_of l.context) s l.child l.parent_red l.outer (join s i l.child_red l.inner l.sibling)
      node_upper = record {
        node = let o = apart l.child in let e = one-same l.child in
            IsNode-kept hung.only (omega arith) (record { within = rw (so_far.places) (upper.node.within); is = rw root_of-join put2.there });
        near = IsAt-kept whole l.child l.outer (λ j h. let o = apart j in omega arith) upper.near;
        far = IsAt-join new l.child s i l.child_red l.inner l.sibling node_lower;
      }

      pub Stands-lifted : Stands new l.spare (lifted l)
      Stands-lifted =
          let t = join s l.child l.parent_red l.outer (join s i l.child_red l.inner l.sibling) in
          let p : Parts new l.context t = record { around = rw root_of-join (hung.around); at = IsAt-join new (parent_of l.context) s l.child l.parent_red l.outer _ node_upper } in
          record {
            root = root_of-plug new l.context t p;
            at = IsAt-plug new l.context t p;
            spares = subst (λ (x : ℕ). AreSpare new x l.spare) (sym (hung.spare ∙ put2.spare ∙ put.spare ∙ adopted.spare)) (AreSpare-kept whole pool.spare l.spare (λ j h. let o = apart j in omega arith) l.stands.spares);
            once = λ j. let o = apart j in let x = count-plug j l.context t in let y = count-join j s l.child l.parent_red l.outer (join s i l.child_red l.inner l.sibling) in let z = count-join j s i l.child_red l.inner l.sibling in omega arith;
            all =
                let x = size-plug l.context t in let y = size-join s l.child l.parent_red l.outer (join s i l.child_red l.inner l.sibling) in let z = size-join s i l.child_red l.inner l.sibling in
                let x' = size-plug l.context (join s i l.parent_red (join s l.child l.child_red l.outer l.inner) l.sibling) in
                let y' = size-join s i l.parent_red (join s l.child l.child_red l.outer l.inner) l.sibling in let z' = size-join s l.child l.child_red l.outer l.inner in
                let e = l.stands.all in let w = whole.places in omega arith;
            fits = rw (whole.places) (l.stands.fits);
          }
