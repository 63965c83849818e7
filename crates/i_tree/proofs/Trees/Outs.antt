-- Taking out a node with one child at most.
use Rattle.std.proofs.Common.{◌≡◌, ℕ, ◌+◌, ◌≤◌, ◌∷◌, Bool, true, false, refl, sym, ap, ◌∙◌, arith, subst}
use Rattle.i_tree.specs.Tree.Shape.{leaf, join, plug, names, redness, blackness, root_redness, IsRedBlack, Fits}
use Rattle.i_tree.specs.Tree.Pool.{Nodes, Stands, Cuts}
use Rattle.i_tree.specs.Tree.Removal.{same, Lacks, FillsIn, TakesNodeOut, IsTakenOut}
use Rattle.i_tree.proofs.Trees.Shapes.{root_redness-join, names-join, IsRedBlack-level, Fits-plug}
use Rattle.i_tree.proofs.Trees.Twists.{IsRed, IsRedBlack-blackened}
use Rattle.i_tree.proofs.Trees.Lacks.{Fits-black, IsFilled-fits}

module _ (pool : Nodes) (i : ℕ) (s : Bool) (l : TakesNodeOut pool i s) where
  -- what the node and its place say of its child
  pub record Child : Type 0 where
    pub height : ℕ
    pub good : IsRedBlack height l.child
    pub low : root_redness l.child + redness l.red ≤ 1
    pub fits : Fits l.context (height + blackness l.red) (redness l.red)

  pub its-child : Child
  its-child =
      let (h, (good, fits)) = Fits-plug l.context l.filled.height (join s i l.red leaf l.child) l.filled.good l.filled.black in
      let v = IsRedBlack-level h s i l.red leaf l.child good in
      record { height = v.below; good = v.far_is; low = v.far_red; fits = subst (λ r. Fits l.context (v.below + blackness l.red) r) (root_redness-join s i l.red leaf l.child) (subst (λ n. Fits l.context n (root_redness (join s i l.red leaf l.child))) v.height_is fits) }

  abbrev pub out-cuts : Cuts pool i s
  out-cuts = record { spare = l.spare; context = l.context; red = l.red; child = l.child; stands = l.filled.stands }

  module _ (new : Nodes) where
    pub out-red : Stands new (i ∷ l.spare) (plug l.context l.child) → l.red ≡ true → IsTakenOut new (i ∷ l.spare) l.context l.child
    out-red stands e =
        let c = its-child in
        let low = subst (λ (r : Bool). root_redness l.child + redness r ≤ 1) e c.low in
        let black : root_redness l.child ≡ 0 = omega arith in
        let fits = Fits-black l.context (c.height + 0) (subst (λ (r : Bool). Fits l.context (c.height + blackness r) (redness r)) e c.fits) in
        let same_height : c.height + 0 ≡ c.height = omega arith in
        record {
          grown = l.context;
          grows = same l.context;
          tree = l.child;
          names_are = refl;
          filled = IsFilled-fits new (i ∷ l.spare) l.context l.child c.height stands c.good (rw black (subst (λ n. Fits l.context n 0) same_height fits));
        }

    pub out-painted : (o : IsRed l.child) → l.red ≡ false → Stands new (i ∷ l.spare) (plug l.context (join true o.name false o.left o.right)) → IsTakenOut new (i ∷ l.spare) l.context l.child
    out-painted o e stands =
        let c = its-child in
        let fits = subst (λ (r : Bool). Fits l.context (c.height + blackness r) (redness r)) e c.fits in
        record {
          grown = l.context;
          grows = same l.context;
          tree = join true o.name false o.left o.right;
          names_are = names-join true o.name false true o.left o.left o.right o.right refl refl ∙ sym (ap names o.is);
          filled = IsFilled-fits new (i ∷ l.spare) l.context (join true o.name false o.left o.right) (c.height + 1) stands (IsRedBlack-blackened c.height l.child o c.good)
              (rw root_redness-join fits);
        }

    pub out-lacks : Stands new (i ∷ l.spare) (plug l.context l.child) → l.red ≡ false → root_redness l.child ≡ 0 → Lacks new (i ∷ l.spare) l.context l.child
    out-lacks stands e black =
        let c = its-child in
        record { height = c.height; stands = stands; good = c.good; black = black; fits = subst (λ (r : Bool). Fits l.context (c.height + blackness r) (redness r)) e c.fits }

    pub out-filled : FillsIn new (i ∷ l.spare) l.context l.child → IsTakenOut new (i ∷ l.spare) l.context l.child
    out-filled f = record { grown = f.grown; grows = f.grows; tree = l.child; names_are = refl; filled = f.filled }
