-- A lack by a black sibling with a red child, and by a red sibling.
use Rattle.std.proofs.Common.{◌≡◌, ℕ, ◌+◌, ◌≤◌, List, Bool, true, false, not, refl, sym, ap, ◌∙◌, arith, subst}
use Rattle.i_tree.specs.Tree.Shape.{Tree, Context, under, join, plug, names, redness, blackness, root_redness, IsRedBlack, Fits}
use Rattle.i_tree.specs.Tree.Pool.{Nodes, Stands, Lifts, lifted}
use Rattle.i_tree.specs.Tree.Removal.{Grown, same, keep, more, Lacks, LacksBelow, LacksByBlack, LacksByRed, LacksByBoth, IsRefilled, FillsIn}
use Rattle.i_tree.proofs.Trees.Shapes.{join-turned, root_redness-join, names-lifted, names-join}
use Rattle.i_tree.proofs.Trees.Reads.{Stands-turned}
use Rattle.i_tree.proofs.Trees.Mends.{IsRedBlack-black, IsRedBlack-red}
use Rattle.i_tree.proofs.Trees.Twists.{IsRed, IsRedBlack-blackened, root_redness-le}
use Rattle.i_tree.proofs.Trees.Lacks.{Stands-back, IsFilled-fits, AreBelow, AreBelow-black, AreBlackBelow, AreBlackBelow-red, Opens}

-- a paint of a node that goes by another name of it
pub painted-as : (old new : Nodes) (sp : List ℕ) (x i : ℕ) (red : Bool) → x ≡ i →
    ((sp' : List ℕ) (k : Context) (s was : Bool) (near far : Tree) → Stands old sp' (plug k (join s x was near far)) → Stands new sp' (plug k (join s x red near far))) →
    (k : Context) (s was : Bool) (near far : Tree) → Stands old sp (plug k (join s i was near far)) → Stands new sp (plug k (join s i red near far))
painted-as old new sp x i red e paint k s was near far stands =
    subst (λ y. Stands new sp (plug k (join s y red near far))) e (paint sp k s was near far (subst (λ y. Stands old sp (plug k (join s y was near far))) (sym e) stands))

-- the sibling is black and its outer child red
module _ (pool : Nodes) (i : ℕ) (s : Bool) (l : LacksByRed pool i s) where
  abbrev pub red-lifts : Lifts pool i (not s)
  red-lifts = record {
    spare = l.spare;
    context = l.above;
    parent_red = l.red;
    child = l.sibling;
    child_red = false;
    outer = l.outer;
    inner = l.inner;
    sibling = l.tree;
    stands = subst (λ (x : Tree). Stands pool l.spare (plug l.above (join (not s) i l.red x l.tree))) (sym (join-turned s l.sibling false l.outer l.inner))
        (Stands-turned pool l.spare l.above s i l.red l.tree (join s l.sibling false l.inner l.outer) l.lacks.stands);
  }

  -- before the paint
  pub lifted-stands : (a : Nodes) → Stands a l.spare (lifted red-lifts) → (o : IsRed l.outer) →
      Stands a l.spare (plug (under l.above (not s) l.sibling l.red (join s i false l.tree l.inner)) (join true o.name true o.left o.right))
  lifted-stands a stands o =
      subst (λ (x : Tree). Stands a l.spare (plug l.above (join (not s) l.sibling l.red x (join s i false l.tree l.inner)))) o.is
      (subst (λ (x : Tree). Stands a l.spare (plug l.above (join (not s) l.sibling l.red l.outer x))) (join-turned s i false l.inner l.tree) stands)

  pub FillsIn-red : (new : Nodes) (o : IsRed l.outer) →
      Stands new l.spare (plug (under l.above (not s) l.sibling l.red (join s i false l.tree l.inner)) (join true o.name false o.left o.right)) →
      FillsIn new l.spare (under l.above s i l.red (join s l.sibling false l.inner l.outer)) l.tree
  FillsIn-red new o stands =
      let outer = join true o.name false o.left o.right in
      let kids = AreBelow-black l.lacks.height s l.sibling l.inner l.outer l.lacks.fits.1.1.0 in
      let outer_red = root_redness-join true o.name false o.left o.right in
      let b = l.lacks.black in
      let n = l.lacks.fits.0 in
      let inner_red = root_redness-le l.inner in
      let e : names outer ≡ names l.outer = names-join true o.name false true o.left o.left o.right o.right refl refl ∙ sym (ap names o.is) in
      let outer_fits : root_redness outer + redness l.red ≤ 1 = omega arith in
      record {
        grown = under (under l.above s l.sibling l.red outer) s i false l.inner;
        grows = more l.above s i l.sibling l.red l.red false (join s l.sibling false l.inner l.outer) l.inner outer (names-join s l.sibling l.red false l.inner l.inner outer l.outer refl e);
        filled = IsFilled-fits new l.spare (under (under l.above s l.sibling l.red outer) s i false l.inner) l.tree l.lacks.height
            (Stands-back new l.spare l.above s l.sibling l.red outer (join s i false l.tree l.inner) stands) l.lacks.good
            (omega arith, (omega arith, (kids.near, (omega arith, (outer_fits, (IsRedBlack-blackened l.lacks.height l.outer o kids.far, l.lacks.fits.1.1.1))))));
      }

-- the sibling is black: what its children's colours make of it
module _ (pool : Nodes) (i : ℕ) (s : Bool) (l : LacksByBlack pool i s) (o : Opens s false (LacksBelow.sibling l.below)) where
  pub opened : Lacks pool l.below.spare (under l.below.above s i l.below.red (join s o.name false o.near o.far)) l.below.tree
  opened = subst (λ (x : Tree). Lacks pool l.below.spare (under l.below.above s i l.below.red x) l.below.tree) o.is l.below.lacks

  abbrev pub by-red : root_redness o.far ≡ 1 → LacksByRed pool i s
  by-red e = record { spare = l.below.spare; above = l.below.above; red = l.below.red; sibling = o.name; inner = o.near; outer = o.far; tree = l.below.tree; lacks = opened; outer_red = e }

  abbrev pub by-both : root_redness o.near ≡ 0 → root_redness o.far ≡ 0 → LacksByBoth pool i o.name s
  by-both e f = record { spare = l.below.spare; above = l.below.above; red = l.below.red; inner = o.near; outer = o.far; tree = l.below.tree; lacks = opened; inner_black = e; outer_black = f }

  pub refilled-opened : (new : Nodes) (b : Bool) → IsRefilled new l.below.spare (under l.below.above s i l.below.red (join s o.name false o.near o.far)) l.below.tree i b → IsRefilled new l.below.spare (under l.below.above s i l.below.red l.below.sibling) l.below.tree i b
  refilled-opened new b r = subst (λ (x : Tree). IsRefilled new l.below.spare (under l.below.above s i l.below.red x) l.below.tree i b) (sym o.is) r

  pub sibling-stands : Stands pool l.below.spare (plug (under l.below.above (not s) i l.below.red l.below.tree) (join s o.name false o.near o.far))
  sibling-stands = Stands-turned pool l.below.spare l.below.above s i l.below.red l.below.tree (join s o.name false o.near o.far) opened.stands

  module _ (z : Opens s true o.near) where
    abbrev pub near-lifts : Lifts pool o.name s
    near-lifts = record {
      spare = l.below.spare;
      context = under l.below.above (not s) i l.below.red l.below.tree;
      parent_red = false;
      child = z.name;
      child_red = true;
      outer = z.near;
      inner = z.far;
      sibling = o.far;
      stands = subst (λ (x : Tree). Stands pool l.below.spare (plug (under l.below.above (not s) i l.below.red l.below.tree) (join s o.name false x o.far))) z.is sibling-stands;
    }

    pub near-red : IsRedBlack opened.height (join s z.name true z.near z.far)
    near-red = subst (λ (x : Tree). IsRedBlack opened.height x) z.is (AreBelow.near (AreBelow-black opened.height s o.name o.near o.far opened.fits.1.1.0))

    module _ (new : Nodes) (far_black : root_redness o.far ≡ 0) (stands : Stands new l.below.spare (lifted near-lifts)) where
      pub near-lacks : Lacks new l.below.spare (under l.below.above s i l.below.red (join s z.name false z.near (join s o.name true z.far o.far))) l.below.tree
      near-lacks =
          let kids = AreBelow-black opened.height s o.name o.near o.far opened.fits.1.1.0 in
          let nephews = AreBlackBelow-red opened.height s z.name z.near z.far near-red in
          let low = join s o.name true z.far o.far in
          let low_good = IsRedBlack-red opened.height s o.name z.far o.far nephews.far kids.far nephews.far_black far_black in
          let red_before = root_redness-join s o.name false o.near o.far in
          let red_after = root_redness-join s z.name false z.near low in
          let f = opened.fits.1.0 in
          record {
            height = opened.height;
            stands = Stands-back new l.below.spare l.below.above s i l.below.red (join s z.name false z.near low) l.below.tree stands;
            good = opened.good;
            black = opened.black;
            fits = (opened.fits.0, (omega arith, (IsRedBlack-black opened.height s z.name z.near low nephews.near low_good (root_redness-le z.near) (root_redness-le low), opened.fits.1.1.1)));
          }

      abbrev pub near-by-red : LacksByRed new i s
      near-by-red = record { spare = l.below.spare; above = l.below.above; red = l.below.red; sibling = z.name; inner = z.near; outer = join s o.name true z.far o.far; tree = l.below.tree; lacks = near-lacks; outer_red = root_redness-join s o.name true z.far o.far }

      pub near-grown : Grown (under l.below.above s i l.below.red l.below.sibling) (under l.below.above s i l.below.red (join s z.name false z.near (join s o.name true z.far o.far)))
      near-grown =
          let e : names (join s z.name false z.near (join s o.name true z.far o.far)) ≡ names l.below.sibling =
          names-lifted s o.name z.name false true false true z.near z.far o.far ∙ ap (λ (x : Tree). names (join s o.name false x o.far)) (sym z.is) ∙ sym (ap names o.is) in
          keep l.below.above l.below.above s i l.below.red l.below.red l.below.sibling (join s z.name false z.near (join s o.name true z.far o.far)) (same l.below.above) e

-- the sibling is red
module _ (pool : Nodes) (i : ℕ) (s : Bool) (l : LacksBelow pool i s) (o : Opens s true l.sibling) where
  pub opened-red : Lacks pool l.spare (under l.above s i l.red (join s o.name true o.near o.far)) l.tree
  opened-red = subst (λ (x : Tree). Lacks pool l.spare (under l.above s i l.red x) l.tree) o.is l.lacks

  pub parent-black : l.red ≡ false
  parent-black = by l.red refl where
    by : (b : Bool) → l.red ≡ b → l.red ≡ false
    by false e = e
    by true e =
        let x = opened-red.fits.1.0 in
        let y = root_redness-join s o.name true o.near o.far in
        let z : redness l.red ≡ 1 = ap redness e in
        absurd (omega arith)

  abbrev pub sibling-lifts : Lifts pool i (not s)
  sibling-lifts = record {
    spare = l.spare;
    context = l.above;
    parent_red = l.red;
    child = o.name;
    child_red = true;
    outer = o.far;
    inner = o.near;
    sibling = l.tree;
    stands = subst (λ (x : Tree). Stands pool l.spare (plug l.above (join (not s) i l.red x l.tree))) (sym (join-turned s o.name true o.far o.near))
        (Stands-turned pool l.spare l.above s i l.red l.tree (join s o.name true o.near o.far) opened-red.stands);
  }

  module _ (new : Nodes) (stands : Stands new l.spare (lifted sibling-lifts)) where
    pub kids : AreBlackBelow (opened-red.height + 1) o.near o.far
    kids = AreBlackBelow-red (opened-red.height + 1) s o.name o.near o.far opened-red.fits.1.1.0

    pub lacks-lower : Lacks new l.spare (under (under l.above s o.name false o.far) s i true o.near) l.tree
    lacks-lower =
        let turned = subst (λ (x : Tree). Stands new l.spare (plug l.above (join (not s) o.name l.red o.far x))) (join-turned s i true o.near l.tree) stands in
        let back = Stands-back new l.spare l.above s o.name l.red o.far (join s i true l.tree o.near) turned in
        let nb = kids.near_black in let fb = kids.far_black in
        record {
          height = opened-red.height;
          stands = subst (λ (r : Bool). Stands new l.spare (plug (under (under l.above s o.name r o.far) s i true o.near) l.tree)) parent-black back;
          good = opened-red.good;
          black = opened-red.black;
          fits = (
            omega arith,
            (
              omega arith,
              (
                kids.near,
                (
                  omega arith,
                  (
                    omega arith,
                    (
                      subst (λ n. IsRedBlack n o.far) (sym (plus-none (opened-red.height + 1))) kids.far,
                      subst (λ n. Fits l.above (n + 1) 0) (sym (plus-none (opened-red.height + 1))) (subst (λ (r : Bool). Fits l.above (opened-red.height + 1 + blackness r) (redness r)) parent-black opened-red.fits.1.1.1),
                    ),
                  ),
                ),
              ),
            ),
          );
        } where
          plus-none : (n : ℕ) → n + 0 ≡ n
          plus-none n = omega arith

    abbrev pub lower-by-black : LacksByBlack new i s
    lower-by-black = record { below = record { spare = l.spare; above = under l.above s o.name false o.far; red = true; sibling = o.near; tree = l.tree; lacks = lacks-lower }; sibling_black = kids.near_black }

    pub lower-grown : Grown (under l.above s i l.red l.sibling) (under (under l.above s o.name false o.far) s i true o.near)
    lower-grown = more l.above s i o.name l.red false true l.sibling o.near o.far (names-join s o.name false true o.near o.near o.far o.far refl refl ∙ sym (ap names o.is))

-- what a call says of a node that goes by another name of it
pub lift-as : (old new : Nodes) (s : Bool) (x y : ℕ) → x ≡ y → ((l : Lifts old x s) → Stands new l.spare (lifted l)) → (l : Lifts old y s) → Stands new l.spare (lifted l)
lift-as old new s x y e = subst (λ n. (l : Lifts old n s) → Stands new l.spare (lifted l)) e

pub both-as : (old new : Nodes) (i : ℕ) (s : Bool) (x y : ℕ) (b : Bool) → x ≡ y →
    ((l : LacksByBoth old i x s) → IsRefilled new l.spare (under l.above s i l.red (join s x false l.inner l.outer)) l.tree i b) →
    (l : LacksByBoth old i y s) → IsRefilled new l.spare (under l.above s i l.red (join s y false l.inner l.outer)) l.tree i b
both-as old new i s x y b e = subst (λ n. (l : LacksByBoth old i n s) → IsRefilled new l.spare (under l.above s i l.red (join s n false l.inner l.outer)) l.tree i b) e
