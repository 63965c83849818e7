-- A red node under a red one: double rotations and colour flips.
use Rattle.std.proofs.Common.{◌≡◌, ◌≢◌, ℕ, ◌+◌, ◌≤◌, List, Bool, true, false, not, refl, sym, ap, ◌∙◌, arith, subst}
use Rattle.i_tree.specs.declared.tree.pool.TheConstants.{NO_NODE}
use Rattle.i_tree.specs.Tree.Shape.{Tree, leaf, fork, under, join, plug, names, root_redness, IsRedBlack}
use Rattle.i_tree.specs.Tree.Pool.{Nodes, links_at, child_of, root_of, Stands, Lifts, lifted}
use Rattle.i_tree.specs.Tree.Insertion.{depth, IsTreeBalanced, IsRedFork, IsRedAt, Reddens, reddened, IsRedTwice, IsRedOuter}
use Rattle.i_tree.proofs.Trees.Shapes.{join-turned, root_redness-join, names-lifted, names-join, names-within, IsRedBlack-level, IsRedBlack-plug}
use Rattle.i_tree.proofs.Trees.Places.{count-root}
use Rattle.i_tree.proofs.Trees.Reads.{near-read, far-read, apart-read, node-there}
use Rattle.i_tree.proofs.Trees.Mends.{IsRedFork-sides, IsRedFork-root, IsRedFork-good, IsRedFork-red, IsRedBlack-black, IsRedBlack-red}

-- a tree with a red root, opened
pub record IsRed (t : Tree) : Type 0 where
  pub name : ℕ
  pub left : Tree
  pub right : Tree
  pub is : t ≡ join true name true left right

pub IsRed-root : (t : Tree) → root_redness t ≡ 1 → IsRed t
unfolding root_redness join
IsRed-root leaf e = cc
IsRed-root (fork i true l r) e = record { name = i; left = l; right = r; is = refl }
IsRed-root (fork i false l r) e = cc

-- a red tree turned black
pub IsRedBlack-blackened : (h : ℕ) (t : Tree) (o : IsRed t) → IsRedBlack h t → IsRedBlack (h + 1) (join true o.name false o.left o.right)
IsRedBlack-blackened h t o good =
    let l = IsRedBlack-level h true o.name true o.left o.right (subst (λ (x : Tree). IsRedBlack h x) o.is good) in
    let e = l.height_is in let n = l.near_red in let f = l.far_red in
    let same : l.below ≡ h = omega arith in
    IsRedBlack-black h true o.name o.left o.right (subst (λ k. IsRedBlack k o.left) same l.near_is) (subst (λ k. IsRedBlack k o.right) same l.far_is) (omega arith) (omega arith)

module _ (pool : Nodes) (sp ns : List ℕ) (deep : ℕ) (s : Bool) (above parent i : ℕ) (a : IsRedTwice pool sp ns deep s above parent i) where
  abbrev pub uncle-reddens : IsRed a.uncle → Reddens pool above s
  uncle-reddens o = record {
    spare = sp;
    context = a.context;
    near_side = a.inner_side;
    near = parent;
    far_side = true;
    far = o.name;
    a = a.tree;
    b = a.sibling;
    c = o.left;
    d = o.right;
    stands = subst (λ (x : Tree). Stands pool sp (plug a.context (join s above false (join a.inner_side parent true a.tree a.sibling) x))) o.is a.stands;
  }

  pub IsRedAt-reddened : (new : Nodes) (o : IsRed a.uncle) → Stands new sp (reddened (uncle-reddens o)) → IsRedAt new sp ns (depth a.context) above
  IsRedAt-reddened new o stands =
      let lower = join a.inner_side parent false a.tree a.sibling in
      let upper = join true o.name false o.left o.right in
      let red = IsRedFork-red true i a.height a.tree (a.opens true) in
      let sb = a.sibling_black in
      let f : IsRedFork s above (a.height + 1) (join s above true lower upper) = record {
        near = lower;
        far = upper;
        is = refl;
        near_is = IsRedBlack-black a.height a.inner_side parent a.tree a.sibling (IsRedFork-good true i a.height a.tree (a.opens true)) a.sibling_is (omega arith) (omega arith);
        far_is = IsRedBlack-blackened a.height a.uncle o a.uncle_is;
        near_black = root_redness-join a.inner_side parent false a.tree a.sibling;
        far_black = root_redness-join true o.name false o.left o.right;
      } in
      let same : names (join s above true lower upper) ≡ names (join s above false (join a.inner_side parent true a.tree a.sibling) a.uncle) =
      names-join s above true false lower _ upper _ (names-join a.inner_side parent false true a.tree a.tree a.sibling a.sibling refl refl)
      (names-join true o.name false true o.left o.left o.right o.right refl refl ∙ sym (ap names o.is)) in
      record {
        context = a.context;
        tree = join s above true lower upper;
        height = a.height + 1;
        stands = stands;
        opens = IsRedFork-sides s above (a.height + 1) (join s above true lower upper) f;
        fits = a.fits;
        names_are = names-within a.context _ _ same ∙ a.names_are;
        deep_is = refl;
      }

  -- the red node is its parent's child on its own side
  pub child-outer : a.inner_side ≡ s → child_of (not s) (links_at pool parent) ≢ i
  child-outer e is =
      let stands : Stands pool sp (plug (under a.context s above false a.uncle) (join s parent true a.tree a.sibling)) =
      subst (λ x. Stands pool sp (plug (under a.context s above false a.uncle) (join x parent true a.tree a.sibling))) e a.stands in
      let far : root_of a.sibling ≡ i = sym (far-read pool sp (under a.context s above false a.uncle) s parent true a.tree a.sibling stands _ _ refl refl) ∙ is in
      let near = IsRedFork-root true i a.height a.tree (a.opens true) in
      let ne : i ≢ NO_NODE = red-there in
      let x = count-root a.sibling i far ne in
      let y = count-root a.tree i near ne in
      let o = apart-read pool sp (under a.context s above false a.uncle) s parent true a.tree a.sibling stands i in
      absurd (omega arith) where
        red-there : i ≢ NO_NODE
        red-there =
            node-there pool sp (under (under a.context s above false a.uncle) a.inner_side parent true a.sibling) true i true (a.opens true).near (a.opens true).far
            (subst (λ (x : Tree). Stands pool sp (plug (under (under a.context s above false a.uncle) a.inner_side parent true a.sibling) x)) (a.opens true).is a.stands)

  pub child-inner : a.inner_side ≡ not s → child_of (not s) (links_at pool parent) ≡ i
  child-inner e =
      let stands : Stands pool sp (plug (under a.context s above false a.uncle) (join (not s) parent true a.tree a.sibling)) =
      subst (λ x. Stands pool sp (plug (under a.context s above false a.uncle) (join x parent true a.tree a.sibling))) e a.stands in
      near-read pool sp (under a.context s above false a.uncle) (not s) parent true a.tree a.sibling stands _ _ refl refl ∙ IsRedFork-root true i a.height a.tree (a.opens true)

  -- what lifts the red node over its parent
  abbrev pub inner-lifts : a.inner_side ≡ not s → Lifts pool parent (not s)
  inner-lifts e = record {
    spare = sp;
    context = under a.context s above false a.uncle;
    parent_red = true;
    child = i;
    child_red = true;
    outer = (a.opens (not s)).near;
    inner = (a.opens (not s)).far;
    sibling = a.sibling;
    stands = subst (λ (x : Tree). Stands pool sp (plug (under a.context s above false a.uncle) (join (not s) parent true x a.sibling))) (a.opens (not s)).is
        (subst (λ x. Stands pool sp (plug (under a.context s above false a.uncle) (join x parent true a.tree a.sibling))) e a.stands);
  }

  module _ (black : root_redness a.uncle ≡ 0) where
    pub IsRedOuter-same : a.inner_side ≡ s → IsRedOuter pool sp ns s above
    IsRedOuter-same e = record {
      context = a.context;
      uncle = a.uncle;
      parent = parent;
      sibling = a.sibling;
      tree = a.tree;
      height = a.height;
      stands = subst (λ x. Stands pool sp (plug (under a.context s above false a.uncle) (join x parent true a.tree a.sibling))) e a.stands;
      tree_is = IsRedFork-good true i a.height a.tree (a.opens true);
      sibling_is = a.sibling_is;
      sibling_black = a.sibling_black;
      uncle_is = a.uncle_is;
      uncle_black = black;
      fits = a.fits;
      names_are = subst (λ x. names (plug (under a.context s above false a.uncle) (join x parent true a.tree a.sibling)) ≡ ns) e a.names_are;
    }

    pub IsRedOuter-lifted : (new : Nodes) (e : a.inner_side ≡ not s) → Stands new sp (lifted (inner-lifts e)) → IsRedOuter new sp ns s above
    IsRedOuter-lifted new e stands =
        let f = a.opens (not s) in
        let low = join (not s) parent true f.far a.sibling in
        let turned = join-turned s i true f.near low in
        let same : names (join s i true low f.near) ≡ names (join a.inner_side parent true a.tree a.sibling) =
        sym (ap names turned) ∙ names-lifted (not s) parent i true true true true f.near f.far a.sibling
        ∙ ap (λ (x : Tree). names (join (not s) parent true x a.sibling)) (sym f.is) ∙ ap (λ x. names (join x parent true a.tree a.sibling)) (sym e) in
        record {
          context = a.context;
          uncle = a.uncle;
          parent = i;
          sibling = f.near;
          tree = low;
          height = a.height;
          stands = subst (λ (x : Tree). Stands new sp (plug (under a.context s above false a.uncle) x)) turned stands;
          tree_is = IsRedBlack-red a.height (not s) parent f.far a.sibling f.far_is a.sibling_is f.far_black a.sibling_black;
          sibling_is = f.near_is;
          sibling_black = f.near_black;
          uncle_is = a.uncle_is;
          uncle_black = black;
          fits = a.fits;
          names_are = names-within (under a.context s above false a.uncle) _ _ same ∙ a.names_are;
        }

module _ (pool : Nodes) (sp ns : List ℕ) (s : Bool) (above : ℕ) (o : IsRedOuter pool sp ns s above) where
  abbrev pub outer-lifts : Lifts pool above s
  outer-lifts = record {
    spare = sp;
    context = o.context;
    parent_red = false;
    child = o.parent;
    child_red = true;
    outer = o.tree;
    inner = o.sibling;
    sibling = o.uncle;
    stands = o.stands;
  }

  pub IsTreeBalanced-outer : (new : Nodes) → Stands new sp (lifted outer-lifts) → root_redness o.tree ≤ 1 → IsTreeBalanced new sp ns
  IsTreeBalanced-outer new stands red =
      let low = join s above true o.sibling o.uncle in
      let t = join s o.parent false o.tree low in
      let good = IsRedBlack-black o.height s o.parent o.tree low o.tree_is
      (IsRedBlack-red o.height s above o.sibling o.uncle o.sibling_is o.uncle_is o.sibling_black o.uncle_black) red (rw root_redness-join (omega arith)) in
      let (k, (whole, black)) = IsRedBlack-plug o.context (o.height + 1) t good (rw root_redness-join o.fits) in
      record {
        tree = plug o.context t;
        height = k;
        stands = stands;
        red_black = whole;
        black = black;
        names_are = names-within o.context _ _ (names-lifted s above o.parent false true false true o.tree o.sibling o.uncle) ∙ o.names_are;
      }

pub root_redness-le : (t : Tree) → root_redness t ≤ 1
unfolding root_redness
root_redness-le leaf = omega arith
root_redness-le (fork i true l r) = omega arith
root_redness-le (fork i false l r) = omega arith

-- two sides that aren't the one are the other
pub other_side : (a b : Bool) → a ≢ b → a ≡ not b
other_side true true ne = absurd (ne refl)
other_side false false ne = absurd (ne refl)
other_side true false ne = refl
other_side false true ne = refl

pub same_side : (a b : Bool) → a ≢ not b → a ≡ b
same_side true true ne = refl
same_side false false ne = refl
same_side true false ne = absurd (ne refl)
same_side false true ne = absurd (ne refl)
