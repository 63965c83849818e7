-- What a lack is after each step of its mending: the extra black in the fix-up after a deletion.
use Rattle.std.proofs.Common.{◌≡◌, ℕ, ◌+◌, List, Bool, true, false, not, refl, arith, subst}
use Rattle.i_tree.specs.Tree.Shape.{Tree, leaf, fork, Context, top, under, join, plug, names, redness, blackness, root_redness, IsRedBlack, Fits}
use Rattle.i_tree.specs.Tree.Pool.{Nodes, Stands}
use Rattle.i_tree.specs.Tree.Removal.{parent_red, Grown, same, keep, trans, IsFilled, LacksByBoth, IsRefilled, filled, passed, FillsIn}
use Rattle.i_tree.proofs.Trees.Shapes.{join-turned, root_redness-join, names-join, IsRedBlack-level, IsRedBlack-plug}
use Rattle.i_tree.proofs.Trees.Mends.{IsRedBlack-black, IsRedBlack-red}
use Rattle.i_tree.proofs.Trees.Twists.{root_redness-le}

plus-zero : (n : ℕ) → n + 0 ≡ n
plus-zero n = omega arith

pub Stands-back : (pool : Nodes) (sp : List ℕ) (c : Context) (s : Bool) (i : ℕ) (r : Bool) (t u : Tree) → Stands pool sp (plug c (join (not s) i r t u)) → Stands pool sp (plug c (join s i r u t))
Stands-back pool sp c s i r t u stands = subst (λ (x : Tree). Stands pool sp (plug c x)) (join-turned s i r t u) stands

-- a black subtree stands where a red one may
pub Fits-black : (c : Context) (h : ℕ) → Fits c h 1 → Fits c h 0
Fits-black top h e = refl
Fits-black (under c s i r u) h (a, rest) = (omega arith, rest)

pub IsFilled-fits : (pool : Nodes) (sp : List ℕ) (c : Context) (t : Tree) (h : ℕ) → Stands pool sp (plug c t) → IsRedBlack h t → Fits c h (root_redness t) → IsFilled pool sp c t
IsFilled-fits pool sp c t h stands good fits =
    let (k, (whole, black)) = IsRedBlack-plug c h t good fits in
    record { height = k; stands = stands; good = whole; black = black }

-- the two children of a black node
pub record AreBelow (h : ℕ) (u v : Tree) : Type 0 where
  pub near : IsRedBlack h u
  pub far : IsRedBlack h v

pub AreBelow-black : (h : ℕ) (s : Bool) (y : ℕ) (u v : Tree) → IsRedBlack (h + 1) (join s y false u v) → AreBelow h u v
AreBelow-black h s y u v good =
    let l = IsRedBlack-level (h + 1) s y false u v good in
    let e = l.height_is in
    let same : l.below ≡ h = omega arith in
    record { near = subst (λ k. IsRedBlack k u) same l.near_is; far = subst (λ k. IsRedBlack k v) same l.far_is }

pub record AreBlackBelow (h : ℕ) (u v : Tree) : Type 0 where
  pub near : IsRedBlack h u
  pub far : IsRedBlack h v
  pub near_black : root_redness u ≡ 0
  pub far_black : root_redness v ≡ 0

pub AreBlackBelow-red : (h : ℕ) (s : Bool) (y : ℕ) (u v : Tree) → IsRedBlack h (join s y true u v) → AreBlackBelow h u v
AreBlackBelow-red h s y u v good =
    let l = IsRedBlack-level h s y true u v good in
    let e = l.height_is in let n = l.near_red in let f = l.far_red in
    let same : l.below ≡ h = omega arith in
    record { near = subst (λ k. IsRedBlack k u) same l.near_is; far = subst (λ k. IsRedBlack k v) same l.far_is; near_black = omega arith; far_black = omega arith }

-- a tree with a root, opened from one side
pub record Opens (s : Bool) (red : Bool) (t : Tree) : Type 0 where
  pub name : ℕ
  pub near : Tree
  pub far : Tree
  pub is : t ≡ join s name red near far

pub Opens-black : (s : Bool) (h : ℕ) (t : Tree) → IsRedBlack (h + 1) t → root_redness t ≡ 0 → Opens s false t
unfolding IsRedBlack root_redness join
Opens-black s h leaf e black = absurd (omega arith)
Opens-black s h (fork i true l r) good e = cc
Opens-black true h (fork i false l r) good e = record { name = i; near = l; far = r; is = refl }
Opens-black false h (fork i false l r) good e = record { name = i; near = r; far = l; is = refl }

pub Opens-red : (s : Bool) (t : Tree) → root_redness t ≡ 1 → Opens s true t
unfolding root_redness join
Opens-red s leaf e = cc
Opens-red s (fork i false l r) e = cc
Opens-red true (fork i true l r) e = record { name = i; near = l; far = r; is = refl }
Opens-red false (fork i true l r) e = record { name = i; near = r; far = l; is = refl }

pub FillsIn-grown : (pool : Nodes) (sp : List ℕ) (c d : Context) (t : Tree) → Grown c d → FillsIn pool sp d t → FillsIn pool sp c t
FillsIn-grown pool sp c d t g f = record { grown = f.grown; grows = trans c d f.grown g f.grows; filled = f.filled }

-- below a red node a lack is always filled
pub IsRefilled-settled : (pool : Nodes) (sp : List ℕ) (c d : Context) (t : Tree) (i : ℕ) (b : Bool) → parent_red d ≡ true → Grown c d → IsRefilled pool sp d t i b → IsRefilled pool sp c t i b
IsRefilled-settled pool sp c d t i b red g (filled e h f) = filled e (trans c d e g h) f
IsRefilled-settled pool sp c d t i b red g (passed a s u e less h l) = cc

pub IsRefilled-fills : (pool : Nodes) (sp : List ℕ) (c : Context) (t : Tree) (i : ℕ) → FillsIn pool sp c t → IsRefilled pool sp c t i true
IsRefilled-fills pool sp c t i f = filled f.grown f.grows f.filled

-- all nephews are black
module _ (pool : Nodes) (i y : ℕ) (s : Bool) (l : LacksByBoth pool i y s) where
  nephews : AreBelow l.lacks.height l.inner l.outer
  nephews = AreBelow-black l.lacks.height s y l.inner l.outer l.lacks.fits.1.1.0

  painted-names : names (join s y true l.inner l.outer) ≡ names (join s y false l.inner l.outer)
  painted-names = names-join s y true false l.inner l.inner l.outer l.outer refl refl

  painted-good : IsRedBlack l.lacks.height (join s y true l.inner l.outer)
  painted-good = IsRedBlack-red l.lacks.height s y l.inner l.outer nephews.near nephews.far l.inner_black l.outer_black

  pub IsRefilled-both : (new : Nodes) → Stands new l.spare (plug (under l.above s i false (join s y true l.inner l.outer)) l.tree) →
      IsRefilled new l.spare (under l.above s i l.red (join s y false l.inner l.outer)) l.tree i l.red
  IsRefilled-both new stands = by l.red refl where
    grown : (r : Bool) → Grown (under l.above s i r (join s y false l.inner l.outer)) (under l.above s i false (join s y true l.inner l.outer))
    grown r = keep l.above l.above s i r false (join s y false l.inner l.outer) (join s y true l.inner l.outer) (same l.above) painted-names

    red_is : root_redness (join s y true l.inner l.outer) ≡ 1
    red_is = root_redness-join s y true l.inner l.outer

    by : (r : Bool) → l.red ≡ r → IsRefilled new l.spare (under l.above s i r (join s y false l.inner l.outer)) l.tree i r
    by true e =
        let f = subst (λ (r : Bool). Fits l.above (l.lacks.height + 1 + blackness r) (redness r)) e l.lacks.fits.1.1.1 in
        let b = l.lacks.black in
        let g : Fits l.above (l.lacks.height + 1) 0 = Fits-black l.above (l.lacks.height + 1) (subst (λ n. Fits l.above n 1) (plus-zero (l.lacks.height + 1)) f) in
        filled (under l.above s i false (join s y true l.inner l.outer)) (grown true)
        (IsFilled-fits new l.spare (under l.above s i false (join s y true l.inner l.outer)) l.tree l.lacks.height stands l.lacks.good (omega arith, (let x = red_is in omega arith, (painted-good, g))))
    by false e =
        let f = subst (λ (r : Bool). Fits l.above (l.lacks.height + 1 + blackness r) (redness r)) e l.lacks.fits.1.1.1 in
        passed l.above s (join s y true l.inner l.outer) refl (omega arith) (grown false)
        (record { height = l.lacks.height + 1; stands = stands; good = IsRedBlack-black l.lacks.height s i l.tree (join s y true l.inner l.outer) l.lacks.good painted-good (root_redness-le l.tree) (root_redness-le (join s y true l.inner l.outer)); black = root_redness-join s i false l.tree (join s y true l.inner l.outer); fits = f })
