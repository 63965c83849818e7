-- The names of a pool's tree, read from its links.
use Rattle.std.proofs.Common.{◌≡◌, ◌≢◌, ℕ, zero, suc, ◌+◌, ◌≤◌, List, [], ◌∷◌, ◌++◌, length, length-append, Bool, true, false, nat_eq, refl, sym, ap, ◌∙◌, arith, subst}
use Rattle.std.proofs.lemmas.Bool.{eqb-true}
use Rattle.i_tree.specs.declared.tree.pool.TheConstants.{NO_NODE}
use Rattle.i_tree.specs.declared.tree.pool.Links.{Links}
use Rattle.i_tree.specs.Tree.Shape.{Tree, leaf, fork, Context, top, under, join, plug, names, names_before, names_after, count, size, root_redness, IsRedBlack, Fits}
use Rattle.i_tree.specs.Tree.Pool.{Nodes, no_nodes, places, links_at, child_of, root_of, parent_of, IsOnSide, IsAt, count_in, Stands}
use Rattle.i_tree.specs.Tree.Insertion.{depth, IsTreeBalanced, IsRedFork, IsRedAt}
use Rattle.i_tree.specs.Tree.Removal.{IsFilled}
use Rattle.i_tree.specs.Tree.Addition.{names_below}
use Rattle.i_tree.proofs.Trees.Shapes.{names-plug, Fits-plug, IsRedBlack-leaf, root_redness-leaf}
use Rattle.i_tree.proofs.Trees.Pools.{wired-left, wired-right, Stands-parts}
use Rattle.i_tree.proofs.Trees.Reads.{near-read}
use Rattle.i_tree.proofs.Trees.Mends.{IsRedFork-sides}

pub size-names : (t : Tree) → size t ≡ length (names t)
unfolding size names
size-names leaf = refl
size-names (fork i r a b) = let x = size-names a in let y = size-names b in rw length-append (omega arith)

pub count_in-append : (i : ℕ) (a b : List ℕ) → count_in i (a ++ b) ≡ count_in i a + count_in i b
count_in-append i [] b = omega arith
count_in-append i (x ∷ a) b = let h = count_in-append i a b in omega arith

pub count-names : (i : ℕ) (t : Tree) → count i t ≡ count_in i (names t)
unfolding count names
count-names i leaf = refl
count-names i (fork j r a b) = let x = count-names i a in let y = count-names i b in let z = count_in-append i (names a) (j ∷ names b) in omega arith

below-empty : (n : ℕ) (pool : Nodes) → names_below n pool NO_NODE ≡ []
unfolding names_below
below-empty zero pool = refl
below-empty (suc n) pool = refl

below-there : (n : ℕ) (pool : Nodes) (i : ℕ) → i ≢ NO_NODE → names_below (suc n) pool i ≡ names_below n pool (links_at pool i).left ++ (i ∷ names_below n pool (links_at pool i).right)
unfolding names_below
below-there n pool i ne = by (nat_eq i NO_NODE) refl where
  by : (b : Bool) → nat_eq i NO_NODE ≡ b → names_below (suc n) pool i ≡ names_below n pool (links_at pool i).left ++ (i ∷ names_below n pool (links_at pool i).right)
  by true e = absurd (ne (eqb-true i NO_NODE e))
  by false e = rw e refl

pub names_below-at : (pool : Nodes) (p : ℕ) (t : Tree) (n : ℕ) → IsAt pool p t → places pool ≤ NO_NODE → size t ≤ n → names_below n pool (root_of t) ≡ names t
unfolding IsAt root_of names size
names_below-at pool p leaf n at fits le = below-empty n pool
names_below-at pool p (fork i r a b) zero at fits le = absurd (omega arith)
names_below-at pool p (fork i r a b) (suc n) (node, (x, y)) fits le =
    let w = node.within in
    let ne : i ≢ NO_NODE = λ e. absurd (omega arith) in
    let left : (links_at pool i).left ≡ root_of a = ap (λ (l : Links). l.left) node.is ∙ wired-left _ _ _ _ in
    let right : (links_at pool i).right ≡ root_of b = ap (λ (l : Links). l.right) node.is ∙ wired-right _ _ _ _ in
    below-there n pool i ne
    ∙ ap (λ j. names_below n pool j ++ (i ∷ names_below n pool (links_at pool i).right)) left
    ∙ ap (λ ns. ns ++ (i ∷ names_below n pool (links_at pool i).right)) (names_below-at pool i a n x fits (omega arith))
    ∙ ap (λ j. names a ++ (i ∷ names_below n pool j)) right
    ∙ ap (λ ns. names a ++ (i ∷ ns)) (names_below-at pool i b n y fits (omega arith))

-- the names of the pool's tree
pub names_below-root : (pool : Nodes) (sp : List ℕ) (t : Tree) → Stands pool sp t → names_below (places pool) pool pool.root ≡ names t
names_below-root pool sp t stands =
    let all = stands.all in
    ap (names_below (places pool) pool) stands.root ∙ names_below-at pool NO_NODE t (places pool) stands.at stands.fits (omega arith)

-- what hangs at a place
pub down-root : (pool : Nodes) (sp : List ℕ) (c : Context) (t : Tree) → Stands pool sp (plug c t) → parent_of c ≡ NO_NODE → pool.root ≡ root_of t
down-root pool sp top t stands e = stands.root
down-root pool sp (under c s i r u) t stands e = let w = (Stands-parts (under c s i r u) t stands).around.0.within in let f = stands.fits in absurd (omega arith)

pub down-child : (pool : Nodes) (sp : List ℕ) (c : Context) (t : Tree) (side : Bool) (x : ℕ) → Stands pool sp (plug c t) → parent_of c ≢ NO_NODE → IsOnSide side c → x ≡ child_of side (links_at pool (parent_of c)) → x ≡ root_of t
down-child pool sp top t side x stands ne on e = absurd (ne refl)
down-child pool sp (under c s i r u) t side x stands ne on e = near-read pool sp c s i r t u stands _ x refl (e ∙ ap (λ y. child_of y (links_at pool i)) on)

pub names-leaf : names leaf ≡ []
unfolding names
names-leaf = refl

leaf-height : (h : ℕ) → IsRedBlack h leaf → h ≡ 0
unfolding IsRedBlack
leaf-height h e = e

one-name : (i : ℕ) → names (join true i true leaf leaf) ≡ i ∷ []
unfolding names join
one-name i = refl

-- a new node is red at first
pub IsRedAt-attached : (old new : Nodes) (sp sp' : List ℕ) (c : Context) (i : ℕ) → IsFilled old sp c leaf → Stands new sp' (plug c (join true i true leaf leaf)) → IsRedAt new sp' (names_before c ++ (i ∷ names_after c)) (depth c) i
IsRedAt-attached old new sp sp' c i filled stands =
    let (h, (good, fits)) = Fits-plug c filled.height leaf filled.good filled.black in
    let zero_high : h ≡ 0 = leaf-height h good in
    let f : IsRedFork true i 0 (join true i true leaf leaf) = record { near = leaf; far = leaf; is = refl; near_is = IsRedBlack-leaf; far_is = IsRedBlack-leaf; near_black = root_redness-leaf; far_black = root_redness-leaf } in
    record {
      context = c;
      tree = join true i true leaf leaf;
      height = 0;
      stands = stands;
      opens = IsRedFork-sides true i 0 (join true i true leaf leaf) f;
      fits = subst (λ n. Fits c n 0) zero_high (subst (λ n. Fits c h n) root_redness-leaf fits);
      names_are = names-plug c (join true i true leaf leaf) ∙ ap (λ ns. names_before c ++ (ns ++ names_after c)) (one-name i);
      deep_is = refl;
    }

pub places-names : (pool : Nodes) (sp : List ℕ) (t : Tree) → Stands pool sp t → length (names t) + length sp ≡ places pool
places-names pool sp t stands = let all = stands.all in let x = size-names t in omega arith

-- mending after an insertion adds no place
pub IsRedAt-places : (a b : Nodes) (sp ns : List ℕ) (deep i : ℕ) → IsRedAt a sp ns deep i → IsTreeBalanced b sp ns → places b ≡ places a
IsRedAt-places a b sp ns deep i red balanced =
    let x = places-names a sp (plug red.context red.tree) red.stands in
    let y = places-names b sp balanced.tree balanced.stands in
    let same : length (names balanced.tree) ≡ length (names (plug red.context red.tree)) = ap length (balanced.names_are ∙ sym red.names_are) in
    omega arith

-- an empty pool is a red-black tree with no name
pub IsTreeBalanced-none : IsTreeBalanced no_nodes [] []
unfolding places IsAt IsRedBlack root_redness names root_of size count
IsTreeBalanced-none = record {
  tree = leaf;
  height = 0;
  stands = record { root = refl; at = tt; spares = refl; once = λ i. omega arith; all = refl; fits = omega arith };
  red_black = refl;
  black = refl;
  names_are = refl;
}
