-- The way to the leftmost node, and what a removal leaves.
use Rattle.std.proofs.Common.{◌≡◌, ◌≢◌, ℕ, suc, ◌-◌, ◌≤◌, ◌<◌, List, [], ◌∷◌, ◌++◌, Bool, true, false, refl, sym, ap, ◌∙◌, arith, subst, append_assoc, append-nil}
use Rattle.i_tree.specs.declared.tree.pool.TheConstants.{NO_NODE}
use Rattle.i_tree.specs.declared.tree.pool.Links.{Links}
use Rattle.i_tree.specs.Tree.Shape.{Tree, leaf, fork, Context, top, under, join, plug, names, names_before, names_after}
use Rattle.i_tree.specs.Tree.Pool.{Nodes, places, links_at, root_of, IsAt, Stands, Focus}
use Rattle.i_tree.specs.Tree.Insertion.{depth}
use Rattle.i_tree.specs.Tree.Removal.{append, IsFilled, TakesNodeOut, IsTakenOut, Removes, itself, next, IsRemoved, IsFirst}
use Rattle.i_tree.proofs.Trees.Shapes.{join-turned, names_before-top, names-plug, size-plug, size-join}
use Rattle.i_tree.proofs.Trees.Pools.{root_of-join, wired-left, IsFork}
use Rattle.i_tree.proofs.Trees.Reads.{forks, node-within}
use Rattle.i_tree.proofs.Trees.Climbs.{climb, climb-depth, depth-le}
use Rattle.i_tree.proofs.Trees.Fills.{append-plug, IsFilled-same}
use Rattle.i_tree.proofs.Trees.Grows.{Grown-split, Grown-before, Grown-after, names_before-append, names_after-append}

-- a tree by its root
pub record OpensAt (t : Tree) (i : ℕ) : Type 0 where
  pub red : Bool
  pub left : Tree
  pub right : Tree
  pub is : t ≡ join true i red left right

pub root-opens : (t : Tree) (i : ℕ) → root_of t ≡ i → i ≢ NO_NODE → OpensAt t i
unfolding root_of join
root-opens leaf i e ne = absurd (ne (sym e))
root-opens (fork j r a b) i e ne = record { red = r; left = a; right = b; is = ap (λ x. fork x r a b) e }

pub root-empty : (pool : Nodes) (p : ℕ) (t : Tree) → IsAt pool p t → places pool ≤ NO_NODE → root_of t ≡ NO_NODE → t ≡ leaf
unfolding root_of IsAt
root-empty pool p leaf at fits e = refl
root-empty pool p (fork i r a b) (node, rest) fits e = let w = node.within in absurd (omega arith)

pub names_before-left : (c : Context) (i : ℕ) (r : Bool) (u : Tree) → names_before (under c true i r u) ≡ names_before c
unfolding names_before
names_before-left c i r u = refl

-- a node on the leftmost way down
pub record IsLeftmost (tree : Tree) (at : ℕ) : Type 0 where
  pub inner : Context
  pub sub : Tree
  pub is : tree ≡ plug inner sub
  pub root_is : root_of sub ≡ at
  pub there : at ≢ NO_NODE
  pub none_before : names_before inner ≡ []

module _ (pool : Nodes) (i : ℕ) (f : Focus pool i) where
  pub leftmost-here : IsLeftmost f.tree i
  leftmost-here = record { inner = top; sub = f.tree; is = refl; root_is = f.root_is; there = f.there; none_before = names_before-top }

  module _ (at : ℕ) (l : IsLeftmost f.tree at) where
    pub o : OpensAt l.sub at
    o = root-opens l.sub at l.root_is l.there

    pub stands-at : Stands pool f.spare (plug (append l.inner f.context) (join true at o.red o.left o.right))
    stands-at = subst (λ x. Stands pool f.spare x) (ap (plug f.context) (l.is ∙ ap (plug l.inner) o.is) ∙ sym (append-plug l.inner f.context (join true at o.red o.left o.right))) f.stands

    pub leftmost-within : at < places pool
    leftmost-within = node-within pool f.spare (append l.inner f.context) true at o.red o.left o.right stands-at

    pub left-is : (links_at pool at).left ≡ root_of o.left
    left-is = ap (λ (x : Links). x.left) (IsFork.node (forks pool f.spare (append l.inner f.context) true at o.red o.left o.right stands-at)).is ∙ wired-left _ _ _ _

    abbrev pub leftmost-next : (left : ℕ) → left ≡ (links_at pool at).left → left ≢ NO_NODE → IsLeftmost f.tree left
    leftmost-next left e ne = record {
      inner = under l.inner true at o.red o.right;
      sub = o.left;
      is = l.is ∙ ap (plug l.inner) o.is;
      root_is = sym (e ∙ left-is);
      there = ne;
      none_before = names_before-left l.inner at o.red o.right ∙ l.none_before;
    }

    pub leftmost-last : (left : ℕ) → left ≡ (links_at pool at).left → left ≡ NO_NODE → IsFirst f.tree at
    leftmost-last left e empty =
        let none = root-empty pool at o.left (IsFork.near (forks pool f.spare (append l.inner f.context) true at o.red o.left o.right stands-at)) f.stands.fits (sym left-is ∙ sym e ∙ empty) in
        record { inner = l.inner; red = o.red; right = o.right; is = l.is ∙ ap (plug l.inner) (o.is ∙ ap (λ x. join true at o.red x o.right) none); none_before = l.none_before }

    depth-within : depth (append l.inner f.context) < places pool
    depth-within =
        let d = depth-le (append l.inner f.context) in
        let x = size-plug (append l.inner f.context) (join true at o.red o.left o.right) in
        let y = size-join true at o.red o.left o.right in
        let all = stands-at.all in
        omega arith

    climb-at : climb (suc (places pool)) pool at ≡ suc (depth (append l.inner f.context))
    climb-at = let h = depth-within in climb-depth pool f.spare (append l.inner f.context) (join true at o.red o.left o.right) at (suc (places pool)) stands-at (root_of-join true at o.red o.left o.right) l.there (omega arith)

  module _ (at : ℕ) (l : IsLeftmost f.tree at) (left : ℕ) (e : left ≡ (links_at pool at).left) (ne : left ≢ NO_NODE) where
    pub leftmost-smaller : suc (places pool) - climb (suc (places pool)) pool left < suc (places pool) - climb (suc (places pool)) pool at
    leftmost-smaller =
        let n = leftmost-next at l left e ne in
        let x = climb-at at l in
        let y = climb-at left n in
        let z = depth-within left n in
        omega arith

leaf-left : (i : ℕ) (r : Bool) (u : Tree) → names (join true i r leaf u) ≡ i ∷ names u
unfolding names join
leaf-left i r u = refl

leaf-right : (i : ℕ) (r : Bool) (u : Tree) → names (join false i r leaf u) ≡ names u ++ (i ∷ [])
unfolding names join
leaf-right i r u = refl

pub join-names : (i : ℕ) (r : Bool) (a b : Tree) → names (join true i r a b) ≡ names a ++ (i ∷ names b)
unfolding names join
join-names i r a b = refl

before-right : (i : ℕ) (r : Bool) (a : Tree) → names_before (under top false i r a) ≡ names a ++ (i ∷ [])
unfolding names_before
before-right i r a = refl

after-right : (i : ℕ) (r : Bool) (a : Tree) → names_after (under top false i r a) ≡ []
unfolding names_after
after-right i r a = refl

-- a removal where one child is missing
pub removed-itself : (pool : Nodes) (sp : List ℕ) (c : Context) (i : ℕ) (r : Bool) (s : Bool) (u : Tree) (t : Tree) → t ≡ join s i r leaf u → IsTakenOut pool (i ∷ sp) c u → IsRemoved pool sp c (names t) i i
removed-itself pool sp c i r s u t e out = record {
  grown = out.grown;
  grows = out.grows;
  tree = out.tree;
  removes = by s e;
  filled = out.filled;
} where
  by : (s : Bool) → t ≡ join s i r leaf u → Removes i i (names t) (names out.tree)
  by true e = subst (λ ns. Removes i i ns (names out.tree)) (sym (ap names e ∙ leaf-left i r u)) (subst (λ ns. Removes i i (i ∷ names u) ns) (sym out.names_are) (itself [] (names u)))
  by false e = subst (λ ns. Removes i i ns (names out.tree)) (sym (ap names e ∙ leaf-right i r u)) (subst (λ ns. Removes i i (names u ++ (i ∷ [])) ns) (append-nil (names u) ∙ sym out.names_are) (itself (names u) []))

-- a removal of the next node in its stead
module _ (pool : Nodes) (sp : List ℕ) (c : Context) (i : ℕ) (t : Tree) (o : OpensAt t i) (filled : IsFilled pool sp c t) (j : ℕ) (first : IsFirst o.right j) where
  abbrev pub inner : Context
  inner = append first.inner (under top false i o.red o.left)

  pub whole : plug c t ≡ plug (append inner c) (join true j first.red leaf first.right)
  whole =
      ap (plug c) (o.is ∙ sym (join-turned true i o.red o.right o.left) ∙ ap (λ x. join false i o.red x o.left) first.is)
      ∙ sym (ap (plug c) (append-plug first.inner (under top false i o.red o.left) (join true j first.red leaf first.right)))
      ∙ sym (append-plug inner c (join true j first.red leaf first.right))

  abbrev pub next-out : TakesNodeOut pool j true
  next-out = record { spare = sp; context = append inner c; red = first.red; child = first.right; filled = IsFilled-same pool sp c (append inner c) t (join true j first.red leaf first.right) whole filled }

  before-is : names_before inner ≡ names o.left ++ (i ∷ [])
  before-is = names_before-append first.inner (under top false i o.red o.left) ∙ ap (λ ns. names_before (under top false i o.red o.left) ++ ns) first.none_before ∙ append-nil _ ∙ before-right i o.red o.left

  after-is : names_after inner ≡ names_after first.inner
  after-is = names_after-append first.inner (under top false i o.red o.left) ∙ ap (λ ns. names_after first.inner ++ ns) (after-right i o.red o.left) ∙ append-nil _

  old-names : names t ≡ names o.left ++ (i ∷ j ∷ (names first.right ++ names_after first.inner))
  old-names =
      ap names o.is ∙ join-names i o.red o.left o.right ∙ ap (λ ns. names o.left ++ (i ∷ ns)) (ap names first.is ∙ names-plug first.inner (join true j first.red leaf first.right)
      ∙ ap (λ ns. ns ++ (names (join true j first.red leaf first.right) ++ names_after first.inner)) first.none_before ∙ ap (λ ns. ns ++ names_after first.inner) (leaf-left j first.red first.right))

  pub removed-next : (new : Nodes) → IsTakenOut new (j ∷ sp) (append inner c) first.right → IsRemoved new sp c (names t) i j
  removed-next new out =
      let split = Grown-split (append inner c) out.grown inner c out.grows refl in
      let e : names (plug split.within out.tree) ≡ names o.left ++ (i ∷ (names first.right ++ names_after first.inner)) =
      names-plug split.within out.tree
      ∙ ap (λ ns. ns ++ (names out.tree ++ names_after split.within)) (Grown-before inner split.within split.inner_grows ∙ before-is)
      ∙ ap (λ ns. (names o.left ++ (i ∷ [])) ++ (ns ++ names_after split.within)) out.names_are
      ∙ ap (λ ns. (names o.left ++ (i ∷ [])) ++ (names first.right ++ ns)) (Grown-after inner split.within split.inner_grows ∙ after-is)
      ∙ append_assoc (names o.left) (i ∷ []) (names first.right ++ names_after first.inner) in
      record {
        grown = split.around;
        grows = split.outer_grows;
        tree = plug split.within out.tree;
        removes = subst (λ ns. Removes i j ns (names (plug split.within out.tree))) (sym old-names) (subst (λ ns. Removes i j (names o.left ++ (i ∷ j ∷ (names first.right ++ names_after first.inner))) ns) (sym e) (next j (names o.left) (names first.right ++ names_after first.inner)));
        filled = IsFilled-same new (j ∷ sp) out.grown split.around out.tree (plug split.within out.tree) (ap (λ x. plug x out.tree) split.is ∙ append-plug split.within split.around out.tree) out.filled;
      }
