-- The way to the rightmost node, and up to the first node on whose right a node lies.
use Rattle.std.proofs.Common.{◌≡◌, ◌≢◌, ℕ, suc, ◌-◌, ◌<◌, List, [], ◌∷◌, ◌++◌, Bool, true, false, refl, sym, ap, ◌∙◌, arith, subst, append_assoc, append-nil}
use Rattle.i_tree.specs.declared.tree.pool.TheConstants.{NO_NODE}
use Rattle.i_tree.specs.declared.tree.pool.Links.{Links}
use Rattle.i_tree.specs.Tree.Shape.{Tree, leaf, Context, top, under, join, plug, names, names_before, names_after}
use Rattle.i_tree.specs.Tree.Pool.{Nodes, places, links_at, root_of, parent_of, IsOnSide, Stands, Focus}
use Rattle.i_tree.specs.Tree.Insertion.{depth}
use Rattle.i_tree.specs.Tree.Removal.{append}
use Rattle.i_tree.specs.Tree.Order.{last_of, IsLast, Fork}
use Rattle.i_tree.proofs.Trees.Shapes.{join-turned, names-plug, size-plug, size-join, names_after-top, names_before-top}
use Rattle.i_tree.proofs.Trees.Pools.{root_of-join, wired-left, wired-right, IsFork}
use Rattle.i_tree.proofs.Trees.Reads.{forks, node-within, node-focus, node-there}
use Rattle.i_tree.proofs.Trees.Places.{IsRooted, Stands-root, parent-within}
use Rattle.i_tree.proofs.Trees.Climbs.{climb, climb-depth, depth-le}
use Rattle.i_tree.proofs.Trees.Fills.{append-plug, climb-lack}
use Rattle.i_tree.proofs.Trees.Firsts.{OpensAt, root-opens, root-empty, names_before-left}
use Rattle.i_tree.proofs.Trees.Names.{names-leaf}

-- the last of a list
pub last_of-end : (none : ℕ) (a : List ℕ) (i : ℕ) → last_of none (a ++ (i ∷ [])) ≡ i
last_of-end none [] i = refl
last_of-end none (x ∷ a) i = last_of-end x a i

pub names_after-right : (c : Context) (i : ℕ) (r : Bool) (u : Tree) → names_after (under c false i r u) ≡ names_after c
unfolding names_after
names_after-right c i r u = refl

-- a node on the rightmost way down
pub record IsRightmost (tree : Tree) (at : ℕ) : Type 0 where
  pub inner : Context
  pub sub : Tree
  pub is : tree ≡ plug inner sub
  pub root_is : root_of sub ≡ at
  pub there : at ≢ NO_NODE
  pub none_after : names_after inner ≡ []

module _ (pool : Nodes) (i : ℕ) (f : Focus pool i) where
  pub rightmost-here : IsRightmost f.tree i
  rightmost-here = record { inner = top; sub = f.tree; is = refl; root_is = f.root_is; there = f.there; none_after = names_after-top }

  module _ (at : ℕ) (l : IsRightmost f.tree at) where
    pub o : OpensAt l.sub at
    o = root-opens l.sub at l.root_is l.there

    stands-at : Stands pool f.spare (plug (append l.inner f.context) (join true at o.red o.left o.right))
    stands-at = subst (λ x. Stands pool f.spare x) (ap (plug f.context) (l.is ∙ ap (plug l.inner) o.is) ∙ sym (append-plug l.inner f.context (join true at o.red o.left o.right))) f.stands

    pub rightmost-within : at < places pool
    rightmost-within = node-within pool f.spare (append l.inner f.context) true at o.red o.left o.right stands-at

    pub right-is : (links_at pool at).right ≡ root_of o.right
    right-is = ap (λ (x : Links). x.right) (IsFork.node (forks pool f.spare (append l.inner f.context) true at o.red o.left o.right stands-at)).is ∙ wired-right _ _ _ _

    abbrev pub rightmost-next : (right : ℕ) → right ≡ (links_at pool at).right → right ≢ NO_NODE → IsRightmost f.tree right
    rightmost-next right e ne = record {
      inner = under l.inner false at o.red o.left;
      sub = o.right;
      is = l.is ∙ ap (plug l.inner) (o.is ∙ sym (join-turned true at o.red o.right o.left));
      root_is = sym (e ∙ right-is);
      there = ne;
      none_after = names_after-right l.inner at o.red o.left ∙ l.none_after;
    }

    pub rightmost-last : (right : ℕ) → right ≡ (links_at pool at).right → right ≡ NO_NODE → IsLast f.tree at
    rightmost-last right e empty =
        let none = root-empty pool at o.right (IsFork.far (forks pool f.spare (append l.inner f.context) true at o.red o.left o.right stands-at)) f.stands.fits (sym right-is ∙ sym e ∙ empty) in
        record { inner = l.inner; red = o.red; left = o.left; is = l.is ∙ ap (plug l.inner) (o.is ∙ ap (λ x. join true at o.red o.left x) none); none_after = l.none_after }

    depth-within : depth (append l.inner f.context) < places pool
    depth-within =
        let d = depth-le (append l.inner f.context) in
        let x = size-plug (append l.inner f.context) (join true at o.red o.left o.right) in
        let y = size-join true at o.red o.left o.right in
        let all = stands-at.all in
        omega arith

    climb-at : climb (suc (places pool)) pool at ≡ suc (depth (append l.inner f.context))
    climb-at = let h = depth-within in climb-depth pool f.spare (append l.inner f.context) (join true at o.red o.left o.right) at (suc (places pool)) stands-at (root_of-join true at o.red o.left o.right) l.there (omega arith)

  module _ (at : ℕ) (l : IsRightmost f.tree at) (right : ℕ) (e : right ≡ (links_at pool at).right) (ne : right ≢ NO_NODE) where
    pub rightmost-smaller : suc (places pool) - climb (suc (places pool)) pool right < suc (places pool) - climb (suc (places pool)) pool at
    rightmost-smaller =
        let n = rightmost-next at l right e ne in
        let x = climb-at at l in
        let y = climb-at right n in
        let z = depth-within right n in
        omega arith

-- a subtree on the way up, with the same names before it
pub record IsAbove (pool : Nodes) (i : ℕ) (f : Focus pool i) (at parent : ℕ) : Type 0 where
  pub context : Context
  pub tree : Tree
  pub stands : Stands pool f.spare (plug context tree)
  pub root_is : root_of tree ≡ at
  pub there : at ≢ NO_NODE
  pub parent_is : parent_of context ≡ parent
  pub before_is : names_before context ≡ names_before f.context

before-right : (c : Context) (i : ℕ) (r : Bool) (u : Tree) → names_before (under c false i r u) ≡ (names_before c ++ names u) ++ (i ∷ [])
unfolding names_before
before-right c i r u = sym (append_assoc (names_before c) (names u) (i ∷ []))

-- the first step
pub above-first : (pool : Nodes) (i : ℕ) (f : Focus pool i) (parent : ℕ) → parent ≡ (links_at pool i).parent → IsAbove pool i f i parent
above-first pool i f parent e = record {
  context = f.context;
  tree = f.tree;
  stands = f.stands;
  root_is = f.root_is;
  there = f.there;
  parent_is = sym (e ∙ IsRooted.parent_is (Stands-root pool f.spare f.context f.tree i f.stands f.root_is f.there));
  before_is = refl;
}

pub focus-within : (pool : Nodes) (i : ℕ) (f : Focus pool i) → i < places pool
focus-within pool i f = IsRooted.within (Stands-root pool f.spare f.context f.tree i f.stands f.root_is f.there)

module _ (pool : Nodes) (i : ℕ) (f : Focus pool i) (at parent : ℕ) (l : IsAbove pool i f at parent) where
  abbrev pub above-focus : Focus pool at
  above-focus = record { spare = f.spare; context = l.context; tree = l.tree; stands = l.stands; root_is = l.root_is; there = l.there }

  pub above-within : parent ≢ NO_NODE → parent < places pool
  above-within ne = subst (λ x. x < places pool) l.parent_is (parent-within pool f.spare l.context l.tree l.stands (λ e. ne (sym l.parent_is ∙ e)))

  pub above-top : parent ≡ NO_NODE → NO_NODE ≡ last_of NO_NODE (names_before f.context)
  above-top e = by l.context l.tree l.stands l.parent_is l.before_is where
    by : (c : Context) (t : Tree) → Stands pool f.spare (plug c t) → parent_of c ≡ parent → names_before c ≡ names_before f.context → NO_NODE ≡ last_of NO_NODE (names_before f.context)
    by top t stands p b = ap (last_of NO_NODE) (sym names_before-top ∙ b)
    by (under c s j r u) t stands p b = absurd (node-there pool f.spare c s j r t u stands (p ∙ e))

  pub above-found : parent ≢ NO_NODE → IsOnSide false l.context → parent ≡ last_of NO_NODE (names_before f.context)
  above-found ne on = by l.context on l.parent_is l.before_is where
    by : (c : Context) → IsOnSide false c → parent_of c ≡ parent → names_before c ≡ names_before f.context → parent ≡ last_of NO_NODE (names_before f.context)
    by top on p b = absurd (ne (sym p))
    by (under c true j r u) on p b = cc
    by (under c false j r u) on p b = sym p ∙ sym (last_of-end NO_NODE (names_before c ++ names u) j) ∙ ap (last_of NO_NODE) (sym (before-right c j r u) ∙ b)

  -- a step up from a left child
  pub above-next : (up : ℕ) → parent ≢ NO_NODE → IsOnSide true l.context → up ≡ (links_at pool parent).parent → IsAbove pool i f parent up
  above-next up ne on e = by l.context l.tree l.stands on l.parent_is l.before_is where
    by : (c : Context) (t : Tree) → Stands pool f.spare (plug c t) → IsOnSide true c → parent_of c ≡ parent → names_before c ≡ names_before f.context → IsAbove pool i f parent up
    by top t stands on p b = absurd (ne (sym p))
    by (under c false j r u) t stands on p b = cc
    by (under c true j r u) t stands on p b = record {
      context = c;
      tree = join true j r t u;
      stands = stands;
      root_is = root_of-join true j r t u ∙ p;
      there = ne;
      parent_is = sym (e ∙ ap (λ x. (links_at pool x).parent) (sym p) ∙ IsRooted.parent_is (Stands-root pool f.spare c (join true j r t u) j stands (root_of-join true j r t u) (node-there pool f.spare c true j r t u stands)));
      before_is = sym (names_before-left c j r u) ∙ b;
    }

pub above-smaller : (pool : Nodes) (i : ℕ) (f : Focus pool i) (at parent up : ℕ) → IsAbove pool i f at parent → parent ≢ NO_NODE → up ≡ (links_at pool parent).parent → climb (suc (places pool)) pool up < climb (suc (places pool)) pool parent
above-smaller pool i f at parent up l ne e = by l.context l.tree l.stands l.parent_is where
  by : (c : Context) (t : Tree) → Stands pool f.spare (plug c t) → parent_of c ≡ parent → climb (suc (places pool)) pool up < climb (suc (places pool)) pool parent
  by top t stands p = absurd (ne (sym p))
  by (under c s j r u) t stands p =
      let there = node-there pool f.spare c s j r t u stands in
      let rooted : (links_at pool j).parent ≡ parent_of c = IsRooted.parent_is (Stands-root pool f.spare c (join s j r t u) j stands (root_of-join s j r t u) there) in
      let before = climb-lack pool f.spare (under c s j r u) t parent stands p in
      let after = climb-lack pool f.spare c (join s j r t u) up stands (sym (e ∙ ap (λ x. (links_at pool x).parent) (sym p) ∙ rooted)) in
      omega arith

last-alone : (j : ℕ) (r : Bool) (t : Tree) → names (join true j r t leaf) ≡ names t ++ (j ∷ [])
unfolding names join
last-alone j r t = refl

-- the node before one, by the node's left child
module _ (pool : Nodes) (i : ℕ) (k : Fork pool i) where
  pub fork-within : i < places pool
  fork-within = node-within pool k.spare k.context true i k.red k.left k.right k.stands

  abbrev pub fork-focus : Focus pool i
  fork-focus = node-focus pool k.spare k.context true i k.red k.left k.right k.stands

  pub fork-left : (links_at pool i).left ≡ root_of k.left
  fork-left = ap (λ (x : Links). x.left) (IsFork.node (forks pool k.spare k.context true i k.red k.left k.right k.stands)).is ∙ wired-left _ _ _ _

  abbrev pub left-focus : (left : ℕ) → left ≡ (links_at pool i).left → left ≢ NO_NODE → Focus pool left
  left-focus left e ne = record { spare = k.spare; context = under k.context true i k.red k.right; tree = k.left; stands = k.stands; root_is = sym (e ∙ fork-left); there = ne }

  pub previous-below : (j : ℕ) → IsLast k.left j → j ≡ last_of NO_NODE (names_before k.context ++ names k.left)
  previous-below j l =
      sym (last_of-end NO_NODE (names_before k.context ++ (names_before l.inner ++ names l.left)) j)
      ∙ ap (last_of NO_NODE) (append_assoc (names_before k.context) (names_before l.inner ++ names l.left) (j ∷ []) ∙ ap (λ ns. names_before k.context ++ ns) (sym ends)) where
        ends : names k.left ≡ (names_before l.inner ++ names l.left) ++ (j ∷ [])
        ends =
            ap names l.is ∙ names-plug l.inner (join true j l.red l.left leaf)
            ∙ ap (λ ns. names_before l.inner ++ (names (join true j l.red l.left leaf) ++ ns)) l.none_after
            ∙ ap (λ ns. names_before l.inner ++ ns) (append-nil _ ∙ last-alone j l.red l.left)
            ∙ sym (append_assoc (names_before l.inner) (names l.left) (j ∷ []))

  pub previous-above : (left j : ℕ) → left ≡ (links_at pool i).left → left ≡ NO_NODE → j ≡ last_of NO_NODE (names_before k.context) → j ≡ last_of NO_NODE (names_before k.context ++ names k.left)
  previous-above left j e empty is =
      let none = root-empty pool i k.left (IsFork.near (forks pool k.spare k.context true i k.red k.left k.right k.stands)) k.stands.fits (sym fork-left ∙ sym e ∙ empty) in
      is ∙ ap (last_of NO_NODE) (sym (append-nil (names_before k.context)) ∙ ap (λ ns. names_before k.context ++ ns) (sym (ap names none ∙ names-leaf)))
