-- Where the nodes of a tree in a pool are.
use Rattle.std.proofs.Common.{◌≡◌, ◌≢◌, ℕ, ◌≤◌, ◌<◌, List, Bool, true, false, nat_eq, refl, sym, ap, ◌∙◌, arith}
use Rattle.std.proofs.lemmas.Bool.{eq-eqb, eqb-true}
use Rattle.i_tree.specs.declared.tree.pool.TheConstants.{NO_NODE}
use Rattle.i_tree.specs.Tree.Shape.{Tree, leaf, fork, Context, top, under, join, plug, count}
use Rattle.i_tree.specs.Tree.Pool.{Nodes, places, links_at, wired, root_of, parent_of, IsOnSide, IsAt, Stands}
use Rattle.i_tree.proofs.Trees.Shapes.{one-same, count-plug, count-join}
use Rattle.i_tree.proofs.Trees.Pools.{wired-parent, Parts, Stands-parts}

-- a node that hangs on this parent
pub record IsRooted (pool : Nodes) (parent i : ℕ) : Type 0 where
  pub within : i < places pool
  pub parent_is : (links_at pool i).parent ≡ parent

pub IsAt-root : (pool : Nodes) (p : ℕ) (t : Tree) (i : ℕ) → IsAt pool p t → root_of t ≡ i → i ≢ NO_NODE → IsRooted pool p i
unfolding IsAt root_of
IsAt-root pool p leaf i at e ne = absurd (ne (sym e))
IsAt-root pool p (fork name r t u) i (node, rest) e ne =
    rw (← e) (record { within = node.within; parent_is = ap (λ l. l.parent) node.is ∙ wired-parent true p r _ _ })

pub count-root : (t : Tree) (i : ℕ) → root_of t ≡ i → i ≢ NO_NODE → 1 ≤ count i t
unfolding count root_of
count-root leaf i e ne = absurd (ne (sym e))
count-root (fork name r t u) i e ne = rw (← e) (omega (arith, one-same name))

pub Stands-root : (pool : Nodes) (sp : List ℕ) (c : Context) (t : Tree) (i : ℕ) → Stands pool sp (plug c t) → root_of t ≡ i → i ≢ NO_NODE → IsRooted pool (parent_of c) i
Stands-root pool sp c t i stands e ne = IsAt-root pool (parent_of c) t i (Parts.at (Stands-parts c t stands)) e ne

pub parent-within : (pool : Nodes) (sp : List ℕ) (c : Context) (t : Tree) → Stands pool sp (plug c t) → parent_of c ≢ NO_NODE → parent_of c < places pool
parent-within pool sp top t stands ne = absurd (ne refl)
parent-within pool sp (under c s i r u) t stands ne = (Stands-parts (under c s i r u) t stands).around.0.within

-- a parent's name fits 31 bits
pub parent-fits : (pool : Nodes) (sp : List ℕ) (c : Context) (t : Tree) → Stands pool sp (plug c t) → parent_of c ≤ NO_NODE
parent-fits pool sp top t stands = omega arith
parent-fits pool sp (under c s i r u) t stands =
    let w = (Stands-parts (under c s i r u) t stands).around.0.within in
    let f = stands.fits in
    omega arith

-- the side of a root is any
pub IsOnSide-root : (pool : Nodes) (sp : List ℕ) (c : Context) (t : Tree) (s : Bool) → Stands pool sp (plug c t) → parent_of c ≡ NO_NODE → IsOnSide s c
IsOnSide-root pool sp top t s stands e = tt
IsOnSide-root pool sp (under c s' i r u) t s stands e =
    let h = (Stands-parts (under c s' i r u) t stands).around.0.within in
    let f = stands.fits in
    absurd (omega arith)

pub IsOnSide-below : (pool : Nodes) (sp : List ℕ) (c : Context) (t : Tree) (i : ℕ) → Stands pool sp (plug c t) → root_of t ≡ i → i ≢ NO_NODE → IsOnSide (nat_eq (links_at pool (parent_of c)).left i) c
unfolding wired
IsOnSide-below pool sp top t i stands e ne = tt
IsOnSide-below pool sp (under c true p r u) t i stands e ne =
    let node = (Stands-parts (under c true p r u) t stands).around.0 in
    let left : (links_at pool p).left ≡ i = ap (λ l. l.left) node.is ∙ e in
    eq-eqb (links_at pool p).left i left
IsOnSide-below pool sp (under c false p r u) t i stands e ne = by (nat_eq (links_at pool p).left i) refl where
  by : (b : Bool) → nat_eq (links_at pool p).left i ≡ b → nat_eq (links_at pool p).left i ≡ false
  by false h = h
  by true h =
      let node = (Stands-parts (under c false p r u) t stands).around.0 in
      let left : root_of u ≡ i = sym (ap (λ l. l.left) node.is) ∙ eqb-true (links_at pool p).left i h in
      let there = count-root t i e ne in
      let here = count-root u i left ne in
      let whole = count-plug i c (join false p r t u) in
      let parts = count-join i false p r t u in
      let once = stands.once i in
      absurd (omega arith)
