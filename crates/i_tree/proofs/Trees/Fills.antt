-- The way up of a lack.
use Rattle.std.proofs.Common.{◌≡◌, ◌≢◌, ℕ, suc, ◌<◌, List, Bool, true, false, refl, sym, ap, ◌∙◌, arith, subst}
use Rattle.i_tree.specs.declared.tree.pool.TheConstants.{NO_NODE}
use Rattle.i_tree.specs.Tree.Shape.{Tree, Context, top, under, join, plug, root_redness, IsRedBlack}
use Rattle.i_tree.specs.Tree.Pool.{Nodes, places, parent_of, IsOnSide, Stands}
use Rattle.i_tree.specs.Tree.Insertion.{depth}
use Rattle.i_tree.specs.Tree.Removal.{append, Grown, same, keep, trans, Lacks, IsFilled, LacksBelow, IsRefilled, filled, passed, FillsIn}
use Rattle.i_tree.proofs.Trees.Shapes.{size-plug}
use Rattle.i_tree.proofs.Trees.Pools.{root_of-join}
use Rattle.i_tree.proofs.Trees.Reads.{node-there}
use Rattle.i_tree.proofs.Trees.Climbs.{climb, climb-empty, climb-depth, depth-le}

pub append-plug : (a c : Context) (t : Tree) → plug (append a c) t ≡ plug c (plug a t)
append-plug top c t = refl
append-plug (under a s i r u) c t = append-plug a c (join s i r t u)

pub append-assoc : (a b c : Context) → append a (append b c) ≡ append (append a b) c
append-assoc top b c = refl
append-assoc (under a s i r u) b c = ap (λ x. under x s i r u) (append-assoc a b c)

pub append-grown : (a c d : Context) → Grown c d → Grown (append a c) (append a d)
append-grown top c d g = g
append-grown (under a s i r u) c d g = keep (append a c) (append a d) s i r r u u (append-grown a c d g) refl

-- a subtree in its context that came of another
pub record Comes (c0 : Context) (t0 : Tree) (c : Context) (t : Tree) : Type 0 where
  pub inner : Context
  pub tree_is : t ≡ plug inner t0
  pub grows : Grown c0 (append inner c)

pub Comes-same : (c : Context) (t : Tree) → Comes c t c t
Comes-same c t = record { inner = top; tree_is = refl; grows = same c }

pub Comes-passed : (c0 : Context) (t0 : Tree) (c : Context) (t : Tree) (a : Context) (s : Bool) (i : ℕ) (u : Tree) → Comes c0 t0 c t → Grown c (under a s i false u) → Comes c0 t0 a (join s i false t u)
Comes-passed c0 t0 c t a s i u comes g = record {
  inner = append comes.inner (under top s i false u);
  tree_is = ap (λ x. join s i false x u) comes.tree_is ∙ sym (append-plug comes.inner (under top s i false u) t0);
  grows = trans c0 (append comes.inner c) (append (append comes.inner (under top s i false u)) a) comes.grows
      (subst (λ x. Grown (append comes.inner c) x) (append-assoc comes.inner (under top s i false u) a) (append-grown comes.inner c (under a s i false u) g));
}

pub IsFilled-same : (pool : Nodes) (sp : List ℕ) (c d : Context) (t u : Tree) → plug c t ≡ plug d u → IsFilled pool sp c t → IsFilled pool sp d u
IsFilled-same pool sp c d t u e f = record {
  height = f.height;
  stands = subst (λ x. Stands pool sp x) e f.stands;
  good = subst (λ x. IsRedBlack f.height x) e f.good;
  black = subst (λ x. root_redness x ≡ 0) e f.black;
}

pub Comes-filled : (pool : Nodes) (sp : List ℕ) (c0 : Context) (t0 : Tree) (c : Context) (t : Tree) (d : Context) → Comes c0 t0 c t → Grown c d → IsFilled pool sp d t → FillsIn pool sp c0 t0
Comes-filled pool sp c0 t0 c t d comes g f = record {
  grown = append comes.inner d;
  grows = trans c0 (append comes.inner c) (append comes.inner d) comes.grows (append-grown comes.inner c d g);
  filled = IsFilled-same pool sp d (append comes.inner d) t t0 (ap (plug d) comes.tree_is ∙ sym (append-plug comes.inner d t0)) f;
}

-- a lack of the whole tree is none
pub Lacks-top : (pool : Nodes) (sp : List ℕ) (c : Context) (t : Tree) → Lacks pool sp c t → parent_of c ≡ NO_NODE → IsFilled pool sp c t
Lacks-top pool sp top t l e = record { height = l.height; stands = l.stands; good = l.good; black = l.black }
Lacks-top pool sp (under c s i r u) t l e = absurd (node-there pool sp c s i r t u l.stands e)

-- the loop's state
pub record Lacking (pool : Nodes) (sp : List ℕ) (c0 : Context) (t0 : Tree) (i : ℕ) (side : Bool) : Type 0 where
  pub context : Context
  pub tree : Tree
  pub comes : Comes c0 t0 context tree
  pub lacks : Lacks pool sp context tree
  pub parent_is : parent_of context ≡ i
  pub side_is : IsOnSide side context

pub record OpensUnder (c : Context) (i : ℕ) (side : Bool) : Type 0 where
  pub above : Context
  pub red : Bool
  pub sibling : Tree
  pub is : c ≡ under above side i red sibling

pub context-opens : (c : Context) (i : ℕ) (side : Bool) → parent_of c ≡ i → IsOnSide side c → i ≢ NO_NODE → OpensUnder c i side
context-opens top i side e f ne = absurd (ne (sym e))
context-opens (under c s p r u) i side e f ne = record { above = c; red = r; sibling = u; is = ap (λ x. under c s x r u) e ∙ ap (λ x. under c x i r u) (sym f) }

module _ (pool : Nodes) (sp : List ℕ) (c0 : Context) (t0 : Tree) (i : ℕ) (side : Bool) (l : Lacking pool sp c0 t0 i side) (ne : i ≢ NO_NODE) where
  pub opens : OpensUnder l.context i side
  opens = context-opens l.context i side l.parent_is l.side_is ne

  abbrev pub below : LacksBelow pool i side
  below = record { spare = sp; above = opens.above; red = opens.red; sibling = opens.sibling; tree = l.tree; lacks = subst (λ c. Lacks pool sp c l.tree) opens.is l.lacks }

  pub back : (new : Nodes) (b : Bool) → IsRefilled new sp (under opens.above side i opens.red opens.sibling) l.tree i b → IsRefilled new sp l.context l.tree i b
  back new b r = subst (λ c. IsRefilled new sp c l.tree i b) (sym opens.is) r

-- a lack that was handed on
pub record Passes (pool : Nodes) (sp : List ℕ) (c : Context) (t : Tree) (i : ℕ) : Type 0 where
  pub above : Context
  pub side : Bool
  pub sibling : Tree
  pub higher : depth above < depth c
  pub grows : Grown c (under above side i false sibling)
  pub lacks : Lacks pool sp above (join side i false t sibling)

pub refilled-passes : (pool : Nodes) (sp : List ℕ) (c : Context) (t : Tree) (i : ℕ) (b : Bool) → IsRefilled pool sp c t i b → b ≡ false → Passes pool sp c t i
refilled-passes pool sp c t i b (filled d g f) e = cc
refilled-passes pool sp c t i b (passed a s u r less g l) e = record { above = a; side = s; sibling = u; higher = less; grows = g; lacks = l }

pub refilled-fills : (pool : Nodes) (sp : List ℕ) (c0 : Context) (t0 : Tree) (c : Context) (t : Tree) (i : ℕ) (b : Bool) → Comes c0 t0 c t → IsRefilled pool sp c t i b → b ≡ true → FillsIn pool sp c0 t0
refilled-fills pool sp c0 t0 c t i b comes (filled d g f) e = Comes-filled pool sp c0 t0 c t d comes g f
refilled-fills pool sp c0 t0 c t i b comes (passed a s u r less g l) e = cc

climb-around : (pool : Nodes) (sp : List ℕ) (c : Context) (t : Tree) (n : ℕ) → Stands pool sp (plug c t) → depth c < n → climb n pool (parent_of c) ≡ depth c
climb-around pool sp top t n stands h = climb-empty n pool
climb-around pool sp (under c s p r u) t n stands h = climb-depth pool sp c (join s p r t u) p n stands (root_of-join s p r t u) (node-there pool sp c s p r t u stands) (omega arith)

pub climb-lack : (pool : Nodes) (sp : List ℕ) (c : Context) (t : Tree) (i : ℕ) → Stands pool sp (plug c t) → parent_of c ≡ i → climb (suc (places pool)) pool i ≡ depth c
climb-lack pool sp c t i stands e =
    let d = depth-le c in
    let z = size-plug c t in
    let all = stands.all in
    subst (λ x. climb (suc (places pool)) pool x ≡ depth c) e (climb-around pool sp c t (suc (places pool)) stands (omega arith))
