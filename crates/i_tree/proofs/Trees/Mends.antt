-- The steps that mend a red-black tree after an insertion: its rebalancing, or fix-up.
use Rattle.std.proofs.Common.{◌≡◌, ◌≢◌, ℕ, suc, ◌+◌, ◌≤◌, ◌<◌, List, Bool, true, false, not, refl, sym, ap, ◌∙◌, arith, subst}
use Rattle.i_tree.specs.declared.tree.pool.TheConstants.{NO_NODE}
use Rattle.i_tree.specs.Tree.Shape.{Tree, Context, top, under, join, plug, names, redness, blackness, root_redness, IsRedBlack, Fits}
use Rattle.i_tree.specs.Tree.Pool.{Nodes, places, root_of, parent_of, Stands}
use Rattle.i_tree.specs.Tree.Insertion.{depth, IsTreeBalanced, IsRedFork, IsRedAt, IsRedTwice}
use Rattle.i_tree.proofs.Trees.Shapes.{join-turned, root_redness-join, names-join, IsRedBlack-join, IsRedBlack-plug}
use Rattle.i_tree.proofs.Trees.Pools.{root_of-join}
use Rattle.i_tree.proofs.Trees.Reads.{node-within, node-there}

-- a red fork from every side
pub IsRedFork-sides : (s : Bool) (i h : ℕ) (t : Tree) → IsRedFork s i h t → (s' : Bool) → IsRedFork s' i h t
IsRedFork-sides true i h t f true = f
IsRedFork-sides false i h t f false = f
IsRedFork-sides true i h t f false = record { near = f.far; far = f.near; is = f.is ∙ sym (join-turned true i true f.far f.near); near_is = f.far_is; far_is = f.near_is; near_black = f.far_black; far_black = f.near_black }
IsRedFork-sides false i h t f true = record { near = f.far; far = f.near; is = f.is ∙ sym (join-turned false i true f.far f.near); near_is = f.far_is; far_is = f.near_is; near_black = f.far_black; far_black = f.near_black }

pub IsRedFork-red : (s : Bool) (i h : ℕ) (t : Tree) → IsRedFork s i h t → root_redness t ≡ 1
IsRedFork-red s i h t f = ap root_redness f.is ∙ root_redness-join s i true f.near f.far

pub IsRedFork-root : (s : Bool) (i h : ℕ) (t : Tree) → IsRedFork s i h t → root_of t ≡ i
IsRedFork-root s i h t f = ap root_of f.is ∙ root_of-join s i true f.near f.far

pub IsRedFork-good : (s : Bool) (i h : ℕ) (t : Tree) → IsRedFork s i h t → IsRedBlack h t
IsRedFork-good s i h t f =
    let nb = f.near_black in let fb = f.far_black in
    rw f.is (IsRedBlack-join h s i true f.near f.far (record { below = h; height_is = omega arith; near_red = omega arith; far_red = omega arith; near_is = f.near_is; far_is = f.far_is }))

-- a black node over two trees of one height
pub IsRedBlack-black : (h : ℕ) (s : Bool) (i : ℕ) (t u : Tree) → IsRedBlack h t → IsRedBlack h u → root_redness t ≤ 1 → root_redness u ≤ 1 → IsRedBlack (h + 1) (join s i false t u)
IsRedBlack-black h s i t u a b x y = IsRedBlack-join (h + 1) s i false t u (record { below = h; height_is = refl; near_red = omega arith; far_red = omega arith; near_is = a; far_is = b })

-- a red node over two trees with black roots
pub IsRedBlack-red : (h : ℕ) (s : Bool) (i : ℕ) (t u : Tree) → IsRedBlack h t → IsRedBlack h u → root_redness t ≡ 0 → root_redness u ≡ 0 → IsRedBlack h (join s i true t u)
IsRedBlack-red h s i t u a b x y = IsRedBlack-join h s i true t u (record { below = h; height_is = omega arith; near_red = omega arith; far_red = omega arith; near_is = a; far_is = b })

balanced : (pool : Nodes) (sp ns : List ℕ) (c : Context) (t : Tree) (h : ℕ) → Stands pool sp (plug c t) → IsRedBlack h t → Fits c h (root_redness t) → names (plug c t) ≡ ns → IsTreeBalanced pool sp ns
balanced pool sp ns c t h stands good fits e =
    let (k, (whole, black)) = IsRedBlack-plug c h t good fits in
    record { tree = plug c t; height = k; stands = stands; red_black = whole; black = black; names_are = e }

module _ (pool : Nodes) (sp ns : List ℕ) (deep i : ℕ) (a : IsRedAt pool sp ns deep i) where
  pub red-stands : Stands pool sp (plug a.context (join true i true (a.opens true).near (a.opens true).far))
  red-stands = subst (λ (x : Tree). Stands pool sp (plug a.context x)) (a.opens true).is a.stands

  pub red-within : i < places pool
  red-within = node-within pool sp a.context true i true _ _ red-stands

  pub red-there : i ≢ NO_NODE
  red-there = node-there pool sp a.context true i true _ _ red-stands

-- a red node at the top turns black
top-balanced : (pool new : Nodes) (sp ns : List ℕ) (c : Context) (i h : ℕ) (t : Tree) (f : IsRedFork true i h t) → Stands pool sp (plug c t) → Stands new sp (plug c (join true i false f.near f.far)) → names (plug c t) ≡ ns → parent_of c ≡ NO_NODE → IsTreeBalanced new sp ns
top-balanced pool new sp ns top i h t f was stands e up =
    let nb = f.near_black in let fb = f.far_black in
    balanced new sp ns top _ (h + 1) stands (IsRedBlack-black h true i f.near f.far f.near_is f.far_is (omega arith) (omega arith)) (root_redness-join true i false f.near f.far)
    (names-join true i false true f.near f.near f.far f.far refl refl ∙ sym (ap names f.is) ∙ e)
top-balanced pool new sp ns (under c s p r u) i h t f was stands e up = absurd (node-there pool sp c s p r t u was up)

pub painted-top : (pool new : Nodes) (sp ns : List ℕ) (deep i : ℕ) (a : IsRedAt pool sp ns deep i) → Stands new sp (plug a.context (join true i false (a.opens true).near (a.opens true).far)) → parent_of a.context ≡ NO_NODE → IsTreeBalanced new sp ns
painted-top pool new sp ns deep i a stands up = top-balanced pool new sp ns a.context i a.height a.tree (a.opens true) a.stands stands a.names_are up

-- a red node with its parent
pub record IsRedUnder (pool : Nodes) (sp ns : List ℕ) (deep p i : ℕ) : Type 0 where
  pub context : Context
  pub side : Bool
  pub red : Bool
  pub sibling : Tree
  pub tree : Tree
  pub height : ℕ
  pub stands : Stands pool sp (plug (under context side p red sibling) tree)
  pub opens : (s : Bool) → IsRedFork s i height tree
  pub sibling_red : root_redness sibling + redness red ≤ 1
  pub sibling_is : IsRedBlack height sibling
  pub fits : Fits context (height + blackness red) (redness red)
  pub names_are : names (plug (under context side p red sibling) tree) ≡ ns
  pub deep_is : suc (depth context) ≡ deep

below-parent : (pool : Nodes) (sp ns : List ℕ) (deep p i : ℕ) (c : Context) (t : Tree) (h : ℕ) → Stands pool sp (plug c t) → ((s : Bool) → IsRedFork s i h t) → Fits c h 0 → names (plug c t) ≡ ns → depth c ≡ deep → parent_of c ≡ p → p ≢ NO_NODE → IsRedUnder pool sp ns deep p i
below-parent pool sp ns deep p i top t h stands opens fits e d up ne = absurd (ne (sym up))
below-parent pool sp ns deep p i (under c s q r u) t h stands opens (_, (b, (good, fits))) e d up ne =
    rw (← up) (record { context = c; side = s; red = r; sibling = u; tree = t; height = h; stands = stands; opens = opens; sibling_red = b; sibling_is = good; fits = fits; names_are = e; deep_is = d })

pub IsRedAt-under : (pool : Nodes) (sp ns : List ℕ) (deep p i : ℕ) (a : IsRedAt pool sp ns deep i) → parent_of a.context ≡ p → p ≢ NO_NODE → IsRedUnder pool sp ns deep p i
IsRedAt-under pool sp ns deep p i a up ne = below-parent pool sp ns deep p i a.context a.tree a.height a.stands a.opens a.fits a.names_are a.deep_is up ne

-- under a black parent all is well
pub IsRedUnder-black : (pool : Nodes) (sp ns : List ℕ) (deep p i : ℕ) (a : IsRedUnder pool sp ns deep p i) → a.red ≡ false → IsTreeBalanced pool sp ns
IsRedUnder-black pool sp ns deep p i a e =
    let one_red = IsRedFork-red true i a.height a.tree (a.opens true) in
    let black : redness a.red ≡ 0 = ap redness e in
    let sr = a.sibling_red in
    balanced pool sp ns (under a.context a.side p a.red a.sibling) a.tree a.height a.stands (IsRedFork-good true i a.height a.tree (a.opens true))
    (omega arith, (a.sibling_red, (a.sibling_is, a.fits))) a.names_are

twice-under : (pool : Nodes) (sp ns : List ℕ) (deep p i : ℕ) (c : Context) (s : Bool) (u t : Tree) (h : ℕ) →
    Stands pool sp (plug (under c s p true u) t) → ((s' : Bool) → IsRedFork s' i h t) → root_redness u + 1 ≤ 1 → IsRedBlack h u → Fits c (h + 0) 1 → names (plug (under c s p true u) t) ≡ ns → suc (depth c) ≡ deep → (side : Bool) × IsRedTwice pool sp ns deep side (parent_of c) p i
twice-under pool sp ns deep p i top s u t h stands opens b good fits e d = absurd (omega arith)
twice-under pool sp ns deep p i (under c s2 g true v) s u t h stands opens b good (x, (y, (z, w))) e d = absurd (omega arith)
twice-under pool sp ns deep p i (under c s2 g false v) s u t h stands opens b good (x, (y, (z, w))) e d =
    let same : h + 0 ≡ h = omega arith in
    (s2, record { context = c; uncle = v; inner_side = s; sibling = u; tree = t; height = h; stands = stands; opens = opens; sibling_is = good; sibling_black = omega arith; uncle_is = subst (λ n. IsRedBlack n v) same z; fits = subst (λ n. Fits c (n + 1) 0) same w; names_are = e; deep_is = d })

pub IsRedUnder-twice : (pool : Nodes) (sp ns : List ℕ) (deep p i : ℕ) (a : IsRedUnder pool sp ns deep p i) → a.red ≡ true → (side : Bool) × IsRedTwice pool sp ns deep side (parent_of a.context) p i
IsRedUnder-twice pool sp ns deep p i a e =
    twice-under pool sp ns deep p i a.context a.side a.sibling a.tree a.height
    (subst (λ (r : Bool). Stands pool sp (plug (under a.context a.side p r a.sibling) a.tree)) e a.stands) a.opens
    (subst (λ (r : Bool). root_redness a.sibling + redness r ≤ 1) e a.sibling_red) a.sibling_is
    (subst (λ (r : Bool). Fits a.context (a.height + blackness r) (redness r)) e a.fits)
    (subst (λ (r : Bool). names (plug (under a.context a.side p r a.sibling) a.tree) ≡ ns) e a.names_are) a.deep_is

pub not_true : (b : Bool) → not b ≡ true → b ≡ false
not_true false e = refl
not_true true e = sym e

pub not_false : (b : Bool) → not b ≡ false → b ≡ true
not_false true e = refl
not_false false e = sym e
