-- The way up from a node of a pool's tree.
use Rattle.std.proofs.Common.{◌≡◌, ◌≢◌, ℕ, zero, suc, ◌≤◌, ◌<◌, List, Bool, true, false, nat_eq, if◌then◌else◌, refl, ap, ◌∙◌, arith}
use Rattle.std.proofs.lemmas.Bool.{eqb-true}
use Rattle.i_tree.specs.declared.tree.pool.TheConstants.{NO_NODE}
use Rattle.i_tree.specs.Tree.Shape.{Tree, Context, top, under, join, plug, size_around}
use Rattle.i_tree.specs.Tree.Pool.{Nodes, places, links_at, root_of, Stands}
use Rattle.i_tree.specs.Tree.Insertion.{depth, IsTreeBalanced, IsRedAt, IsMended, done, goes_on}
use Rattle.i_tree.proofs.Trees.Shapes.{size-plug}
use Rattle.i_tree.proofs.Trees.Pools.{root_of-join}
use Rattle.i_tree.proofs.Trees.Places.{IsRooted, Stands-root}
use Rattle.i_tree.proofs.Trees.Reads.{node-there}
use Rattle.i_tree.proofs.Trees.Mends.{red-there, IsRedFork-root}

-- how many nodes there are from a place upward, up to some number
unfoldable pub climb : ℕ → Nodes → ℕ → ℕ
climb zero pool i = 0
climb (suc n) pool i = if nat_eq i NO_NODE then 0 else suc (climb n pool (links_at pool i).parent)

pub climb-empty : (n : ℕ) (pool : Nodes) → climb n pool NO_NODE ≡ 0
unfolding climb
climb-empty zero pool = refl
climb-empty (suc n) pool = refl

climb-there : (n : ℕ) (pool : Nodes) (i : ℕ) → i ≢ NO_NODE → climb (suc n) pool i ≡ suc (climb n pool (links_at pool i).parent)
unfolding climb
climb-there n pool i ne = by (nat_eq i NO_NODE) refl where
  by : (b : Bool) → nat_eq i NO_NODE ≡ b → climb (suc n) pool i ≡ suc (climb n pool (links_at pool i).parent)
  by true e = absurd (ne (eqb-true i NO_NODE e))
  by false e = rw e refl

pub climb-depth : (pool : Nodes) (sp : List ℕ) (c : Context) (t : Tree) (i n : ℕ) → Stands pool sp (plug c t) → root_of t ≡ i → i ≢ NO_NODE → depth c < n → climb n pool i ≡ suc (depth c)
climb-depth pool sp c t i zero stands e ne h = absurd (omega arith)
climb-depth pool sp top t i (suc n) stands e ne h =
    climb-there n pool i ne ∙ ap (λ x. suc (climb n pool x)) (IsRooted.parent_is (Stands-root pool sp top t i stands e ne)) ∙ ap suc (climb-empty n pool)
climb-depth pool sp (under c s p r u) t i (suc n) stands e ne h =
    climb-there n pool i ne ∙ ap (λ x. suc (climb n pool x)) (IsRooted.parent_is (Stands-root pool sp (under c s p r u) t i stands e ne))
    ∙ ap suc (climb-depth pool sp c (join s p r t u) p n stands (root_of-join s p r t u) (node-there pool sp c s p r t u stands) (omega arith))

pub depth-le : (c : Context) → depth c ≤ size_around c
depth-le top = omega arith
depth-le (under c s p r u) = let h = depth-le c in omega arith

pub climb-red : (pool : Nodes) (sp ns : List ℕ) (deep i : ℕ) (a : IsRedAt pool sp ns deep i) → climb (suc (places pool)) pool i ≡ suc deep
climb-red pool sp ns deep i a =
    let d = depth-le a.context in
    let z = size-plug a.context a.tree in
    let all = a.stands.all in
    climb-depth pool sp a.context a.tree i (suc (places pool)) a.stands (IsRedFork-root true i a.height a.tree (a.opens true)) (red-there pool sp ns deep i a) (omega arith) ∙ ap suc a.deep_is

pub mended-at : (pool : Nodes) (sp ns : List ℕ) (deep i : ℕ) → IsMended pool sp ns deep i → i ≢ NO_NODE → (higher : ℕ) × ((higher < deep) × IsRedAt pool sp ns higher i)
mended-at pool sp ns deep i (done e b) ne = absurd (ne e)
mended-at pool sp ns deep i (goes_on h less a) ne = (h, (less, a))

pub mended-done : (pool : Nodes) (sp ns : List ℕ) (deep i : ℕ) → IsMended pool sp ns deep i → i ≡ NO_NODE → IsTreeBalanced pool sp ns
mended-done pool sp ns deep i (done _ b) e = b
mended-done pool sp ns deep i (goes_on h less a) e = absurd (red-there pool sp ns h i a e)

pub mended-more : (pool : Nodes) (sp ns : List ℕ) (lower deep i : ℕ) → lower ≤ deep → IsMended pool sp ns lower i → IsMended pool sp ns deep i
mended-more pool sp ns lower deep i le (done e b) = done e b
mended-more pool sp ns lower deep i le (goes_on h less a) = goes_on h (omega arith) a

pub mended-smaller : (pool new : Nodes) (sp ns : List ℕ) (d i j : ℕ) → IsRedAt pool sp ns d i → IsMended new sp ns d j → climb (suc (places new)) new j < climb (suc (places pool)) pool i
mended-smaller pool new sp ns d i j a (done e b) = let x = climb-red pool sp ns d i a in let y = climb-empty (suc (places new)) new in rw (e, y, x) (omega arith)
mended-smaller pool new sp ns d i j a (goes_on h less b) = let x = climb-red pool sp ns d i a in let y = climb-red new sp ns h j b in omega arith
