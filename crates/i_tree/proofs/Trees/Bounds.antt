-- How deep a red-black tree is.
use Rattle.std.proofs.Common.{◌≡◌, ℕ, ◌+◌, ◌*◌, ◌^◌, ◌≤◌, true, false, refl, arith, add-one, pow-suc}
use Rattle.i_tree.specs.Tree.Shape.{Tree, leaf, fork, Context, top, under, join, plug, size, blackness, root_redness, IsRedBlack, Fits}
use Rattle.i_tree.specs.Tree.Insertion.{depth}
use Rattle.i_tree.proofs.Trees.Shapes.{root_redness-join, Fits-plug, IsRedBlack-join}
use Rattle.i_tree.proofs.Trees.Twists.{root_redness-le}

twice : (k : ℕ) → 2 ^ (k + 1) ≡ 2 ^ k + 2 ^ k
twice k = rw (add-one, pow-suc) (omega arith)

-- a tree of black height h has 2^h - 1 nodes at least
pub pow-size : (h : ℕ) (t : Tree) → IsRedBlack h t → 2 ^ h ≤ size t + 1
unfolding IsRedBlack size
pow-size h leaf e = rw e (omega arith)
pow-size h (fork i true a b) (k, (e, (_, (_, (x, y))))) =
    let p = pow-size k a x in
    let same : h ≡ k = omega arith in
    rw same (omega arith)
pow-size h (fork i false a b) (k, (e, (_, (_, (x, y))))) =
    let p = pow-size k a x in
    let q = pow-size k b y in
    let d = twice k in
    rw (e, d) (omega arith)

-- the black height of the whole
pub rise : Context → ℕ → ℕ
rise top h = h
rise (under a s i r u) h = rise a (h + blackness r)

pub IsRedBlack-rise : (c : Context) (h : ℕ) (t : Tree) → IsRedBlack h t → Fits c h (root_redness t) → IsRedBlack (rise c h) (plug c t)
unfolding rise
IsRedBlack-rise top h t good fits = good
IsRedBlack-rise (under c s i r u) h t good (a, (b, (f, g))) =
    IsRedBlack-rise c (h + blackness r) (join s i r t u)
    (IsRedBlack-join (h + blackness r) s i r t u (record { below = h; height_is = refl; near_red = a; far_red = b; near_is = good; far_is = f }))
    (rw (root_redness-join s i r t u) g)

pub depth-rise : (c : Context) (h ρ : ℕ) → Fits c h ρ → ρ ≤ 1 → depth c + (ρ + 2 * h) ≤ 2 * rise c h
unfolding rise
depth-rise top h ρ e le = omega arith
depth-rise (under c s i true u) h ρ (a, (b, (f, g))) le = let x = depth-rise c (h + 0) 1 g (omega arith) in omega arith
depth-rise (under c s i false u) h ρ (a, (b, (f, g))) le = let x = depth-rise c (h + 1) 0 g (omega arith) in omega arith

-- a way down is at most twice as long as a number k with 2^k ≤ n + 1
pub record IsShallow (c : Context) (n : ℕ) : Type 0 where
  pub half : ℕ
  pub deep : depth c ≤ 2 * half
  pub power : 2 ^ half ≤ n + 1

pub shallow : (k : ℕ) (c : Context) (t : Tree) → IsRedBlack k (plug c t) → root_redness (plug c t) ≡ 0 → IsShallow c (size (plug c t))
shallow k c t good black =
    let (h, (sub, fits)) = Fits-plug c k t good black in
    let d = depth-rise c h (root_redness t) fits (root_redness-le t) in
    record { half = rise c h; deep = omega arith; power = pow-size (rise c h) (plug c t) (IsRedBlack-rise c h t sub fits) }
