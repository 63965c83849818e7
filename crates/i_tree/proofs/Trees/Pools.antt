-- How the pieces of a tree in a pool come apart and together, and what keeps them.
use Rattle.std.proofs.Common.{◌≡◌, ℕ, ◌+◌, ◌≤◌, ◌<◌, List, [], ◌∷◌, Bool, true, false, not, refl, sym, ◌∙◌, arith, subst}
use Rattle.i_tree.specs.declared.tree.pool.TheConstants.{NO_NODE}
use Rattle.i_tree.specs.declared.tree.pool.Links.{Links}
use Rattle.i_tree.specs.Tree.Shape.{Tree, leaf, fork, Context, top, under, join, plug, count, count_around}
use Rattle.i_tree.specs.Tree.Pool.{Nodes, places, links_at, wired, child_of, with_child, root_of, parent_of, IsNode, IsAt, IsAround, AreSpare, count_in, Stands, ChangesOnly}
use Rattle.i_tree.proofs.Trees.Shapes.{one-same, one-past}

pub child_of-near : (s : Bool) (p : ℕ) (r : Bool) (a b : ℕ) → child_of s (wired s p r a b) ≡ a
unfolding child_of wired
child_of-near true p r a b = refl
child_of-near false p r a b = refl

pub child_of-far : (s : Bool) (p : ℕ) (r : Bool) (a b : ℕ) → child_of (not s) (wired s p r a b) ≡ b
unfolding child_of wired
child_of-far true p r a b = refl
child_of-far false p r a b = refl

pub with_child-near : (s : Bool) (p : ℕ) (r : Bool) (a b i : ℕ) → with_child s i (wired s p r a b) ≡ wired s p r i b
unfolding with_child wired
with_child-near true p r a b i = refl
with_child-near false p r a b i = refl

pub with_child-parent : (s : Bool) (i : ℕ) (l : Links) → (with_child s i l).parent ≡ l.parent
unfolding with_child
with_child-parent true i l = refl
with_child-parent false i l = refl

pub wired-parent : (s : Bool) (p : ℕ) (r : Bool) (a b : ℕ) → (wired s p r a b).parent ≡ p
unfolding wired
wired-parent true p r a b = refl
wired-parent false p r a b = refl

pub wired-red : (s : Bool) (p : ℕ) (r : Bool) (a b : ℕ) → (wired s p r a b).red ≡ r
unfolding wired
wired-red true p r a b = refl
wired-red false p r a b = refl

pub wired-adopted : (s : Bool) (p q : ℕ) (r : Bool) (a b : ℕ) → record (wired s p r a b) { parent = q } ≡ wired s q r a b
unfolding wired
wired-adopted true p q r a b = refl
wired-adopted false p q r a b = refl

pub wired-left : (p : ℕ) (r : Bool) (a b : ℕ) → (wired true p r a b).left ≡ a
unfolding wired
wired-left p r a b = refl

pub wired-right : (p : ℕ) (r : Bool) (a b : ℕ) → (wired true p r a b).right ≡ b
unfolding wired
wired-right p r a b = refl

pub wired-painted : (s : Bool) (p : ℕ) (r q : Bool) (a b : ℕ) → record (wired s p r a b) { red = q } ≡ wired s p q a b
unfolding wired
wired-painted true p r q a b = refl
wired-painted false p r q a b = refl

pub root_of-join : (s : Bool) (i : ℕ) (r : Bool) (t u : Tree) → root_of (join s i r t u) ≡ i
unfolding join root_of
root_of-join true i r t u = refl
root_of-join false i r t u = refl

pub root_of-leaf : root_of leaf ≡ NO_NODE
unfolding root_of
root_of-leaf = refl

-- a node with its two subtrees
pub record IsFork (pool : Nodes) (parent : ℕ) (s : Bool) (i : ℕ) (r : Bool) (t u : Tree) : Type 0 where
  pub node : IsNode pool i (wired s parent r (root_of t) (root_of u))
  pub near : IsAt pool i t
  pub far : IsAt pool i u

pub IsAt-leaf : (pool : Nodes) (p : ℕ) → IsAt pool p leaf
unfolding IsAt
IsAt-leaf pool p = tt

pub IsAt-fork : (pool : Nodes) (p : ℕ) (s : Bool) (i : ℕ) (r : Bool) (t u : Tree) → IsAt pool p (join s i r t u) → IsFork pool p s i r t u
unfolding join IsAt wired
IsAt-fork pool p true i r t u (n, (a, b)) = record { node = n; near = a; far = b }
IsAt-fork pool p false i r t u (n, (a, b)) = record { node = n; near = b; far = a }

pub IsAt-join : (pool : Nodes) (p : ℕ) (s : Bool) (i : ℕ) (r : Bool) (t u : Tree) → IsFork pool p s i r t u → IsAt pool p (join s i r t u)
unfolding join IsAt wired
IsAt-join pool p true i r t u f = (f.node, (f.near, f.far))
IsAt-join pool p false i r t u f = (f.node, (f.far, f.near))

-- a subtree and what is round it
pub record Parts (pool : Nodes) (c : Context) (t : Tree) : Type 0 where
  pub around : IsAround pool c (root_of t)
  pub at : IsAt pool (parent_of c) t

pub Parts-plug : (pool : Nodes) (c : Context) (t : Tree) → pool.root ≡ root_of (plug c t) → IsAt pool NO_NODE (plug c t) → Parts pool c t
Parts-plug pool top t e at = record { around = e; at = at }
Parts-plug pool (under c s i r u) t e at = step (Parts-plug pool c (join s i r t u) e at) where
  step : Parts pool c (join s i r t u) → Parts pool (under c s i r u) t
  step p =
      let f = IsAt-fork pool (parent_of c) s i r t u p.at in
      let over : IsAround pool c i = rw root_of-join at p.around in
      record { around = (f.node, (f.far, over)); at = f.near }

Parts-up : (pool : Nodes) (c : Context) (s : Bool) (i : ℕ) (r : Bool) (u t : Tree) → Parts pool (under c s i r u) t → Parts pool c (join s i r t u)
Parts-up pool c s i r u t p = record {
  around = rw root_of-join (p.around.1.1);
  at = IsAt-join pool (parent_of c) s i r t u (record { node = p.around.0; near = p.at; far = p.around.1.0 });
}

pub root_of-plug : (pool : Nodes) (c : Context) (t : Tree) → Parts pool c t → pool.root ≡ root_of (plug c t)
root_of-plug pool top t p = p.around
root_of-plug pool (under c s i r u) t p = root_of-plug pool c (join s i r t u) (Parts-up pool c s i r u t p)

pub IsAt-plug : (pool : Nodes) (c : Context) (t : Tree) → Parts pool c t → IsAt pool NO_NODE (plug c t)
IsAt-plug pool top t p = p.at
IsAt-plug pool (under c s i r u) t p = IsAt-plug pool c (join s i r t u) (Parts-up pool c s i r u t p)

pub Stands-parts : {pool : Nodes} {spare : List ℕ} (c : Context) (t : Tree) → Stands pool spare (plug c t) → Parts pool c t
Stands-parts {pool} c t stands = Parts-plug pool c t stands.root stands.at

-- two changes are one
pub ChangesOnly-trans : {m n : ℕ → ℕ} {a b c : Nodes} → ChangesOnly m a b → ChangesOnly n b c → ChangesOnly (λ i. m i + n i) a c
ChangesOnly-trans p q = record {
  places = q.places ∙ p.places;
  elsewhere = λ i e. q.elsewhere i (omega arith) ∙ p.elsewhere i (omega arith);
}

pub IsNode-kept : {m : ℕ → ℕ} {a b : Nodes} {i : ℕ} {l : Links} → ChangesOnly m a b → m i ≡ 0 → IsNode a i l → IsNode b i l
IsNode-kept {m} {a} {b} {i} {l} p e node = record { within = rw p.places (node.within); is = p.elsewhere i e ∙ node.is }

pub IsAt-kept : {m : ℕ → ℕ} {a b : Nodes} → ChangesOnly m a b → (p : ℕ) (t : Tree) → ((i : ℕ) → 0 < count i t → m i ≡ 0) → IsAt a p t → IsAt b p t
unfolding IsAt count
IsAt-kept only p leaf off at = tt
IsAt-kept {m} {a} {b} only p (fork i r t u) off (node, (near, far)) = (
  IsNode-kept only (off i (omega (arith, one-same i))) node,
  (IsAt-kept only i t (λ j h. off j (omega arith)) near, IsAt-kept only i u (λ j h. off j (omega arith)) far),
)

pub IsAround-kept : {m : ℕ → ℕ} {a b : Nodes} → ChangesOnly m a b → b.root ≡ a.root → (c : Context) (x : ℕ) → ((i : ℕ) → 0 < count_around i c → m i ≡ 0) → IsAround a c x → IsAround b c x
IsAround-kept only e top x off around = e ∙ around
IsAround-kept {m} {a} {b} only e (under c s i r u) x off (node, (at, around)) = (
  IsNode-kept only (off i (omega (arith, one-same i))) node,
  (IsAt-kept only i u (λ j h. off j (omega arith)) at, IsAround-kept only e c i (λ j h. off j (omega arith)) around),
)

pub AreSpare-kept : {m : ℕ → ℕ} {a b : Nodes} → ChangesOnly m a b → (first : ℕ) (is : List ℕ) → ((i : ℕ) → 0 < count_in i is → m i ≡ 0) → AreSpare a first is → AreSpare b first is
AreSpare-kept only first [] off e = e
AreSpare-kept {m} {a} {b} only first (i ∷ is) off (e, (within, rest)) =
    (e, (rw only.places within, subst (λ (n : Links). AreSpare b n.left is) (sym (only.elsewhere i (off i (omega (arith, one-same i))))) (AreSpare-kept only (links_at a i).left is (λ j h. off j (omega arith)) rest)))

-- what grows keeps its pieces
pub IsAt-grown : (a b : Nodes) → ((i : ℕ) → i < places a → i < places b) → ((i : ℕ) → i < places a → links_at b i ≡ links_at a i) → (p : ℕ) (t : Tree) → IsAt a p t → IsAt b p t
unfolding IsAt
IsAt-grown a b within same p leaf at = tt
IsAt-grown a b within same p (fork i r t u) (node, (near, far)) =
    (record { within = within i (node.within); is = same i (node.within) ∙ node.is }, (IsAt-grown a b within same i t near, IsAt-grown a b within same i u far))

pub AreSpare-grown : (a b : Nodes) → ((i : ℕ) → i < places a → i < places b) → ((i : ℕ) → i < places a → links_at b i ≡ links_at a i) → (first : ℕ) (is : List ℕ) → AreSpare a first is → AreSpare b first is
AreSpare-grown a b within same first [] e = e
AreSpare-grown a b within same first (i ∷ is) (e, (w, rest)) =
    (e, (within i w, subst (λ (n : Links). AreSpare b n.left is) (sym (same i w)) (AreSpare-grown a b within same (links_at a i).left is rest)))

-- no place past the end is counted
pub count-past : (a : Nodes) (p : ℕ) (t : Tree) (i : ℕ) → IsAt a p t → places a ≤ i → count i t ≡ 0
unfolding IsAt count
count-past a p leaf i at past = refl
count-past a p (fork j r t u) i (node, (near, far)) past =
    let w = node.within in
    let x = one-past j i (omega arith) in
    let y = count-past a j t i near past in
    let z = count-past a j u i far past in
    omega arith

pub count_in-past : (a : Nodes) (first : ℕ) (is : List ℕ) (i : ℕ) → AreSpare a first is → places a ≤ i → count_in i is ≡ 0
count_in-past a first [] i e past = refl
count_in-past a first (j ∷ is) i (e, (w, rest)) past =
    let x = one-past j i (omega arith) in
    let y = count_in-past a (links_at a j).left is i rest past in
    omega arith
