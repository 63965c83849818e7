-- Laws of trees and contexts, for a node seen from either side.
use Rattle.std.proofs.Common.{◌≡◌, ◌≢◌, ℕ, ◌+◌, ◌≤◌, ◌<◌, [], ◌++◌, Bool, true, false, not, nat_eq, refl, sym, ap, ◌∙◌, arith, append_assoc}
use Rattle.std.proofs.lemmas.Bool.{eq-eqb, eqb-true}
use Rattle.std.proofs.lemmas.Grind.{common_steps}
use Rattle.i_tree.specs.Tree.Shape.{Tree, leaf, Context, top, under, join, plug, names, names_before, names_after, one, count, count_around, size, size_around, redness, blackness, root_redness, IsRedBlack, Fits}

pub one-same : (i : ℕ) → one i i ≡ 1
unfolding one
one-same i = rw (eq-eqb i i refl) refl

pub one-other : (i j : ℕ) → one i j ≡ 0 → i ≢ j
unfolding one
one-other i j h e = let same : one i j ≡ 1 = rw (← e) (one-same i) in absurd (omega arith)

pub one-past : (i j : ℕ) → i < j → one i j ≡ 0
unfolding one
one-past i j h = by (nat_eq i j) refl where
  by : (b : Bool) → nat_eq i j ≡ b → one i j ≡ 0
  by true e = let same = eqb-true i j e in absurd (omega arith)
  by false e = rw e refl

pub one-below : (i j : ℕ) → j < i → one i j ≡ 0
unfolding one
one-below i j h = by (nat_eq i j) refl where
  by : (b : Bool) → nat_eq i j ≡ b → one i j ≡ 0
  by true e = let same = eqb-true i j e in absurd (omega arith)
  by false e = rw e refl

pub one-le : (i j : ℕ) → one i j ≤ 1
unfolding one
one-le i j = by (nat_eq i j) refl where
  by : (b : Bool) → nat_eq i j ≡ b → one i j ≤ 1
  by true e = rw e (omega arith)
  by false e = rw e (omega arith)

-- a node's other side
pub join-turned : (s : Bool) (i : ℕ) (r : Bool) (t u : Tree) → join (not s) i r t u ≡ join s i r u t
unfolding join
join-turned true i r t u = refl
join-turned false i r t u = refl

pub count-leaf : (j : ℕ) → count j leaf ≡ 0
unfolding count
count-leaf j = refl

pub count-join : (j : ℕ) (s : Bool) (i : ℕ) (r : Bool) (t u : Tree) → count j (join s i r t u) ≡ one i j + (count j t + count j u)
unfolding join count
count-join j true i r t u = refl
count-join j false i r t u = omega arith

pub size-leaf : size leaf ≡ 0
unfolding size
size-leaf = refl

pub size-join : (s : Bool) (i : ℕ) (r : Bool) (t u : Tree) → size (join s i r t u) ≡ 1 + (size t + size u)
unfolding join size
size-join true i r t u = refl
size-join false i r t u = omega arith

pub count-plug : (j : ℕ) (c : Context) (t : Tree) → count j (plug c t) ≡ count_around j c + count j t
count-plug j top t = omega arith
count-plug j (under c s i r u) t = omega (arith, count-plug j c (join s i r t u), count-join j s i r t u)

pub size-plug : (c : Context) (t : Tree) → size (plug c t) ≡ size_around c + size t
size-plug top t = omega arith
size-plug (under c s i r u) t = omega (arith, size-plug c (join s i r t u), size-join s i r t u)

pub root_redness-leaf : root_redness leaf ≡ 0
unfolding root_redness
root_redness-leaf = refl

pub root_redness-join : (s : Bool) (i : ℕ) (r : Bool) (t u : Tree) → root_redness (join s i r t u) ≡ redness r
unfolding join root_redness
root_redness-join true i r t u = refl
root_redness-join false i r t u = refl

pub names_before-top : names_before top ≡ []
unfolding names_before
names_before-top = refl

pub names_after-top : names_after top ≡ []
unfolding names_after
names_after-top = refl

-- the names under a node stand on their sides
pub names-plug : (c : Context) (t : Tree) → names (plug c t) ≡ names_before c ++ (names t ++ names_after c)
unfolding names_before names_after names join
names-plug top t = grind (arith, common_steps)
names-plug (under c true i r u) t = names-plug c (join true i r t u) ∙ simp append_assoc
names-plug (under c false i r u) t = names-plug c (join false i r t u) ∙ simp append_assoc

-- lifting a child over its parent keeps the names in order, whatever the colours
pub names-lifted : (s : Bool) (p y : ℕ) (r q r' q' : Bool) (t u v : Tree) → names (join s y r' t (join s p q' u v)) ≡ names (join s p r (join s y q t u) v)
unfolding names join
names-lifted true p y r q r' q' t u v = simp append_assoc
names-lifted false p y r q r' q' t u v = simp append_assoc

-- a node's names are those of its subtrees, whatever the colours
pub names-join : (s : Bool) (i : ℕ) (r q : Bool) (t t' u u' : Tree) → names t ≡ names t' → names u ≡ names u' → names (join s i r t u) ≡ names (join s i q t' u')
unfolding names join
names-join true i r q t t' u u' e f = rw (e, f) refl
names-join false i r q t t' u u' e f = rw (e, f) refl

pub names-within : (c : Context) (t u : Tree) → names t ≡ names u → names (plug c t) ≡ names (plug c u)
names-within c t u e = names-plug c t ∙ ap (λ ns. names_before c ++ (ns ++ names_after c)) e ∙ sym (names-plug c u)

-- a node of a red-black tree, from either side
pub record IsLevel (height : ℕ) (red : Bool) (near far : Tree) : Type 0 where
  pub below : ℕ
  pub height_is : height ≡ below + blackness red
  pub near_red : root_redness near + redness red ≤ 1
  pub far_red : root_redness far + redness red ≤ 1
  pub near_is : IsRedBlack below near
  pub far_is : IsRedBlack below far

pub IsRedBlack-level : (h : ℕ) (s : Bool) (i : ℕ) (r : Bool) (t u : Tree) → IsRedBlack h (join s i r t u) → IsLevel h r t u
unfolding join IsRedBlack
IsRedBlack-level h true i r t u (k, (e, (a, (b, (f, g))))) = record { below = k; height_is = e; near_red = a; far_red = b; near_is = f; far_is = g }
IsRedBlack-level h false i r t u (k, (e, (a, (b, (f, g))))) = record { below = k; height_is = e; near_red = b; far_red = a; near_is = g; far_is = f }

pub IsRedBlack-join : (h : ℕ) (s : Bool) (i : ℕ) (r : Bool) (t u : Tree) → IsLevel h r t u → IsRedBlack h (join s i r t u)
unfolding join IsRedBlack
IsRedBlack-join h true i r t u l = (l.below, (l.height_is, (l.near_red, (l.far_red, (l.near_is, l.far_is)))))
IsRedBlack-join h false i r t u l = (l.below, (l.height_is, (l.far_red, (l.near_red, (l.far_is, l.near_is)))))

pub IsRedBlack-leaf : IsRedBlack 0 leaf
unfolding IsRedBlack
IsRedBlack-leaf = refl

-- a red-black tree is one by its subtree and what is round it
pub IsRedBlack-plug : (c : Context) (h : ℕ) (t : Tree) → IsRedBlack h t → Fits c h (root_redness t) → (k : ℕ) × (IsRedBlack k (plug c t) × (root_redness (plug c t) ≡ 0))
IsRedBlack-plug top h t good fits = (h, (good, fits))
IsRedBlack-plug (under c s i r u) h t good (a, (b, (f, g))) =
    IsRedBlack-plug c (h + blackness r) (join s i r t u)
    (IsRedBlack-join (h + blackness r) s i r t u (record { below = h; height_is = refl; near_red = a; far_red = b; near_is = good; far_is = f }))
    (rw (root_redness-join s i r t u) g)

pub Fits-plug : (c : Context) (k : ℕ) (t : Tree) → IsRedBlack k (plug c t) → root_redness (plug c t) ≡ 0 → (h : ℕ) × (IsRedBlack h t × Fits c h (root_redness t))
Fits-plug top k t good e = (k, (good, e))
Fits-plug (under c s i r u) k t good e = step (Fits-plug c k (join s i r t u) good e) where
  step : (h : ℕ) × (IsRedBlack h (join s i r t u) × Fits c h (root_redness (join s i r t u))) → (h : ℕ) × (IsRedBlack h t × Fits (under c s i r u) h (root_redness t))
  step (h, (f, g)) =
      let l = IsRedBlack-level h s i r t u f in
      let same : Fits c (l.below + blackness r) (redness r) = rw (← l.height_is, ← root_redness-join s i r t u) g in
      (l.below, (l.near_is, (l.near_red, (l.far_red, (l.far_is, same)))))

-- a lone tree of black height h has at least 2^h - 1 nodes
