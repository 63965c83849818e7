-- What writes leave of a tree in a pool.
use Rattle.std.proofs.Common.{◌≡◌, ◌≢◌, ℕ, ◌≤◌, ◌<◌, List, length, Bool, true, refl, sym, ap, ◌∙◌, arith, set, length-set, get_or-set_same, get_or-set_other}
use Rattle.i_tree.specs.declared.tree.pool.TheConstants.{NO_NODE}
use Rattle.i_tree.specs.declared.tree.pool.Links.{Links}
use Rattle.i_tree.specs.Tree.Shape.{Tree, leaf, fork, Context, top, under, count, count_around}
use Rattle.i_tree.specs.Tree.Pool.{Nodes, places, links_at, with_child, root_of, parent_of, IsOnSide, IsAt, IsAround, ChangesOnly, IsPut, IsAdopted, IsHung}
use Rattle.i_tree.proofs.Trees.Shapes.{one-other}
use Rattle.i_tree.proofs.Trees.Pools.{wired-adopted, with_child-near, IsAt-kept, IsAround-kept}

ChangesOnly-none : (m : ℕ → ℕ) (a : Nodes) → ChangesOnly m a a
ChangesOnly-none m a = record { places = refl; elsewhere = λ i e. refl }

pub ChangesOnly-root : (nodes : List Links) (old new spare : ℕ) → ChangesOnly (λ _. 0) (record { nodes = nodes; root = old; spare = spare }) (record { nodes = nodes; root = new; spare = spare })
unfolding places links_at
ChangesOnly-root nodes old new spare = record { places = refl; elsewhere = λ i e. refl }

pub ChangesOnly-spare : (nodes : List Links) (root old new : ℕ) → ChangesOnly (λ _. 0) (record { nodes = nodes; root = root; spare = old }) (record { nodes = nodes; root = root; spare = new })
unfolding places links_at
ChangesOnly-spare nodes root old new = record { places = refl; elsewhere = λ i e. refl }

pub IsPut-set : (nodes : List Links) (root spare i : ℕ) (links : Links) → i < length nodes →
    IsPut (record { nodes = nodes; root = root; spare = spare }) (record { nodes = set nodes i links; root = root; spare = spare }) i links
unfolding places links_at
IsPut-set nodes root spare i links h = record {
  there = rw get_or-set_same refl;
  only = record { places = length-set nodes i links; elsewhere = λ j e. let ne = one-other i j e in let ne' : j ≢ i = λ x. ne (sym x) in rw get_or-set_other refl };
  root = refl;
  spare = refl;
}

-- no node has the name NO_NODE
pub IsAdopted-leaf : (a : Nodes) (p q : ℕ) (t : Tree) → IsAt a p t → root_of t ≡ NO_NODE → places a ≤ NO_NODE → IsAdopted a a q t
unfolding IsAt root_of
IsAdopted-leaf a p q leaf at e fits = record { at = tt; only = ChangesOnly-none _ a; root = refl; spare = refl }
IsAdopted-leaf a p q (fork i r t u) (node, rest) e fits = let w = node.within in absurd (omega arith)

pub IsAdopted-put : (a b : Nodes) (p q : ℕ) (t : Tree) → IsAt a p t → root_of t ≢ NO_NODE → ((i : ℕ) → count i t ≤ 1) → IsPut a b (root_of t) (record (links_at a (root_of t)) { parent = q }) → IsAdopted a b q t
unfolding IsAt root_of count
IsAdopted-put a b p q leaf at ne once put = absurd (ne refl)
IsAdopted-put a b p q (fork i r t u) (node, (near, far)) ne once put = record {
  at = (
    record { within = rw (put.only.places) (node.within); is = put.there ∙ ap (λ (l : Links). record l { parent = q }) node.is ∙ wired-adopted true p q r (root_of t) (root_of u) },
    (IsAt-kept put.only i t (λ j h. let o = once j in omega arith) near, IsAt-kept put.only i u (λ j h. let o = once j in omega arith) far),
  );
  only = record { places = put.only.places; elsewhere = λ j h. put.only.elsewhere j (omega arith) };
  root = put.root;
  spare = put.spare;
}

pub IsHung-root : (a b : Nodes) (c : Context) (from to : ℕ) → IsAround a c from → parent_of c ≡ NO_NODE → places a ≤ NO_NODE → b.root ≡ to → b.spare ≡ a.spare → ChangesOnly (λ i. 0) a b → IsHung a b c to
IsHung-root a b top from to around e fits root spare only = record { around = root; only = only; spare = spare }
IsHung-root a b (under c s i r u) from to (node, rest) e fits root spare only = let w = node.within in absurd (omega arith)

pub IsHung-below : (a b : Nodes) (c : Context) (s : Bool) (from to : ℕ) → IsAround a c from → IsOnSide s c → parent_of c ≢ NO_NODE → ((i : ℕ) → count_around i c ≤ 1) → IsPut a b (parent_of c) (with_child s to (links_at a (parent_of c))) → IsHung a b c to
IsHung-below a b top s from to around side ne once put = absurd (ne refl)
IsHung-below a b (under c s' i r u) s from to (node, (at, around)) side ne once put = record {
  around = (
    record { within = rw (put.only.places) (node.within); is = put.there ∙ ap (with_child s to) node.is ∙ rw side (with_child-near s' (parent_of c) r from (root_of u) to) },
    (IsAt-kept put.only i u (λ j h. let o = once j in omega arith) at, IsAround-kept put.only put.root c i (λ j h. let o = once j in omega arith) around),
  );
  only = record { places = put.only.places; elsewhere = λ j h. put.only.elsewhere j (omega arith) };
  spare = put.spare;
}

pub around-within : (a : Nodes) (c : Context) (x : ℕ) → IsAround a c x → parent_of c ≢ NO_NODE → parent_of c < places a
around-within a top x around ne = absurd (ne refl)
around-within a (under c s i r u) x around ne = around.0.within
