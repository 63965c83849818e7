-- The pool of a bucket tree keeps each insertion once, at a place of its own, and the lists of the 63 nodes name places.
-- C is the type of what stands at a place, and `named` is the mask of the nodes that name it.
use Rattle.std.specs.Prelude.{◌≡◌, ◌≢◌, ℕ, ◌+◌, ◌<◌, ◌≤◌, List, [], ◌∷◌, ◌++◌, map, filter, length, Bool, not, ◌&&◌, ◌==◌, if◌then◌else◌, slice_get}
use Rattle.std.specs.Prelude.{slice_index_or, true, false, IsPermutation}
use Rattle.std.specs.Option.{option_to_list}
use Rattle.std.specs.Int.{bit_at}
use Rattle.i_tree.specs.Ranges.Masks.{place_mask}
use Rattle.i_tree.specs.Ranges.Nodes.{has_node}

-- how often a list names the place
unfoldable pub mentions : ℕ → List ℕ → ℕ
mentions place [] = 0
mentions place (other ∷ rest) = (if other == place then 1 else 0) + mentions place rest

-- the mask of the nodes that name a place, and past the end of none
abbrev pub named_at : {C : Type 0} → (C → ℕ) → List C → ℕ → ℕ
named_at named pool place = slice_index_or (map named pool) place 0

-- some node names it
abbrev pub is_held : {C : Type 0} → (C → ℕ) → C → Bool
is_held named c = not (named c == 0)

-- what stands at the place is live; past the end nothing is said
abbrev pub lives_at : {C : Type 0} → (C → Bool) → List C → ℕ → Bool
lives_at live pool place = slice_index_or (map live pool) place true

-- what stands at the places of a list
unfoldable pub picked : {C : Type 0} → List C → List ℕ → List C
picked pool [] = []
picked pool (place ∷ rest) = option_to_list (slice_get pool place) ++ picked pool rest

-- a place is named by each node of its mask, once, and by no other node
pub record AreNamed {C : Type 0} (named : C → ℕ) (pool : List C) (at : ℕ → List ℕ) : Type 0 where
  pub names : (place node : ℕ) → node < 63 → mentions place (at node) ≡ bit_at (named_at named pool place) node

-- the spare places are those of the pool that no node names, each once; there is room for those that come to be spare
pub record AreSpare {C : Type 0} (named : C → ℕ) (pool : List C) (spares : List ℕ) (capacity : ℕ) : Type 0 where
  pub vacant : (place : ℕ) → 0 < mentions place spares → (place < length pool) × (named_at named pool place ≡ 0)
  pub all : (place : ℕ) → place < length pool → named_at named pool place ≡ 0 → 0 < mentions place spares
  pub once : (place : ℕ) → mentions place spares ≤ 1
  pub room : length spares + length (filter (is_held named) pool) ≤ capacity

-- some node names it, and not just those where its range is placed
abbrev pub is_torn : {C : Type 0} → (C → ℕ) → (C → ℕ) → (C → ℕ) → C → Bool
is_torn first last named c = is_held named c && not (named c == place_mask (first c) (last c))

-- each live insertion has one place in the pool, named by just the nodes where its range is placed
pub record IsOnePool {C : Type 0} (first last named : C → ℕ) (live : C → Bool) (pool : List C) (at : ℕ → List ℕ) (spares : List ℕ) (capacity : ℕ) : Type 0 where
  pub names : AreNamed named pool at
  pub spare : AreSpare named pool spares capacity
  pub whole : filter (λ c. live c && is_torn first last named c) pool ≡ []

-- what is put at a place that no node named, or at a new one
pub record IsKept {C : Type 0} (named : C → ℕ) (old new : List C) (place : ℕ) (entity : C) : Type 0 where
  pub vacant : named_at named old place ≡ 0
  pub here : named_at named new place ≡ named entity
  pub others : (other : ℕ) → other ≢ place → named_at named new other ≡ named_at named old other
  pub longer : length new ≤ length old + 1
  pub kept : (p : C → Bool) → IsPermutation (filter (λ c. p c && is_held named c) (entity ∷ old)) (filter (λ c. p c && is_held named c) new)

-- a node names other places than before, all other nodes name the same, and what is live stays
pub record IsUnnamed {C : Type 0} (named : C → ℕ) (live : C → Bool) (node : ℕ) (old new : List C) : Type 0 where
  pub others : (place other : ℕ) → other < 63 → other ≢ node → bit_at (named_at named new place) other ≡ bit_at (named_at named old place) other
  pub same : length new ≡ length old
  pub lives : map live new ≡ map live old
  pub stays : (p : C → Bool) → filter (λ c. live c && p c) new ≡ filter (λ c. live c && p c) old

-- a place's mask is without the node, and no other mask changes; where what stands there isn't live, what is live stays
pub record LosesNode {C V : Type 0} (named : C → ℕ) (value : C → V) (place node : ℕ) (old new : List C) : Type 0 where
  pub cleared : bit_at (named_at named new place) node ≡ 0
  pub elsewhere : (other : ℕ) → other ≢ place → named_at named new other ≡ named_at named old other
  pub gone : (live : V → Bool) → lives_at (λ c. live (value c)) old place ≡ false → IsUnnamed named (λ c. live (value c)) node old new

-- a list names just the places whose masks have the node
abbrev pub AreNamedAt : {C : Type 0} → (C → ℕ) → List C → ℕ → List ℕ → Type 0
AreNamedAt named pool node list = (place : ℕ) → mentions place list ≡ bit_at (named_at named pool place) node

-- a node's list names what is live and nothing else
pub record IsCleared {C : Type 0} (named : C → ℕ) (live : C → Bool) (node : ℕ) (old new : List C) (list : List ℕ) : Type 0 where
  pub unnamed : IsUnnamed named live node old new
  pub names : AreNamedAt named new node list
  pub clean : (place : ℕ) → 0 < mentions place list → lives_at live new place ≡ true

-- the nodes of the mask below a number name only what is live
abbrev pub AreClean : {C : Type 0} → (C → Bool) → ℕ → ℕ → List C → (ℕ → List ℕ) → Type 0
AreClean live mask upto pool at = (node : ℕ) → node < upto → has_node mask node ≡ true → (place : ℕ) → 0 < mentions place (at node) →
    lives_at live pool place ≡ true

-- the nodes of a mask below a number name only what is live, and what is live stays
pub record IsPurgedTo {C : Type 0} (named : C → ℕ) (live : C → Bool) (mask upto : ℕ) (old new : List C) (at : ℕ → List ℕ) : Type 0 where
  pub names : AreNamed named new at
  pub same : length new ≡ length old
  pub stays : (p : C → Bool) → filter (λ c. live c && p c) new ≡ filter (λ c. live c && p c) old
  pub clean : AreClean live mask upto new at
