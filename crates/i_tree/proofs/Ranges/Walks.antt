-- One step of a walk over the nodes.
use Rattle.std.proofs.Common.{◌≡◌, ◌≢◌, ℕ, suc, ◌+◌, ◌-◌, ◌^◌, ◌<◌, List, [], ◌∷◌, ◌++◌, length, map, filter, Bool, true, false, ◌==◌, bit_and, refl, sym, ap, ◌∙◌, arith, slice_get, Some, None}
use Rattle.std.proofs.lemmas.Bool.{eqb-true, eq-eqb}
use Rattle.std.proofs.lemmas.List.{map-append}
use Rattle.std.proofs.lemmas.Nat.{and_le_r}
use Rattle.std.specs.Int.{bit_at}
use Rattle.i_tree.specs.Ranges.Nodes.{least_node, gather, is_taken, left_to_walk}
use Rattle.i_tree.specs.Ranges.Pool.{named_at, picked}
use Rattle.i_tree.proofs.Ranges.Filters.{filter_none}
use Rattle.i_tree.proofs.Ranges.PoolNames.{read_at, picked-append}
use Rattle.i_tree.proofs.Ranges.Shares.{bits_at_lowest, least_node-none}

-- an insertion is taken at a node of the query alone
pub not_taken : {C : Type 0} (place : C → ℕ) (query node : ℕ) → query < 2 ^ 64 → node < 63 → bit_at query node ≢ 1 → (name : C) → is_taken place query node name ≡ false
not_taken place query node small within off name = by (least_node (bit_and (place name) query) == node) refl where
  never : least_node (bit_and (place name) query) ≡ node → ⊥
  never e = off (rw (← e) (bits_at_lowest (place name) query (omega (arith, and_le_r (place name) query)) (λ none. omega (arith, least_node-none _ none))).1)

  by : (b : Bool) → (least_node (bit_and (place name) query) == node) ≡ b → (least_node (bit_and (place name) query) == node) ≡ false
  by false e = e
  by true e = absurd (never (eqb-true _ _ e))

module _ {C : Type 0} (pool : List C) (place : ℕ → ℕ) (at : ℕ → List ℕ) (query node : ℕ) (rest : List ℕ) (none : picked pool (filter (is_taken place query node) rest) ≡ []) where
  pub walk_end : node + 1 ≡ 63 → picked pool (left_to_walk place at query node rest) ≡ []
  unfolding gather picked
  walk_end e = let no_more : 62 - node ≡ 0 = omega arith in picked-append pool (filter (is_taken place query node) rest) (gather (is_taken place query) at (node + 1) (62 - node)) ∙ rw (none, no_more) refl

  pub walk_on : (list : List ℕ) → node + 1 < 63 → filter (is_taken place query (node + 1)) list ≡ filter (is_taken place query (node + 1)) (at (node + 1)) → picked pool (left_to_walk place at query node rest) ≡ picked pool (left_to_walk place at query (node + 1) list)
  unfolding gather
  walk_on list h same =
      let one_less : 62 - node ≡ suc (62 - (node + 1)) = omega arith in
      picked-append pool (filter (is_taken place query node) rest) (gather (is_taken place query) at (node + 1) (62 - node)) ∙ rw (none, one_less, same) refl

-- a walk goes on in a node's list
pub walk_step : {C V : Type 0} (pool : List C) (value : C → V) (place : ℕ → ℕ) (at : ℕ → List ℕ) (query node : ℕ) (rest later : List ℕ) (v : V) → map value (picked pool (filter (is_taken place query node) rest)) ≡ v ∷ map value (picked pool (filter (is_taken place query node) later)) → map value (picked pool (left_to_walk place at query node rest)) ≡ v ∷ map value (picked pool (left_to_walk place at query node later))
walk_step pool value place at query node rest later v e =
    rw (picked-append pool (filter (is_taken place query node) rest) (gather (is_taken place query) at (node + 1) (62 - node)), picked-append pool (filter (is_taken place query node) later) (gather (is_taken place query) at (node + 1) (62 - node)), map-append, map-append) (ap (λ l. l ++ map value (picked pool (gather (is_taken place query) at (node + 1) (62 - node)))) e)

-- what a walk picks of a list's first place
module _ {C : Type 0} (named : C → ℕ) (pool : List C) (query node at : ℕ) (rest later : List ℕ) (rest_is : rest ≡ at ∷ later) where
  pub first_picked : (slot : C) → slice_get pool at ≡ Some slot → least_node (bit_and (named slot) query) ≡ node → picked pool (filter (is_taken (named_at named pool) query node) rest) ≡ slot ∷ picked pool (filter (is_taken (named_at named pool) query node) later)
  unfolding picked
  first_picked slot here is =
      let on : (least_node (bit_and (named_at named pool at) query) == node) ≡ true = eq-eqb _ _ (ap (λ m. least_node (bit_and m query)) (read_at named pool at slot 0 here) ∙ is) in rw (rest_is, on, here) refl

  pub first_missing : slice_get pool at ≡ None → picked pool (filter (is_taken (named_at named pool) query node) rest) ≡ picked pool (filter (is_taken (named_at named pool) query node) later)
  unfolding picked
  first_missing none = by (is_taken (named_at named pool) query node at) refl where
    by : (b : Bool) → is_taken (named_at named pool) query node at ≡ b → picked pool (filter (is_taken (named_at named pool) query node) rest) ≡ picked pool (filter (is_taken (named_at named pool) query node) later)
    by true e = rw (rest_is, e, none) refl
    by false e = rw (rest_is, e) refl

pub none_picked : {C : Type 0} (pool : List C) (p : ℕ → Bool) (rest : List ℕ) → length rest ≡ 0 → picked pool (filter p rest) ≡ []
unfolding picked
none_picked pool p [] e = refl
none_picked pool p (x ∷ xs) e = absurd (omega arith)

-- a walk takes nothing of a node that the query doesn't go over
pub nothing_taken : {C : Type 0} (place : C → ℕ) (query node : ℕ) (list : List C) → query < 2 ^ 64 → node < 63 → bit_at query node ≢ 1 → [] ≡ filter (is_taken place query node) list
nothing_taken place query node list small within off = sym (filter_none (is_taken place query node) (not_taken place query node small within off) list)
