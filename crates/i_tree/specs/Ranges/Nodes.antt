-- The 63 nodes of a bucket tree: each has a list of names of insertions. C is the type of names, `place` is the mask of the
-- nodes where an insertion stands, and `at` gives each node its list.
use Rattle.std.specs.Prelude.{◌≡◌, ℕ, zero, suc, ◌+◌, ◌-◌, List, [], ◌++◌, map, filter, Bool, ◌==◌, bit_and, slice_index_or, true, false, nat_lt, ◌<◌}
use Rattle.std.specs.Prelude.{Vec, vec_len, vec_capacity}
use Rattle.std.specs.Int.{w64, trailing_zeros, bit_at}

-- the list at a place, and none past the end
abbrev pub list_at : {C : Type 0} → List (List C) → ℕ → List C
list_at lists node = slice_index_or lists node []

-- the mask has the node
abbrev pub has_node : ℕ → ℕ → Bool
has_node mask node = bit_at mask node == 1

-- at each node of the mask below a number the list has room for one more
abbrev pub HaveRoom : {C A : Type 0} → ℕ → ℕ → List (Vec C A) → Type 0
HaveRoom mask upto nodes = (node : ℕ) → node < upto → has_node mask node ≡ true →
    slice_index_or (map (λ v. nat_lt (vec_len v) (vec_capacity v)) nodes) node false ≡ true

-- the least node of a mask
abbrev pub least_node : ℕ → ℕ
least_node mask = trailing_zeros w64 mask

-- of so many nodes from one on, the names that pass the node's test
unfoldable pub gather : {C : Type 0} → (ℕ → C → Bool) → (ℕ → List C) → ℕ → ℕ → List C
gather test at from zero = []
gather test at from (suc count) = filter (test from) (at from) ++ gather test at (from + 1) count

-- a walk takes an insertion at the least node that it shares with the query's mask
abbrev pub is_taken : {C : Type 0} → (C → ℕ) → ℕ → ℕ → C → Bool
is_taken place query node name = least_node (bit_and (place name) query) == node

-- what a walk has left that has come to a node, with the rest of its list
abbrev pub left_to_walk : {C : Type 0} → (C → ℕ) → (ℕ → List C) → ℕ → ℕ → List C → List C
left_to_walk place at query node rest = filter (is_taken place query node) rest ++ gather (is_taken place query) at (node + 1) (62 - node)
