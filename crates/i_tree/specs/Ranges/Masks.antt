-- The 32 buckets as the leaves of a full binary tree. Its nodes are numbered from the root, 0, level by level, left
-- to right: they are 0 to 62, and bucket i is node 31 + i.
use Rattle.std.specs.Prelude.{◌≢◌, ℕ, zero, suc, ◌+◌, ◌-◌, ◌*◌, ◌/◌, ◌%◌, ◌^◌, ◌≤◌, Bool, ◌&&◌, ◌||◌, ◌==◌, not, nat_le, nat_lt, if◌then◌else◌, bit_and}

-- how far a node is above the leaves
unfoldable pub height_of : ℕ → ℕ
height_of node =
    if nat_lt 30 node then 0 else if nat_lt 14 node then 1 else if nat_lt 6 node then 2 else if nat_lt 2 node then 3 else if nat_lt 0 node then 4 else 5

-- the first bucket below a node
unfoldable pub first_bucket : ℕ → ℕ
first_bucket node = (node + 1) * 2 ^ height_of node - 32

-- the last bucket below a node
unfoldable pub last_bucket : ℕ → ℕ
last_bucket node = (node + 2) * 2 ^ height_of node - 33

-- the node just above
abbrev pub parent_of : ℕ → ℕ
parent_of node = (node - 1) / 2

-- whether all buckets of the node lie in the interval
unfoldable pub lies_in : ℕ → ℕ → ℕ → Bool
lies_in first last node = nat_le first (first_bucket node) && nat_le (last_bucket node) last

-- whether some bucket of the node lies in the interval
unfoldable pub is_met : ℕ → ℕ → ℕ → Bool
is_met first last node = nat_le (first_bucket node) last && nat_le first (last_bucket node)

-- whether all buckets of the node lie in the interval while its parent's do not
unfoldable pub is_placed : ℕ → ℕ → ℕ → Bool
is_placed first last node = lies_in first last node && not (nat_lt 0 node && lies_in first last (parent_of node))

-- of the nodes left to right of a level, counted from one, the first where it is a second child, and the last where it
-- is a first child
unfoldable pub is_end : ℕ → ℕ → ℕ → Bool
is_end left right node = (node + 1 == left && left % 2 == 1) || (node + 2 == right && right % 2 == 1)

-- the number whose bits below n are the answers of the test
unfoldable pub mask_below : (ℕ → Bool) → ℕ → ℕ
mask_below test zero = 0
mask_below test (suc n) = (if test n then 1 else 0) * 2 ^ n + mask_below test n

-- the mask of the nodes that pass the test
abbrev pub mask_of : (ℕ → Bool) → ℕ
mask_of test = mask_below test 63

-- the mask of the nodes whose buckets all lie in the interval while their parent's do not
abbrev pub place_mask : ℕ → ℕ → ℕ
place_mask first last = mask_of (is_placed first last)

-- the mask of the nodes that hold a bucket of the interval
abbrev pub intersect_mask : ℕ → ℕ → ℕ
intersect_mask first last = mask_of (is_met first last)

-- some bit is set in both masks
abbrev pub ShareBit : ℕ → ℕ → Type 0
ShareBit mask other = bit_and mask other ≢ 0

-- some bucket lies in both intervals
abbrev pub Overlap : ℕ → ℕ → ℕ → ℕ → Type 0
Overlap first last low high = (first ≤ high) × (low ≤ last)
