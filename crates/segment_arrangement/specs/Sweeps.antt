-- What a sweep does: the fans that it sorts, and what it tells a handler.
use Rattle.std.specs.Prelude.{◌≡◌, ℕ, ◌+◌, ◌*◌, ◌≤◌, ◌⊎◌, ℤ, pos, ◌-ℤ◌, ◌*ℤ◌, Bool, true, cond, int_lt, nat_lt, false}
use Rattle.std.specs.Prelude.{count_by, List, [], ◌∷◌, ◌++◌, map, length, Option, MatchOption, Contains}
use Rattle.std.specs.List.{list_any}
use Rattle.std.specs.declared.ops.ControlFlow.{ControlFlow}
use Rattle.std.specs.declared.ops.ControlFlow.TheVariants.{Continue, Break}
use Rattle.plane_base.specs.Plane.{is_before, HasSize}
use Rattle.plane_base.specs.Counts.{Count, Entry, boolean}
use Rattle.plane_base.specs.declared.fault.Fault.{Fault}
use Rattle.i_tree.specs.Steps.{Counts}
use Rattle.i_tree.specs.TreeBound.{greatest_power, most_comparisons}
use Rattle.segment_split.specs.Kinds.{count_fits}
use Rattle.segment_split.specs.declared.solver.Strategy.{Strategy}
use Rattle.segment_split.specs.declared.solver.Strategy.TheVariants.{List as by_list, Tree, Frag, Auto}
use Rattle.segment_arrangement.specs.EdgeSides.{upper_side}
use Rattle.segment_arrangement.specs.FanLaws.{starts_at}

-- The way that a segment takes: forward, and no farther than coordinates lie apart.
pub record IsForward (span width climb : ℤ) : Type 0 where
  pub forward : is_before (record { x = pos 0; y = pos 0 }) (record { x = width; y = climb }) ≡ true
  pub width_fits : HasSize span width
  pub climb_fits : HasSize span climb

-- the first way turns left to reach the second
abbrev pub turns_left : ℤ → ℤ → ℤ → ℤ → Bool
turns_left width climb other_width other_climb = int_lt (pos 0) ((width *ℤ other_climb) -ℤ (climb *ℤ other_width))

-- ---- what a handler is told

-- What a handler's call means: the state before, the segment's place, the segment, its fill, the answer, and the state after.
abbrev pub Handling : Type 0 → Type 0 → Type 0 → Type 1
Handling H S O = H → ℕ → S → ℕ → ControlFlow O (Unit {0}) → H → Type 0

-- From the place n on the handler is told the segments, each with its fill, until it breaks off with the output; told all of them
-- it finishes with the output. `handles` and `finishes` say what its calls mean.
abbrev pub IsHandled : {H S O : Type 0} → Handling H S O → (H → O → Type 0) → (S → ℕ) → ℕ → List S → H → O → Type 0
IsHandled handles finishes fill n [] handler output = finishes handler output
IsHandled {H} handles finishes fill n (s ∷ rest) handler output =
    ((after : H) × handles handler n s (fill s) (Break output) after)
    ⊎ ((after : H) × handles handler n s (fill s) (Continue tt) after × IsHandled handles finishes fill (n + 1) rest after output)

-- What a handler's refused call means, as that of one that breaks off with the fault.
abbrev pub refusing : {H S O : Type 0} → Handling H S O → (H → ℕ → S → ℕ → Fault → Type 0) → Handling H S Fault
refusing handles refuses handler n s fill (Break fault) after = refuses handler n s fill fault
refusing handles refuses handler n s fill (Continue _) after = handles handler n s fill (Continue tt) after

abbrev pub never : {H O : Type 0} → H → O → Type 0
never handler output = ⊥

-- From the place n on the handler is told the segments, each with its fill, until it refuses one with the fault.
abbrev pub IsRefused : {H S O : Type 0} → Handling H S O → (H → ℕ → S → ℕ → Fault → Type 0) → (S → ℕ) → ℕ → List S → H → Fault → Type 0
IsRefused handles refuses = IsHandled (refusing handles refuses) never

-- The handler was told these segments with these fills, and broke off with an output or goes on with the rest.
abbrev pub IsTold :
    {H S O : Type 0} → Handling H S O → (H → O → Type 0) → ℕ → List S → List ℕ → H → Option O → H → Type 0
IsTold {S = S} {O = O} handles finishes n ss fills old flow new =
    (fill : S → ℕ) → map fill ss ≡ fills → (rest : List S) →
    MatchOption flow ((out : O) → IsHandled handles finishes fill (n + length ss) rest new out → IsHandled handles finishes fill n (ss ++ rest) old out)
    (λ out. IsHandled handles finishes fill n (ss ++ rest) old out)

-- ---- the sides of a fan

-- The sums are handed up: below the first of these segments lies the given count, and below each next one what lies above the one
-- before it. `lower` is what lies below a segment, by its place in the list, and `count` what the segment counts.
abbrev pub IsHandedUp : (ℕ → Count) → (ℕ → Count) → Count → List ℕ → Type 0
IsHandedUp lower count below [] = Unit {0}
IsHandedUp lower count below (i ∷ rest) = (lower i ≡ below) × IsHandedUp lower count (boolean.join below (count i)) rest

-- what lies above the segment at a place
abbrev pub upper_of : (ℕ → Count) → (ℕ → Count) → ℕ → Count
upper_of lower count i = boolean.join (lower i) (count i)

-- the upper side of some edge of the map leaves the range of counts
abbrev pub HasSideOutOfRange : List (Entry Count) → Type 0
HasSideOutOfRange es = (e : Entry Count) × Contains es e × (count_fits (upper_side es e) ≡ false)

-- ---- how often a sweep calls the collection of live segments

-- at how many points edges start: of those that start at one point the last is counted
abbrev pub starts_of : List (Entry Count) → ℕ
starts_of [] = 0
starts_of (e ∷ rest) = cond (list_any (starts_at e.edge.a) rest) 0 1 + starts_of rest

-- how many edges are not vertical
abbrev pub slanted : List (Entry Count) → ℕ
slanted es = count_by (λ e. int_lt e.edge.a.x e.edge.b.x) es

-- a query at each point at which edges start, and an insertion of each edge that is not vertical
abbrev pub calls_of : List (Entry Count) → ℕ
calls_of es = starts_of es + slanted es

-- The number of calls went from one number to another, and each compared `most` times at most.
pub record MakesCalls (old new : Counts) (before after most : ℕ) : Type 0 where
  pub never_falls : old.comparisons ≤ new.comparisons
  pub bound : new.comparisons + before * most ≤ old.comparisons + after * most
  pub pairs : new.pairs ≡ old.pairs

-- ---- by which collection

-- Under this strategy a sweep over n edges stands on a list of live segments, else on a tree.
abbrev pub stands_on_list : Strategy → ℕ → Bool
stands_on_list by_list n = true
stands_on_list Tree n = false
stands_on_list Frag n = false
stands_on_list Auto n = nat_lt n 64

-- how many comparisons a call on the live segments makes at most in a sweep over n edges
abbrev pub most_in_call : Strategy → ℕ → ℕ
most_in_call strategy n = cond (stands_on_list strategy n) n (most_comparisons n)

-- how many comparisons a sweep over n edges makes at most with a tree: 4nk, where k is the greatest with 2 ^ k ≤ n + 1
abbrev pub most_with_tree : ℕ → ℕ
most_with_tree n = 4 * n * greatest_power n (n + 1)
