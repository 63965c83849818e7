use Rattle.std.specs.Prelude.{ℕ, ℤ, ◌≤◌, ◌<◌, length}
use Rattle.segment_split.specs.Rows.{Covers}
use Rattle.segment_split.proofs.pairs.rows.extents.widen.Given as goal

-- The rows before this one are covered, and no row covers less than before.
abbrev pub invariant-loop-row : goal.invariant-loop-row
invariant-loop-row l =
    ((r : ℕ) → l.low ≤ r → r < l.row → Covers l.extents.items r l.left l.right)
    × ((r : ℕ) (a b : ℤ) → Covers l.initial.extents.items r a b → Covers l.extents.items r a b)
    × (l.high < length l.extents.items)
