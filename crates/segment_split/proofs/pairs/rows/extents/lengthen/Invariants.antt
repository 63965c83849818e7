use Rattle.std.specs.Prelude.{ℕ, ℤ, ◌+◌, ◌-◌, length}
use Rattle.segment_split.specs.Rows.{Covers}
use Rattle.segment_split.proofs.pairs.rows.extents.lengthen.Given as goal

-- No row covers less than before.
abbrev pub invariant-loop-extents : goal.invariant-loop-extents
invariant-loop-extents l = (r : ℕ) (a b : ℤ) → Covers l.initial.extents.items r a b → Covers l.extents.items r a b

abbrev pub decreases-loop-extents : goal.decreases-loop-extents
decreases-loop-extents l = l.high + 1 - length l.extents.items
