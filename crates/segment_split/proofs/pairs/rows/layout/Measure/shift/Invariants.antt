use Rattle.std.specs.Prelude.{◌≡◌, ◌^◌}
use Rattle.segment_split.proofs.pairs.rows.layout.Measure.shift.Given as goal

-- The width is this power of two.
abbrev pub invariant-loop-shift : goal.invariant-loop-shift
invariant-loop-shift l = l.width ≡ 2 ^ l.shift
