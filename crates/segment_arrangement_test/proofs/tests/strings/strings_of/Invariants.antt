use Rattle.std.proofs.Common.{◌≡◌, map, take}
use Rattle.segment_split.specs.SegmentViews.{entries_of}
use Rattle.segment_arrangement_test.proofs.StringMaps.{lined}
use Rattle.segment_arrangement_test.proofs.tests.strings.strings_of.Given as goal

abbrev pub invariant-loop-segment : goal.invariant-loop-segment
invariant-loop-segment l = entries_of (λ n. n) l.strings.items ≡ map lined (entries_of (λ n. n) (take l.segment-index l.segments))
