use Rattle.std.proofs.lemmas.Nat.{pow_pos}
use Rattle.i_tree.proofs.Ranges.Layouts.{BucketsRise-buckets}
use Rattle.i_tree.proofs.seg.layout.Layout.accepts.Goals as goal

pub returns-then-is_some-2-clause-rise : goal.returns-then-is_some-2-clause-rise
returns-then-is_some-2-clause-rise g c = rw (← c.self.view_is) (BucketsRise-buckets _ (pow_pos c.self.inside.power) c.self.invariant.1.1)

pub is_some-requires : goal.is_some-requires
is_some-requires g c κs = λ h. h

pub is_some-requires-then-is_some : goal.is_some-requires-then-is_some
is_some-requires-then-is_some g c κs = λ h. h

pub is_some-requires-then-is_some-2 : goal.is_some-requires-then-is_some-2
is_some-requires-then-is_some-2 g c κs = λ h. h

pub range_span-requires : goal.range_span-requires
range_span-requires g c κs = λ h. h

pub range_span-requires-then-is_some : goal.range_span-requires-then-is_some
range_span-requires-then-is_some g c κs = λ h. h

pub range_span-requires-then-is_some-2 : goal.range_span-requires-then-is_some-2
range_span-requires-then-is_some-2 g c κs = λ h. h

pub returns-else-is_some-2-clause-rise : goal.returns-else-is_some-2-clause-rise
returns-else-is_some-2-clause-rise g c = rw (← c.self.view_is) (BucketsRise-buckets _ (pow_pos c.self.inside.power) c.self.invariant.1.1)
