use Rattle.std.proofs.Common.{arith}
use Rattle.segment_split.proofs.Rows.Laws.{all_after}
use Rattle.segment_split.proofs.pairs.rows.hold.first_after.Goals as goal

pub returns-then-place-to : goal.returns-then-place-to
returns-then-place-to c = record {
  before = c.loop-k.invariant;
  after = all_after c.args.to.now c.requires.sorted c.args.place c.loop-k.k (omega arith) (omega arith);
}
