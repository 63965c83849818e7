use Rattle.segment_split.proofs.Rows.Extents.{covers_pushed}
use Rattle.segment_split.proofs.pairs.rows.extents.lengthen.Goals as goal

pub loop-extents-preserved : goal.loop-extents-preserved
loop-extents-preserved c = λ r a b h. covers_pushed c.loop-extents.extents.items c.push.new.self.items _ c.in_ok-push.ensures.items r a b (c.loop-extents.invariant r a b h)
