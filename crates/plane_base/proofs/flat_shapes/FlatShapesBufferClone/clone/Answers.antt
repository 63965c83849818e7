use Rattle.std.proofs.Common.{◌∙◌}
use Rattle.std.proofs.lemmas.Iterator.{YieldsList-from_slice, items_from_collect}
use Rattle.std.proofs.lemmas.Iterator.Consumers.{YieldsList-from_copied}
use Rattle.plane_base.proofs.flat_shapes.FlatShapesBufferClone.clone.Goals as goal

pub returns : goal.returns
returns g c =
    let points = rw c.in_ok-collect.was at (items_from_collect c.collect.result c.collect.ensures.ran (YieldsList-from_copied (YieldsList-from_slice c.args.self.now.points.items cc))) in
    record {
      cases = (points, (c.in_ok-copies_of.ensures ∙ c.deref-2.ensures.value, c.in_ok-copies_of-2.ensures ∙ c.deref-3.ensures.value));
    }
