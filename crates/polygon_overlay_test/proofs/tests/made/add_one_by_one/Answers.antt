use Rattle.std.proofs.Common.{rules, sym, ◌∙◌}
use Rattle.std.proofs.lemmas.Iterator.{items_from_drains, YieldsList-from_slice}
use Rattle.std.proofs.lemmas.Iterator.Consumers.{YieldsList-from_copied}
use Rattle.std.proofs.lemmas.List.{map-id}
use Rattle.polygon_overlay_test.proofs.tests.made.add_one_by_one.Goals as goal

pub add_path_iter-requires-clause-in_range : goal.add_path_iter-requires-clause-in_range
add_path_iter-requires-clause-in_range c points drained =
    let yields = YieldsList-from_copied (YieldsList-from_slice c.args.points.now cc) in
    let same = sym (map-id points) ∙ items_from_drains points (drained.1.0, drained.1.1, λ _. (drained.0, drained.1.2)) yields in
    rw same (c.all_in_range.ensures.0 (search rules))
