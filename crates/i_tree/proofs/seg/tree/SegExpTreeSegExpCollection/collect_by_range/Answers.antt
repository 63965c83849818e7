use Rattle.std.proofs.Common.{refl}
use Rattle.std.proofs.lemmas.Iterator.{items_from_collect}
use Rattle.std.proofs.lemmas.Iterator.Consumers.{YieldsList-from_first}
use Rattle.i_tree.specs.Ranges.Walk.{yields_of}
use Rattle.i_tree.proofs.Trees.Lists.{permutes_if_collected}
use Rattle.i_tree.proofs.seg.tree.SegExpTreeSegExpCollection.collect_by_range.Goals as goal

pub returns-clause-found : goal.returns-clause-found
returns-clause-found g c =
    permutes_if_collected _ _ c.collect.result
    (items_from_collect c.collect.result c.collect.ensures.ran (YieldsList-from_first (λ x. x) yields_of {s = c.iter_by_range.result} _ refl)) c.iter_by_range.ensures.found
