use Rattle.i_tree.proofs.Trees.Kept.{kept_by-none, IsKept-none}
use Rattle.i_tree.proofs.key.tree.KeyExpTree.new.Goals as goal

pub invariant_of-result : goal.invariant_of-result
invariant_of-result g c = IsKept-none g.E.Ord.cmp g.K.ExpiredKey.expires g.K.ExpiredKey.order _ c.in_ok-new.ensures

pub returns : goal.returns
returns g c = kept_by-none g.E.Ord.cmp g.K.ExpiredKey.expires g.K.ExpiredKey.order _ c.in_ok-new.ensures
