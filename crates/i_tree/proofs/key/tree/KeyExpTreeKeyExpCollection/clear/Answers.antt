use Rattle.i_tree.proofs.Trees.Kept.{kept_by-none, IsKept-none}
use Rattle.i_tree.proofs.key.tree.KeyExpTreeKeyExpCollection.clear.Goals as goal

pub invariant_of-self : goal.invariant_of-self
invariant_of-self g c = IsKept-none g.E.Ord.cmp g.K.ExpiredKey.expires g.K.ExpiredKey.order _ c.clear.ensures

pub returns : goal.returns
returns g c = kept_by-none g.E.Ord.cmp g.K.ExpiredKey.expires g.K.ExpiredKey.order _ c.clear.ensures
