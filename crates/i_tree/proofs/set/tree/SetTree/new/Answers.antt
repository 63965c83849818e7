use Rattle.i_tree.proofs.Sets.Trees.{IsSetTree-none, set_of-none}
use Rattle.i_tree.proofs.set.tree.SetTree.new.Goals as goal

pub invariant_of-result : goal.invariant_of-result
invariant_of-result g c = IsSetTree-none _ c.in_ok-new.ensures

pub returns : goal.returns
returns g c = set_of-none _ c.in_ok-new.ensures
