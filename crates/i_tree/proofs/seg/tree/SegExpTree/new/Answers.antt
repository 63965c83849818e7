use contract.BorrowLft.{⊑_static}
use Rattle.std.proofs.lemmas.Result.{err_from_is_err_and}
use Rattle.std.proofs.Common.{arith}
use Rattle.i_tree.proofs.Ranges.Bags.{IsOnePool-none}
use Rattle.i_tree.proofs.seg.tree.SegExpTree.new.Goals as goal

pub invariant_of-result : goal.invariant_of-result
invariant_of-result g c =
    rw (c.new-2.ensures.items, c.new-3.ensures.items)
    (c.in_ok-nodes.ensures.all, (omega arith, IsOnePool-none (λ e. e.first) (λ e. e.last) (λ e. e.named) _ _ _ (λ n h. c.in_ok-nodes.ensures.empty n)))

pub returns-in_err-nodes-clause-none : goal.returns-in_err-nodes-clause-none
returns-in_err-nodes-clause-none g c = rw ((err_from_is_err_and c.from_residual.result c.from_residual.ensures.1).1) tt

pub returns-in_err-nodes-clause-some : goal.returns-in_err-nodes-clause-some
returns-in_err-nodes-clause-some g c = rw ((err_from_is_err_and c.from_residual.result c.from_residual.ensures.1).1) tt

pub returns-in_err-nodes-clause-empty : goal.returns-in_err-nodes-clause-empty
returns-in_err-nodes-clause-empty g c = rw ((err_from_is_err_and c.from_residual.result c.from_residual.ensures.1).1) tt

pub returns-in_err-nodes-clause-buckets : goal.returns-in_err-nodes-clause-buckets
returns-in_err-nodes-clause-buckets g c = rw ((err_from_is_err_and c.from_residual.result c.from_residual.ensures.1).1) tt

pub branch-nodes-requires : goal.branch-nodes-requires
branch-nodes-requires g c κs = (⊑_static κs.0, ⊑_static κs.1.0)

pub new-requires-3 : goal.new-requires-3
new-requires-3 g c κs = (⊑_static κs.0, ⊑_static κs.1.0)

pub returns-clause-none : goal.returns-clause-none
returns-clause-none g c = tt

pub returns-in_default-clause-empty : goal.returns-in_default-clause-empty
returns-in_default-clause-empty g c = tt

pub returns-in_default-clause-some : goal.returns-in_default-clause-some
returns-in_default-clause-some g c = tt

pub returns-in_default-clause-buckets : goal.returns-in_default-clause-buckets
returns-in_default-clause-buckets g c = tt
