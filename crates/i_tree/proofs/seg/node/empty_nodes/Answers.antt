use Rattle.std.proofs.lemmas.Result.{err_from_is_err_and}
use Rattle.i_tree.proofs.seg.node.empty_nodes.Goals as goal

pub returns-in_err-nodes-clause-all : goal.returns-in_err-nodes-clause-all
returns-in_err-nodes-clause-all c = rw ((err_from_is_err_and c.from_residual.result c.from_residual.ensures.1).1) tt

pub returns-in_err-nodes-clause-empty : goal.returns-in_err-nodes-clause-empty
returns-in_err-nodes-clause-empty c = rw ((err_from_is_err_and c.from_residual.result c.from_residual.ensures.1).1) tt

pub returns-in_err-push-clause-all : goal.returns-in_err-push-clause-all
returns-in_err-push-clause-all c = rw ((err_from_is_err_and c.from_residual-in_err-push.result c.from_residual-in_err-push.ensures.1).1) tt

pub returns-in_err-push-clause-empty : goal.returns-in_err-push-clause-empty
returns-in_err-push-clause-empty c = rw ((err_from_is_err_and c.from_residual-in_err-push.result c.from_residual-in_err-push.ensures.1).1) tt
