use Rattle.polybool.proofs.session.split_line.Goals as goal

pub returns-in_err-end-clause-found : goal.returns-in_err-end-clause-found
returns-in_err-end-clause-found c = rw c.from_residual.ensures tt

pub returns-in_err-end-clause-shorter : goal.returns-in_err-end-clause-shorter
returns-in_err-end-clause-shorter c = rw c.from_residual.ensures tt

pub returns-clause-none : goal.returns-clause-none
returns-clause-none c = tt
