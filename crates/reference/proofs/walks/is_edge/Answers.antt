use Rattle.reference.proofs.walks.is_edge.Goals as goal

pub returns : goal.returns
returns g c = c.is_same_edge.ensures
