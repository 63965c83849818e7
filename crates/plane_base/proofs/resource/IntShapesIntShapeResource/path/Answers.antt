use Rattle.plane_base.proofs.resource.IntShapesIntShapeResource.path.Goals as goal

pub returns : goal.returns
returns g c = rw c.deref.ensures.value at c.path_of_shapes.ensures
