use Rattle.plane_base.proofs.flat_shapes.FlatShapesBuffer.to_shapes.Goals as goal

pub returns-clause-shapes : goal.returns-clause-shapes
returns-clause-shapes g c = rw (c.deref.ensures.value, c.deref-2.ensures.value, c.deref-3.ensures.value) at c.shapes_of.ensures.shapes
