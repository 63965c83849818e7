use Rattle.std.proofs.Common.{◌≡◌, map, take}
use Rattle.contour_walk.proofs.vector.edge.DataVectorShapeClone.clone.Given as goal

abbrev pub invariant-loop-path : goal.invariant-loop-path
invariant-loop-path g l = (l.path-items ≡ l.self.paths.items) × (map (λ p. p.edges.items) l.paths.items ≡ map (λ p. p.edges.items) (take l.path-index l.path-items))
