use Rattle.std.proofs.Common.{◌≡◌, map, take}
use Rattle.plane_base.proofs.path.IntShapesClone.clone.Given as goal

abbrev pub invariant-loop-shape : goal.invariant-loop-shape
invariant-loop-shape g l = (l.shape-items ≡ l.self.shapes.items) × (map (λ s. map (λ c. c.points.items) s.contours.items) l.shapes.items ≡ map (λ s. map (λ c. c.points.items) s.contours.items) (take l.shape-index l.shape-items))
