use Rattle.std.proofs.Common.{◌≡◌, map, take}
use Rattle.plane_base.proofs.path.IntShapeClone.clone.Given as goal

abbrev pub invariant-loop-contour : goal.invariant-loop-contour
invariant-loop-contour g l = (l.contour-items ≡ l.self.contours.items) × (map (λ c. c.points.items) l.contours.items ≡ map (λ c. c.points.items) (take l.contour-index l.contour-items))
