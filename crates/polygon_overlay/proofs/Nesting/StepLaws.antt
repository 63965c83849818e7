-- Both steps of each pass of a contour are steps of the contour.
use Rattle.std.proofs.Common.{inl, inr, List, [], ◌∷◌, refl}
use Rattle.plane_base.specs.Plane.{Point, Edge}
use Rattle.contour_walk.specs.WalkLaws.{steps_to, contour_steps}
use Rattle.contour_walk.proofs.Facts.Walks.Turns.{Has}
use Rattle.contour_walk.proofs.Facts.Walks.Rings.{Each, each_weaker}
use Rattle.polygon_overlay.specs.PassLaws.{Pass, passes_from, passes}

abbrev step : Point → Point → Edge
step u w = record { a = u; b = w }

-- both steps of each pass are steps of the contour
abbrev pub StepsAmong : List Edge → Pass → Type 0
StepsAmong ss one = Has ss (step one.from one.at) × Has ss (step one.at one.to)

path_steps : (first second from u : Point) (rest : List Point)
    → Each (StepsAmong (step from u ∷ (step first second ∷ steps_to first (u ∷ rest)))) (passes_from first second from (u ∷ rest))
path_steps first second from u [] = ((inl refl, inr (inr (inl refl))), ((inr (inr (inl refl)), inr (inl refl)), tt))
path_steps first second from u (w ∷ rest) = (
  (inl refl, inr (inr (inl refl))),
  each_weaker (StepsAmong (step u w ∷ (step first second ∷ steps_to first (w ∷ rest)))) (StepsAmong (step from u ∷ (step first second ∷ (step u w ∷ steps_to first (w ∷ rest)))))
      (λ one h. (moved (step one.from one.at) h.0, moved (step one.at one.to) h.1)) (passes_from first second u (w ∷ rest)) (path_steps first second u w rest),
)
  where
    moved : (s : Edge) → Has (step u w ∷ (step first second ∷ steps_to first (w ∷ rest))) s
        → Has (step from u ∷ (step first second ∷ (step u w ∷ steps_to first (w ∷ rest)))) s
    moved s (inl e) = inr (inr (inl e))
    moved s (inr (inl e)) = inr (inl e)
    moved s (inr (inr k)) = inr (inr (inr k))

pub pass_steps : (points : List Point) → Each (StepsAmong (contour_steps points)) (passes points)
pass_steps [] = tt
pass_steps (p ∷ []) = tt
pass_steps (p ∷ r ∷ rest) =
    each_weaker (StepsAmong (step p r ∷ (step p r ∷ steps_to p (r ∷ rest)))) (StepsAmong (step p r ∷ steps_to p (r ∷ rest)))
    (λ one h. (once (step one.from one.at) h.0, once (step one.at one.to) h.1)) (passes_from p r p (r ∷ rest)) (path_steps p r p r rest)
  where
    once : (s : Edge) → Has (step p r ∷ (step p r ∷ steps_to p (r ∷ rest))) s → Has (step p r ∷ steps_to p (r ∷ rest)) s
    once s (inl e) = inl e
    once s (inr k) = k
