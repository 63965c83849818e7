-- Marks along their segment.
use Rattle.std.specs.Prelude.{cond, int_lt, List, [], ◌∷◌}
use Rattle.std.specs.declared.cmp.Ordering.{Ordering}
use Rattle.std.specs.declared.cmp.Ordering.TheVariants.{Less, Equal, Greater}
use Rattle.std.specs.Ordering.{ordering_then, int_cmp}
use Rattle.plane_base.specs.Plane.{Point, Edge}
use Rattle.plane_base.specs.Crossing.{Marks}

-- Marks stand along their edge by x, and at one x downward where the edge falls, else upward.
abbrev pub mark_order : Edge → Point → Point → Ordering
mark_order s p r = ordering_then (int_cmp p.x r.x) (cond (int_lt s.b.y s.a.y) (int_cmp r.y p.y) (int_cmp p.y r.y))

-- one mark more in its place, unless it is there
abbrev pub with_mark : Edge → Point → List Point → List Point
with_mark s p [] = p ∷ []
with_mark s p (r ∷ rest) =
    elim (mark_order s p r) [
      | Less ↦ p ∷ r ∷ rest
      | Equal ↦ r ∷ rest
      | Greater ↦ r ∷ with_mark s p rest
    ]

-- the marks along their edge, each once
abbrev pub along : Edge → List Point → List Point
along s [] = []
along s (p ∷ ps) = with_mark s p (along s ps)

-- the marks of both, each along its own segment
abbrev pub both_along : Edge → Edge → Marks → Marks
both_along s t m = record { first = along s m.first; second = along t m.second }
