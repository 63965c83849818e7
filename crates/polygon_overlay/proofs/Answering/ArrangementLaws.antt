-- What a builder holds, redrawn: an arrangement, which it may hold again.
use Rattle.std.specs.Prelude.{ℤ, List, ◌∷◌, []}
use Rattle.std.proofs.Common.{◌∙◌}
use Rattle.std.proofs.lemmas.List.Elements.{All-nil, All-cons, All-head, All-tail}
use Rattle.plane_base.specs.Segments.{IsEdgeWithin}
use Rattle.plane_base.specs.Counts.{Count, Entry, boolean, normal, IsNormal}
use Rattle.plane_base.specs.Balance.{mark, IsBalancedMap}
use Rattle.plane_base.proofs.Facts.Maps.LinearSums.{subject_additive, clip_additive}
use Rattle.plane_base.proofs.Facts.Maps.Balance.{fall_normal}
use Rattle.plane_base.proofs.Facts.Maps.Normal.{normal_is_normal, normal_edges}
use Rattle.segment_split.specs.Redrawing.{redrawn}
use Rattle.segment_split.specs.RedrawLaws.{Bounds, LiesWithin, EndsLieWithin, Rearranges, RedrawsToTheEnd}
use Rattle.segment_split.specs.SegmentViews.{AreWithin}
use Rattle.segment_split.specs.declared.solver.Precision.{Precision}
use Rattle.segment_arrangement.specs.SideLaws.{IsArrangement}
use Rattle.polygon_overlay.specs.Builders.{IsHeld}

module _ (least greatest : ℤ) where
  abbrev range : Bounds
  range = record { left = least; right = greatest; bottom = least; top = greatest }

  to_box : (es : List (Entry Count)) → AreWithin least greatest es → EndsLieWithin range es
  to_box [] h = All-nil (λ e. LiesWithin range e.edge.a × LiesWithin range e.edge.b)
  to_box (e ∷ es) h =
      let first = All-head (λ e. IsEdgeWithin least greatest e.edge) e es h in
      All-cons (λ e. LiesWithin range e.edge.a × LiesWithin range e.edge.b) e es (
        record { left = first.0.0; right = first.0.1; bottom = first.0.2; top = first.0.3 },
        record { left = first.1.0; right = first.1.1; bottom = first.1.2; top = first.1.3 },
      ) (to_box es (All-tail (λ e. IsEdgeWithin least greatest e.edge) e es h))

  from_box : (es : List (Entry Count)) → EndsLieWithin range es → AreWithin least greatest es
  from_box [] h = All-nil (λ e. IsEdgeWithin least greatest e.edge)
  from_box (e ∷ es) h =
      let first = All-head (λ e. LiesWithin range e.edge.a × LiesWithin range e.edge.b) e es h in
      All-cons (λ e. IsEdgeWithin least greatest e.edge) e es (
        (first.0.left, first.0.right, first.0.bottom, first.0.top),
        (first.1.left, first.1.right, first.1.bottom, first.1.top),
      ) (from_box es (All-tail (λ e. LiesWithin range e.edge.a × LiesWithin range e.edge.b) e es h))

  normal_balanced : (es : List (Entry Count)) → IsBalancedMap es → IsBalancedMap (normal boolean es)
  normal_balanced es h = record {
    subject = λ v. fall_normal subject_additive (mark v) es ∙ h.subject v;
    clip = λ v. fall_normal clip_additive (mark v) es ∙ h.clip v;
  }

  module _ (precision : Precision) (rearranges : Rearranges boolean (redrawn boolean precision)) (ends : RedrawsToTheEnd boolean precision)
      (balanced : (es : List (Entry Count)) → IsBalancedMap es → IsBalancedMap (redrawn boolean precision es)) (es : List (Entry Count)) (held : IsHeld least greatest es) where
    map_normal : IsNormal boolean (normal boolean es)
    map_normal = normal_is_normal boolean es held.directed

    is_normal : IsNormal boolean (redrawn boolean precision (normal boolean es))
    is_normal = rearranges.is_normal (normal boolean es) map_normal

    pub redrawn_arrangement : IsArrangement (redrawn boolean precision (normal boolean es))
    redrawn_arrangement = record {
      directed = is_normal.directed;
      rising = is_normal.rising;
      in_ends = (ends (normal boolean es) map_normal).meets;
      balanced = balanced (normal boolean es) (normal_balanced es held.balanced);
    }

    pub redrawn_within : AreWithin least greatest (redrawn boolean precision (normal boolean es))
    redrawn_within =
        from_box (redrawn boolean precision (normal boolean es))
        (rearranges.bounded range (normal boolean es) (to_box (normal boolean es) (normal_edges boolean (IsEdgeWithin least greatest) es held.within)))

    pub redrawn_held : IsHeld least greatest (redrawn boolean precision (normal boolean es))
    redrawn_held = record {
      within = redrawn_within;
      directed = is_normal.directed;
      counted = is_normal.counted;
      balanced = redrawn_arrangement.balanced;
    }
