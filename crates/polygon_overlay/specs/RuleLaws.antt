-- What queries by two fill rules have in common.
use Rattle.std.specs.Prelude.{◌≡◌, ◌↔◌, ℕ, pos, Bool, List}
use Rattle.plane_base.specs.Plane.{Point}
use Rattle.plane_base.specs.Counts.{Count, Entry}
use Rattle.plane_base.specs.Regions.{FillRule, AtLeast, Positive, OverlayRule}
use Rattle.segment_split.specs.Strings.{StringCount}
use Rattle.segment_split.specs.declared.solver.Precision.{Precision}
use Rattle.segment_arrangement.specs.Graphs.{all_links}
use Rattle.segment_arrangement.specs.RuleLaws.{FillAlike}
use Rattle.segment_arrangement.specs.Strings.{all_string_links}
use Rattle.segment_arrangement.specs.declared.clip_rule.ClipRule.{ClipRule}
use Rattle.contour_walk.specs.Answering.{Answering}
use Rattle.contour_walk.specs.Hierarchy.{answer_links}
use Rattle.contour_walk.specs.Vectors.{vector_answer}
use Rattle.contour_walk.specs.WalkLaws.{borders}
use Rattle.contour_walk.specs.declared.options.IntOverlayOptions.{IntOverlayOptions}
use Rattle.polygon_strings.specs.KeptSteps.{kept_steps}
use Rattle.polygon_strings.specs.Slices.{IsSlice}
use Rattle.polygon_overlay.specs.FlatCalls.{flat_overlay_of}
use Rattle.polygon_overlay.specs.OverlayLaws.{overlay_of}
use Rattle.polygon_overlay.specs.Overlays.{redrawn_of}
use Rattle.polygon_overlay.specs.Simplified.{fast_answer}

-- They answer alike: by the links of all edges, which tell relations, lent graphs and edges one by one; overlays, also laid flat, which of
-- their shapes lie in holes of others, and their shapes as edges; contours that are perfect; and of strings the steps that a clip keeps,
-- lent graphs, and slices.
pub record AnswerAlike (fill other : FillRule) : Type 0 where
  pub links : (es : List (Entry Count)) → all_links fill es ≡ all_links other es
  pub overlays : (o : Answering) (rule : OverlayRule) (precision : Precision) (held : List (Entry Count)) →
      overlay_of o fill rule precision held ≡ overlay_of o other rule precision held
  pub flat : (options : IntOverlayOptions) (rule : OverlayRule) (precision : Precision) (held : List (Entry Count)) →
      flat_overlay_of options fill rule precision held ≡ flat_overlay_of options other rule precision held
  pub nested : (o : Answering) (rule : OverlayRule) (precision : Precision) (held : List (Entry Count)) →
      answer_links o (borders fill rule (redrawn_of precision held)) ≡ answer_links o (borders other rule (redrawn_of precision held))
  pub vectors : (o : Answering) (rule : OverlayRule) (es : List (Entry Count)) → vector_answer o fill rule es ≡ vector_answer o other rule es
  pub perfect : (clockwise : Bool) (points : List Point) → fast_answer clockwise fill points ≡ fast_answer clockwise other points
  pub kept : (clip : ClipRule) (es : List (Entry StringCount)) → kept_steps fill clip es ≡ kept_steps other clip es
  pub strings : (es : List (Entry StringCount)) → all_string_links fill es ≡ all_string_links other es
  pub slices : (output : Bool) (least : ℕ) (es : List (Entry StringCount)) (shapes : List (List (List Point)))
      → IsSlice output least fill es shapes ↔ IsSlice output least other es shapes

-- Rules that fill alike answer alike: at least once as above 0.
pub record AlikeRulesAnswerAlike : Type 0 where
  pub all : (fill other : FillRule) → FillAlike fill other → AnswerAlike fill other
  pub once_is_positive : AnswerAlike (AtLeast (pos 1)) Positive
