use Rattle.std.proofs.Common.{◌≡◌, ℤ, pos, List, ap, ◌∙◌, w32}
use Rattle.std.proofs.lemmas.Int.{to_z-of_z}
use Rattle.polygon_overlay.specs.Answering.{Answering, answering_of}
use Rattle.polygon_overlay.specs.Calls.{held_by}
use Rattle.polygon_overlay.specs.Counts.{Count, Entry}
use Rattle.polygon_overlay.specs.OverlayLaws.{overlay_of}
use Rattle.polygon_overlay.specs.Plane.{Point}
use Rattle.polygon_overlay.specs.Precision.{Precision}
use Rattle.polygon_overlay.specs.Regions.{AtLeast, Positive, Subject}
use Rattle.polygon_overlay.specs.RuleLaws.{AlikeRulesAnswerAlike}
use Rattle.uses.proofs.depths.overlapped.Goals as goal

module _ {shapes : List (List (List Point))} (o : Answering) (precision : Precision) (held : List (Entry Count)) {depth times : ℤ}
    (same : depth ≡ times) (is : shapes ≡ overlay_of o (AtLeast depth) Subject precision held) where
  of_times : shapes ≡ overlay_of o (AtLeast times) Subject precision held
  of_times = is ∙ ap (λ n. overlay_of o (AtLeast n) Subject precision held) same

  of_once : AlikeRulesAnswerAlike → times ≡ pos 1 → shapes ≡ overlay_of o Positive Subject precision held
  of_once law once =
      of_times ∙ (ap (λ n. overlay_of o (AtLeast n) Subject precision held) once ∙ law.once_is_positive.overlays o Subject precision held)

pub returns-in_ok-shapes-in-Some-clause-at_least : goal.returns-in_ok-shapes-in-Some-clause-at_least
returns-in_ok-shapes-in-Some-clause-at_least g c =
    let parcels = c.args.parcels.now in
    of_times (answering_of parcels.options) parcels.solver.precision (held_by parcels) (c.in-Some.ensures.1 ∙ to_z-of_z w32 c.args.times c.ranges.times)
    c.in_ok-shapes-in-Some.ensures.answered.canonical

pub returns-in_ok-shapes-in-Some-clause-once : goal.returns-in_ok-shapes-in-Some-clause-once
returns-in_ok-shapes-in-Some-clause-once g c =
    let parcels = c.args.parcels.now in
    of_once (answering_of parcels.options) parcels.solver.precision (held_by parcels) (c.in-Some.ensures.1 ∙ to_z-of_z w32 c.args.times c.ranges.times)
    c.in_ok-shapes-in-Some.ensures.answered.canonical c.alike_rules_answer_alike.ensures
