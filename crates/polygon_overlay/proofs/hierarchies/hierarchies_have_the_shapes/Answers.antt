use Rattle.std.proofs.Common.{sym, ◌∙◌}
use Rattle.polygon_overlay.proofs.hierarchies.hierarchies_have_the_shapes.Goals as goal

pub returns : goal.returns
returns c = λ least greatest options fill rule precision held shapes laid links answered hierarchy. hierarchy.answered.canonical ∙ sym answered.canonical
