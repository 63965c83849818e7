use Rattle.polygon_overlay.proofs.Checked.Answers as answers
use Rattle.polygon_overlay.proofs.sizing_laws.grown_is_near.Goals as goal

pub returns : goal.returns
returns c = answers.grown_is_near
