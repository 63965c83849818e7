use Rattle.polygon_overlay.proofs.Returning.ReturnLaws.{equal_boundaries_answer_alike}
use Rattle.polygon_overlay.proofs.laws.equal_boundaries_answer_alike.Goals as goal

pub returns : goal.returns
returns c = equal_boundaries_answer_alike
