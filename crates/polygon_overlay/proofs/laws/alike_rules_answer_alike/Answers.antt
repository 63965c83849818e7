use Rattle.polygon_overlay.proofs.Exchanging.AlikeLaws.{alike_rules_answer_alike}
use Rattle.polygon_overlay.proofs.laws.alike_rules_answer_alike.Goals as goal

pub returns : goal.returns
returns c = alike_rules_answer_alike c.once_is_positive.ensures c.alike_rules_link_alike.ensures
