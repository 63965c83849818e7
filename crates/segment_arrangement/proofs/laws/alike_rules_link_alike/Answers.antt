use Rattle.segment_arrangement.proofs.AlikeRules.{alike_rules_link_alike}
use Rattle.segment_arrangement.proofs.laws.alike_rules_link_alike.Goals as goal

pub returns : goal.returns
returns c = alike_rules_link_alike
