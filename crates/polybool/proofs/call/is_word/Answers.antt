use Rattle.std.proofs.Common.{arith}
use Rattle.polybool.proofs.CallLaws.{not_missed}
use Rattle.polybool.proofs.call.is_word.Goals as goal

pub returns-in-Err : goal.returns-in-Err
returns-in-Err g c = λ all is. (λ t. cc, λ word. absurd (not_missed _ _ _ _ (omega arith) (c.in-Err.ensures.told all is) word))
