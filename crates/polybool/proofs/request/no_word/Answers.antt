use Rattle.std.proofs.Common.{refl}
use Rattle.polybool.proofs.WordLaws.{words_some}
use Rattle.polybool.proofs.request.no_word.Goals as goal

pub returns-in-Some : goal.returns-in-Some
returns-in-Some c = rw c.in-Some.is (refl, words_some c.in-Some.field-0.now)
