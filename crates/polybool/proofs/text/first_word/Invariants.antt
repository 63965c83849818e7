use Rattle.polybool.proofs.WordLaws.{NoSpaceBefore}
use Rattle.polybool.proofs.text.first_word.Given as goal

abbrev pub invariant-loop-index : goal.invariant-loop-index
invariant-loop-index l = NoSpaceBefore l.text l.index
