use Rattle.std.proofs.Common.{drop}
use Rattle.polybool.specs.Calls.{wide}
use Rattle.polybool.proofs.CallLaws.{some_left, left_some}
use Rattle.polybool.proofs.call.read.Goals as goal
use Rattle.polybool.proofs.call.read.Goals.{then-is_wide, else-is_wide}

pub returns : goal.returns
returns g c = λ all is. let is_word = c.is_word-is_wide.ensures all is in elim c.if-is_wide.branch [
  | then-is_wide w ↦ rw w.if-is_wide.true
      (drop 2 all, some_left all 1 wide (is_word.0 w.if-is_wide.true), (rw w.number-is at c.read_from.ensures) all is)
  | else-is_wide w ↦ rw w.if-is_wide.false
      (λ rest e. let yes = is_word.1 (left_some all 1 wide rest e) in let no = w.if-is_wide.false in cc, (rw w.number-is at c.read_from.ensures) all is)
]
