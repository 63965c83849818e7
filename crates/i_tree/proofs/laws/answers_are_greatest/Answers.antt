use Rattle.i_tree.proofs.Keys.GreatestLess.{IsGreatestLess-last_where, IsGreatestLess-answer}
use Rattle.i_tree.proofs.laws.answers_are_greatest.Goals as goal

pub returns-clause-by : goal.returns-clause-by
returns-clause-by g c = λ order by default entries rising. IsGreatestLess-last_where order by default entries rising

pub returns-clause-below : goal.returns-clause-below
returns-clause-below g c = λ order key default entries rising. IsGreatestLess-last_where order (λ k. order k key) default entries rising

pub returns-clause-answer : goal.returns-clause-answer
returns-clause-answer g c = λ order by default entries answer rising unlike is. IsGreatestLess-answer order by default entries answer rising unlike is
