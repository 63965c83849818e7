use Rattle.i_tree_test.proofs.tests.refused.row_insertion_refused.Given as goal

abbrev pub ghosts-row_answers : goal.ghosts-row_answers
ghosts-row_answers g a = record { name = a.blank.name; parts = a.blank.parts }
