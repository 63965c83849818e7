use Rattle.i_tree_test.proofs.tests.rows.single_answers_of_a_row.Given as goal

abbrev pub ghosts-asked_row : goal.ghosts-asked_row
ghosts-asked_row g a = record { name = a.blank.name; parts = a.blank.parts }
