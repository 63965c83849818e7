use Rattle.i_tree_test.proofs.tests.rows.single_answers_of_a_tree.Given as goal

abbrev pub ghosts-asked_tree : goal.ghosts-asked_tree
ghosts-asked_tree g a = record { name = a.blank.name; parts = a.blank.parts }
