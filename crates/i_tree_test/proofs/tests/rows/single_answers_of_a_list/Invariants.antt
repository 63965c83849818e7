use Rattle.i_tree_test.proofs.tests.rows.single_answers_of_a_list.Given as goal

abbrev pub ghosts-asked_list : goal.ghosts-asked_list
ghosts-asked_list g a = record { name = a.blank.name; parts = a.blank.parts }
