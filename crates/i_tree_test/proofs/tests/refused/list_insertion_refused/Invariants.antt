use Rattle.i_tree_test.proofs.tests.refused.list_insertion_refused.Given as goal

abbrev pub ghosts-list_answers : goal.ghosts-list_answers
ghosts-list_answers g a = record { name = a.blank.name; parts = a.blank.parts }
