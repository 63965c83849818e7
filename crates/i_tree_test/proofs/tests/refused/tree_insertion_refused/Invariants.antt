use Rattle.i_tree_test.proofs.tests.refused.tree_insertion_refused.Given as goal

abbrev pub ghosts-tree_answers : goal.ghosts-tree_answers
ghosts-tree_answers g a = record { name = a.blank.name; parts = a.blank.parts }
