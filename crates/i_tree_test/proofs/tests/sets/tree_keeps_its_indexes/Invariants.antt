use Rattle.i_tree_test.proofs.tests.sets.tree_keeps_its_indexes.Given as goal

abbrev pub ghosts-tree_indexes : goal.ghosts-tree_indexes
ghosts-tree_indexes g a = record { name = a.blank.name; parts = a.blank.parts }
