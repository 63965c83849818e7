use Rattle.i_tree_test.proofs.tests.sets.tree_growth_refused.Given as goal

abbrev pub ghosts-tree_stands : goal.ghosts-tree_stands
ghosts-tree_stands g a = record { name = a.blank.name; parts = a.blank.parts }
