use Rattle.i_tree_test.proofs.tests.sets.list_growth_refused.Given as goal

abbrev pub ghosts-list_stands : goal.ghosts-list_stands
ghosts-list_stands g a = record { name = a.blank.name; parts = a.blank.parts }
