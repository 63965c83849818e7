use Rattle.i_tree_test.proofs.tests.rows.tree_growth_refused.Given as goal

abbrev pub ghosts-grown_tree_stands : goal.ghosts-grown_tree_stands
ghosts-grown_tree_stands g a = record { name = a.blank.name; parts = a.blank.parts }
