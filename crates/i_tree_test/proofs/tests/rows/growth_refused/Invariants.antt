use Rattle.i_tree_test.proofs.tests.rows.growth_refused.Given as goal

abbrev pub ghosts-grown_list_stands : goal.ghosts-grown_list_stands
ghosts-grown_list_stands g a = record { name = a.blank.name; parts = a.blank.parts }
