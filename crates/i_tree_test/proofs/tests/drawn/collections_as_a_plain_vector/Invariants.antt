use Rattle.i_tree_test.proofs.tests.drawn.collections_as_a_plain_vector.Given as goal

abbrev pub ghosts-all_first_unlike : goal.ghosts-all_first_unlike
ghosts-all_first_unlike g a = record { name = a.blank.name; parts = a.blank.parts }
