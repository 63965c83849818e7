use Rattle.segment_split_test.proofs.tests.held.holds_what_is_added.Given as goal

abbrev pub ghosts-holds_triangles : goal.ghosts-holds_triangles
ghosts-holds_triangles a = record { name = a.blank.name; parts = a.blank.parts }
