use Rattle.contour_walk.proofs.bind.below.sweep_edges.Given as goal

-- The ledgers that count are those of the blanks.
abbrev pub ghosts-sweep_by_list : goal.ghosts-sweep_by_list
ghosts-sweep_by_list g a = record { name = a.blank.name; parts = a.blank.parts }

abbrev pub ghosts-sweep_by_tree : goal.ghosts-sweep_by_tree
ghosts-sweep_by_tree g a = record { name = a.blank.name; parts = a.blank.parts }
