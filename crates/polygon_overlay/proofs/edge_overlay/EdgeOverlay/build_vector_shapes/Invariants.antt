use Rattle.polygon_overlay.proofs.edge_overlay.EdgeOverlay.build_vector_shapes.Given as goal

-- The ledger of steps that are thrown away.
abbrev pub ghosts-find_vector_shapes : goal.ghosts-find_vector_shapes
ghosts-find_vector_shapes g a = record { name = a.blank.name; parts = a.blank.parts }
