use Rattle.polygon_overlay.proofs.overlay.Overlay.build_shape_vectors.Given as goal

-- The ledger of steps that are thrown away.
abbrev pub ghosts-find_shape_vectors : goal.ghosts-find_shape_vectors
ghosts-find_shape_vectors g a = record { name = a.blank.name; parts = a.blank.parts }
