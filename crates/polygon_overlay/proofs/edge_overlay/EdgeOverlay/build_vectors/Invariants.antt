use Rattle.polygon_overlay.proofs.edge_overlay.EdgeOverlay.build_vectors.Given as goal

-- The ledger of steps that are thrown away.
abbrev pub ghosts-find_vectors : goal.ghosts-find_vectors
ghosts-find_vectors g a = record { name = a.blank.name; parts = a.blank.parts }
