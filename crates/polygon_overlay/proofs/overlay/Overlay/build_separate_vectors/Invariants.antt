use Rattle.polygon_overlay.proofs.overlay.Overlay.build_separate_vectors.Given as goal

-- The ledger of steps that are thrown away.
abbrev pub ghosts-list_vectors : goal.ghosts-list_vectors
ghosts-list_vectors g a = record { name = a.blank.name; parts = a.blank.parts }
