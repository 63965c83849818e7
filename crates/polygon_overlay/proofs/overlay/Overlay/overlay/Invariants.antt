use Rattle.polygon_overlay.proofs.overlay.Overlay.overlay.Given as goal

-- The ledger of steps that are thrown away.
abbrev pub ghosts-find_shapes : goal.ghosts-find_shapes
ghosts-find_shapes g a = record { name = a.blank.name; parts = a.blank.parts }
