use Rattle.polygon_overlay.proofs.overlay.Overlay.overlay_hierarchy.Given as goal

-- The ledger of steps that are thrown away.
abbrev pub ghosts-find_hierarchy : goal.ghosts-find_hierarchy
ghosts-find_hierarchy g a = record { name = a.blank.name; parts = a.blank.parts }
