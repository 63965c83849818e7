use Rattle.polygon_overlay.proofs.overlay.Overlay.overlay_into.Given as goal

-- The ledger of steps that are thrown away.
abbrev pub ghosts-find_contours_into : goal.ghosts-find_contours_into
ghosts-find_contours_into g a = record { name = a.blank.name; parts = a.blank.parts }
