use Rattle.polygon_overlay.proofs.overlay.Overlay.redraw.Given as goal

-- The ledger of steps that are thrown away.
abbrev pub ghosts-redraw : goal.ghosts-redraw
ghosts-redraw g a = record { name = a.blank.name; parts = a.blank.parts }
