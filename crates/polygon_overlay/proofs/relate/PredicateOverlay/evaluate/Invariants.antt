use Rattle.polygon_overlay.proofs.relate.PredicateOverlay.evaluate.Given as goal

-- The ledger of steps that are thrown away.
abbrev pub ghosts-sweep_held : goal.ghosts-sweep_held
ghosts-sweep_held g a = record { name = a.blank.name; parts = a.blank.parts }
