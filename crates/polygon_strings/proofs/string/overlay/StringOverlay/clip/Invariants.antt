use Rattle.polygon_strings.proofs.string.overlay.StringOverlay.clip.Given as goal

-- The ledger of steps that are thrown away.
abbrev pub ghosts-find_clip : goal.ghosts-find_clip
ghosts-find_clip g a = record { name = a.blank.name; parts = a.blank.parts }
