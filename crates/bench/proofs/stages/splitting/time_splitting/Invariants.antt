use Rattle.bench.proofs.stages.splitting.time_splitting.Given as goal

-- The ledger of steps that are thrown away.
abbrev pub ghosts-split : goal.ghosts-split
ghosts-split g a = record { name = a.blank.name; parts = a.blank.parts }
