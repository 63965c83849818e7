use Rattle.bench.proofs.stages.sweeping.time_sweep.Given as goal

-- The ledger of steps that are thrown away.
abbrev pub ghosts-sweep : goal.ghosts-sweep
ghosts-sweep g a = record { name = a.blank.name; parts = a.blank.parts }
