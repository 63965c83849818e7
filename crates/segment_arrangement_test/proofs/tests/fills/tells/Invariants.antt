use Rattle.segment_arrangement_test.proofs.tests.fills.tells.Given as goal

-- The ledger that counts is that of the blank.
abbrev pub ghosts-tells_counted : goal.ghosts-tells_counted
ghosts-tells_counted a = record { name = a.blank.name; parts = a.blank.parts }
