use Rattle.segment_arrangement_test.proofs.tests.fills.refusals_of_squares.Given as goal

-- The ledger that counts is that of the blank.
abbrev pub ghosts-refused_at : goal.ghosts-refused_at
ghosts-refused_at a = record { name = a.blank.name; parts = a.blank.parts }
