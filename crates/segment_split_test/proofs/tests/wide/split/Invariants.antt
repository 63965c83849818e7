use Rattle.segment_split_test.proofs.tests.wide.split.Given as goal

-- The ledger that counts is that of the blank.
abbrev pub ghosts-split_counted : goal.ghosts-split_counted
ghosts-split_counted a = record { name = a.blank.name; parts = a.blank.parts }
