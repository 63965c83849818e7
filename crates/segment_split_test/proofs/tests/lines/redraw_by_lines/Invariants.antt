use Rattle.segment_split_test.proofs.tests.lines.redraw_by_lines.Given as goal

-- The ledger that counts is that of the blank.
abbrev pub ghosts-redraw_counted : goal.ghosts-redraw_counted
ghosts-redraw_counted a = record { name = a.blank.name; parts = a.blank.parts }
