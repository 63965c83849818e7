use Rattle.polygon_strings_test.proofs.tests.made.made_of.Goals as goal

pub add_shapes-requires-clause-in_range : goal.add_shapes-requires-clause-in_range
add_shapes-requires-clause-in_range c = c.source_in_range.ensures.0 c.if-not-source_in_range.false
