use Rattle.polygon_overlay_test.proofs.tests.given_again.is_related.Goals as goal

pub touches-requires-clause-subj_in_range : goal.touches-requires-clause-subj_in_range
touches-requires-clause-subj_in_range c = c.source_in_range.ensures.0 c.if-not-source_in_range.false

pub touches-requires-clause-clip_in_range : goal.touches-requires-clause-clip_in_range
touches-requires-clause-clip_in_range c = c.source_in_range.ensures.0 c.if-not-source_in_range.false
