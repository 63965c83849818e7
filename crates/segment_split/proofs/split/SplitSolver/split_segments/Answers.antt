use Rattle.segment_split.proofs.split.SplitSolver.split_segments.Goals as goal

pub split_segments_with_store-requires-clause-in_range : goal.split_segments_with_store-requires-clause-in_range
split_segments_with_store-requires-clause-in_range g c = c.requires.in_range

pub split_segments_with_store-requires-clause-counted : goal.split_segments_with_store-requires-clause-counted
split_segments_with_store-requires-clause-counted g c = c.requires.counted

pub returns-clause-redrawn : goal.returns-clause-redrawn
returns-clause-redrawn g c = c.split_segments_with_store.ensures.redrawn

pub returns-clause-alone : goal.returns-clause-alone
returns-clause-alone g c = c.split_segments_with_store.ensures.alone

pub returns-clause-flag : goal.returns-clause-flag
returns-clause-flag g c = c.split_segments_with_store.ensures.flag

pub returns-clause-fault : goal.returns-clause-fault
returns-clause-fault g c = c.split_segments_with_store.ensures.fault

pub returns-clause-few : goal.returns-clause-few
returns-clause-few g c = c.split_segments_with_store.ensures.few

pub returns-clause-refused : goal.returns-clause-refused
returns-clause-refused g c = c.split_segments_with_store.ensures.refused

pub returns-clause-steps : goal.returns-clause-steps
returns-clause-steps g c = c.split_segments_with_store.ensures.steps

pub returns-clause-looks : goal.returns-clause-looks
returns-clause-looks g c = c.split_segments_with_store.ensures.looks
