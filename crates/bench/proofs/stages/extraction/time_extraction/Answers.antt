use Rattle.bench.proofs.stages.extraction.time_extraction.Goals as goal

pub time_runs-requires-clause-in_range : goal.time_runs-requires-clause-in_range
time_runs-requires-clause-in_range g c = rw c.deref-3.ensures.value (rw c.in-Some.is at c.in-Ok-arranged.ensures.in_range)

pub time_runs-requires-clause-arrangement : goal.time_runs-requires-clause-arrangement
time_runs-requires-clause-arrangement g c = rw c.deref-3.ensures.value (rw c.in-Some.is at c.in-Ok-arranged.ensures.arrangement)

pub time_runs-requires-clause-few : goal.time_runs-requires-clause-few
time_runs-requires-clause-few g c = rw c.deref-3.ensures.value (rw c.in-Some.is at c.in-Ok-arranged.ensures.few)
