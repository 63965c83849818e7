use Rattle.bench.proofs.stages.sweeping.time_sweep.Goals as goal

pub sweep-requires-clause-in_range : goal.sweep-requires-clause-in_range
sweep-requires-clause-in_range g c = rw c.deref-3.ensures.value (rw c.in-Some.is at c.in-Ok-arranged.ensures.in_range)

pub sweep-requires-clause-arrangement : goal.sweep-requires-clause-arrangement
sweep-requires-clause-arrangement g c = rw c.deref-3.ensures.value (rw c.in-Some.is at c.in-Ok-arranged.ensures.arrangement)

pub sweep-requires-clause-few : goal.sweep-requires-clause-few
sweep-requires-clause-few g c = rw c.deref-3.ensures.value (rw c.in-Some.is at c.in-Ok-arranged.ensures.few)
