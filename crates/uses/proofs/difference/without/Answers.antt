use Rattle.std.proofs.Common.{IfOk}
use Rattle.std.specs.declared.result.Result.{Result}
use Rattle.std.specs.declared.result.Result.TheVariants.{Ok, Err}
use Rattle.uses.proofs.difference.without.Goals as goal

-- what follows of each answer
each : {T E : Type 0} {P Q : T → Type 0} (r : Result T E) → ((t : T) → P t → Q t) → IfOk r P → IfOk r Q
each (Ok t) f h = f t h
each (Err e) f h = tt

pub returns : goal.returns
returns g c = record {
  in_range = each c.overlay.result (λ shapes found. found.in_range) c.overlay.ensures.answered;
}
