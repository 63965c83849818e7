use Rattle.std.proofs.Common.{refl, arith}
use Rattle.std.proofs.lemmas.List.Elements.{All-nil}
use Rattle.segment_arrangement.specs.LinkViews.{IsBridgeOfTwo}
use Rattle.segment_arrangement.proofs.builder.GraphBuilder.new.Goals as goal

pub invariant_of-result-clause-joined : goal.invariant_of-result-clause-joined
invariant_of-result-clause-joined g c = rw (c.new-2.ensures.items, c.new-3.ensures.items) (record { places = refl; bridges = All-nil IsBridgeOfTwo })

pub invariant_of-result-clause-numbered : goal.invariant_of-result-clause-numbered
invariant_of-result-clause-numbered g c = rw c.new-2.ensures.items (λ k d l. absurd (omega (arith, l)))

pub invariant_of-result-clause-in_range : goal.invariant_of-result-clause-in_range
invariant_of-result-clause-in_range g c = rw c.new-2.ensures.items (λ k d l. absurd (omega (arith, l)))

pub invariant_of-result-clause-strings_joined : goal.invariant_of-result-clause-strings_joined
invariant_of-result-clause-strings_joined g c = rw (c.new-4.ensures.items, c.new-5.ensures.items) refl

pub invariant_of-result-clause-strings_numbered : goal.invariant_of-result-clause-strings_numbered
invariant_of-result-clause-strings_numbered g c = rw c.new-4.ensures.items (λ k d l. absurd (omega (arith, l)))

pub invariant_of-result-clause-strings_in_range : goal.invariant_of-result-clause-strings_in_range
invariant_of-result-clause-strings_in_range g c = rw c.new-4.ensures.items (λ k d l. absurd (omega (arith, l)))
