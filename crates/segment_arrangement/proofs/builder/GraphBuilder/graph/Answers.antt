use Rattle.std.proofs.Common.{arith}
use Rattle.std.proofs.lemmas.Grind.{common_steps}
use Rattle.segment_arrangement.proofs.builder.GraphBuilder.graph.Goals as goal

pub new-requires-clause-joined : goal.new-requires-clause-joined
new-requires-clause-joined g c = rw (c.deref.ensures.value, c.deref-2.ensures.value) c.args.self.now.joined

pub new-requires-clause-numbered : goal.new-requires-clause-numbered
new-requires-clause-numbered g c = rw c.deref.ensures.value c.args.self.now.numbered

pub new-requires-clause-in_range : goal.new-requires-clause-in_range
new-requires-clause-in_range g c = rw c.deref.ensures.value c.args.self.now.in_range

pub returns-clause-links : goal.returns-clause-links
returns-clause-links g c = grind (arith, common_steps)

pub returns-clause-nodes : goal.returns-clause-nodes
returns-clause-nodes g c = grind (arith, common_steps)
