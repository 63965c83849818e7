use Rattle.segment_arrangement.proofs.builder.GraphBuilder.string_graph.Goals as goal

pub new-requires-clause-joined : goal.new-requires-clause-joined
new-requires-clause-joined g c = rw (c.deref.ensures.value, c.deref-2.ensures.value) c.args.self.now.strings_joined

pub new-requires-clause-numbered : goal.new-requires-clause-numbered
new-requires-clause-numbered g c = rw c.deref.ensures.value c.args.self.now.strings_numbered

pub new-requires-clause-in_range : goal.new-requires-clause-in_range
new-requires-clause-in_range g c = rw c.deref.ensures.value c.args.self.now.strings_in_range
