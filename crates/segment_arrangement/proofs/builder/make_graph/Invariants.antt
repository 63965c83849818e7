use Rattle.segment_arrangement.proofs.builder.make_graph.Given as goal

abbrev pub ghosts-collect_links : goal.ghosts-collect_links
ghosts-collect_links g a = record { name = a.blank.name; parts = a.blank.parts }
