use Rattle.polygon_strings.proofs.string.overlay.StringOverlay.clip_string_lines.Goals as goal

pub returns-clause-clip : goal.returns-clause-clip
returns-clause-clip g c = rw c.default.ensures at c.clip_string_lines_with_solver.ensures.clip

pub returns-clause-asked : goal.returns-clause-asked
returns-clause-asked g c = rw c.default.ensures at c.clip_string_lines_with_solver.ensures.asked
