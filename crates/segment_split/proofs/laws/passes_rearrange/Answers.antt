use Rattle.segment_split.proofs.Passes.Laws.{pass_rearranges}
use Rattle.segment_split.proofs.Redrawing.Iterates.{iterate_rearranges, redrawn_rearranges}
use Rattle.segment_split.proofs.laws.passes_rearrange.Goals as goal

pub returns-clause-pass : goal.returns-clause-pass
returns-clause-pass g c = pass_rearranges

pub returns-clause-iterate : goal.returns-clause-iterate
returns-clause-iterate g c = iterate_rearranges

pub returns-clause-redrawn : goal.returns-clause-redrawn
returns-clause-redrawn g c = redrawn_rearranges
