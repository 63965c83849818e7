use Rattle.std.proofs.Common.{◌≡◌, ◌++◌, ◌-◌, length, map, take}
use Rattle.std.specs.Prelude.{replicate}
use Rattle.segment_arrangement.specs.GraphViews.{state_of}
use Rattle.segment_arrangement.specs.RuleViews.{overlay_rule_of}
use Rattle.segment_arrangement.specs.declared.graph.VisitState.TheVariants.{Skipped}
use Rattle.segment_arrangement.proofs.graph.OverlayGraph.filter_by_overlay_into.Given as goal

-- the states of the links so far, and the others skipped
abbrev pub invariant-loop-i : goal.invariant-loop-i
invariant-loop-i g l = l.states.items ≡ map (λ k. state_of (overlay_rule_of l.fn.rule) k.fill) (take l.i l.self.links.now) ++ replicate (length l.self.links.now - l.i) Skipped
