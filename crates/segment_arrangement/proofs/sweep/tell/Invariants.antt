use Rattle.std.proofs.Common.{◌≡◌, ℕ, map}
use Rattle.segment_arrangement.specs.Sweeps.{refusing, never}
use Rattle.segment_arrangement.proofs.Fans.Handlers.{IsLed}
use Rattle.segment_arrangement.proofs.sweep.tell.Given as goal

abbrev pub invariant-loop-i : goal.invariant-loop-i
invariant-loop-i g l = record {
  led : (fill : _ → ℕ) → map fill l.segments ≡ map (λ s. s.fill) l.sides
      → IsLed (λ h n s. g.H.FillHandler.handles h n s.x_segment s.count s.datum) g.H.FillHandler.finishes fill l.from l.i l.segments l.fn.handler l.handler;
  so_far : (fill : _ → ℕ) → map fill l.segments ≡ map (λ s. s.fill) l.sides
      → IsLed (refusing (λ h n s. g.H.FillHandler.handles h n s.x_segment s.count s.datum) (λ h n s. g.H.FillHandler.refuses h n s.x_segment s.count s.datum)) never fill l.from l.i l.segments l.fn.handler l.handler;
}
