-- What a pair marks, from both sides.
use Rattle.std.proofs.Common.{◌≡◌, ◌≢◌, ℕ, Bool, true, false, cond, nat_lt}
use Rattle.plane_base.specs.Plane.{Edge}
use Rattle.plane_base.specs.Crossing.{exchanged, cross_marks, late_marks}
use Rattle.plane_base.proofs.Facts.Crossings.MarkLaws.{marks_agree}
use Rattle.segment_split.specs.Passes.{early_passes, radius, marks_in}
use Rattle.segment_split.specs.declared.solver.Precision.{Precision}

-- who finds a pair doesn't matter
pub marks_exchanged : (precision : Precision) (k : ℕ) (s t : Edge) → s ≢ t → marks_in precision k t s ≡ exchanged (marks_in precision k s t)
marks_exchanged precision k s t differ = by (nat_lt k early_passes)
  where
    by : (early : Bool) → cond early (cross_marks t s (radius precision k)) (late_marks t s) ≡ exchanged (cond early (cross_marks s t (radius precision k)) (late_marks s t))
    by true = marks_agree.early s t (radius precision k) differ
    by false = marks_agree.late s t differ
