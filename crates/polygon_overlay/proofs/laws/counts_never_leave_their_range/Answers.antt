use Rattle.plane_base.specs.Counts.{boolean}
use Rattle.polygon_overlay.proofs.Holding.LoadLaws.{counts_never_leave_their_range}
use Rattle.polygon_overlay.proofs.laws.counts_never_leave_their_range.Goals as goal

pub returns : goal.returns
returns c =
    counts_never_leave_their_range c.whole_marks_stay.ensures c.marks_stand_along_their_edge.ensures (c.one_pass_is_enough.ensures boolean)
    (c.redrawing_comes_to_rest.ensures.rests boolean) (c.passes_rearrange.ensures.pass boolean) c.whole_meetings_keep_windings.ensures
