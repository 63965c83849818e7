use Rattle.std.proofs.Common.{ap₂}
use Rattle.plane_base.specs.SegmentViews.{edge_of}
use Rattle.segment_split.proofs.Seen.{seen_both}
use Rattle.segment_split.proofs.maps.normal.both.Goals as goal

pub returns-clause-data : goal.returns-clause-data
returns-clause-data g c =
    ap₂ (λ n d. record { edge = edge_of g.I.OverlayInt.value c.args.one.x_segment; count = (n, d) }) c.in_ok-count.ensures.is
    (seen_both g.D.OverlayEdgeData.join g.D.OverlayEdgeData.JOINS c.args.one.datum c.args.other.datum c.merge.result c.merge.ensures)
