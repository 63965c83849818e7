use Rattle.plane_base.specs.SegmentViews.{edge_of}
use Rattle.plane_base.proofs.Facts.Crossings.Roundings.{line_flat}
use Rattle.plane_base.proofs.meet.marks.ends_inside.Goals as goal

pub is_between-has_a-requires : goal.is_between-has_a-requires
is_between-has_a-requires g c =
    let value = g.I.OverlayInt.value in
    (line_flat (edge_of value c.args.s) (edge_of value c.args.other) c.requires.on_line).first

pub is_between-has_b-requires : goal.is_between-has_b-requires
is_between-has_b-requires g c =
    let value = g.I.OverlayInt.value in
    (line_flat (edge_of value c.args.s) (edge_of value c.args.other) c.requires.on_line).second
