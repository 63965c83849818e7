use Rattle.std.proofs.Common.{true, false, sym, ◌∙◌}
use Rattle.plane_base.specs.SegmentViews.{edge_of}
use Rattle.plane_base.proofs.Facts.Crossings.Steps.{on_line, touching_overlaid, touching_first, touching_second, touching_third, touching_fourth, touching_none}
use Rattle.plane_base.proofs.meet.touching.touched.Goals as goal

pub overlaid-requires-clause-target_in_range : goal.overlaid-requires-clause-target_in_range
overlaid-requires-clause-target_in_range g c = c.requires.target_in_range

pub overlaid-requires-clause-other_in_range : goal.overlaid-requires-clause-other_in_range
overlaid-requires-clause-other_in_range g c = c.requires.other_in_range

pub overlaid-requires-clause-sides : goal.overlaid-requires-clause-sides
overlaid-requires-clause-sides g c = c.requires.sides

pub overlaid-requires-clause-own : goal.overlaid-requires-clause-own
overlaid-requires-clause-own g c = c.requires.own

pub returns-then-are_none-clause-is : goal.returns-then-are_none-clause-is
returns-then-are_none-clause-is g c =
    let value = g.I.OverlayInt.value in
    c.overlaid.ensures.is ∙ touching_overlaid (edge_of value c.args.target) (edge_of value c.args.other) (on_line g.I.Wide.WideIntNumber.number g.I.OverlayInt.most (edge_of value c.args.target) (edge_of value c.args.other) c.args.sides c.args.own c.are_none.result true c.requires.sides c.requires.own c.are_none.ensures c.if-are_none.true)

pub returns-then-are_none-clause-within : goal.returns-then-are_none-clause-within
returns-then-are_none-clause-within g c = c.overlaid.ensures.within

pub is_inside-requires : goal.is_inside-requires
is_inside-requires g c = c.requires.sides.a.0

pub returns-then-is_inside-clause-is : goal.returns-then-is_inside-clause-is
returns-then-is_inside-clause-is g c =
    let value = g.I.OverlayInt.value in
    touching_first (edge_of value c.args.target) (edge_of value c.args.other) (on_line g.I.Wide.WideIntNumber.number g.I.OverlayInt.most (edge_of value c.args.target) (edge_of value c.args.other) c.args.sides c.args.own c.are_none.result false c.requires.sides c.requires.own c.are_none.ensures c.if-are_none.false) (sym c.is_inside.ensures ∙ c.if-is_inside.true)

pub returns-then-is_inside-clause-within : goal.returns-then-is_inside-clause-within
returns-then-is_inside-clause-within g c = c.requires.other_in_range.0

pub is_inside-requires-2 : goal.is_inside-requires-2
is_inside-requires-2 g c = c.requires.sides.b.0

pub returns-then-is_inside-2-clause-is : goal.returns-then-is_inside-2-clause-is
returns-then-is_inside-2-clause-is g c =
    let value = g.I.OverlayInt.value in
    touching_second (edge_of value c.args.target) (edge_of value c.args.other) (on_line g.I.Wide.WideIntNumber.number g.I.OverlayInt.most (edge_of value c.args.target) (edge_of value c.args.other) c.args.sides c.args.own c.are_none.result false c.requires.sides c.requires.own c.are_none.ensures c.if-are_none.false) (sym c.is_inside.ensures ∙ c.if-is_inside.false) (sym c.is_inside-2.ensures ∙ c.if-is_inside-2.true)

pub returns-then-is_inside-2-clause-within : goal.returns-then-is_inside-2-clause-within
returns-then-is_inside-2-clause-within g c = c.requires.other_in_range.1

pub is_inside-requires-3 : goal.is_inside-requires-3
is_inside-requires-3 g c = c.requires.own.a.0

pub returns-then-is_inside-3-clause-is : goal.returns-then-is_inside-3-clause-is
returns-then-is_inside-3-clause-is g c =
    let value = g.I.OverlayInt.value in
    touching_third (edge_of value c.args.target) (edge_of value c.args.other) (on_line g.I.Wide.WideIntNumber.number g.I.OverlayInt.most (edge_of value c.args.target) (edge_of value c.args.other) c.args.sides c.args.own c.are_none.result false c.requires.sides c.requires.own c.are_none.ensures c.if-are_none.false) (sym c.is_inside.ensures ∙ c.if-is_inside.false) (sym c.is_inside-2.ensures ∙ c.if-is_inside-2.false) (sym c.is_inside-3.ensures ∙ c.if-is_inside-3.true)

pub returns-then-is_inside-3-clause-within : goal.returns-then-is_inside-3-clause-within
returns-then-is_inside-3-clause-within g c = c.requires.target_in_range.0

pub is_inside-requires-4 : goal.is_inside-requires-4
is_inside-requires-4 g c = c.requires.own.b.0

pub returns-then-is_inside-4-clause-is : goal.returns-then-is_inside-4-clause-is
returns-then-is_inside-4-clause-is g c =
    let value = g.I.OverlayInt.value in
    touching_fourth (edge_of value c.args.target) (edge_of value c.args.other) (on_line g.I.Wide.WideIntNumber.number g.I.OverlayInt.most (edge_of value c.args.target) (edge_of value c.args.other) c.args.sides c.args.own c.are_none.result false c.requires.sides c.requires.own c.are_none.ensures c.if-are_none.false) (sym c.is_inside.ensures ∙ c.if-is_inside.false) (sym c.is_inside-2.ensures ∙ c.if-is_inside-2.false) (sym c.is_inside-3.ensures ∙ c.if-is_inside-3.false) (sym c.is_inside-4.ensures ∙ c.if-is_inside-4.true)

pub returns-then-is_inside-4-clause-within : goal.returns-then-is_inside-4-clause-within
returns-then-is_inside-4-clause-within g c = c.requires.target_in_range.1

pub returns-clause-is : goal.returns-clause-is
returns-clause-is g c =
    let value = g.I.OverlayInt.value in
    touching_none (edge_of value c.args.target) (edge_of value c.args.other) (on_line g.I.Wide.WideIntNumber.number g.I.OverlayInt.most (edge_of value c.args.target) (edge_of value c.args.other) c.args.sides c.args.own c.are_none.result false c.requires.sides c.requires.own c.are_none.ensures c.if-are_none.false) (sym c.is_inside.ensures ∙ c.if-is_inside.false) (sym c.is_inside-2.ensures ∙ c.if-is_inside-2.false) (sym c.is_inside-3.ensures ∙ c.if-is_inside-3.false) (sym c.is_inside-4.ensures ∙ c.if-is_inside-4.false)

pub returns-clause-within : goal.returns-clause-within
returns-clause-within g c = tt
