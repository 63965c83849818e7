use Rattle.std.proofs.Common.{inl}
use Rattle.polygon_c.specs.Flat.{lists_of}
use Rattle.polygon_c.proofs.edges.polygon_c_overlay_edges.Goals as goal

pub returns-in-Ok-clause-called : goal.returns-in-Ok-clause-called
returns-in-Ok-clause-called c =
    inl (lists_of c.in-Ok.found.laid, c.in-Ok.found.numbers.items, c.in-Ok.ensures.answered, c.hand_out.ensures.sizes, c.hand_out.ensures.handed)
