use Rattle.std.proofs.Common.{◌∙◌, refl}
use Rattle.std.specs.Int.{w128}
use Rattle.std.proofs.lemmas.Int.{to_z-of_z}
use Rattle.plane_base.proofs.Facts.Numbers.Kernels128.{widened, way_widened}
use Rattle.plane_base.proofs.int.I64OverlayInt.key.Goals as goal

pub key-requires-clause-x_fits : goal.key-requires-clause-x_fits
key-requires-clause-x_fits c = way_widened c.from.result c.args.x c.ranges.x c.from.ensures c.requires.x_fits

pub key-requires-clause-y_fits : goal.key-requires-clause-y_fits
key-requires-clause-y_fits c = way_widened c.from-2.result c.args.y c.ranges.y c.from-2.ensures c.requires.y_fits

pub returns : goal.returns
returns c =
    to_z-of_z w128 c.key.result (record { sfits = c.key.type_inv })
    ∙ (c.key.ensures
    ∙ rw (widened c.from.result c.args.x c.ranges.x c.from.ensures, widened c.from-2.result c.args.y c.ranges.y c.from-2.ensures) refl)
