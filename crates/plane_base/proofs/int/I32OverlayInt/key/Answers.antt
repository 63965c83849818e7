use Rattle.std.proofs.Common.{◌∙◌, refl, w64}
use Rattle.std.proofs.lemmas.Int.{to_z-of_z}
use Rattle.plane_base.proofs.Facts.Numbers.Kernels64.{way_read}
use Rattle.plane_base.proofs.int.I32OverlayInt.key.Goals as goal

pub key-requires-clause-x_fits : goal.key-requires-clause-x_fits
key-requires-clause-x_fits c = way_read c.args.x c.requires.x_fits

pub key-requires-clause-y_fits : goal.key-requires-clause-y_fits
key-requires-clause-y_fits c = way_read c.args.y c.requires.y_fits

pub returns : goal.returns
returns c =
    to_z-of_z w64 c.key.result (record { sfits = c.key.type_inv })
    ∙ (c.key.ensures
    ∙ rw (to_z-of_z w64 c.args.x c.ranges.x, to_z-of_z w64 c.args.y c.ranges.y) refl)
