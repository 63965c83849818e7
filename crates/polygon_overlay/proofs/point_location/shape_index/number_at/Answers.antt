use Rattle.std.proofs.Common.{sym}
use Rattle.std.proofs.lemmas.List.{get_or-map}
use Rattle.polygon_overlay.specs.Stretches.{number_of}
use Rattle.polygon_overlay.proofs.point_location.shape_index.number_at.Goals as goal

pub returns : goal.returns
returns c = sym (get_or-map number_of c.args.order.now c.args.place _ 0 c.requires)
