use Rattle.std.proofs.Common.{refl}
use Rattle.contour_walk.proofs.options.IntOverlayOptionsDefault.default.Goals as goal

pub returns : goal.returns
returns c = refl
