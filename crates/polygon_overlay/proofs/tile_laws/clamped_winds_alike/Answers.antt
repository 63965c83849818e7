use Rattle.polygon_overlay.proofs.Tiles.Contours.{clamped_winds_alike}
use Rattle.polygon_overlay.proofs.tile_laws.clamped_winds_alike.Goals as goal

pub returns : goal.returns
returns c = clamped_winds_alike
