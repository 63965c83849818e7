use Rattle.polygon_overlay.proofs.Tiles.Grids.{grids_are_tiles}
use Rattle.polygon_overlay.proofs.tile_laws.grids_are_tiles.Goals as goal

pub returns : goal.returns
returns c = grids_are_tiles
