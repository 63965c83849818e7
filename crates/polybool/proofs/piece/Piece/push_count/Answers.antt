use Rattle.std.proofs.Common.{◌≤◌, length, arith}
use Rattle.std.specs.Prelude.{decimal}
use Rattle.polybool.proofs.DecimalLaws.{length_number}
use Rattle.polybool.proofs.piece.Piece.push_count.Goals as goal

pub push_decimal-requires : goal.push_decimal-requires
push_decimal-requires c = let few : length (decimal c.args.n) ≤ 20 = length_number c.args.n c.ranges.n.fits in omega arith

pub returns-clause-length : goal.returns-clause-length
returns-clause-length c = let few : length (decimal c.args.n) ≤ 20 = length_number c.args.n c.ranges.n.fits in omega arith
