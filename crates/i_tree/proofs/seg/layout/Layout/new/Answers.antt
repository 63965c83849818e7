use contract.BorrowLft.{⊑_static}
use Rattle.i_tree.proofs.Lives.{within_layout}
use Rattle.i_tree.proofs.seg.layout.Layout.new.Goals as goal

pub returns-in_err-span-clause-some : goal.returns-in_err-span-clause-some
returns-in_err-span-clause-some g c = rw c.from_residual.ensures tt

pub returns-in_err-span-clause-buckets : goal.returns-in_err-span-clause-buckets
returns-in_err-span-clause-buckets g c = rw c.from_residual.ensures tt

pub returns-in_err-power-clause-some : goal.returns-in_err-power-clause-some
returns-in_err-power-clause-some g c = rw c.from_residual-in_err-power.ensures tt

pub returns-in_err-power-clause-buckets : goal.returns-in_err-power-clause-buckets
returns-in_err-power-clause-buckets g c = rw c.from_residual-in_err-power.ensures tt

pub branch-span-requires : goal.branch-span-requires
branch-span-requires g c κs = λ h. h

pub branch-power-requires : goal.branch-power-requires
branch-power-requires g c κs = ⊑_static κs.0

pub is_some-requires : goal.is_some-requires
is_some-requires g c κs = λ h. h

pub range_span-requires : goal.range_span-requires
range_span-requires g c κs = λ h. h

pub range_span-requires-2 : goal.range_span-requires-2
range_span-requires-2 g c κs = λ h. h

pub from_residual-requires : goal.from_residual-requires
from_residual-requires g c κs = λ h. within_layout κs.0 g.row.R.lives g.row.R-UInt.lives h.0 h.1

pub from_residual-requires-in_err-power : goal.from_residual-requires-in_err-power
from_residual-requires-in_err-power g c κs = λ h. within_layout κs.0 g.row.R.lives g.row.R-UInt.lives h.0 h.1

pub returns-then-is_some-clause-buckets : goal.returns-then-is_some-clause-buckets
returns-then-is_some-clause-buckets g c = tt

pub returns-then-is_some-clause-some : goal.returns-then-is_some-clause-some
returns-then-is_some-clause-some g c = tt

pub returns-clause-none : goal.returns-clause-none
returns-clause-none g c = tt
