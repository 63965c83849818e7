use Rattle.std.proofs.Common.{◌∙◌}
use contract.BorrowLft.{⊑_static}
use Rattle.reference.proofs.Lives.{contour_lives, within_option, within_contour}
use Rattle.std.proofs.lemmas.Result.{err_from_is_err_and}
use Rattle.reference.proofs.contours.first_walk.Goals as goal

pub returns-in_err-contour_from-clause-is : goal.returns-in_err-contour_from-clause-is
returns-in_err-contour_from-clause-is g c = rw ((err_from_is_err_and c.from_residual.result c.from_residual.ensures.1).1) tt

pub returns-in_err-contour_from-clause-in_range : goal.returns-in_err-contour_from-clause-in_range
returns-in_err-contour_from-clause-in_range g c = rw ((err_from_is_err_and c.from_residual.result c.from_residual.ensures.1).1) tt

pub from_residual-requires : goal.from_residual-requires
from_residual-requires g c κs = λ h. (within_option κs.0 (contour_lives g.row.I.lives) (within_contour κs.0 g.row.I.lives h), (⊑_static κs.1.0, ⊑_static κs.1.1.0))

pub branch-contour_from-requires : goal.branch-contour_from-requires
branch-contour_from-requires g c κs = λ h. (within_contour κs.0 g.row.I.lives h, ⊑_static κs.1.0)

pub top_link-requires : goal.top_link-requires
top_link-requires g c = c.requires

pub returns-in_err-contour_from-clause-memory : goal.returns-in_err-contour_from-clause-memory
returns-in_err-contour_from-clause-memory g c = let p = err_from_is_err_and c.from_residual.result c.from_residual.ensures.1 in rw p.1 (p.2 ∙ c.in_err-contour_from.ensures.memory)

pub returns-clause-memory : goal.returns-clause-memory
returns-clause-memory g c = tt

pub returns-in_default-clause-memory : goal.returns-in_default-clause-memory
returns-in_default-clause-memory g c = tt

pub returns-then-is_empty-clause-memory : goal.returns-then-is_empty-clause-memory
returns-then-is_empty-clause-memory g c = tt

pub returns-then-is_empty-clause-in_range : goal.returns-then-is_empty-clause-in_range
returns-then-is_empty-clause-in_range g c = tt

pub returns-in_default-clause-in_range : goal.returns-in_default-clause-in_range
returns-in_default-clause-in_range g c = tt

pub contour_from-requires-clause-links_in_range : goal.contour_from-requires-clause-links_in_range
contour_from-requires-clause-links_in_range g c = c.requires
