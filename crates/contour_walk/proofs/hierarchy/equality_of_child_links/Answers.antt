use Rattle.std.proofs.Common.{refl}
use Rattle.std.proofs.lemmas.Cmp.{nat_cmp_total, on_total, then_total}
use Rattle.contour_walk.specs.declared.hierarchy.ChildLink.{ChildLink}
use Rattle.contour_walk.proofs.hierarchy.equality_of_child_links.Goals as goal

pub returns-clause-total : goal.returns-clause-total
returns-clause-total c =
    then_total (on_total (λ (l : ChildLink). l.parent_shape_index) nat_cmp_total)
    (then_total (on_total (λ (l : ChildLink). l.parent_contour_index) nat_cmp_total) (on_total (λ (l : ChildLink). l.child_shape_index) nat_cmp_total))

pub returns-clause-in_turn : goal.returns-clause-in_turn
returns-clause-in_turn c = λ a b. refl
