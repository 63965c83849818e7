use Rattle.std.proofs.Common.{length, refl, ap, ◌∙◌, arith}
use Rattle.i_tree.proofs.Trees.Lists.{items_back}
use Rattle.i_tree.proofs.Ranges.Bags.{IsOnePool-none}
use Rattle.i_tree.proofs.seg.tree.SegExpTreeSegExpCollection.clear.Goals as goal

pub invariant_of-self : goal.invariant_of-self
invariant_of-self g c =
    let old = c.self.inside.ranges in
    let nodes = items_back old.nodes.len c.empty.new.nodes old.nodes.items (c.empty.auto.nodes ∙ c.deref_mut.ensures.len) in
    rw (nodes, c.clear.ensures.items, c.clear-2.ensures.items) (
      c.empty.auto.nodes ∙ ap length c.deref_mut.ensures.value ∙ c.self.invariant.0,
      (omega arith, IsOnePool-none (λ e. e.first) (λ e. e.last) (λ e. e.named) _ _ _ c.empty.ensures),
    )

pub returns : goal.returns
returns g c = rw (← c.self.view_is, c.clear.ensures.items) refl
