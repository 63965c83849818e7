use Rattle.std.proofs.Common.{refl, ap, ◌∙◌}
use Rattle.i_tree.specs.IndexedSet.{with_value_at}
use Rattle.i_tree.proofs.Sets.Trees.{index-among, live-within, live-some, live-contains, IsSetTree-written, set_of-written}
use Rattle.i_tree.proofs.set.tree.SetTreeSetCollection.value_by_index_mut.Goals as goal

pub entry_mut-requires : goal.entry_mut-requires
entry_mut-requires g c = live-within c.self.inside.tree c.self.inside.insertions c.self.invariant c.args.index (rw (← c.self.view_is) at c.requires.live)

pub held_mut-requires : goal.held_mut-requires
held_mut-requires g c = live-some c.self.inside.tree c.self.inside.insertions c.self.invariant c.args.index (rw (← c.self.view_is) at c.requires.live) c.entry_mut.result.now c.entry_mut.ensures.value

pub invariant_of-self-lent : goal.invariant_of-self-lent
invariant_of-self-lent g c = λ w.
    IsSetTree-written c.self.inside.tree c.self.inside.insertions c.self.invariant c.args.index
    (index-among c.self.inside.tree c.self.inside.insertions c.self.invariant c.args.index (rw (← c.self.view_is) at c.requires.live)) w

pub returns : goal.returns
returns g c = (
  (refl, λ w. set_of-written c.self.inside.tree c.self.inside.insertions c.self.invariant c.args.index w ∙ ap (with_value_at c.args.index w) c.self.view_is),
  record {
    writes_back = tt;
    value = rw (← c.self.view_is) (live-contains c.self.inside.tree c.self.inside.insertions c.self.invariant c.args.index (rw (← c.self.view_is) at c.requires.live) c.entry_mut.result.now c.entry_mut.ensures.value c.held_mut.result.now c.held_mut.ensures.value);
  },
)
