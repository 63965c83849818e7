use Rattle.std.proofs.Common.{sym, ◌∙◌, arith}
use Rattle.i_tree.specs.SetListView.{set_of}
use Rattle.i_tree.proofs.Sets.Laws.{position_of, without_position, values-enumerate, AreRising-values_without}
use Rattle.i_tree.proofs.set.list.SetListSetCollection.delete_by_index.Goals as goal

pub remove-value-requires : goal.remove-value-requires
remove-value-requires g c = omega (arith, position_of c.args.self.now.values.items c.args.index c.requires.live, c.args.self.now.values.ok.0)

pub returns-clause-values : goal.returns-clause-values
returns-clause-values g c =
    values-enumerate 0 c.remove-value.new.self.items ∙ c.remove-value.ensures.items
    ∙ sym (without_position 0 c.args.index c.args.self.now.values.items c.args.index (omega arith) (position_of c.args.self.now.values.items c.args.index c.requires.live))

pub returns-clause-sorted : goal.returns-clause-sorted
returns-clause-sorted g c = λ rising. rw (returns-clause-values g c) (AreRising-values_without g.K.Ord.cmp g.V.KeyValue.key_of c.args.index (set_of c.args.self.now) rising)
