use Rattle.std.proofs.Common.{◌++◌, ◌∷◌}
use Rattle.i_tree.specs.Tree.Shape.{names_before, names_after}
use Rattle.i_tree.specs.Tree.Pool.{Vacant}
use Rattle.i_tree.specs.Tree.Insertion.{depth}
use Rattle.i_tree.proofs.Trees.Entries.{IsEntered-kept}
use Rattle.i_tree.proofs.Trees.Names.{IsRedAt-attached, IsRedAt-places}
use Rattle.i_tree.proofs.tree.pool.Pool.insert.Goals as goal

pub attach-requires : goal.attach-requires
attach-requires g c = let g = c.requires.gap in record { vacant = record { spare = g.spare; context = g.context; stands = g.filled.stands; parent_is = g.parent_is; side_is = g.side_is }; each_place = c.requires.each_place; room = c.requires.room }

pub mend_insertion-requires : goal.mend_insertion-requires
mend_insertion-requires g c =
    let g = c.requires.gap in
    let v : Vacant c.args.self.now.pool c.args.parent c.args.left = record { spare = g.spare; context = g.context; stands = g.filled.stands; parent_is = g.parent_is; side_is = g.side_is } in
    let a = c.in_ok-i.ensures.ok v in
    (a.spare, (names_before g.context ++ (c.in_ok-i.i ∷ names_after g.context), (depth g.context, IsRedAt-attached c.args.self.now.pool c.attach.new.self.pool g.spare a.spare g.context c.in_ok-i.i g.filled a.stands)))

pub returns-clause-ok : goal.returns-clause-ok
returns-clause-ok g c = λ g.
    let v : Vacant c.args.self.now.pool c.args.parent c.args.left = record { spare = g.spare; context = g.context; stands = g.filled.stands; parent_is = g.parent_is; side_is = g.side_is } in
    let a = c.in_ok-i.ensures.ok v in
    let ns = names_before g.context ++ (c.in_ok-i.i ∷ names_after g.context) in
    let red = IsRedAt-attached c.args.self.now.pool c.attach.new.self.pool g.spare a.spare g.context c.in_ok-i.i g.filled a.stands in
    let balanced = c.mend_insertion.ensures.tree a.spare ns (depth g.context) red in
    record {
      spare = a.spare;
      balanced = balanced;
      place = rw (IsRedAt-places c.attach.new.self.pool c.mend_insertion.new.self.pool a.spare ns (depth g.context) c.in_ok-i.i red balanced) (a.place);
    }

pub returns-clause-entered : goal.returns-clause-entered
returns-clause-entered g' c =
    let g = c.requires.gap in
    let v : Vacant c.args.self.now.pool c.args.parent c.args.left = record { spare = g.spare; context = g.context; stands = g.filled.stands; parent_is = g.parent_is; side_is = g.side_is } in
    let a = c.in_ok-i.ensures.ok v in
    let ns = names_before g.context ++ (c.in_ok-i.i ∷ names_after g.context) in
    let red = IsRedAt-attached c.args.self.now.pool c.attach.new.self.pool g.spare a.spare g.context c.in_ok-i.i g.filled a.stands in
    let balanced = c.mend_insertion.ensures.tree a.spare ns (depth g.context) red in
    IsEntered-kept c.args.self.now c.attach.new.self c.mend_insertion.new.self c.in_ok-i.i c.args.entry c.in_ok-i.ensures.entered
    (IsRedAt-places c.attach.new.self.pool c.mend_insertion.new.self.pool a.spare ns (depth g.context) c.in_ok-i.i red balanced) c.mend_insertion.ensures.entries
