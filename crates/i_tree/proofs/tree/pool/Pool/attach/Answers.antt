use Rattle.std.proofs.Common.{true, ap, ◌∙◌, arith}
use Rattle.i_tree.specs.declared.tree.pool.TheConstants.{NO_NODE}
use Rattle.i_tree.specs.Tree.Shape.{plug, leaf}
use Rattle.i_tree.specs.Tree.Pool.{wired, parent_of, IsPut}
use Rattle.i_tree.proofs.Trees.Pools.{wired-parent}
use Rattle.i_tree.proofs.Trees.Places.{parent-fits}
use Rattle.i_tree.proofs.Trees.Entries.{IsEntered-kept}
use Rattle.i_tree.proofs.Trees.Leaves.{place, attached}
use Rattle.i_tree.proofs.tree.pool.Pool.attach.Goals as goal

pub put-requires-clause-within : goal.put-requires-clause-within
put-requires-clause-within g c =
    let v = c.requires.vacant in
    let taken = c.in_ok-i.ensures.ok v.spare (plug v.context leaf) v.stands in
    taken.stands.within

pub put-requires-clause-fits : goal.put-requires-clause-fits
put-requires-clause-fits g c =
    let v = c.requires.vacant in
    let f = parent-fits c.args.self.now.pool v.spare v.context leaf v.stands in
    let p = ap (λ l. l.parent) c.wire.ensures ∙ wired-parent true c.args.parent true NO_NODE NO_NODE in
    let e = v.parent_is in
    omega arith

pub hang-requires : goal.hang-requires
hang-requires g c =
    let v = c.requires.vacant in
    let taken = c.in_ok-i.ensures.ok v.spare (plug v.context leaf) v.stands in
    let put : IsPut c.take_place.new.self.pool c.put.new.self.pool c.in_ok-i.i (wired true (parent_of v.context) true NO_NODE NO_NODE) =
    rw (v.parent_is, ← c.wire.ensures) c.put.ensures.tree in
    place c.take_place.new.self.pool taken.spare v.context c.in_ok-i.i taken.stands c.put.new.self.pool put c.args.parent c.args.left v.parent_is v.side_is

pub returns-clause-ok : goal.returns-clause-ok
returns-clause-ok g c = λ v.
    let taken = c.in_ok-i.ensures.ok v.spare (plug v.context leaf) v.stands in
    let put : IsPut c.take_place.new.self.pool c.put.new.self.pool c.in_ok-i.i (wired true (parent_of v.context) true NO_NODE NO_NODE) =
    rw (v.parent_is, ← c.wire.ensures) c.put.ensures.tree in
    attached c.take_place.new.self.pool taken.spare v.context c.in_ok-i.i taken.stands c.put.new.self.pool put c.args.self.now.pool taken.place c.hang.new.self.pool
    (c.hang.ensures.tree (place c.take_place.new.self.pool taken.spare v.context c.in_ok-i.i taken.stands c.put.new.self.pool put c.args.parent c.args.left v.parent_is v.side_is))

pub returns-clause-entered : goal.returns-clause-entered
returns-clause-entered g c =
    let v = c.requires.vacant in
    let taken = c.in_ok-i.ensures.ok v.spare (plug v.context leaf) v.stands in
    let put : IsPut c.take_place.new.self.pool c.put.new.self.pool c.in_ok-i.i (wired true (parent_of v.context) true NO_NODE NO_NODE) =
    rw (v.parent_is, ← c.wire.ensures) c.put.ensures.tree in
    let hung = c.hang.ensures.tree (place c.take_place.new.self.pool taken.spare v.context c.in_ok-i.i taken.stands c.put.new.self.pool put c.args.parent c.args.left v.parent_is v.side_is) in
    IsEntered-kept c.args.self.now c.take_place.new.self c.hang.new.self c.in_ok-i.i c.args.entry c.in_ok-i.ensures.entered (hung.only.places ∙ put.only.places) (c.hang.ensures.entries ∙ c.put.ensures.entries)
