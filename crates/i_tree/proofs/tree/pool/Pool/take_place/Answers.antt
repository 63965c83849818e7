use Rattle.std.proofs.Common.{◌≢◌, ◌∙◌, ap, sym, arith, length, true}
use Rattle.i_tree.specs.declared.tree.pool.TheConstants.{NO_NODE}
use Rattle.i_tree.specs.Tree.Pool.{links_at}
use Rattle.i_tree.proofs.Trees.Pools.{wired-parent}
use Rattle.i_tree.proofs.Trees.Entries.{IsEntered-written, IsEntered-pushed}
use Rattle.i_tree.proofs.Trees.Leaves.{spare-within, TakesPlace-spare, TakesPlace-grown}
use Rattle.i_tree.proofs.tree.pool.Pool.take_place.Goals as goal

pub links-next-requires : goal.links-next-requires
links-next-requires g c =
    let (sp, (t, stands)) = c.requires.stands in
    let ne : c.args.self.now.pool.spare ≢ NO_NODE = λ e. c.if-first-ne-NO_NODE.true (c.spare-first.ensures ∙ e) in
    rw (c.spare-first.ensures) (spare-within c.args.self.now.pool sp t stands ne)

pub set_entry-requires : goal.set_entry-requires
set_entry-requires g c =
    let (sp, (t, stands)) = c.requires.stands in
    let ne : c.args.self.now.pool.spare ≢ NO_NODE = λ e. c.if-first-ne-NO_NODE.true (c.spare-first.ensures ∙ e) in
    let w = spare-within c.args.self.now.pool sp t stands ne in
    let each = c.requires.each_place in
    let same = ap length c.set_spare.ensures.entries in
    rw (c.spare-first.ensures) (omega arith)

pub returns-then-first-ne-NO_NODE-clause-ok : goal.returns-then-first-ne-NO_NODE-clause-ok
returns-then-first-ne-NO_NODE-clause-ok g c = λ sp t stands.
    let ne : c.args.self.now.pool.spare ≢ NO_NODE = λ e. c.if-first-ne-NO_NODE.true (c.spare-first.ensures ∙ e) in
    let next = c.set_spare.ensures.spare ∙ ap (λ l. l.left) c.links-next.ensures.links ∙ ap (λ x. (links_at c.args.self.now.pool x).left) c.spare-first.ensures in
    rw (c.spare-first.ensures, c.set_entry.ensures) (TakesPlace-spare c.args.self.now.pool c.set_spare.new.self.pool sp t stands ne c.set_spare.ensures.root next c.set_spare.ensures.only)

pub returns-then-first-ne-NO_NODE-clause-entered : goal.returns-then-first-ne-NO_NODE-clause-entered
returns-then-first-ne-NO_NODE-clause-entered g c =
    let (sp, (t, stands)) = c.requires.stands in
    let ne : c.args.self.now.pool.spare ≢ NO_NODE = λ e. c.if-first-ne-NO_NODE.true (c.spare-first.ensures ∙ e) in
    let w = spare-within c.args.self.now.pool sp t stands ne in
    rw (c.set_entry.ensures, c.spare-first.ensures)
    (IsEntered-written c.args.self.now c.set_spare.new.self c.args.self.now.pool.spare c.args.entry c.requires.each_place c.set_spare.ensures.only.places c.set_spare.ensures.entries w)

pub add_place-requires : goal.add_place-requires
add_place-requires g c = let p = ap (λ l. l.parent) c.wire.ensures ∙ wired-parent true NO_NODE true NO_NODE NO_NODE in omega arith

pub returns-clause-ok : goal.returns-clause-ok
returns-clause-ok g c = λ sp t stands.
    rw (c.places-i.ensures) (TakesPlace-grown c.args.self.now.pool c.add_place.new.self.pool sp t stands (sym c.spare-first.ensures ∙ c.if-first-ne-NO_NODE.false) c.requires.room c.in_ok-add_place.ensures.ok)

pub returns-clause-entered : goal.returns-clause-entered
returns-clause-entered g c =
    rw (c.places-i.ensures)
    (IsEntered-pushed c.args.self.now c.add_place.new.self c.args.entry c.requires.each_place c.in_ok-add_place.ensures.ok.one_more c.in_ok-add_place.ensures.entries)
