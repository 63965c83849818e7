use Rattle.i_tree.proofs.Trees.Gains.{place-gap, added-entries}
use Rattle.i_tree.proofs.tree.entries.Entries.insert.Goals as goal

pub insert-requires : goal.insert-requires
insert-requires g c =
    let (deep, (before, (after, place))) = rw (← c.self.view_is) at c.requires.vacant in
    record { gap = place-gap _ c.args.parent c.args.left deep before after place; each_place = place.each_place; room = rw (← c.self.view_is) at c.requires.room }

pub returns-clause-ok : goal.returns-clause-ok
returns-clause-ok g c =
    rw (← c.self.view_is)
    (λ deep before after place.
    let e = c.in_ok-i.ensures.entered in
    added-entries _ c.args.parent c.args.left deep before after place c.insert.new.self.pool c.in_ok-i.i (c.in_ok-i.ensures.ok (place-gap _ c.args.parent c.args.left deep before after place)) c.insert.new.self.entries c.args.entry
    e.each_place e.there e.elsewhere)
