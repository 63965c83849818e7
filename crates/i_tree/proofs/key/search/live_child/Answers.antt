use Rattle.std.proofs.Common.{not, ap, ◌∙◌}
use Rattle.i_tree.proofs.Trees.Clears.{nothing-at_empty, found-within, Clears-none, Clears-all}
use Rattle.i_tree.proofs.key.search.live_child.Goals as goal
use Rattle.i_tree.proofs.key.search.live_child.Goals.{then-found-eq-NO_NODE-via-then-found-eq-NO_NODE, then-found-eq-NO_NODE-via-else-found-eq-NO_NODE+then-not-is_expired}

pub is_expired-requires : goal.is_expired-requires
is_expired-requires g c =
    let (deep, (before, (here, (after, (place, found))))) = c.requires in
    found-within c.args.tree.now c.args.parent c.args.left deep before here after c.args.found found c.if-found-eq-NO_NODE.false

pub returns-then-found-eq-NO_NODE : goal.returns-then-found-eq-NO_NODE
returns-then-found-eq-NO_NODE g c = λ deep before here after place found.
    Clears-all g.E.Ord.cmp g.K.ExpiredKey.expires c.args.time c.args.tree.now c.args.parent c.args.left deep before here after c.args.tree.now (Clears-none g.E.Ord.cmp g.K.ExpiredKey.expires c.args.time c.args.tree.now c.args.parent c.args.left deep before here after place) c.args.found found
    (λ entry e.
    elim c.then-found-eq-NO_NODE.branch [
      | then-found-eq-NO_NODE-via-then-found-eq-NO_NODE w ↦
          absurd (nothing-at_empty c.args.tree.now c.args.parent c.args.left deep before here after place entry (rw w.if-found-eq-NO_NODE.true at e))
      | then-found-eq-NO_NODE-via-else-found-eq-NO_NODE+then-not-is_expired w ↦ w.is_expired.ensures entry e ∙ ap not w.if-not-is_expired.true
    ])
