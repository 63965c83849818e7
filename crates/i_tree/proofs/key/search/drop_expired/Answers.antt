use Rattle.std.proofs.Common.{◌≡◌, false, not, ap, ◌∙◌}
use Rattle.i_tree.specs.LiveList.{is_live}
use Rattle.i_tree.proofs.Trees.Nodes.{site}
use Rattle.i_tree.proofs.Trees.Clears.{nothing-at_empty, finds, found-within, Clears-none, Clears-more, Clears-smaller, Clears-all}
use Rattle.i_tree.proofs.key.search.drop_expired.Goals as goal
use Rattle.i_tree.proofs.key.search.drop_expired.Goals.{then-at-eq-NO_NODE-via-then-at-eq-NO_NODE, then-at-eq-NO_NODE-via-else-at-eq-NO_NODE+then-not-is_expired}

pub loop-at-init : goal.loop-at-init
loop-at-init g c = λ deep before here after place at_place.
    record { clears = Clears-none g.E.Ord.cmp g.K.ExpiredKey.expires c.args.time c.args.tree.now c.args.parent c.args.left deep before here after place; at_place = at_place }

pub is_expired-requires : goal.is_expired-requires
is_expired-requires g c =
    let (deep, (before, (here, (after, (place, found))))) = c.requires in
    let k = c.loop-at.invariant deep before here after place found in
    let l = k.clears in
    found-within c.loop-at.tree c.args.parent c.args.left l.deeper before l.left_here after c.loop-at.at k.at_place c.if-at-eq-NO_NODE.false

pub returns-then-at-eq-NO_NODE : goal.returns-then-at-eq-NO_NODE
returns-then-at-eq-NO_NODE g c = λ deep before here after place found.
    let k = c.loop-at.invariant deep before here after place found in
    let l = k.clears in
    Clears-all g.E.Ord.cmp g.K.ExpiredKey.expires c.args.time c.args.tree.now c.args.parent c.args.left deep before here after c.loop-at.tree l c.loop-at.at k.at_place
    (λ entry e.
    elim c.then-at-eq-NO_NODE.branch [
      | then-at-eq-NO_NODE-via-then-at-eq-NO_NODE w ↦
          absurd (nothing-at_empty c.loop-at.tree c.args.parent c.args.left l.deeper before l.left_here after l.place entry (rw w.if-at-eq-NO_NODE.true at e))
      | then-at-eq-NO_NODE-via-else-at-eq-NO_NODE+then-not-is_expired w ↦ w.is_expired.ensures entry e ∙ ap not w.if-not-is_expired.true
    ])

pub remove-requires : goal.remove-requires
remove-requires g c =
    let (deep, (before, (here, (after, (place, found))))) = c.requires in
    let k = c.loop-at.invariant deep before here after place found in
    let l = k.clears in
    let (entry, f) = finds c.loop-at.tree c.args.parent c.args.left l.deeper before l.left_here after c.loop-at.at k.at_place c.if-at-eq-NO_NODE.false in
    (site c.args.parent c.args.left l.deeper before f.near entry f.far after, f.is_node)

pub loop-at-smaller : goal.loop-at-smaller
loop-at-smaller g c =
    let (deep, (before, (here, (after, (place, found))))) = c.requires in
    let k = c.loop-at.invariant deep before here after place found in
    let l = k.clears in
    let (entry, f) = finds c.loop-at.tree c.args.parent c.args.left l.deeper before l.left_here after c.loop-at.at k.at_place c.if-at-eq-NO_NODE.false in
    let expired : is_live g.E.Ord.cmp g.K.ExpiredKey.expires c.args.time entry.0 ≡ false = c.is_expired.ensures entry f.is_node.entry_is ∙ ap not c.if-not-is_expired.false in
    Clears-smaller g.E.Ord.cmp g.K.ExpiredKey.expires c.args.time c.args.tree.now c.args.parent c.args.left deep before here after c.loop-at.tree l c.loop-at.at k.at_place entry f expired c.remove.new.self c.remove.result
    (c.remove.ensures (site c.args.parent c.args.left l.deeper before f.near entry f.far after) f.is_node)

pub down-at-requires : goal.down-at-requires
down-at-requires g c =
    let (deep, (before, (here, (after, (place, found))))) = c.requires in
    let k = c.loop-at.invariant deep before here after place found in
    let l = k.clears in
    let (entry, f) = finds c.loop-at.tree c.args.parent c.args.left l.deeper before l.left_here after c.loop-at.at k.at_place c.if-at-eq-NO_NODE.false in
    let t = c.remove.ensures (site c.args.parent c.args.left l.deeper before f.near entry f.far after) f.is_node in
    (t.deeper, (before, (t.here, (after, t.place))))

pub loop-at-preserved : goal.loop-at-preserved
loop-at-preserved g c = λ deep before here after place found.
    let k = c.loop-at.invariant deep before here after place found in
    let l = k.clears in
    let (entry, f) = finds c.loop-at.tree c.args.parent c.args.left l.deeper before l.left_here after c.loop-at.at k.at_place c.if-at-eq-NO_NODE.false in
    let expired : is_live g.E.Ord.cmp g.K.ExpiredKey.expires c.args.time entry.0 ≡ false = c.is_expired.ensures entry f.is_node.entry_is ∙ ap not c.if-not-is_expired.false in
    let t = c.remove.ensures (site c.args.parent c.args.left l.deeper before f.near entry f.far after) f.is_node in
    let more = Clears-more g.E.Ord.cmp g.K.ExpiredKey.expires c.args.time c.args.tree.now c.args.parent c.args.left deep before here after c.loop-at.tree l c.loop-at.at k.at_place entry f expired c.remove.new.self c.remove.result t in
    record { clears = more; at_place = c.down-at.ensures more.deeper before more.left_here after more.place }
