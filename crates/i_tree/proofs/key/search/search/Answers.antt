use Rattle.std.proofs.Common.{ℕ, ◌<◌, ◌≤◌, arith, [], true}
use Rattle.i_tree.specs.Tree.Entries.{tree_entries_of}
use Rattle.i_tree.proofs.Trees.Clears.{finds}
use Rattle.i_tree.proofs.Trees.Cursors.{whole-place}
use Rattle.i_tree.proofs.Trees.Searches.{Descends-start, Stops-cleared, cleared-held, within-entries, IsWay-vacant, CountsAtMost-vacant, Narrows-vacant, live-asked, right-smaller, left-smaller, IsWay-equal, CountsAtMost-equal, Narrows-equal, Descends-right, Descends-left}
use Rattle.i_tree.proofs.key.search.search.Goals as goal

under : {x y z : ℕ} → x < y → y ≤ z → x < z
under less most = omega (arith, less, most)

pub loop-time-init : goal.loop-time-init
loop-time-init g c = record {
  way = Descends-start c.args.tree.now c.args.steps.now c.requires.tree;
  at_place = c.down-found.ensures 0 [] (tree_entries_of c.args.tree.now) [] (whole-place c.args.tree.now true c.requires.tree);
}

pub down-found-requires : goal.down-found-requires
down-found-requires g c = (0, ([], (tree_entries_of c.args.tree.now, ([], whole-place c.args.tree.now true c.requires.tree))))

pub returns-then-at-eq-NO_NODE-clause-tree : goal.returns-then-at-eq-NO_NODE-clause-tree
returns-then-at-eq-NO_NODE-clause-tree g c =
    let a = c.loop-time.invariant in
    let d = a.way in
    let s = Stops-cleared d (c.live_child-at.ensures d.deep d.before d.here d.after d.place a.at_place) in
    s.way.searched

pub returns-then-at-eq-NO_NODE-clause-way : goal.returns-then-at-eq-NO_NODE-clause-way
returns-then-at-eq-NO_NODE-clause-way g c =
    let a = c.loop-time.invariant in
    let d = a.way in
    let s = Stops-cleared d (c.live_child-at.ensures d.deep d.before d.here d.after d.place a.at_place) in
    IsWay-vacant s c.if-at-eq-NO_NODE.true

pub returns-then-at-eq-NO_NODE-clause-cost : goal.returns-then-at-eq-NO_NODE-clause-cost
returns-then-at-eq-NO_NODE-clause-cost g c =
    let a = c.loop-time.invariant in
    let d = a.way in
    let s = Stops-cleared d (c.live_child-at.ensures d.deep d.before d.here d.after d.place a.at_place) in
    CountsAtMost-vacant s c.if-at-eq-NO_NODE.true

pub returns-then-at-eq-NO_NODE-clause-exact : goal.returns-then-at-eq-NO_NODE-clause-exact
returns-then-at-eq-NO_NODE-clause-exact g c =
    let a = c.loop-time.invariant in
    let d = a.way in
    let s = Stops-cleared d (c.live_child-at.ensures d.deep d.before d.here d.after d.place a.at_place) in
    Narrows-vacant s c.if-at-eq-NO_NODE.true

pub entry-entry-requires : goal.entry-entry-requires
entry-entry-requires g c =
    let a = c.loop-time.invariant in
    let d = a.way in
    let s = Stops-cleared d (c.live_child-at.ensures d.deep d.before d.here d.after d.place a.at_place) in
    within-entries s c.if-at-eq-NO_NODE.false

pub f-requires : goal.f-requires
f-requires g c =
    let a = c.loop-time.invariant in
    let d = a.way in
    let s = Stops-cleared d (c.live_child-at.ensures d.deep d.before d.here d.after d.place a.at_place) in
    live-asked s c.if-at-eq-NO_NODE.false c.entry-entry.ensures (goal.F-pre g c.args.f) c.requires.callable

pub returns-in-Equal-clause-tree : goal.returns-in-Equal-clause-tree
returns-in-Equal-clause-tree g c =
    let a = c.loop-time.invariant in
    let d = a.way in
    let s = Stops-cleared d (c.live_child-at.ensures d.deep d.before d.here d.after d.place a.at_place) in
    s.way.searched

pub returns-in-Equal-clause-way : goal.returns-in-Equal-clause-way
returns-in-Equal-clause-way g c = λ by depends mono.
    let a = c.loop-time.invariant in
    let d = a.way in
    let s = Stops-cleared d (c.live_child-at.ensures d.deep d.before d.here d.after d.place a.at_place) in
    IsWay-equal s c.if-at-eq-NO_NODE.false c.entry-entry.ensures c.in-Equal.ensures by depends

pub returns-in-Equal-clause-cost : goal.returns-in-Equal-clause-cost
returns-in-Equal-clause-cost g c =
    let a = c.loop-time.invariant in
    let d = a.way in
    let s = Stops-cleared d (c.live_child-at.ensures d.deep d.before d.here d.after d.place a.at_place) in
    CountsAtMost-equal s c.if-at-eq-NO_NODE.false c.entry-entry.ensures c.tick_comparison.ensures.comparisons c.tick_comparison.ensures.pairs c.in-Equal.ensures

pub returns-in-Equal-clause-exact : goal.returns-in-Equal-clause-exact
returns-in-Equal-clause-exact g c =
    let a = c.loop-time.invariant in
    let d = a.way in
    let s = Stops-cleared d (c.live_child-at.ensures d.deep d.before d.here d.after d.place a.at_place) in
    Narrows-equal s c.if-at-eq-NO_NODE.false c.entry-entry.ensures c.tick_comparison.ensures.comparisons c.tick_comparison.ensures.pairs c.in-Equal.ensures

pub loop-time-smaller-in-Less : goal.loop-time-smaller-in-Less
loop-time-smaller-in-Less g c =
    let a = c.loop-time.invariant in
    let d = a.way in
    let cleared = c.live_child-at.ensures d.deep d.before d.here d.after d.place a.at_place in
    under (right-smaller (Stops-cleared d cleared) c.if-at-eq-NO_NODE.false c.entry-entry.ensures) (cleared-held d cleared)

pub loop-time-preserved-in-Less : goal.loop-time-preserved-in-Less
loop-time-preserved-in-Less g c =
    let a = c.loop-time.invariant in
    let d = a.way in
    let s = Stops-cleared d (c.live_child-at.ensures d.deep d.before d.here d.after d.place a.at_place) in
    let next = Descends-right s c.if-at-eq-NO_NODE.false c.entry-entry.ensures c.tick_comparison.ensures.comparisons c.tick_comparison.ensures.pairs c.in-Less.ensures in
    record { way = next; at_place = c.child_at-found.ensures next.deep next.before next.here next.after next.place }

pub loop-time-smaller : goal.loop-time-smaller
loop-time-smaller g c =
    let a = c.loop-time.invariant in
    let d = a.way in
    let cleared = c.live_child-at.ensures d.deep d.before d.here d.after d.place a.at_place in
    under (left-smaller (Stops-cleared d cleared) c.if-at-eq-NO_NODE.false c.entry-entry.ensures) (cleared-held d cleared)

pub loop-time-preserved : goal.loop-time-preserved
loop-time-preserved g c =
    let a = c.loop-time.invariant in
    let d = a.way in
    let s = Stops-cleared d (c.live_child-at.ensures d.deep d.before d.here d.after d.place a.at_place) in
    let next = Descends-left s c.if-at-eq-NO_NODE.false c.entry-entry.ensures c.tick_comparison.ensures.comparisons c.tick_comparison.ensures.pairs c.in-Greater.ensures in
    record { way = next; at_place = c.child_at-found-in-Greater.ensures next.deep next.before next.here next.after next.place }

pub live_child-at-requires : goal.live_child-at-requires
live_child-at-requires g c =
    let a = c.loop-time.invariant in
    let d = a.way in
    (d.deep, (d.before, (d.here, (d.after, (d.place, a.at_place)))))

pub child_at-found-requires-clause-place : goal.child_at-found-requires-clause-place
child_at-found-requires-clause-place g c =
    let a = c.loop-time.invariant in
    let d = a.way in
    let s = Stops-cleared d (c.live_child-at.ensures d.deep d.before d.here d.after d.place a.at_place) in
    let w = s.way in
    let (entry, f) = finds c.live_child-at.new.tree c.loop-time.parent c.loop-time.left w.deep w.before w.here w.after c.live_child-at.result s.at_place c.if-at-eq-NO_NODE.false in
    (_, (_, (_, (_, f.far_place))))

pub child_at-found-requires-in-Greater-clause-place : goal.child_at-found-requires-in-Greater-clause-place
child_at-found-requires-in-Greater-clause-place g c =
    let a = c.loop-time.invariant in
    let d = a.way in
    let s = Stops-cleared d (c.live_child-at.ensures d.deep d.before d.here d.after d.place a.at_place) in
    let w = s.way in
    let (entry, f) = finds c.live_child-at.new.tree c.loop-time.parent c.loop-time.left w.deep w.before w.here w.after c.live_child-at.result s.at_place c.if-at-eq-NO_NODE.false in
    (_, (_, (_, (_, f.near_place))))
