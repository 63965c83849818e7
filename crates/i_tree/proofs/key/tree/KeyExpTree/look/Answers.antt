use Rattle.i_tree.specs.Tree.Entries.{tree_entries_of, unnamed}
use Rattle.i_tree.proofs.Trees.Kept.{live_at-since, IsKept-searched, IsAdvanced-searched}
use Rattle.i_tree.proofs.Keys.Ways.{IsFound-searched}
use Rattle.i_tree.proofs.key.tree.KeyExpTree.look.Goals as goal

pub search-way-requires-clause-callable : goal.search-way-requires-clause-callable
search-way-requires-clause-callable g c =
    rw (live_at-since g.E.Ord.cmp g.met.E.Ord.total g.K.ExpiredKey.expires c.self.inside.latest_time c.args.time (rw (← c.self.view_is) at c.requires.in_time) (unnamed (tree_entries_of c.self.inside.tree))) at (rw (← c.self.view_is) at c.requires.callable)

pub invariant_of-self : goal.invariant_of-self
invariant_of-self g c =
    IsKept-searched g.E.Ord.cmp g.met.E.Ord.total g.K.ExpiredKey.expires g.K.ExpiredKey.order c.self.inside.latest_time c.self.inside.insertions c.args.time (rw (← c.self.view_is) at c.requires.in_time) c.self.inside.tree c.search-way.new.tree c.self.invariant c.search-way.ensures.tree

pub returns-clause-found : goal.returns-clause-found
returns-clause-found g c = λ by depends.
    let told = rw (live_at-since g.E.Ord.cmp g.met.E.Ord.total g.K.ExpiredKey.expires c.self.inside.latest_time c.args.time (rw (← c.self.view_is) at c.requires.in_time) (unnamed (tree_entries_of c.self.inside.tree))) at (rw (← c.self.view_is) at depends) in
    rw (← c.self.view_is) (λ mono.
    IsFound-searched g.E.Ord.cmp g.met.E.Ord.total g.K.ExpiredKey.expires g.K.ExpiredKey.order c.self.inside.latest_time c.self.inside.insertions c.args.time (rw (← c.self.view_is) at c.requires.in_time) c.self.inside.tree c.search-way.new.tree c.self.invariant c.search-way.ensures.tree by c.search-way.result mono (c.search-way.ensures.way by told))

pub returns-clause-kept : goal.returns-clause-kept
returns-clause-kept g c =
    rw (← c.self.view_is)
    (IsAdvanced-searched g.E.Ord.cmp g.met.E.Ord.total g.K.ExpiredKey.expires g.K.ExpiredKey.order c.self.inside.latest_time c.self.inside.insertions c.args.time (rw (← c.self.view_is) at c.requires.in_time) c.self.inside.tree c.search-way.new.tree c.self.invariant c.search-way.ensures.tree)

pub returns-clause-sound : goal.returns-clause-sound
returns-clause-sound g c = (invariant_of-self g c).sound

pub returns-clause-exact : goal.returns-clause-exact
returns-clause-exact g c = λ by depends.
    let exact = c.search-way.ensures.exact in
    let told = rw (live_at-since g.E.Ord.cmp g.met.E.Ord.total g.K.ExpiredKey.expires c.self.inside.latest_time c.args.time (rw (← c.self.view_is) at c.requires.in_time) (unnamed (tree_entries_of c.self.inside.tree))) at (rw (← c.self.view_is) at depends) in
    rw (← c.self.view_is, live_at-since g.E.Ord.cmp g.met.E.Ord.total g.K.ExpiredKey.expires c.self.inside.latest_time c.args.time (rw (← c.self.view_is) at c.requires.in_time) (unnamed (tree_entries_of c.self.inside.tree)))
    record { number = exact.0; exact = exact.1.0; narrows = exact.1.1 by told }
