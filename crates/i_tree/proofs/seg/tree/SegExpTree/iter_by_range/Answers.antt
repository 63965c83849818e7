use contract.BorrowLft.{⊑_static}
use Rattle.std.proofs.lemmas.Int.{ints}
use Rattle.i_tree.proofs.Lives.{within_entity}
use Rattle.std.proofs.Common.{◌≡◌, length, take, drop, ◌++◌, map, refl, ap, ◌∙◌, arith, vec_capacity}
use Rattle.i_tree.specs.Bag.{is_live_yet, is_still_live}
use Rattle.i_tree.specs.Ranges.Nodes.{list_at}
use Rattle.i_tree.proofs.Keys.Times.{gone_yet, IsPassed-live}
use Rattle.i_tree.proofs.Trees.Lists.{items_back}
use Rattle.i_tree.proofs.Ranges.Bags.{IsOnePool-purged, bag_purged, walk_yields}
use Rattle.i_tree.proofs.seg.tree.SegExpTree.iter_by_range.Goals as goal

pub invariant_of-self : goal.invariant_of-self
invariant_of-self g c =
    let old = c.self.inside.ranges in
    let nodes = items_back old.nodes.len c.purge.new.nodes old.nodes.items (c.purge.auto.nodes ∙ c.deref_mut.ensures.len) in
    let pool = items_back old.pool.len c.purge.new.pool old.pool.items (c.purge.auto.pool ∙ c.deref_mut-2.ensures.len) in
    let purged = rw c.deref_mut-2.ensures.value at c.purge.ensures.purged in
    rw (nodes, pool) (
      c.purge.auto.nodes ∙ ap length c.deref_mut.ensures.value ∙ c.self.invariant.0,
      (
        rw purged.same c.self.invariant.1.0,
        IsOnePool-purged (λ e. e.first) (λ e. e.last) (λ e. e.named) (λ e. e.value) (λ v. is_live_yet g.E.Ord.cmp g.V.ExpiredVal.expires c.self.inside.latest_time v) (λ v. is_still_live g.E.Ord.cmp g.V.ExpiredVal.expires c.args.time v)
            (gone_yet g.E.Ord.cmp g.met.E.Ord.total g.V.ExpiredVal.expires c.self.inside.latest_time c.args.time (rw (← c.self.view_is) at c.requires.in_time))
            c.range_to_intersect_mask-query.result old.pool.items c.purge.new.pool _ purged _ _ _ _ _ c.purge.ensures.spare c.self.invariant.1.1,
      ),
    )

pub returns : goal.returns
returns g c =
    let old = c.self.inside.ranges in
    let nodes : take old.nodes.len (c.purge.new.nodes ++ drop (length c.purge.new.nodes) old.nodes.items) ≡ c.purge.new.nodes = items_back old.nodes.len c.purge.new.nodes old.nodes.items (c.purge.auto.nodes ∙ c.deref_mut.ensures.len) in
    let pool : take old.pool.len (c.purge.new.pool ++ drop (length c.purge.new.pool) old.pool.items) ≡ c.purge.new.pool = items_back old.pool.len c.purge.new.pool old.pool.items (c.purge.auto.pool ∙ c.deref_mut-2.ensures.len) in
    let purged = rw c.deref_mut-2.ensures.value at c.purge.ensures.purged in
    let gone = gone_yet g.E.Ord.cmp g.met.E.Ord.total g.V.ExpiredVal.expires c.self.inside.latest_time c.args.time (rw (← c.self.view_is) at c.requires.in_time) in
    let one = IsOnePool-purged (λ e. e.first) (λ e. e.last) (λ e. e.named) (λ e. e.value) (λ v. is_live_yet g.E.Ord.cmp g.V.ExpiredVal.expires c.self.inside.latest_time v) (λ v. is_still_live g.E.Ord.cmp g.V.ExpiredVal.expires c.args.time v) gone
    c.range_to_intersect_mask-query.result old.pool.items c.purge.new.pool (list_at (map (λ v. v.items) c.purge.new.nodes)) purged (list_at (map (λ v. v.items) old.nodes.items)) old.spares.items c.purge.new.spares.items (vec_capacity old.spares) (vec_capacity c.purge.new.spares) c.purge.ensures.spare c.self.invariant.1.1 in (
      (
        refl,
        (λ _. tt),
        rw (← c.self.view_is, pool) (IsPassed-live g.E.Ord.cmp g.met.E.Ord.total g.V.ExpiredVal.expires c.args.time _ _ refl refl refl
            (bag_purged (λ e. e.first) (λ e. e.last) (λ e. e.named) (λ e. e.value) (λ v. is_live_yet g.E.Ord.cmp g.V.ExpiredVal.expires c.self.inside.latest_time v) (λ v. is_still_live g.E.Ord.cmp g.V.ExpiredVal.expires c.args.time v) gone
            c.range_to_intersect_mask-query.result old.pool.items c.purge.new.pool (list_at (map (λ v. v.items) c.purge.new.nodes)) purged)),
      ),
      record {
        found =
            let yields = rw (pool, nodes) at c.new.ensures in
            let first = c.bucket-first.ensures.bucket in
            let last = c.bucket-last.ensures.bucket in
            let accepted = rw (← c.self.view_is) at c.requires.accepted in
            rw (← c.self.view_is, yields, ← first, ← last)
            (walk_yields (λ e. e.first) (λ e. e.last) (λ e. e.named) (λ e. e.value) (λ v. is_live_yet g.E.Ord.cmp g.V.ExpiredVal.expires c.self.inside.latest_time v) (λ v. is_still_live g.E.Ord.cmp g.V.ExpiredVal.expires c.args.time v) gone
            c.range_to_intersect_mask-query.result old.pool.items c.purge.new.pool (list_at (map (λ v. v.items) c.purge.new.nodes)) purged (λ e. e.ordered) (λ e. e.inside) c.bucket-first.result c.bucket-last.result c.range_to_intersect_mask-query.ensures
            (rw (first, last) (c.bucket-first.ensures.rise.rise _ _ accepted.from accepted.ordered)) (omega (arith, c.bucket-last.ensures.within)) one.whole);
        rise = rw (← c.self.view_is) c.bucket-first.ensures.rise;
        kept = tt;
      },
    )

pub bucket-first-requires-clause-above : goal.bucket-first-requires-clause-above
bucket-first-requires-clause-above g c =
    let accepted = rw (← c.self.view_is) at c.requires.accepted in
    accepted.from

pub bucket-first-requires-clause-below : goal.bucket-first-requires-clause-below
bucket-first-requires-clause-below g c =
    let accepted = rw (← c.self.view_is) at c.requires.accepted in
    omega (arith, ints, accepted.ordered, accepted.to)

pub bucket-last-requires-clause-above : goal.bucket-last-requires-clause-above
bucket-last-requires-clause-above g c =
    let accepted = rw (← c.self.view_is) at c.requires.accepted in
    omega (arith, ints, accepted.from, accepted.ordered)

pub bucket-last-requires-clause-below : goal.bucket-last-requires-clause-below
bucket-last-requires-clause-below g c =
    let accepted = rw (← c.self.view_is) at c.requires.accepted in
    accepted.to

pub range_to_intersect_mask-query-requires-clause-ordered : goal.range_to_intersect_mask-query-requires-clause-ordered
range_to_intersect_mask-query-requires-clause-ordered g c =
    let accepted = rw (← c.self.view_is) at c.requires.accepted in
    rw (c.bucket-first.ensures.bucket, c.bucket-last.ensures.bucket) (c.bucket-first.ensures.rise.rise _ _ accepted.from accepted.ordered)

pub range_to_intersect_mask-query-requires-clause-inside : goal.range_to_intersect_mask-query-requires-clause-inside
range_to_intersect_mask-query-requires-clause-inside g c = omega (arith, c.bucket-last.ensures.within)

pub purge-requires-clause-named : goal.purge-requires-clause-named
purge-requires-clause-named g c = rw (c.deref_mut.ensures.value, c.deref_mut-2.ensures.value) c.self.invariant.1.1.names

pub purge-requires-clause-spare : goal.purge-requires-clause-spare
purge-requires-clause-spare g c = rw c.deref_mut-2.ensures.value c.self.invariant.1.1.spare

pub purge-requires-clause-all : goal.purge-requires-clause-all
purge-requires-clause-all g c = rw c.deref_mut.ensures.value c.self.invariant.0

pub new-requires : goal.new-requires
new-requires g c =
    let old = c.self.inside.ranges in
    rw (items_back old.nodes.len c.purge.new.nodes old.nodes.items (c.purge.auto.nodes ∙ c.deref_mut.ensures.len)) (c.purge.auto.nodes ∙ ap length c.deref_mut.ensures.value ∙ c.self.invariant.0)

pub deref_mut-requires : goal.deref_mut-requires
deref_mut-requires g c κs = (⊑_static κs.1.0, ⊑_static κs.1.1.0)

pub deref_mut-requires-2 : goal.deref_mut-requires-2
deref_mut-requires-2 g c κs = λ h. (within_entity κs.1.0 g.row.V.lives h, ⊑_static κs.1.1.0)
