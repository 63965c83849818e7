use contract.BorrowLft.{⊑_static}
use Rattle.std.proofs.lemmas.Int.{ints}
use Rattle.std.proofs.Common.{◌≡◌, ◌++◌, length, take, drop, map, ap, ◌∙◌, refl, arith}
use Rattle.std.proofs.lemmas.Result.{err_from_is_err_and}
use Rattle.i_tree.specs.Bag.{is_live_yet, is_still_live}
use Rattle.i_tree.specs.Ranges.Nodes.{list_at}
use Rattle.i_tree.proofs.Keys.Times.{gone_yet}
use Rattle.i_tree.proofs.Trees.Lists.{items_back}
use Rattle.i_tree.proofs.Ranges.Bags.{IsOnePool-kept, bag_with, bag_with_later, placed_is_held}
use Rattle.i_tree.proofs.seg.tree.SegExpTreeSegExpCollection.insert_by_range.Goals as goal

pub invariant_of-self : goal.invariant_of-self
invariant_of-self g c =
    let old = c.self.inside.ranges in
    let lists = rw c.deref_mut.ensures.value at c.make_room.ensures.lists in
    rw (items_back old.nodes.len c.make_room.new.nodes old.nodes.items (c.make_room.auto.nodes ∙ c.deref_mut.ensures.len)) (
      c.make_room.auto.nodes ∙ ap length c.deref_mut.ensures.value ∙ c.self.invariant.0,
      (c.self.invariant.1.0, rw lists c.self.invariant.1.1),
    )

pub invariant_of-self-in_err-at : goal.invariant_of-self-in_err-at
invariant_of-self-in_err-at g c =
    let old = c.self.inside.ranges in
    let one = c.self.invariant.1.1 in
    let lists = rw c.deref_mut.ensures.value at c.make_room.ensures.lists in
    let spare = rw c.in_err-at.ensures.err at c.in_err-at.ensures.spare in
    rw (items_back old.nodes.len c.make_room.new.nodes old.nodes.items (c.make_room.auto.nodes ∙ c.deref_mut.ensures.len), c.in_err-at.ensures.err) (
      c.make_room.auto.nodes ∙ ap length c.deref_mut.ensures.value ∙ c.self.invariant.0,
      (c.self.invariant.1.0, record { names = rw lists one.names; spare = spare; whole = one.whole }),
    )

pub place-requires-clause-room : goal.place-requires-clause-room
place-requires-clause-room g c =
    let old = c.self.inside.ranges in
    rw (c.deref_mut-2.ensures.value, items_back old.nodes.len c.make_room.new.nodes old.nodes.items (c.make_room.auto.nodes ∙ c.deref_mut.ensures.len)) c.in_ok-make_room.ensures.room

pub invariant_of-self-2 : goal.invariant_of-self-2
invariant_of-self-2 g c =
    let old = c.self.inside.ranges in
    let room : take old.nodes.len (c.make_room.new.nodes ++ drop (length c.make_room.new.nodes) old.nodes.items) ≡ c.make_room.new.nodes = items_back old.nodes.len c.make_room.new.nodes old.nodes.items (c.make_room.auto.nodes ∙ c.deref_mut.ensures.len) in
    let lists = rw c.deref_mut.ensures.value at c.make_room.ensures.lists in
    let named = rw (c.deref_mut-2.ensures.value, room, lists) at c.place.ensures in
    let kept = c.in_ok-at.ensures.ok in
    rw (items_back old.nodes.len c.place.new.nodes _ (c.place.auto.nodes ∙ c.deref_mut-2.ensures.len)) (
      c.place.auto.nodes ∙ ap length (c.deref_mut-2.ensures.value ∙ room) ∙ c.make_room.auto.nodes ∙ ap length c.deref_mut.ensures.value ∙ c.self.invariant.0,
      (
        omega (arith, kept.longer, c.self.invariant.1.0),
        IsOnePool-kept (λ e. e.first) (λ e. e.last) (λ e. e.named) (λ e. e.value) (λ v. is_live_yet g.E.Ord.cmp g.V.ExpiredVal.expires c.self.inside.latest_time v) old.pool.items c.keep.new.pool.items c.in_ok-at.at _ kept c.range_to_place_mask-mask.ensures.nodes
            _ (list_at (map (λ v. v.items) old.nodes.items)) (list_at (map (λ v. v.items) c.place.new.nodes)) _ _ _ _ named c.in_ok-at.ensures.spare c.self.invariant.1.1,
      ),
    )

pub returns-clause-ok : goal.returns-clause-ok
returns-clause-ok g c =
    let old = c.self.inside.ranges in
    let first = c.bucket-first.ensures.bucket in
    let last = c.bucket-last.ensures.bucket in
    let accepted = rw (← c.self.view_is) at c.requires.accepted in
    let held = placed_is_held c.bucket-first.result c.bucket-last.result c.range_to_place_mask-mask.result (rw (first, last) (c.bucket-first.ensures.rise.rise _ _ accepted.from accepted.ordered)) c.bucket-last.ensures.within c.range_to_place_mask-mask.ensures.nodes in
    rw (← c.self.view_is, ← first, ← last) (record {
      buckets = refl;
      latest_time = refl;
      insertions = refl;
      live = bag_with (λ e. e.first) (λ e. e.last) (λ e. e.named) (λ e. e.value) (λ v. is_live_yet g.E.Ord.cmp g.V.ExpiredVal.expires c.self.inside.latest_time v) old.pool.items c.keep.new.pool.items c.in_ok-at.at _ c.in_ok-at.ensures.ok c.range_to_place_mask-mask.ensures.nodes
          (λ v. is_live_yet g.E.Ord.cmp g.V.ExpiredVal.expires c.self.inside.latest_time v) (λ v e. e) held;
      later = λ t in_time. bag_with_later (λ e. e.first) (λ e. e.last) (λ e. e.named) (λ e. e.value) (λ v. is_live_yet g.E.Ord.cmp g.V.ExpiredVal.expires c.self.inside.latest_time v) old.pool.items c.keep.new.pool.items c.in_ok-at.at _ c.in_ok-at.ensures.ok c.range_to_place_mask-mask.ensures.nodes
          (λ v. is_still_live g.E.Ord.cmp g.V.ExpiredVal.expires t v) (gone_yet g.E.Ord.cmp g.met.E.Ord.total g.V.ExpiredVal.expires c.self.inside.latest_time t in_time) held;
    })

pub returns-in_err-make_room-clause-ok : goal.returns-in_err-make_room-clause-ok
returns-in_err-make_room-clause-ok g c =
    rw ((err_from_is_err_and c.from_residual.result c.from_residual.ensures.1).1) tt

pub returns-in_err-at-clause-ok : goal.returns-in_err-at-clause-ok
returns-in_err-at-clause-ok g c =
    rw ((err_from_is_err_and c.from_residual-in_err-at.result c.from_residual-in_err-at.ensures.1).1) tt

pub returns-clause-err : goal.returns-clause-err
returns-clause-err g c = tt

pub bucket-first-requires-clause-above : goal.bucket-first-requires-clause-above
bucket-first-requires-clause-above g c =
    let accepted = rw (← c.self.view_is) at c.requires.accepted in
    accepted.from

pub bucket-first-requires-clause-below : goal.bucket-first-requires-clause-below
bucket-first-requires-clause-below g c =
    let accepted = rw (← c.self.view_is) at c.requires.accepted in
    omega (arith, ints, accepted.ordered, accepted.to)

pub bucket-last-requires-clause-above : goal.bucket-last-requires-clause-above
bucket-last-requires-clause-above g c =
    let accepted = rw (← c.self.view_is) at c.requires.accepted in
    omega (arith, ints, accepted.from, accepted.ordered)

pub bucket-last-requires-clause-below : goal.bucket-last-requires-clause-below
bucket-last-requires-clause-below g c =
    let accepted = rw (← c.self.view_is) at c.requires.accepted in
    accepted.to

pub range_to_place_mask-mask-requires-clause-ordered : goal.range_to_place_mask-mask-requires-clause-ordered
range_to_place_mask-mask-requires-clause-ordered g c =
    let accepted = rw (← c.self.view_is) at c.requires.accepted in
    rw (c.bucket-first.ensures.bucket, c.bucket-last.ensures.bucket) (c.bucket-first.ensures.rise.rise _ _ accepted.from accepted.ordered)

pub range_to_place_mask-mask-requires-clause-inside : goal.range_to_place_mask-mask-requires-clause-inside
range_to_place_mask-mask-requires-clause-inside g c = omega (arith, c.bucket-last.ensures.within)

pub from_residual-requires : goal.from_residual-requires
from_residual-requires g c κs = (⊑_static κs.0, (⊑_static κs.1.0, ⊑_static κs.1.1.0))

pub from_residual-requires-in_err-at : goal.from_residual-requires-in_err-at
from_residual-requires-in_err-at g c κs = (⊑_static κs.0, (⊑_static κs.1.0, ⊑_static κs.1.1.0))

pub branch-at-requires : goal.branch-at-requires
branch-at-requires g c κs = (⊑_static κs.0, ⊑_static κs.1.0)

pub branch-make_room-requires : goal.branch-make_room-requires
branch-make_room-requires g c κs = (⊑_static κs.0, ⊑_static κs.1.0)

pub deref_mut-requires : goal.deref_mut-requires
deref_mut-requires g c κs = (⊑_static κs.1.0, ⊑_static κs.1.1.0)

pub deref_mut-requires-2 : goal.deref_mut-requires-2
deref_mut-requires-2 g c κs = (⊑_static κs.1.0, ⊑_static κs.1.1.0)

pub keep-requires-clause-spare : goal.keep-requires-clause-spare
keep-requires-clause-spare g c = c.self.invariant.1.1.spare

pub make_room-requires : goal.make_room-requires
make_room-requires g c = rw c.deref_mut.ensures.value c.self.invariant.0
