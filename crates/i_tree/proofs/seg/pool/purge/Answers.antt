use Rattle.std.proofs.Common.{refl}
use Rattle.std.specs.Int.{bit_at}
use Rattle.i_tree.specs.Ranges.Pool.{mentions, named_at}
use Rattle.std.proofs.lemmas.List.{get_or-map}
use Rattle.std.proofs.Common.{◌≡◌, map, subst}
use Rattle.i_tree.specs.Bag.{is_still_live}
use Rattle.i_tree.specs.Ranges.Nodes.{list_at}
use Rattle.i_tree.specs.Ranges.Pool.{IsPurgedTo}
use Rattle.std.proofs.Common.{◌<◌, length, [], arith}
use Rattle.i_tree.proofs.Keys.Lists.{get_map_set, off_bit}
use Rattle.i_tree.proofs.Ranges.Purges.{IsPurgedTo-on, IsPurgedTo-off}
use Rattle.i_tree.proofs.seg.pool.purge.Goals as goal
use Rattle.i_tree.proofs.seg.pool.purge.Goals.{then-mask-node-eq1, else-mask-node-eq1}

pub loop-node-preserved : goal.loop-node-preserved
loop-node-preserved g c =
    let now = c.loop-node.invariant in
    let i = c.loop-node.node in
    let within : i < length c.loop-node.nodes = omega (arith, c.loop-node.auto.nodes, c.requires.all, c.loop-node-test.true) in
    elim c.if-mask-node-eq1.branch [
      | then-mask-node-eq1 w ↦ rw (w.nodes-is, w.pool-is, w.spares-is) (record {
        purged = IsPurgedTo-on (λ e. e.named) _ c.args.mask c.args.pool.now c.loop-node.pool _ i now.purged w.purge_list.new.pool w.purge_list.new.list.items _
            (λ n. get_map_set (λ v. v.items) c.loop-node.nodes i w.purge_list.new.list n [] within) w.purge_list.ensures.cleared;
        spare = w.purge_list.ensures.spare;
      })
      | else-mask-node-eq1 w ↦ rw (w.nodes-is, w.pool-is, w.spares-is) (record {
        purged = IsPurgedTo-off (λ e. e.named) _ c.args.mask c.args.pool.now c.loop-node.pool _ i now.purged (off_bit c.args.mask i w.if-mask-node-eq1.false);
        spare = now.spare;
      })
    ]

pub purge_list-requires-clause-at_node : goal.purge_list-requires-clause-at_node
purge_list-requires-clause-at_node g c = c.loop-node-test.true

pub bounds-nodes-node : goal.bounds-nodes-node
bounds-nodes-node g c = omega (arith, c.loop-node.auto.nodes, c.requires.all, c.loop-node-test.true)

pub loop-node-smaller : goal.loop-node-smaller
loop-node-smaller g c = omega (arith, c.loop-node-test.true)

pub overflow_shr-mask : goal.overflow_shr-mask
overflow_shr-mask g c = omega (arith, c.loop-node-test.true)

pub purge_list-requires-clause-spare : goal.purge_list-requires-clause-spare
purge_list-requires-clause-spare g c = c.loop-node.invariant.spare

pub returns-clause-spare : goal.returns-clause-spare
returns-clause-spare g c = c.loop-node.invariant.spare

pub returns-clause-purged : goal.returns-clause-purged
returns-clause-purged g c =
    let done : c.loop-node.node ≡ 63 = omega (arith, c.loop-node.auto.node-end, c.loop-node-test.false) in
    subst (λ n. IsPurgedTo (λ e. e.named) (λ e. is_still_live g.E.Ord.cmp g.V.ExpiredVal.expires c.args.time e.value) c.args.mask n c.args.pool.now c.loop-node.pool (list_at (map (λ v. v.items) c.loop-node.nodes))) done c.loop-node.invariant.purged

pub purge_list-requires-clause-named : goal.purge_list-requires-clause-named
purge_list-requires-clause-named g c = λ place.
    let i = c.loop-node.node in
    let within : i < length c.loop-node.nodes = omega (arith, c.loop-node.auto.nodes, c.requires.all, c.loop-node-test.true) in
    subst (λ list. mentions place list ≡ bit_at (named_at (λ e. e.named) c.loop-node.pool place) i) (get_or-map (λ v. v.items) c.loop-node.nodes i c.index-nodes-node.result [] within) (c.loop-node.invariant.purged.names.names place i c.loop-node-test.true)

pub loop-node-init : goal.loop-node-init
loop-node-init g c = record {
  purged = record { names = c.requires.named; same = refl; stays = λ p. refl; clean = λ n less. absurd (omega (arith, less)) };
  spare = c.requires.spare;
}
