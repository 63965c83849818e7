use Rattle.std.proofs.Common.{◌<◌, length, map, ◌∙◌, false, arith, get_or, nat_lt, vec_len, vec_capacity}
use Rattle.std.proofs.lemmas.Bool.{lt-ltb}
use Rattle.std.proofs.Math.Seq.{map-set_same}
use Rattle.i_tree.specs.Ranges.Nodes.{has_node}
use Rattle.i_tree.proofs.Keys.Lists.{get_map_set, room_more, room_past, off_bit}
use Rattle.i_tree.proofs.seg.node.make_room.Goals as goal
use Rattle.i_tree.proofs.seg.node.make_room.Goals.{then-mask-node-eq1+in_ok-reserve, else-mask-node-eq1}

pub returns-in_err-reserve-clause-lists : goal.returns-in_err-reserve-clause-lists
returns-in_err-reserve-clause-lists c =
    map-set_same (λ v. v.items) c.loop-node.nodes c.loop-node.node c.reserve.new.self c.index-nodes-node.result c.reserve.ensures.items ∙ c.loop-node.invariant.lists

pub loop-node-preserved : goal.loop-node-preserved
loop-node-preserved c =
    let i = c.loop-node.node in
    let now = c.loop-node.invariant in
    let within : i < length c.loop-node.nodes = omega (arith, c.loop-node.auto.nodes, c.requires, c.loop-node-test.true) in
    elim c.if-mask-node-eq1.branch [
      | then-mask-node-eq1+in_ok-reserve w ↦ rw w.nodes-is (record {
        lists = map-set_same (λ v. v.items) c.loop-node.nodes i w.reserve.new.self w.index-nodes-node.result w.reserve.ensures.items ∙ now.lists;
        room = room_more (has_node c.args.mask) (λ n. get_or (map (λ v. nat_lt (vec_len v) (vec_capacity v)) c.loop-node.nodes) n false) _ i _ now.room
            (λ n. get_map_set (λ v. nat_lt (vec_len v) (vec_capacity v)) c.loop-node.nodes i w.reserve.new.self n false within)
            (lt-ltb _ _ (omega (arith, w.in_ok-reserve.ensures.ok)));
      })
      | else-mask-node-eq1 w ↦ rw w.nodes-is (record {
        lists = now.lists;
        room = room_past (has_node c.args.mask) _ i now.room (off_bit c.args.mask i w.if-mask-node-eq1.false);
      })
    ]
