use Rattle.std.proofs.Common.{◌≡◌, ◌<◌, ◌++◌, ◌∷◌, length, map, ◌∙◌, sym, [], true, false, arith, get_or, nat_lt, vec_len, vec_capacity, is_ok}
use Rattle.std.proofs.lemmas.List.{get_or-map}
use Rattle.std.proofs.lemmas.Bool.{cond-true}
use Rattle.i_tree.specs.Ranges.Nodes.{has_node}
use Rattle.i_tree.proofs.Keys.Lists.{get_map_set, so_far-none, so_far-off, so_far-on, so_far-all, room_later, is_ok-push, on_bit, off_bit}
use Rattle.i_tree.proofs.seg.node.place.Goals as goal
use Rattle.i_tree.proofs.seg.node.place.Goals.{then-mask-node-eq1, else-mask-node-eq1}

pub loop-node-init : goal.loop-node-init
loop-node-init c = record { lists = λ n. so_far-none _ _ _ n; room = λ n a b on. c.requires.room n b on }

pub loop-node-preserved : goal.loop-node-preserved
loop-node-preserved c =
    let i = c.loop-node.node in
    let now = c.loop-node.invariant in
    let within : i < length c.loop-node.nodes = omega (arith, c.loop-node.auto.nodes, c.requires.all, c.loop-node-test.true) in
    elim c.if-mask-node-eq1.branch [
      | then-mask-node-eq1 w ↦ rw w.nodes-is (
          let on = on_bit c.args.mask i w.if-mask-node-eq1.true in
          let spare : nat_lt (vec_len (get_or c.loop-node.nodes i w.index-nodes-node.result)) (vec_capacity (get_or c.loop-node.nodes i w.index-nodes-node.result)) ≡ true =
          sym (get_or-map (λ v. nat_lt (vec_len v) (vec_capacity v)) c.loop-node.nodes i w.index-nodes-node.result false within) ∙ now.room i (omega arith) (omega (arith, c.loop-node-test.true)) on in
          let added : is_ok w.push-added.result ≡ true = is_ok-push _ _ w.push-added.result w.push-added.ensures.full spare in
          record {
            lists = so_far-on _ (λ list. list ++ c.args.at ∷ []) _ i (λ v. v.items) [] c.loop-node.nodes w.push-added.new.self w.index-nodes-node.result within on now.lists
                (w.push-added.ensures.items ∙ cond-true _ _ _ added);
            room = room_later (has_node c.args.mask) (λ n. get_or (map (λ v. nat_lt (vec_len v) (vec_capacity v)) c.loop-node.nodes) n false) _ i _ now.room
                (λ n. get_map_set (λ v. nat_lt (vec_len v) (vec_capacity v)) c.loop-node.nodes i w.push-added.new.self n false within);
          })
      | else-mask-node-eq1 w ↦ rw w.nodes-is (record {
        lists = λ n. now.lists n ∙ so_far-off _ (λ list. list ++ c.args.at ∷ []) _ i (off_bit c.args.mask i w.if-mask-node-eq1.false) n;
        room = λ n a b on. now.room n (omega arith) b on;
      })
    ]

pub returns : goal.returns
returns c = λ n h. c.loop-node.invariant.lists n ∙ so_far-all _ _ _ c.loop-node.node n c.loop-node-test.false h
