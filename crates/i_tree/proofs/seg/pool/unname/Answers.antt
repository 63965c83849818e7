use Rattle.std.proofs.Common.{◌≡◌, ◌<◌, ◌^◌, ◌*◌, ◌%◌, length, ap, sym, ◌∙◌, arith, true, is_ok, nat_lt, vec_len, vec_capacity, bit_and}
use Rattle.std.proofs.lemmas.Bool.{lt-ltb}
use Rattle.std.proofs.lemmas.Nat.{and_le_l}
use Rattle.std.specs.Int.{w64, bit_not}
use Rattle.i_tree.specs.Ranges.Pool.{named_at}
use Rattle.i_tree.proofs.Keys.Lists.{is_ok-push}
use Rattle.i_tree.proofs.Ranges.PoolNames.{some_bit}
use Rattle.i_tree.proofs.Ranges.Pools.{named_here, LosesNode-set, AreSpare-less, AreSpare-freed, AreSpare-grown, room_for_spare}
use Rattle.i_tree.proofs.seg.pool.unname.Goals as goal
use Rattle.i_tree.proofs.seg.pool.unname.Goals.{then-named-eq0, else-named-eq0}

pub returns-clause-loses : goal.returns-clause-loses
returns-clause-loses g c =
    LosesNode-set (λ e. e.named) c.args.pool.now c.args.at _ c.index-pool-at.result c.requires.within (λ e. e.value) c.args.node c.requires.at_node
    (ap (λ m. bit_and m (bit_not w64 (1 * 2 ^ c.args.node % 2 ^ 64))) (ap (λ e. e.named) c.index-pool-at.is ∙ sym (named_here (λ e. e.named) c.args.pool.now c.args.at c.index-pool-at.result c.requires.within))) (ap (λ e. e.value) c.index-pool-at.is)

pub returns-clause-spare : goal.returns-clause-spare
returns-clause-spare g c =
    let within = c.requires.within in
    let slot = c.index-pool-at.result in
    let named : named_at (λ e. e.named) c.args.pool.now c.args.at ≡ slot.named = named_here (λ e. e.named) c.args.pool.now c.args.at slot within ∙ sym (ap (λ e. e.named) c.index-pool-at.is) in
    elim c.if-named-eq0.branch [
      | then-named-eq0 w ↦ rw w.spares-is (
          let some : 0 < named_at (λ e. e.named) c.args.pool.now c.args.at = some_bit _ c.args.node c.requires.named in
          let room : length c.args.spares.now.items < vec_capacity c.args.spares.now = room_for_spare (λ e. e.named) c.args.pool.now c.args.at slot slot within _ _ some c.requires.spare in
          let len = c.args.spares.now.ok.0 in
          let more : nat_lt (vec_len c.args.spares.now) (vec_capacity c.args.spares.now) ≡ true = lt-ltb _ _ (omega arith) in
          let kept : is_ok w.push-kept.result ≡ true = is_ok-push _ _ w.push-kept.result w.push-kept.ensures.full more in
          rw (w.push-kept.ensures.items, kept)
          (AreSpare-grown (λ e. e.named) _ _ _ _ w.push-kept.ensures.capacity (AreSpare-freed (λ e. e.named) c.args.pool.now c.args.at _ slot within _ _ w.if-named-eq0.true some c.requires.spare)))
      | else-named-eq0 w ↦ rw w.spares-is (
          let left : 0 < bit_and slot.named (bit_not w64 (1 * 2 ^ c.args.node % 2 ^ 64)) = omega (arith, w.if-named-eq0.false) in
          AreSpare-less (λ e. e.named) c.args.pool.now c.args.at _ slot within _ _ left (rw named (and_le_l slot.named _)) c.requires.spare)
    ]

pub bounds-pool-at : goal.bounds-pool-at
bounds-pool-at g c = c.requires.within

pub bounds-pool-at-2 : goal.bounds-pool-at-2
bounds-pool-at-2 g c = c.requires.within

pub overflow_shl-named : goal.overflow_shl-named
overflow_shl-named g c = omega (arith, c.requires.at_node)
