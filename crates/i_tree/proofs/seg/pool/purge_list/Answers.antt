use Rattle.std.proofs.Common.{◌<◌, length, get_or, ap, sym, ◌∙◌, arith}
use Rattle.i_tree.specs.Bag.{is_still_live}
use Rattle.i_tree.specs.Ranges.Pool.{lives_at}
use Rattle.i_tree.proofs.Ranges.PoolNames.{one_read}
use Rattle.i_tree.proofs.Ranges.Purges.{IsUnnamed-trans, lives_still, named_within, listed_bit, names_without, clean_list}
use Rattle.i_tree.proofs.seg.pool.purge_list.Goals as goal

pub is_live-requires : goal.is_live-requires
is_live-requires g c =
    named_within (λ e. e.named) c.loop-i.pool _ c.args.node
    (listed_bit (λ e. e.named) c.loop-i.pool c.args.node c.loop-i.list.items c.loop-i.invariant.names c.loop-i.i _ (omega (arith, c.loop-i-test.true, c.len.ensures, c.loop-i.list.ok.0)) c.index-at.ensures)

pub unname-requires-clause-within : goal.unname-requires-clause-within
unname-requires-clause-within g c =
    named_within (λ e. e.named) c.loop-i.pool _ c.args.node
    (listed_bit (λ e. e.named) c.loop-i.pool c.args.node c.loop-i.list.items c.loop-i.invariant.names c.loop-i.i _ (omega (arith, c.loop-i-test.true, c.len.ensures, c.loop-i.list.ok.0)) c.index-at.ensures)

pub unname-requires-clause-named : goal.unname-requires-clause-named
unname-requires-clause-named g c =
    listed_bit (λ e. e.named) c.loop-i.pool c.args.node c.loop-i.list.items c.loop-i.invariant.names c.loop-i.i _ (omega (arith, c.loop-i-test.true, c.len.ensures, c.loop-i.list.ok.0)) c.index-at.ensures

pub loop-i-preserved : goal.loop-i-preserved
loop-i-preserved g c =
    let now = c.loop-i.invariant in
    let i = c.loop-i.i in
    let old = c.loop-i.list in
    let within : i < length old.items = omega (arith, c.loop-i-test.true, c.len.ensures, old.ok.0) in
    let at = one_read old.items i c.index-at.result.now c.swap_remove.result within c.index-at.ensures c.swap_remove.ensures.value in
    let loses = c.unname.ensures.loses in
    let gone = loses.gone (λ v. is_still_live g.E.Ord.cmp g.V.ExpiredVal.expires c.args.time v) (sym c.is_live.ensures ∙ c.if-is_live.false) in
    record {
      unnamed = IsUnnamed-trans (λ e. e.named) _ c.args.node c.args.pool.now c.loop-i.pool c.unname.new.pool now.unnamed gone;
      names = rw (c.swap_remove.ensures.items, ← at) (names_without (λ e. e.named) (λ e. e.value) c.loop-i.pool c.unname.new.pool c.args.node old.items i c.index-at.result.now within c.index-at.ensures loses now.names);
      within = omega (arith, c.swap_remove.ensures.len, c.swap_remove.new.self.ok.0, old.ok.0);
      live = λ k h. ap (lives_at _ c.unname.new.pool) (c.swap_remove.ensures.by_index.1 k 0 (omega arith) (omega (arith, old.ok.0))) ∙ lives_still (λ e. e.named) _ c.args.node c.loop-i.pool c.unname.new.pool gone (get_or old.items k 0) ∙ now.live k h;
      spare = c.unname.ensures.spare;
    }

pub returns-clause-cleared : goal.returns-clause-cleared
returns-clause-cleared g c =
    let now = c.loop-i.invariant in
    record {
      unnamed = now.unnamed;
      names = now.names;
      clean = clean_list (λ e. e.named) (λ e. is_still_live g.E.Ord.cmp g.V.ExpiredVal.expires c.args.time e.value) c.loop-i.pool c.loop-i.list.items (λ k h. now.live k (omega (arith, c.loop-i-test.false, c.len.ensures, c.loop-i.list.ok.0)));
    }

pub unname-requires-clause-spare : goal.unname-requires-clause-spare
unname-requires-clause-spare g c = c.loop-i.invariant.spare

pub returns-clause-spare : goal.returns-clause-spare
returns-clause-spare g c = c.loop-i.invariant.spare

pub unname-requires-clause-at_node : goal.unname-requires-clause-at_node
unname-requires-clause-at_node g c = c.requires.at_node
