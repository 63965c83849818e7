use Rattle.std.proofs.Common.{arith, suc, refl, ◌∙◌}
use Rattle.i_tree.specs.Tree.Insertion.{goes_on}
use Rattle.i_tree.proofs.Trees.Climbs.{mended-at, mended-done, mended-more, mended-smaller}
use Rattle.i_tree.proofs.tree.pool.Pool.mend_insertion.Goals as goal

pub loop-red-init : goal.loop-red-init
loop-red-init g c = record { tree = λ sp ns deep at. goes_on deep (omega arith) at; entries = refl }

pub mend_red-red-requires : goal.mend_red-red-requires
mend_red-red-requires g c =
    let (sp, (ns, (deep, at))) = c.requires in
    let (h, (less, now)) = mended-at c.loop-red.self.pool sp ns (suc deep) c.loop-red.red (c.loop-red.invariant.tree sp ns deep at) c.loop-red-test.true in
    (sp, (ns, (h, now)))

pub loop-red-preserved : goal.loop-red-preserved
loop-red-preserved g c = record {
  tree = λ sp ns deep at.
      let (h, (less, now)) = mended-at c.loop-red.self.pool sp ns (suc deep) c.loop-red.red (c.loop-red.invariant.tree sp ns deep at) c.loop-red-test.true in
      mended-more c.mend_red-red.new.self.pool sp ns h (suc deep) c.mend_red-red.result (omega arith) (c.mend_red-red.ensures.tree sp ns h now);
  entries = c.mend_red-red.ensures.entries ∙ c.loop-red.invariant.entries;
}

pub loop-red-smaller : goal.loop-red-smaller
loop-red-smaller g c =
    let (sp, (ns, (deep, at))) = c.requires in
    let (h, (less, now)) = mended-at c.loop-red.self.pool sp ns (suc deep) c.loop-red.red (c.loop-red.invariant.tree sp ns deep at) c.loop-red-test.true in
    mended-smaller c.loop-red.self.pool c.mend_red-red.new.self.pool sp ns h c.loop-red.red c.mend_red-red.result now (c.mend_red-red.ensures.tree sp ns h now)

pub returns-clause-tree : goal.returns-clause-tree
returns-clause-tree g c = λ sp ns deep at. mended-done c.loop-red.self.pool sp ns (suc deep) c.loop-red.red (c.loop-red.invariant.tree sp ns deep at) c.loop-red-test.false
