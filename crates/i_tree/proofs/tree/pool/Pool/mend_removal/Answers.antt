use Rattle.std.proofs.Common.{◌∙◌, sym, false, refl}
use Rattle.i_tree.specs.Tree.Shape.{join}
use Rattle.i_tree.specs.Tree.Removal.{same}
use Rattle.i_tree.proofs.Trees.Reads.{node-within, node-focus, parent-read}
use Rattle.i_tree.proofs.Trees.Fills.{Comes-same, Comes-passed, Comes-filled, Lacks-top, below, back, refilled-passes, refilled-fills, climb-lack}
use Rattle.i_tree.proofs.tree.pool.Pool.mend_removal.Goals as goal

pub loop-i-init : goal.loop-i-init
loop-i-init g c = record { tree = λ sp k t lacks e f. record { context = k; tree = t; comes = Comes-same k t; lacks = lacks; parent_is = e; side_is = f }; entries = refl }

pub mend_black-requires : goal.mend_black-requires
mend_black-requires g c =
    let (sp, (k, (t, (lacks, (e, f))))) = c.requires in
    below c.loop-i.self.pool sp k t c.loop-i.i c.loop-i.left (c.loop-i.invariant.tree sp k t lacks e f) c.loop-i-test.true

pub returns-then-mend_black-clause-tree : goal.returns-then-mend_black-clause-tree
returns-then-mend_black-clause-tree g c = λ sp k t lacks e f.
    let l = c.loop-i.invariant.tree sp k t lacks e f in
    let r = back c.loop-i.self.pool sp k t c.loop-i.i c.loop-i.left l c.loop-i-test.true c.mend_black.new.self.pool c.mend_black.result (c.mend_black.ensures.tree (below c.loop-i.self.pool sp k t c.loop-i.i c.loop-i.left l c.loop-i-test.true)) in
    refilled-fills c.mend_black.new.self.pool sp k t l.context l.tree c.loop-i.i c.mend_black.result l.comes r c.if-mend_black.true

pub is_left-left-requires : goal.is_left-left-requires
is_left-left-requires g c =
    let (sp, (k, (t, (lacks, (e, f))))) = c.requires in
    let l = c.loop-i.invariant.tree sp k t lacks e f in
    let r = back c.loop-i.self.pool sp k t c.loop-i.i c.loop-i.left l c.loop-i-test.true c.mend_black.new.self.pool c.mend_black.result (c.mend_black.ensures.tree (below c.loop-i.self.pool sp k t c.loop-i.i c.loop-i.left l c.loop-i-test.true)) in
    let p = refilled-passes c.mend_black.new.self.pool sp l.context l.tree c.loop-i.i c.mend_black.result r c.if-mend_black.false in
    node-focus c.mend_black.new.self.pool sp p.above p.side c.loop-i.i false l.tree p.sibling p.lacks.stands

pub links-i-requires : goal.links-i-requires
links-i-requires g c =
    let (sp, (k, (t, (lacks, (e, f))))) = c.requires in
    let l = c.loop-i.invariant.tree sp k t lacks e f in
    let r = back c.loop-i.self.pool sp k t c.loop-i.i c.loop-i.left l c.loop-i-test.true c.mend_black.new.self.pool c.mend_black.result (c.mend_black.ensures.tree (below c.loop-i.self.pool sp k t c.loop-i.i c.loop-i.left l c.loop-i-test.true)) in
    let p = refilled-passes c.mend_black.new.self.pool sp l.context l.tree c.loop-i.i c.mend_black.result r c.if-mend_black.false in
    node-within c.mend_black.new.self.pool sp p.above p.side c.loop-i.i false l.tree p.sibling p.lacks.stands

pub loop-i-preserved : goal.loop-i-preserved
loop-i-preserved g c = record {
  tree = λ sp k t lacks e f.
      let l = c.loop-i.invariant.tree sp k t lacks e f in
      let r = back c.loop-i.self.pool sp k t c.loop-i.i c.loop-i.left l c.loop-i-test.true c.mend_black.new.self.pool c.mend_black.result (c.mend_black.ensures.tree (below c.loop-i.self.pool sp k t c.loop-i.i c.loop-i.left l c.loop-i-test.true)) in
      let p = refilled-passes c.mend_black.new.self.pool sp l.context l.tree c.loop-i.i c.mend_black.result r c.if-mend_black.false in
      let up = parent-read c.mend_black.new.self.pool sp p.above p.side c.loop-i.i false l.tree p.sibling p.lacks.stands _ c.links-i.ensures.links in
      record {
        context = p.above;
        tree = join p.side c.loop-i.i false l.tree p.sibling;
        comes = Comes-passed k t l.context l.tree p.above p.side c.loop-i.i p.sibling l.comes p.grows;
        lacks = p.lacks;
        parent_is = sym up;
        side_is = c.is_left-left.ensures (node-focus c.mend_black.new.self.pool sp p.above p.side c.loop-i.i false l.tree p.sibling p.lacks.stands);
      };
  entries = c.mend_black.ensures.entries ∙ c.loop-i.invariant.entries;
}

pub loop-i-smaller : goal.loop-i-smaller
loop-i-smaller g c =
    let (sp, (k, (t, (lacks, (e, f))))) = c.requires in
    let l = c.loop-i.invariant.tree sp k t lacks e f in
    let r = back c.loop-i.self.pool sp k t c.loop-i.i c.loop-i.left l c.loop-i-test.true c.mend_black.new.self.pool c.mend_black.result (c.mend_black.ensures.tree (below c.loop-i.self.pool sp k t c.loop-i.i c.loop-i.left l c.loop-i-test.true)) in
    let p = refilled-passes c.mend_black.new.self.pool sp l.context l.tree c.loop-i.i c.mend_black.result r c.if-mend_black.false in
    let up = parent-read c.mend_black.new.self.pool sp p.above p.side c.loop-i.i false l.tree p.sibling p.lacks.stands _ c.links-i.ensures.links in
    let before = climb-lack c.loop-i.self.pool sp l.context l.tree c.loop-i.i l.lacks.stands l.parent_is in
    let after = climb-lack c.mend_black.new.self.pool sp p.above _ _ p.lacks.stands (sym up) in
    let less = p.higher in
    rw (before, after) less

pub returns-clause-tree : goal.returns-clause-tree
returns-clause-tree g c = λ sp k t lacks e f.
    let l = c.loop-i.invariant.tree sp k t lacks e f in
    Comes-filled c.loop-i.self.pool sp k t l.context l.tree l.context l.comes (same l.context) (Lacks-top c.loop-i.self.pool sp l.context l.tree l.lacks (l.parent_is ∙ c.loop-i-test.false))
