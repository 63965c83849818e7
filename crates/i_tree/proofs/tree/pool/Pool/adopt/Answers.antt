use Rattle.std.proofs.Common.{◌≢◌, ◌∙◌, sym}
use Rattle.i_tree.specs.declared.tree.pool.TheConstants.{NO_NODE}
use Rattle.i_tree.specs.Tree.Pool.{root_of}
use Rattle.i_tree.proofs.Trees.Places.{IsAt-root}
use Rattle.i_tree.proofs.Trees.Writes.{IsAdopted-leaf, IsAdopted-put}
use Rattle.i_tree.proofs.tree.pool.Pool.adopt.Goals as goal

pub links-links-requires : goal.links-links-requires
links-links-requires g c = let t = c.requires.subtree in (IsAt-root c.args.self.now.pool t.parent t.tree c.args.i t.at t.root_is c.if-i-ne-NO_NODE.true).within

pub put-requires-clause-within : goal.put-requires-clause-within
put-requires-clause-within g c = let t = c.requires.subtree in (IsAt-root c.args.self.now.pool t.parent t.tree c.args.i t.at t.root_is c.if-i-ne-NO_NODE.true).within

pub returns-then-i-ne-NO_NODE-clause-tree : goal.returns-then-i-ne-NO_NODE-clause-tree
returns-then-i-ne-NO_NODE-clause-tree g c = λ t.
    let ne : root_of t.tree ≢ NO_NODE = λ e. c.if-i-ne-NO_NODE.true (sym t.root_is ∙ e) in
    IsAdopted-put c.args.self.now.pool c.put.new.self.pool t.parent c.args.parent t.tree t.at ne t.once
    (rw (t.root_is, ← c.links-links.ensures.links) c.put.ensures.tree)

pub returns-else-i-ne-NO_NODE-clause-tree : goal.returns-else-i-ne-NO_NODE-clause-tree
returns-else-i-ne-NO_NODE-clause-tree g c = λ t. IsAdopted-leaf c.args.self.now.pool t.parent c.args.parent t.tree t.at (t.root_is ∙ c.if-i-ne-NO_NODE.false) t.fits
