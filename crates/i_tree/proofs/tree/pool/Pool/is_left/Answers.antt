use Rattle.std.proofs.Common.{◌≡◌, ◌≢◌, ◌∙◌, ap}
use Rattle.i_tree.specs.declared.tree.pool.TheConstants.{NO_NODE}
use Rattle.i_tree.specs.Tree.Pool.{links_at, parent_of}
use Rattle.i_tree.proofs.Trees.Places.{Stands-root, parent-within, IsOnSide-root, IsOnSide-below}
use Rattle.i_tree.proofs.tree.pool.Pool.is_left.Goals as goal

pub links-parent-requires : goal.links-parent-requires
links-parent-requires g c = let f = c.requires in (Stands-root c.args.self.now.pool f.spare f.context f.tree c.args.i f.stands f.root_is f.there).within

pub links-requires : goal.links-requires
links-requires g c =
    let f = c.requires in
    let up : c.links-parent.result.parent ≡ parent_of f.context =
    ap (λ l. l.parent) c.links-parent.ensures.links ∙ (Stands-root c.args.self.now.pool f.spare f.context f.tree c.args.i f.stands f.root_is f.there).parent_is in
    let ne : parent_of f.context ≢ NO_NODE = λ e. c.if-parent-eq-NO_NODE.false (up ∙ e) in
    rw up (parent-within c.args.self.now.pool f.spare f.context f.tree f.stands ne)

pub returns-then-parent-eq-NO_NODE : goal.returns-then-parent-eq-NO_NODE
returns-then-parent-eq-NO_NODE g c = λ f.
    let up : c.links-parent.result.parent ≡ parent_of f.context =
    ap (λ l. l.parent) c.links-parent.ensures.links ∙ (Stands-root c.args.self.now.pool f.spare f.context f.tree c.args.i f.stands f.root_is f.there).parent_is in
    let e : parent_of f.context ≡ NO_NODE = rw (← up) c.if-parent-eq-NO_NODE.true in
    IsOnSide-root c.args.self.now.pool f.spare f.context f.tree _ f.stands e

pub returns-else-parent-eq-NO_NODE : goal.returns-else-parent-eq-NO_NODE
returns-else-parent-eq-NO_NODE g c = λ f.
    let up : c.links-parent.result.parent ≡ parent_of f.context =
    ap (λ l. l.parent) c.links-parent.ensures.links ∙ (Stands-root c.args.self.now.pool f.spare f.context f.tree c.args.i f.stands f.root_is f.there).parent_is in
    let is : c.links.result ≡ links_at c.args.self.now.pool (parent_of f.context) = c.links.ensures.links ∙ ap (links_at c.args.self.now.pool) up in
    rw is (IsOnSide-below c.args.self.now.pool f.spare f.context f.tree c.args.i f.stands f.root_is f.there)
