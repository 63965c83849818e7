use Rattle.std.proofs.Common.{◌≡◌, ◌∙◌, sym, subst, not, false, true, ℕ, List, Bool}
use Rattle.i_tree.specs.Tree.Shape.{Tree, Context, join, plug, under}
use Rattle.i_tree.specs.Tree.Pool.{Nodes, Stands}
use Rattle.i_tree.specs.Tree.Insertion.{Reddens}
use Rattle.i_tree.proofs.Trees.Shapes.{join-turned}
use Rattle.i_tree.proofs.Trees.Pools.{root_of-join}
use Rattle.i_tree.proofs.Trees.Reads.{node-within, near-read, far-read, Stands-turned}
use Rattle.i_tree.proofs.tree.pool.Pool.redden.Goals as goal

pub links-node-requires : goal.links-node-requires
links-node-requires g c = let r = c.requires in node-within c.args.self.now.pool r.spare r.context c.args.left c.args.i _ _ _ r.stands

pub paint-requires : goal.paint-requires
paint-requires g c =
    let r = c.requires in
    let near = near-read c.args.self.now.pool r.spare r.context c.args.left c.args.i _ _ _ r.stands _ _ c.links-node.ensures.links c.child.ensures ∙ root_of-join r.near_side r.near true r.a r.b in
    rw near (node-within c.args.self.now.pool r.spare (under r.context c.args.left c.args.i false (join r.far_side r.far true r.c r.d)) r.near_side r.near true r.a r.b r.stands)

-- a paint of a node that goes by another name of it
painted : (old new : Nodes) (sp : List ℕ) (x i : ℕ) (red : Bool) → x ≡ i →
    ((sp' : List ℕ) (k : Context) (s was : Bool) (near far : Tree) → Stands old sp' (plug k (join s x was near far)) → Stands new sp' (plug k (join s x red near far))) →
    (k : Context) (s was : Bool) (near far : Tree) → Stands old sp (plug k (join s i was near far)) → Stands new sp (plug k (join s i red near far))
painted old new sp x i red e paint k s was near far stands =
    subst (λ y. Stands new sp (plug k (join s y red near far))) e (paint sp k s was near far (subst (λ y. Stands old sp (plug k (join s y was near far))) (sym e) stands))

-- the three paints in turn
first : (old new : Nodes) (i : ℕ) (s : Bool) (r : Reddens old i s) (x : ℕ) → x ≡ r.near →
    ((sp' : List ℕ) (k : Context) (s' was : Bool) (near far : Tree) → Stands old sp' (plug k (join s' x was near far)) → Stands new sp' (plug k (join s' x false near far))) →
    Stands new r.spare (plug r.context (join s i false (join r.near_side r.near false r.a r.b) (join r.far_side r.far true r.c r.d)))
first old new i s r x e paint = painted old new r.spare x r.near false e paint (under r.context s i false (join r.far_side r.far true r.c r.d)) r.near_side true r.a r.b r.stands

turned : (old new : Nodes) (i : ℕ) (s : Bool) (r : Reddens old i s) (x : ℕ) → x ≡ r.near →
    ((sp' : List ℕ) (k : Context) (s' was : Bool) (near far : Tree) → Stands old sp' (plug k (join s' x was near far)) → Stands new sp' (plug k (join s' x false near far))) →
    Stands new r.spare (plug (under r.context (not s) i false (join r.near_side r.near false r.a r.b)) (join r.far_side r.far true r.c r.d))
turned old new i s r x e paint = Stands-turned new r.spare r.context s i false _ _ (first old new i s r x e paint)

second : (old a new : Nodes) (i : ℕ) (s : Bool) (r : Reddens old i s) (x : ℕ) → x ≡ r.far →
    Stands a r.spare (plug (under r.context (not s) i false (join r.near_side r.near false r.a r.b)) (join r.far_side r.far true r.c r.d)) →
    ((sp' : List ℕ) (k : Context) (s' was : Bool) (near far : Tree) → Stands a sp' (plug k (join s' x was near far)) → Stands new sp' (plug k (join s' x false near far))) →
    Stands new r.spare (plug r.context (join s i false (join r.near_side r.near false r.a r.b) (join r.far_side r.far false r.c r.d)))
second old a new i s r x e stands paint =
    subst (λ (t : Tree). Stands new r.spare (plug r.context t)) (join-turned s i false (join r.far_side r.far false r.c r.d) (join r.near_side r.near false r.a r.b))
    (painted a new r.spare x r.far false e paint (under r.context (not s) i false (join r.near_side r.near false r.a r.b)) r.far_side true r.c r.d stands)

pub paint-requires-2 : goal.paint-requires-2
paint-requires-2 g c =
    let r = c.requires in
    let old = c.args.self.now.pool in
    let s = c.args.left in
    let i = c.args.i in
    let near = near-read old r.spare r.context s i _ _ _ r.stands _ _ c.links-node.ensures.links c.child.ensures ∙ root_of-join r.near_side r.near true r.a r.b in
    let far = far-read old r.spare r.context s i _ _ _ r.stands _ _ c.links-node.ensures.links c.child-2.ensures ∙ root_of-join r.far_side r.far true r.c r.d in
    rw far (node-within c.paint.new.self.pool r.spare (under r.context (not s) i false (join r.near_side r.near false r.a r.b)) r.far_side r.far true r.c r.d (turned old c.paint.new.self.pool i s r _ near c.paint.ensures.tree))

pub paint-requires-3 : goal.paint-requires-3
paint-requires-3 g c =
    let r = c.requires in
    let old = c.args.self.now.pool in
    let s = c.args.left in
    let i = c.args.i in
    let near = near-read old r.spare r.context s i _ _ _ r.stands _ _ c.links-node.ensures.links c.child.ensures ∙ root_of-join r.near_side r.near true r.a r.b in
    let far = far-read old r.spare r.context s i _ _ _ r.stands _ _ c.links-node.ensures.links c.child-2.ensures ∙ root_of-join r.far_side r.far true r.c r.d in
    node-within c.paint-2.new.self.pool r.spare r.context s i false _ _
    (second old c.paint.new.self.pool c.paint-2.new.self.pool i s r _ far (turned old c.paint.new.self.pool i s r _ near c.paint.ensures.tree) c.paint-2.ensures.tree)

pub returns-clause-tree : goal.returns-clause-tree
returns-clause-tree g c = λ r.
    let old = c.args.self.now.pool in
    let s = c.args.left in
    let i = c.args.i in
    let near = near-read old r.spare r.context s i _ _ _ r.stands _ _ c.links-node.ensures.links c.child.ensures ∙ root_of-join r.near_side r.near true r.a r.b in
    let far = far-read old r.spare r.context s i _ _ _ r.stands _ _ c.links-node.ensures.links c.child-2.ensures ∙ root_of-join r.far_side r.far true r.c r.d in
    c.paint-3.ensures.tree r.spare r.context s false _ _
    (second old c.paint.new.self.pool c.paint-2.new.self.pool i s r _ far (turned old c.paint.new.self.pool i s r _ near c.paint.ensures.tree) c.paint-2.ensures.tree)
