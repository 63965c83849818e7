use Rattle.std.proofs.Common.{sym, ◌∙◌, arith, length, ◌≡◌, subst, ap}
use Rattle.std.proofs.lemmas.List.{length-map}
use Rattle.i_tree.specs.Tree.Pool.{links_at, links_of, IsPut}
use Rattle.i_tree.proofs.Trees.Words.{places-shown, nodes-back, IsSwapped-entries}
use Rattle.i_tree.proofs.tree.pool.Pool.swap_entries.Goals as goal

pub links-at-requires : goal.links-at-requires
links-at-requires g c = omega (arith, c.requires.each_place)

pub links-other-requires : goal.links-other-requires
links-other-requires g c = omega (arith, c.requires.each_place)

pub put-requires-clause-within : goal.put-requires-clause-within
put-requires-clause-within g c =
    let h = rw (← c.self.view_is, length-map) at c.requires.first in
    let each : length c.swap.new.self.items ≡ length c.self.inside.nodes.items = sym c.swap.new.self.ok.0 ∙ c.swap.ensures.len ∙ c.self.inside.nodes.ok.0 in
    let p = places-shown (λ node. links_of node.left node.right node.parent) (λ node. node.entry) c.self.inside.root c.self.inside.spare c.swap.new.self.items in
    omega arith

pub put-requires-2-clause-within : goal.put-requires-2-clause-within
put-requires-2-clause-within g c =
    let h = rw (← c.self.view_is, length-map) at c.requires.second in
    let each : length c.swap.new.self.items ≡ length c.self.inside.nodes.items = sym c.swap.new.self.ok.0 ∙ c.swap.ensures.len ∙ c.self.inside.nodes.ok.0 in
    let p = places-shown (λ node. links_of node.left node.right node.parent) (λ node. node.entry) c.self.inside.root c.self.inside.spare c.swap.new.self.items in
    let e = c.put.ensures.tree.only.places in
    omega arith

pub returns-clause-pool : goal.returns-clause-pool
returns-clause-pool g c =
    let each : length c.swap.new.self.items ≡ length c.self.inside.nodes.items = sym c.swap.new.self.ok.0 ∙ c.swap.ensures.len ∙ c.self.inside.nodes.ok.0 in
    let h = rw (← c.self.view_is, length-map) at c.requires.first in
    let k = rw (← c.self.view_is, length-map) at c.requires.second in
    rw (← c.self.view_is)
    (nodes-back (λ node. links_of node.left node.right node.parent) (λ node. node.entry) c.self.inside.root c.self.inside.spare c.self.inside.nodes.items c.swap.new.self.items c.args.i c.args.j c.swap.ensures.by_index each h k
    c.put.new.self.pool c.put-2.new.self.pool
    (subst (IsPut _ c.put.new.self.pool c.args.i) (c.links-at.ensures.links ∙ ap (λ t. links_at t.pool c.args.i) (sym c.self.view_is)) c.put.ensures.tree)
    (subst (IsPut c.put.new.self.pool c.put-2.new.self.pool c.args.j) (c.links-other.ensures.links ∙ ap (λ t. links_at t.pool c.args.j) (sym c.self.view_is)) c.put-2.ensures.tree))

pub returns-clause-entries : goal.returns-clause-entries
returns-clause-entries g c =
    let each : length c.swap.new.self.items ≡ length c.self.inside.nodes.items = sym c.swap.new.self.ok.0 ∙ c.swap.ensures.len ∙ c.self.inside.nodes.ok.0 in
    let h = rw (← c.self.view_is, length-map) at c.requires.first in
    let k = rw (← c.self.view_is, length-map) at c.requires.second in
    rw (c.put-2.ensures.entries, c.put.ensures.entries, ← c.self.view_is)
    (IsSwapped-entries (λ node. links_of node.left node.right node.parent) (λ node. node.entry) c.self.inside.root c.self.inside.spare c.self.inside.nodes.items c.swap.new.self.items c.args.i c.args.j c.swap.ensures.by_index each h k)
