use Rattle.std.proofs.Common.{sym, ◌∙◌}
use Rattle.std.proofs.lemmas.Bool.{both_ways}
use Rattle.i_tree.proofs.Sets.Trees.{live-within, live-some, some-live, IsNamed-tree}
use Rattle.i_tree.proofs.set.tree.SetTreeSetCollection.has_index.Goals as goal

pub returns-then-has_place-clause-live : goal.returns-then-has_place-clause-live
returns-then-has_place-clause-live g c =
    rw (← c.self.view_is) (
      (λ yes. some-live c.self.inside.tree c.self.inside.insertions c.self.invariant c.args.index c.entry.result.now c.entry.ensures (sym c.is_some.ensures ∙ yes)),
      (λ has. c.is_some.ensures ∙ live-some c.self.inside.tree c.self.inside.insertions c.self.invariant c.args.index has c.entry.result.now c.entry.ensures),
    )

pub returns-then-has_place-clause-sound : goal.returns-then-has_place-clause-sound
returns-then-has_place-clause-sound g c = rw (← c.self.view_is) (IsNamed-tree c.self.inside.tree c.self.inside.insertions c.self.invariant)

pub returns-else-has_place-clause-live : goal.returns-else-has_place-clause-live
returns-else-has_place-clause-live g c =
    rw (← c.self.view_is) (
      (λ yes. absurd (both_ways _ c.if-has_place.false yes)),
      (λ has. c.has_place.ensures.1 (live-within c.self.inside.tree c.self.inside.insertions c.self.invariant c.args.index has)),
    )

pub returns-else-has_place-clause-sound : goal.returns-else-has_place-clause-sound
returns-else-has_place-clause-sound g c = rw (← c.self.view_is) (IsNamed-tree c.self.inside.tree c.self.inside.insertions c.self.invariant)
