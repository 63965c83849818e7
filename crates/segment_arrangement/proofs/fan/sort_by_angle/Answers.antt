use Rattle.std.proofs.Common.{rules}
use Rattle.std.proofs.lemmas.Fn.{always_returns_same}
use Rattle.segment_arrangement.proofs.Fans.Order.{angles_are_ordered, less_is_left}
use Rattle.segment_arrangement.proofs.fan.sort_by_angle.Goals as goal

pub returns-clause-sorted : goal.returns-clause-sorted
returns-clause-sorted g c =
    c.sort_unstable_by.ensures.sorted _ (angles_are_ordered g.I.OverlayInt.span (λ s. s.width) (λ s. s.climb) (λ s. s.forward))
    (always_returns_same _ _ _ (λ a r f' k. (less_is_left a.0.now.width a.0.now.climb a.1.0.now.width a.1.0.now.climb r (search rules), search rules)))
