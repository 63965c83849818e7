use Rattle.std.proofs.Common.{◌≡◌, List, length}
use Rattle.plane_base.specs.Plane.{Edge}
use Rattle.segment_split.specs.MarkLists.{SkipsTo}
use Rattle.segment_split.proofs.maps.unchanged.tell_new.Given as goal

-- Up to this number what is told is right.
abbrev pub invariant-loop-number : goal.invariant-loop-number
invariant-loop-number l =
    (es old : List Edge) → SkipsTo es old l.fn.next_new.items l.from → SkipsTo es old l.next_new.items l.number × (length l.next_new.items ≡ l.number)
