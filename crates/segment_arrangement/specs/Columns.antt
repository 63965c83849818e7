-- What lies below an edge at a column.
use Rattle.std.specs.Prelude.{ℤ, pos, Bool, cond, ◌&&◌, int_le, int_lt, List}
use Rattle.plane_base.specs.Plane.{Edge}
use Rattle.plane_base.specs.Counts.{Count, Entry}
use Rattle.plane_base.specs.Segments.{precedes}
use Rattle.plane_base.specs.Totals.{total}

-- the sum of the counts on the edges that pass the test
abbrev pub sum_of : (Edge → Bool) → List (Entry Count) → Count
sum_of test es = record {
  subject = total (λ e. cond (test e.edge) e.count.subject (pos 0)) es;
  clip = total (λ e. cond (test e.edge) e.count.clip (pos 0)) es;
}

-- the count of nothing
abbrev pub no_count : Count
no_count = record { subject = pos 0; clip = pos 0 }

-- the edge reaches over the column x
abbrev pub is_live : ℤ → Edge → Bool
is_live x s = int_le s.a.x x && int_lt x s.b.x

-- Over the column x, the sum of the counts on the edges that pass below s. An edge doesn't pass below itself.
abbrev pub below : List (Entry Count) → Edge → ℤ → Count
below es s x = sum_of (λ t. is_live x t && precedes t s) es
