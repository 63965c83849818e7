-- String maps: what string counts make of the sides of edges, and the links of edges with their fills.
use Rattle.std.specs.Prelude.{ℕ, ◌+◌, ◌*◌, ◌+ℤ◌, pos, Bool, cond, ◌&&◌, ◌||◌, List, map}
use Rattle.plane_base.specs.Counts.{Count, Entry}
use Rattle.plane_base.specs.Regions.{FillRule, is_filled}
use Rattle.segment_split.specs.RedrawLaws.{with_counts}
use Rattle.segment_split.specs.Strings.{StringCount, mask_of}
use Rattle.segment_arrangement.specs.EdgeSides.{bit, lower_side}
use Rattle.segment_arrangement.specs.Fills.{has}
use Rattle.segment_arrangement.specs.Graphs.{Link}

-- From side to side a string count adds its subject alone.
abbrev pub subject_alone : StringCount → Count
subject_alone c = record { subject = c.subject; clip = pos 0 }

-- The subject of a string map: its edges, each as often as the subject runs along it. Its sides are those of the string map.
abbrev pub subject_of : List (Entry StringCount) → List (Entry Count)
subject_of es = with_counts subject_alone es

-- 1 and 2 where the subject fills the upper and the lower side, 4 and 8 where a line runs forward and where one runs back
abbrev pub string_fill : FillRule → Count → StringCount → ℕ
string_fill rule lower c = (bit (is_filled rule (lower.subject +ℤ c.subject)) 1 + bit (is_filled rule lower.subject) 2) + 4 * mask_of c

-- ---- the graph of a string map

abbrev pub string_link_of : FillRule → List (Entry StringCount) → Entry StringCount → Link
string_link_of fill es e = record { edge = e.edge; fill = string_fill fill (lower_side (subject_of es) e.edge) e.count }

-- the links of all edges, in order
abbrev pub all_string_links : FillRule → List (Entry StringCount) → List Link
all_string_links fill es = map (string_link_of fill es) es

-- ---- what a fill tells of its edge

-- a line runs along it
abbrev pub has_line : ℕ → Bool
has_line fill = has 4 fill || has 8 fill

-- The subject fills both of its sides or, where the boundary counts in, one of them at least.
abbrev pub is_in_subject : Bool → ℕ → Bool
is_in_subject with_boundary fill = cond with_boundary (has 1 fill || has 2 fill) (has 1 fill && has 2 fill)
