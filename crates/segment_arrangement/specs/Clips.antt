-- What a clip rule keeps of a string map.
use Rattle.std.specs.Prelude.{ℕ, Bool, ◌&&◌, List, filter}
use Rattle.plane_base.specs.Counts.{Entry}
use Rattle.plane_base.specs.Regions.{FillRule}
use Rattle.segment_split.specs.Strings.{StringCount}
use Rattle.segment_arrangement.specs.EdgeSides.{differ}
use Rattle.segment_arrangement.specs.Graphs.{Link}
use Rattle.segment_arrangement.specs.Strings.{all_string_links, has_line, is_in_subject}
use Rattle.segment_arrangement.specs.declared.clip_rule.ClipRule.{ClipRule}

-- A line runs along an edge with this fill, and the edge is in the subject or, inverted, isn't.
abbrev pub keeps : ClipRule → ℕ → Bool
keeps clip fill = has_line fill && differ (is_in_subject clip.boundary_included fill) clip.invert

-- the links that are kept, in order
abbrev pub clip_links : FillRule → ClipRule → List (Entry StringCount) → List Link
clip_links fill clip es = filter (λ l. keeps clip l.fill) (all_string_links fill es)
