-- The steps that a clip keeps.
use Rattle.std.specs.Prelude.{Bool, cond, List, [], ◌∷◌, ◌++◌, filter, flat_map}
use Rattle.plane_base.specs.Plane.{Edge}
use Rattle.plane_base.specs.Counts.{Entry}
use Rattle.plane_base.specs.Regions.{FillRule}
use Rattle.segment_split.specs.Strings.{StringCount}
use Rattle.segment_arrangement.specs.Clips.{keeps}
use Rattle.segment_arrangement.specs.Strings.{string_link_of}
use Rattle.segment_arrangement.specs.declared.clip_rule.ClipRule.{ClipRule}
use Rattle.polygon_strings.specs.Clips.{turned}

-- the steps of lines along an edge: from a to b where a line runs back, from b to a where one runs forward
abbrev pub line_steps : Entry StringCount → List Edge
line_steps e = cond e.count.back (e.edge ∷ []) [] ++ cond e.count.forward (turned e.edge ∷ []) []

-- a line runs along the edge, and the clip rule keeps it
abbrev pub is_kept : FillRule → ClipRule → List (Entry StringCount) → Entry StringCount → Bool
is_kept fill clip es e = keeps clip (string_link_of fill es e).fill

-- of each edge of the map that the rule keeps, the steps of lines
abbrev pub kept_steps : FillRule → ClipRule → List (Entry StringCount) → List Edge
kept_steps fill clip es = flat_map line_steps (filter (is_kept fill clip es) es)
