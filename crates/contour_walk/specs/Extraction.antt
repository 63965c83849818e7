-- The answer that is extracted from a graph: from its links with their fills.
use Rattle.std.specs.Prelude.{◌≡◌, ◌⊎◌, List, map, filter}
use Rattle.plane_base.specs.Counts.{Count, Entry}
use Rattle.plane_base.specs.Regions.{FillRule, OverlayRule}
use Rattle.segment_arrangement.specs.Graphs.{Link, all_links, boundary_links}
use Rattle.segment_arrangement.specs.Fills.{holds_above, tells_apart}
use Rattle.contour_walk.specs.Walks.{Border}
use Rattle.contour_walk.specs.WalkLaws.{borders}

abbrev pub border_of_link : OverlayRule → Link → Border
border_of_link rule l = record { edge = l.edge; above = holds_above rule l.fill }

-- the links that bound the rule's region, by their fills
abbrev pub borders_of_links : OverlayRule → List Link → List Border
borders_of_links rule ls = map (border_of_link rule) (filter (λ l. tells_apart rule l.fill) ls)

-- The fills of links tell the boundary: from the links of all edges, and from those that were built for the same rule.
pub record FillsTellBorders : Type 0 where
  pub of_all : (fill : FillRule) (rule : OverlayRule) (es : List (Entry Count)) → borders_of_links rule (all_links fill es) ≡ borders fill rule es
  pub of_boundary : (fill : FillRule) (rule : OverlayRule) (es : List (Entry Count)) →
      borders_of_links rule (boundary_links fill rule es) ≡ borders fill rule es

-- The links are those of all edges of the map, or those that bound the rule's region.
abbrev pub AreLinksFor : FillRule → OverlayRule → List (Entry Count) → List Link → Type 0
AreLinksFor fill rule es links = (links ≡ all_links fill es) ⊎ (links ≡ boundary_links fill rule es)
