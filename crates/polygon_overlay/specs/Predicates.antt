-- The table of predicates, over the links of all redrawn edges, each with its fill: 1 and 2 where the subject fills its upper and its
-- lower side, 4 and 8 where the clip does.
use Rattle.std.specs.Prelude.{ℕ, Bool, cond, not, ◌&&◌, ◌||◌, List, [], ◌∷◌, flat_map}
use Rattle.polygon_overlay.specs.declared.relate.Relations.{Relations}
use Rattle.std.specs.List.{list_any, list_all}
use Rattle.std.specs.Ordering.{is_eq}
use Rattle.plane_base.specs.Plane.{Point, point_order}
use Rattle.segment_arrangement.specs.EdgeSides.{differ}
use Rattle.segment_arrangement.specs.Fills.{has}
use Rattle.segment_arrangement.specs.Graphs.{Link}

-- ---- one fill

-- subject and clip both fill some side, be it the same or not
abbrev pub is_shared : ℕ → Bool
is_shared fill = has 3 fill && has 12 fill

-- both fill one side
abbrev pub is_common : ℕ → Bool
is_common fill = (has 1 fill && has 4 fill) || (has 2 fill && has 8 fill)

-- each side that the subject fills the clip fills
abbrev pub is_inside : ℕ → Bool
is_inside fill = (not (has 1 fill) || has 4 fill) && (not (has 2 fill) || has 8 fill)

-- each side that the clip fills the subject fills
abbrev pub is_covered : ℕ → Bool
is_covered fill = (not (has 4 fill) || has 1 fill) && (not (has 8 fill) || has 2 fill)

-- the subject fills exactly one side, and the clip none
abbrev pub is_subjects_own : ℕ → Bool
is_subjects_own fill = differ (has 1 fill) (has 2 fill) && not (has 12 fill)

-- the clip fills exactly one side, and the subject none
abbrev pub is_clips_own : ℕ → Bool
is_clips_own fill = differ (has 4 fill) (has 8 fill) && not (has 3 fill)

-- ---- links

abbrev pub some : (ℕ → Bool) → List Link → Bool
some test links = list_any (λ l. test l.fill) links

abbrev pub each : (ℕ → Bool) → List Link → Bool
each test links = list_all (λ l. test l.fill) links

-- the ends of the links whose fills pass
abbrev pub ends_where : (ℕ → Bool) → List Link → List Point
ends_where test links = flat_map (λ l. cond (test l.fill) (l.edge.a ∷ l.edge.b ∷ []) []) links

-- a point of one list is a point of the other
abbrev pub share_point : List Point → List Point → Bool
share_point ps qs = list_any (λ p. list_any (λ q. is_eq (point_order p q)) qs) ps

-- an end of a link of the subject's own is an end of one of the clip's own
abbrev pub ends_coincide : List Link → Bool
ends_coincide links = share_point (ends_where is_subjects_own links) (ends_where is_clips_own links)

-- ---- the table

abbrev pub interiors_intersect : List Link → Bool
interiors_intersect links = some is_common links

abbrev pub intersects : List Link → Bool
intersects links = some is_shared links || ends_coincide links

abbrev pub touches : List Link → Bool
touches links = intersects links && not (interiors_intersect links)

abbrev pub point_intersects : List Link → Bool
point_intersects links = not (some is_shared links) && ends_coincide links

-- (nothing is within anything)
abbrev pub within : List Link → Bool
within links = some (has 3) links && each is_inside links

abbrev pub disjoint : List Link → Bool
disjoint links = not (intersects links)

-- (the clip is within the subject)
abbrev pub covers : List Link → Bool
covers links = some (has 12) links && each is_covered links

-- all of them
abbrev pub relations_of : List Link → Relations
relations_of links = record {
  intersects = intersects links;
  interiors_intersect = interiors_intersect links;
  touches = touches links;
  point_intersects = point_intersects links;
  within = within links;
  disjoint = disjoint links;
  covers = covers links;
}
