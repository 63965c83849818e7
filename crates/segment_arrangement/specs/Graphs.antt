-- The graph of an arrangement: its links, and the nodes at which they meet.
use Rattle.std.specs.Prelude.{◌≡◌, ℕ, ◌+◌, Bool, cond, List, [], ◌∷◌, ◌++◌, map}
use Rattle.std.specs.declared.cmp.Ordering.TheVariants.{Less, Equal, Greater}
use Rattle.std.specs.Ordering.{is_eq}
use Rattle.plane_base.specs.Plane.{Point, Edge, point_order}
use Rattle.plane_base.specs.Counts.{Count, Entry}
use Rattle.plane_base.specs.Regions.{FillRule, OverlayRule}
use Rattle.segment_arrangement.specs.EdgeSides.{fill_of, boundary}

-- an edge with its fill
pub record Link : Type 0 where
  pub edge : Edge
  pub fill : ℕ

abbrev pub link_of : FillRule → List (Entry Count) → Entry Count → Link
link_of fill es e = record { edge = e.edge; fill = fill_of fill es e }

-- the links of all edges, in order
abbrev pub all_links : FillRule → List (Entry Count) → List Link
all_links fill es = map (link_of fill es) es

-- the links of the boundary, in order
abbrev pub boundary_links : FillRule → OverlayRule → List (Entry Count) → List Link
boundary_links fill rule es = map (link_of fill es) (boundary fill rule es)

-- ---- nodes

-- the places of a list at which the test holds, counted from n
abbrev pub places_from : {A : Type 0} → ℕ → (A → Bool) → List A → List ℕ
places_from n test [] = []
places_from n test (x ∷ xs) = cond (test x) (n ∷ places_from (n + 1) test xs) (places_from (n + 1) test xs)

-- a point at which links meet: those that start there, then those that end there, by their places
pub record Node : Type 0 where
  pub point : Point
  pub starts : List ℕ
  pub ends : List ℕ

abbrev pub node_at : List Edge → Point → Node
node_at edges v = record {
  point = v;
  starts = places_from 0 (λ s. is_eq (point_order s.a v)) edges;
  ends = places_from 0 (λ s. is_eq (point_order s.b v)) edges;
}

-- one point more among rising ones, unless it is there
abbrev pub with_point : Point → List Point → List Point
with_point p [] = p ∷ []
with_point p (v ∷ rest) =
    elim (point_order p v) [
      | Less ↦ p ∷ v ∷ rest
      | Equal ↦ v ∷ rest
      | Greater ↦ v ∷ with_point p rest
    ]

-- the distinct ends of edges, rising
abbrev pub ends_of : List Edge → List Point
ends_of [] = []
ends_of (s ∷ rest) = with_point s.a (with_point s.b (ends_of rest))

abbrev pub nodes_of : List Edge → List Node
nodes_of edges = map (node_at edges) (ends_of edges)

-- The nodes of the edges as lists: each has the places of the edges that start there, then of those that end there.
abbrev pub AreLists : List Edge → List (List ℕ) → Type 0
AreLists edges lists = lists ≡ map (λ n. n.starts ++ n.ends) (nodes_of edges)
