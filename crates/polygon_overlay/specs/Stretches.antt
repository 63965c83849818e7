-- Stretches: runs of items under boxes, the longer ones behind their parts. Items are edges of a contour or shapes, by their points.
use Rattle.std.specs.Prelude.{◌≡◌, ◌⊎◌, ℕ, zero, suc, ◌<◌, ◌≤◌, ℤ, Bool, false, not, ◌||◌, int_lt, List, [], ◌∷◌, length, map, flat_map, take, slice_index_or, All, Contains, Vec}
use Rattle.std.specs.List.{AllZip}
use Rattle.plane_base.specs.Plane.{Point, Edge, RationalPoint}
use Rattle.segment_split.specs.Groups.{Bounds, LiesWithin}
use Rattle.segment_arrangement.specs.EdgeSides.{differ}
use Rattle.contour_walk.specs.Walks.{contour_edges}
use Rattle.polygon_overlay.specs.Location.{in_shape, is_on_edge}
use Rattle.polygon_overlay.specs.LocationViews.{are_odd_below}
use Rattle.polygon_overlay.specs.PointBoxes.{bounds_of}
use Rattle.polygon_overlay.specs.declared.point_location.outline.Outline.{Outline}
use Rattle.polygon_overlay.specs.declared.point_location.shape_index.Placed.{Placed}
use Rattle.polygon_overlay.specs.declared.point_location.shape_index.ShapeIndex.{ShapeIndex}
use Rattle.polygon_overlay.specs.declared.point_location.stretches.Look.{Look}
use Rattle.polygon_overlay.specs.declared.point_location.stretches.Stretch.{Stretch}

-- ---- a list of stretches

abbrev pub end_of : {I : Type 0} → Stretch I → ℕ
end_of s = s.end

-- where the stretches before a number end
abbrev pub end_before : {I : Type 0} → List (Stretch I) → ℕ → ℕ
end_before all zero = 0
end_before all (suc n) = slice_index_or (map end_of all) n 0

-- The stretch has the items from its first up to its end, with all their points in its box. It stands behind its parts: the last of them ends
-- where it does, and what stands before them ends where it begins.
pub record IsStretch {I : Type 0} (value : I → ℤ) (items : List (List Point)) (all : List (Stretch I)) (n : ℕ) (s : Stretch I) : Type 0 where
  pub some : s.first < s.end
  pub within : s.end ≤ length items
  pub boxed : (k : ℕ) (d : List Point) → s.first ≤ k → k < s.end → All (LiesWithin (bounds_of value s.bounds)) (slice_index_or items k d)
  pub earlier : s.from ≤ n
  pub parts : s.from < n → end_before all n ≡ s.end
  pub goes_on : end_before all s.from ≡ s.first

abbrev pub AreStretches : {I : Type 0} → (I → ℤ) → List (List Point) → List (Stretch I) → Type 0
AreStretches {I} value items all = (n : ℕ) (d : Stretch I) → n < length all → IsStretch value items all n (slice_index_or all n d)

-- More stretches over the same items, of which the last ends where the last one did.
pub record JoinsOn {I : Type 0} (value : I → ℤ) (old new : List (Stretch I)) : Type 0 where
  pub stretches : (items : List (List Point)) → AreStretches value items old → AreStretches value items new
  pub end : end_before new (length new) ≡ end_before old (length old)

-- Where a look at a stretch leads: to its last part, or past it.
abbrev pub LooksPast : {I : Type 0} → ℕ → Stretch I → (Bool → Type 0) → Look → Type 0
LooksPast number s Tells look = ((look.left ≡ number) × (s.from < number) × (look.is_so ≡ false)) ⊎ ((look.left ≡ s.from) × Tells look.is_so)

-- ---- boxes and points

-- no edge in the box passes below the point: it lies beside the box, or not above its bottom
abbrev pub is_clear : Bounds → Point → Bool
is_clear b p = (int_lt p.x b.left || not (int_lt p.x b.right)) || not (int_lt b.bottom p.y)

-- or the box lies below it: then no closed contour in the box has it inside
abbrev pub is_off : Bounds → Point → Bool
is_off b p = is_clear b p || int_lt b.top p.y

-- the point lies outside of the box, on none of its sides
abbrev pub is_outside : Bounds → Point → Bool
is_outside b p = (int_lt p.x b.left || int_lt b.right p.x) || (int_lt p.y b.bottom || int_lt b.top p.y)

-- it holds of none from a place up to another
abbrev pub NoneBetween : {A : Type 0} → (A → Bool) → List A → ℕ → ℕ → Type 0
NoneBetween {A} holds xs first end = (k : ℕ) (d : A) → first ≤ k → k < end → holds (slice_index_or xs k d) ≡ false

-- ---- contours

-- the ends of an edge
abbrev pub ends_of : Edge → List Point
ends_of s = s.a ∷ s.b ∷ []

-- the ends of each edge of a contour
abbrev pub edge_ends : List Point → List (List Point)
edge_ends c = map ends_of (contour_edges c)

-- The parity of the edges from a place up to another that pass below the point.
abbrev pub IsParityBetween : List Edge → RationalPoint → ℕ → ℕ → Bool → Type 0
IsParityBetween es p first end odd = are_odd_below (take end es) p ≡ differ (are_odd_below (take first es) p) odd

-- A contour's box has all its points, and its stretches are such of its edges.
pub record IsOutlined {I : Type 0} (value : I → ℤ) (c : List Point) (o : Outline I) : Type 0 where
  pub bounds : All (LiesWithin (bounds_of value o.bounds)) c
  pub stretches : AreStretches value (edge_ends c) o.stretches.items

-- ---- shapes

-- each contour of each shape is outlined
abbrev pub AreOutlined : {I A : Type 0} → (I → ℤ) → List (List (List Point)) → List (Vec (Outline I) A) → Type 0
AreOutlined value shapes outlines = AllZip (λ cs os. AllZip (IsOutlined value) cs os.items) shapes outlines

abbrev pub number_of : Placed → ℕ
number_of s = s.number

-- the points of each shape, in this order
abbrev pub points_by : List (List (List Point)) → List Placed → List (List Point)
points_by shapes order = map (λ s. flat_map (λ c. c) (slice_index_or shapes s.number [])) order

-- Each contour is outlined, the order has all shapes, and the fields are stretches of them in it.
pub record IsIndexed {I : Type 0} (value : I → ℤ) (shapes : List (List (List Point))) (index : ShapeIndex I) : Type 0 where
  pub outlined : AreOutlined value shapes index.outlines.items
  pub inside : All (λ s. s.number < length shapes) index.order.items
  pub each : (n : ℕ) → n < length shapes → Contains (map number_of index.order.items) n
  pub fields : AreStretches value (points_by shapes index.order.items) index.fields.items

-- None of the shapes from a place in the order up to another has the point inside.
abbrev pub NoneContains : List (List (List Point)) → List Placed → RationalPoint → ℕ → ℕ → Type 0
NoneContains shapes order p first end = NoneBetween (λ s. in_shape (slice_index_or shapes s.number []) p) order first end

-- None of them has it on an edge.
abbrev pub NoneBorders : List (List (List Point)) → List Placed → RationalPoint → ℕ → ℕ → Type 0
NoneBorders shapes order p first end = NoneBetween (λ s. is_on_edge (slice_index_or shapes s.number []) p) order first end
