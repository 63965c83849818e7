-- The owners of holes, and shapes while holes are joined to them.
use Rattle.std.specs.Prelude.{◌≡◌, ◌<◌, ◌≤◌, ℕ, zero, suc, Bool, true, false, cond, List, [], ◌∷◌, map, length, Option, Some, None, slice_index_or}
use Rattle.plane_base.specs.Plane.{Point}
use Rattle.plane_base.specs.Counts.{Count, Entry}
use Rattle.plane_base.specs.Regions.{FillRule, OverlayRule}
use Rattle.segment_arrangement.specs.SideLaws.{IsArrangement}
use Rattle.contour_walk.specs.WalkLaws.{borders, PassAll}
use Rattle.contour_walk.specs.Walks.{Border, Contour}
use Rattle.contour_walk.specs.Binding.{Owned, contour_at, hole_owner}
use Rattle.contour_walk.specs.BindingLaws.{PassOnce, AnchorsTell}
use Rattle.contour_walk.specs.ShapeViews.{contour_below}
use Rattle.contour_walk.specs.Shapes.{holes_from}

-- each hole stands with its owner; nothing is said of outlines
abbrev pub AreOwners : List Border → List Contour → List (Option ℕ) → Type 0
AreOwners links cs owners =
    (n : ℕ) (c : Contour) (d : Option ℕ) → contour_at cs n ≡ Some c → c.is_hole ≡ true → slice_index_or owners n d ≡ hole_owner links cs (length cs) n

-- For each contour from n on a place: an outline's has its shape with those holes that are among the first contours, a hole's is empty.
abbrev pub places_from : List Border → List Contour → List Contour → ℕ → List Contour → List (List (List Point))
places_from links contours first n [] = []
places_from links contours first n (c ∷ cs) =
    cond c.is_hole [] (c.points ∷ holes_from links contours n zero first) ∷ places_from links contours first (suc n) cs

-- Of contours some of which were emptied: as many, each still an outline or a hole, and the holes from n on as they were.
abbrev pub HoldsHoles : ℕ → List Contour → List Contour → Type 0
HoldsHoles n cs ds =
    (length ds ≡ length cs)
    × ((i : ℕ) (d : Contour) → (slice_index_or ds i d).is_hole ≡ (slice_index_or cs i d).is_hole)
    × ((i : ℕ) (d : Contour) → n ≤ i → (slice_index_or cs i d).is_hole ≡ true → slice_index_or ds i d ≡ slice_index_or cs i d)

-- there is no outline but the contour of this number
abbrev pub IsOnlyOutline : List Contour → ℕ → Type 0
IsOnlyOutline cs m = (n : ℕ) (c : Contour) → contour_at cs n ≡ Some c → c.is_hole ≡ false → n ≡ m

-- the links are the boundary of an arrangement
abbrev pub IsBoundary : List Border → Type 0
IsBoundary links = (fill : FillRule) × (rule : OverlayRule) × (es : List (Entry Count)) × IsArrangement es × (links ≡ borders fill rule es)

-- The contours pass each link of a boundary once, with the region on the hand, and their anchors tell which of them are holes.
pub record RunAlong (output : Bool) (links : List Border) (cs : List Contour) : Type 0 where
  pub bounds : IsBoundary links
  pub passed : PassAll output links (map (λ c. c.points) cs)
  pub once : PassOnce links cs
  pub told : AnchorsTell links cs

-- ---- by any edges

-- the outline that is met from contour to contour downward, in so many steps at most
abbrev pub owner_below : List Owned → List Contour → ℕ → ℕ → Option ℕ
owner_below edges cs zero hole = None
owner_below edges cs (suc n) hole =
    elim (contour_below edges cs hole) [
      | None ↦ None
      | Some m ↦
          elim (contour_at cs m) [
            | None ↦ None
            | Some d ↦ cond d.is_hole (owner_below edges cs n m) (Some m)
          ]
    ]

-- the number is a hole's
abbrev pub IsHole : List Contour → ℕ → Type 0
IsHole cs n = (c : Contour) × (contour_at cs n ≡ Some c) × (c.is_hole ≡ true)

-- each hole stands with the contour that lies below its anchor
abbrev pub AreBelow : List Owned → List Contour → List (Option ℕ) → Type 0
AreBelow edges cs below = (n : ℕ) (d : Option ℕ) → IsHole cs n → slice_index_or below n d ≡ contour_below edges cs n

-- each hole before this number stands with its owner, or with none where it has none
abbrev pub AreKnown : List Owned → List Contour → ℕ → List (Option ℕ) → Type 0
AreKnown edges cs before owners =
    (n : ℕ) (d : Option ℕ) → n < before → IsHole cs n → slice_index_or owners n d ≡ owner_below edges cs (length cs) n
