-- What masks are checked for, and enclosures.
use Rattle.std.specs.Prelude.{ℤ, pos, ◌≤ℤ◌, List}
use Rattle.polygon_overlay.specs.BindingLaws.{all_contours}
use Rattle.polygon_overlay.specs.Builders.{default_options, default_precision}
use Rattle.polygon_overlay.specs.Calls.{AreInRange}
use Rattle.polygon_overlay.specs.Checks.{IsNear, IsSide, evenly}
use Rattle.polygon_overlay.specs.Fault.{Fault}
use Rattle.polygon_overlay.specs.Plane.{Point, RationalPoint, IsRational}
use Rattle.polygon_overlay.specs.Regions.{NonZero}
use Rattle.polygon_overlay.specs.Singles.{IsSingleRefused}
use Rattle.polygon_overlay.specs.Sizing.{IsFilledBy, WindWhere}
use Rattle.polygon_overlay.specs.SizingCalls.{AreSized, IsNotSized, Fits}
use Rattle.polygon_overlay.specs.Tiles.{AreRectilinear}

-- ---- enclosures

-- A point that the outer mask doesn't hold, and that is no further than the distance from some point of the inner one.
pub record IsEnclosureError (distance : ℤ) (Inner Outer : RationalPoint → Type 0) (p : RationalPoint) : Type 0 where
  pub near : (m : RationalPoint) × IsRational m × IsNear distance p m × Inner m
  pub outside : Outer p → ⊥

-- The shapes wind once round each point that is an error, and round no other.
abbrev pub AreEnclosureErrors : ℤ → List (List Point) → List (List Point) → List (List (List Point)) → Type 0
AreEnclosureErrors distance inner outer shapes =
    WindWhere (pos 1) (IsEnclosureError distance (IsFilledBy NonZero inner) (IsFilledBy NonZero outer)) (all_contours shapes)

-- ---- what can be checked

-- Edges in range, horizontal or vertical.
pub record IsMask (least greatest : ℤ) (mask : List (List Point)) : Type 0 where
  pub in_range : AreInRange least greatest mask
  pub straight : AreRectilinear mask

-- A width or a space, and a mask whose points keep so far from the ends of the range.
pub record CanBeChecked (least greatest side : ℤ) (mask : List (List Point)) : Type 0 where
  pub is_side : IsSide least greatest side
  pub is_mask : IsMask least greatest mask
  pub room : Fits least greatest (evenly side) mask

-- A distance of 0 or more, two masks, and points of the inner one that keep so far from the ends of the range.
pub record CanBeEnclosed (least greatest distance : ℤ) (inner outer : List (List Point)) : Type 0 where
  pub some : pos 0 ≤ℤ distance
  pub inner_mask : IsMask least greatest inner
  pub outer_mask : IsMask least greatest outer
  pub room : Fits least greatest (evenly distance) inner

-- ---- how enclosures are checked

-- the shapes wind once round each point that the one has without the other, and round no other
abbrev pub AreRest : List (List Point) → List (List Point) → List (List (List Point)) → Type 0
AreRest one other shapes = WindWhere (pos 1) (λ p. IsFilledBy NonZero one p × (IsFilledBy NonZero other p → ⊥)) (all_contours shapes)

-- The inner mask wasn't grown, or the overlay of what came of it with the outer one was refused.
pub data AreNoEnclosures (least greatest distance : ℤ) (inner outer : List (List Point)) (fault : Fault) : Type 0 where
  of_grown :
      IsNotSized least greatest (evenly distance) default_options NonZero default_precision inner fault
      → AreNoEnclosures least greatest distance inner outer fault
  of_rest :
      (grown : List (List (List Point))) → AreSized least greatest (evenly distance) default_options NonZero default_precision inner grown →
      IsSingleRefused (all_contours grown) outer fault → AreNoEnclosures least greatest distance inner outer fault
