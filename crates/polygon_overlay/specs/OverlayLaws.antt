-- What overlays keep to when their contours are given otherwise.
use Rattle.std.specs.Prelude.{◌≡◌, ℤ, Bool, Option, Some, None, List, [], ◌∷◌, ◌++◌, map, flat_map, reverse, All, IsPermutation}
use Rattle.std.specs.List.{AllZip}
use Rattle.plane_base.specs.Plane.{Point, IsWithin}
use Rattle.plane_base.specs.Cycles.{SameCycle}
use Rattle.plane_base.specs.Counts.{Count, Entry, boolean, one_subject, one_clip}
use Rattle.plane_base.specs.Given.{laid}
use Rattle.plane_base.specs.Regions.{FillRule, EvenOdd, NonZero, Positive, Negative, AtLeast}
use Rattle.plane_base.specs.Regions.{OverlayRule, Subject, Clip, Intersect, Union, Difference, InverseDifference, Xor}
use Rattle.segment_split.specs.declared.solver.Precision.{Precision}
use Rattle.segment_split.specs.declared.solver.Solver.{Solver}
use Rattle.contour_walk.specs.Answering.{Answering, answer_with}
use Rattle.contour_walk.specs.WalkLaws.{borders}
use Rattle.contour_walk.specs.declared.options.IntOverlayOptions.{IntOverlayOptions}
use Rattle.segment_split.specs.Adding.{IsTaken, Adds, AddsAll}
use Rattle.polygon_overlay.specs.Builders.{IsHeld, HoldsBoth}
use Rattle.polygon_overlay.specs.Asking.{IsAnswered}
use Rattle.polygon_overlay.specs.Overlays.{redrawn_of}

-- The edges of these contours are held, in any order: each contour with all its points, or thinned.
pub record HoldsContours (keep_all : Bool) (subjects clips : List (List Point)) (held : List (Entry Count)) : Type 0 where
  pub taken_subjects : List (List Point)
  pub taken_clips : List (List Point)
  pub are_subjects : AllZip (IsTaken keep_all) subjects taken_subjects
  pub are_clips : AllZip (IsTaken keep_all) clips taken_clips
  pub is : IsPermutation (flat_map (laid boolean one_subject) taken_subjects ++ flat_map (laid boolean one_clip) taken_clips) held

-- A new builder holds no contours, one made of sources holds theirs, and adders add to what is held, whether one contour or those of
-- a source, to subject or clip, in any order.
pub record HoldingGoesOn : Type 0 where
  pub of_none : (keep_all : Bool) → HoldsContours keep_all [] [] []
  pub of_both :
      (keep_all : Bool) (subjects clips : List (List Point)) (held : List (Entry Count)) → HoldsBoth keep_all subjects clips held
      → HoldsContours keep_all subjects clips held
  pub of_subjects :
      (keep_all : Bool) (subjects clips more : List (List Point)) (held after : List (Entry Count)) → HoldsContours keep_all subjects clips held
      → AddsAll boolean one_subject keep_all more held after → HoldsContours keep_all (subjects ++ more) clips after
  pub of_clips :
      (keep_all : Bool) (subjects clips more : List (List Point)) (held after : List (Entry Count)) → HoldsContours keep_all subjects clips held
      → AddsAll boolean one_clip keep_all more held after → HoldsContours keep_all subjects (clips ++ more) after
  pub of_subject :
      (keep_all : Bool) (subjects clips : List (List Point)) (contour : List Point) (held after : List (Entry Count)) →
      HoldsContours keep_all subjects clips held → Adds boolean one_subject keep_all contour held after
      → HoldsContours keep_all (subjects ++ contour ∷ []) clips after
  pub of_clip :
      (keep_all : Bool) (subjects clips : List (List Point)) (contour : List Point) (held after : List (Entry Count)) →
      HoldsContours keep_all subjects clips held → Adds boolean one_clip keep_all contour held after
      → HoldsContours keep_all subjects (clips ++ contour ∷ []) after

-- Contours in range are held as a builder keeps edges: in range, each counting for something, and balanced. So what is said of all that builders
-- hold is true of the contours that one call takes.
abbrev pub SourcesAreHeld : Type 0
SourcesAreHeld =
    (least greatest : ℤ) (keep_all : Bool) (subjects clips : List (List Point)) (held : List (Entry Count)) →
    All (All (IsWithin least greatest)) subjects → All (All (IsWithin least greatest)) clips → HoldsContours keep_all subjects clips held
    → IsHeld least greatest held

-- what `overlay` answers for the edges that are held
abbrev pub overlay_of : Answering → FillRule → OverlayRule → Precision → List (Entry Count) → List (List (List Point))
overlay_of o fill rule precision held = answer_with o (borders fill rule (redrawn_of precision held))

-- ---- strategies

-- The answer is told by the precision alone: whatever the strategies, two solvers of one precision have the same contours in the
-- same order.
abbrev pub StrategiesAgree : Type 0
StrategiesAgree =
    (solver other : Solver) (o : Answering) (fill : FillRule) (rule : OverlayRule) (held : List (Entry Count))
    (shapes others : List (List (List Point))) →
    solver.precision ≡ other.precision → shapes ≡ overlay_of o fill rule solver.precision held
    → others ≡ overlay_of o fill rule other.precision held → shapes ≡ others

-- ---- widths

-- The answer doesn't depend on the type of the coordinates: whatever their ranges, two builders that hold the same edges answer by equal
-- options with the same contours in the same order.
abbrev pub WidthsAgree : Type 0
WidthsAgree =
    (least greatest low high : ℤ) (options : IntOverlayOptions) (fill : FillRule) (rule : OverlayRule) (precision : Precision)
    (held : List (Entry Count)) (shapes others : List (List (List Point))) →
    IsAnswered least greatest options fill rule precision held shapes → IsAnswered low high options fill rule precision held others
    → shapes ≡ others

-- ---- order and starts

-- the same contours in any order, each begun anywhere
pub record AreSameContours (cs ds : List (List Point)) : Type 0 where
  pub between : List (List Point)
  pub starts : AllZip SameCycle cs between
  pub order : IsPermutation between ds

-- It matters neither in which order contours come nor where each starts.
abbrev pub OrderDoesNotMatter : Type 0
OrderDoesNotMatter =
    (input : Bool) (subjects clips subjects' clips' : List (List Point)) (held held' : List (Entry Count)) →
    HoldsContours input subjects clips held → HoldsContours input subjects' clips' held' →
    AreSameContours subjects subjects' → AreSameContours clips clips' →
    (o : Answering) (fill : FillRule) (rule : OverlayRule) (precision : Precision)
    → overlay_of o fill rule precision held ≡ overlay_of o fill rule precision held'

-- ---- reversal

-- what fills the negated windings, where one of the rules does
abbrev pub opposite : FillRule → Option FillRule
opposite EvenOdd = Some EvenOdd
opposite NonZero = Some NonZero
opposite Positive = Some Negative
opposite Negative = Some Positive
opposite (AtLeast n) = None

-- With all contours reversed, `EvenOdd` and `NonZero` answer the same, and `Positive` and `Negative` change places. Of `AtLeast` this says
-- nothing.
abbrev pub ReversalExchangesSigns : Type 0
ReversalExchangesSigns =
    (input : Bool) (subjects clips : List (List Point)) (held held' : List (Entry Count)) →
    HoldsContours input subjects clips held → HoldsContours input (map reverse subjects) (map reverse clips) held' →
    (o : Answering) (fill other : FillRule) (rule : OverlayRule) (precision : Precision) → opposite fill ≡ Some other
    → overlay_of o fill rule precision held' ≡ overlay_of o other rule precision held

-- ---- exchange

-- what the rule asks of subject and clip, asked of clip and subject
abbrev pub exchanged : OverlayRule → OverlayRule
exchanged Subject = Clip
exchanged Clip = Subject
exchanged Intersect = Intersect
exchanged Union = Union
exchanged Difference = InverseDifference
exchanged InverseDifference = Difference
exchanged Xor = Xor

-- With subject and clip exchanged, `Union`, `Intersect` and `Xor` answer the same, and `Difference` and `InverseDifference`
-- change places.
abbrev pub ExchangeExchangesRules : Type 0
ExchangeExchangesRules =
    (input : Bool) (subjects clips : List (List Point)) (held held' : List (Entry Count)) →
    HoldsContours input subjects clips held → HoldsContours input clips subjects held' →
    (o : Answering) (fill : FillRule) (rule : OverlayRule) (precision : Precision)
    → overlay_of o fill rule precision held' ≡ overlay_of o fill (exchanged rule) precision held
