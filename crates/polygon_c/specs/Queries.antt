-- What the numbers of a query stand for.
use Rattle.std.specs.Int.{w32, cast_signed}
use Rattle.std.specs.Prelude.{if◌then◌else◌, ◌≡◌, ℕ, ◌+◌, ◌*◌, ◌^◌, ◌<◌, ◌≤◌, ℤ, pos, int_le, Bool, not, ◌==◌}
use Rattle.std.specs.Prelude.{List, length, slice_index, Option, Some, None, IsSome}
use Rattle.plane_base.specs.Regions as region
use Rattle.segment_arrangement.specs.RuleViews.{fill_rule_of}
use Rattle.segment_arrangement.specs.declared.clip_rule.ClipRule.{ClipRule}
use Rattle.segment_arrangement.specs.declared.overlay_rule.OverlayRule.{OverlayRule}
use Rattle.segment_arrangement.specs.declared.overlay_rule.OverlayRule.TheVariants.{Subject, Clip, Intersect, Union, Difference, InverseDifference, Xor}
use Rattle.segment_split.specs.declared.solver.Precision.{Precision}
use Rattle.segment_split.specs.declared.solver.Strategy.{Strategy}
use Rattle.segment_split.specs.declared.solver.Strategy.TheVariants as strategy
use Rattle.contour_walk.specs.declared.contour_direction.ContourDirection.{ContourDirection}
use Rattle.contour_walk.specs.declared.contour_direction.ContourDirection.TheVariants.{CounterClockwise, Clockwise}
use Rattle.contour_walk.specs.declared.options.IntOverlayOptions.{IntOverlayOptions}
use Rattle.polygon_c.specs.declared.query.Query.{Query}
use Rattle.polygon_c.specs.declared.query.Request.{Request}
use Rattle.polygon_c.specs.declared.refusal.Refusal.{Refusal}
use Rattle.polygon_c.specs.declared.refusal.Refusal.TheVariants as refusal

abbrev pub named_rule : ℕ → Option OverlayRule
named_rule number =
    if number == 0 then Some Subject else
    if number == 1 then Some Clip else
    if number == 2 then Some Intersect else
    if number == 3 then Some Union else
    if number == 4 then Some Difference else
    if number == 5 then Some InverseDifference else
    if number == 6 then Some Xor else
    None

-- (4 asks for so many windings, 1 or more)
abbrev pub named_fill : ℕ → ℤ → Option region.FillRule
named_fill number depth =
    if number == 0 then Some region.EvenOdd else
    if number == 1 then Some region.NonZero else
    if number == 2 then Some region.Positive else
    if number == 3 then Some region.Negative else
    if number == 4 then (if int_le (pos 1) depth then Some (region.AtLeast depth) else None) else
    None

abbrev pub named_strategy : ℕ → Option Strategy
named_strategy number =
    if number == 0 then Some strategy.Auto else
    if number == 1 then Some strategy.List else
    if number == 2 then Some strategy.Tree else
    if number == 3 then Some strategy.Frag else
    None

-- the radius of the first pass, and how fast it grows, both as powers of 2
abbrev pub named_precision : ℕ → Option Precision
named_precision number =
    if number == 0 then Some (record { start = 0; progression = 1 }) else
    if number == 1 then Some (record { start = 1; progression = 1 }) else
    if number == 2 then Some (record { start = 0; progression = 2 }) else
    if number == 3 then Some (record { start = 2; progression = 2 }) else
    if number == 4 then Some (record { start = 2; progression = 3 }) else
    if number == 5 then Some (record { start = 0; progression = 0 }) else
    None

-- A flag that is 0 doesn't count.
abbrev pub counts : ℕ → Bool
counts flag = not (flag == 0)

abbrev pub direction_of : ℕ → ContourDirection
direction_of flag = if flag == 0 then CounterClockwise else Clockwise

abbrev pub options_of : Query → IntOverlayOptions
options_of q = record {
  preserve_input_collinear = counts q.keep_given_points;
  output_direction = direction_of q.clockwise;
  preserve_output_collinear = counts q.keep_points;
  min_output_area = q.least_area;
  ogc = counts q.part_contours;
}

abbrev pub clip_rule_of : Query → ClipRule
clip_rule_of q = record { invert = counts q.clip_outside; boundary_included = counts q.clip_border }

-- ---- words of 32 bits

-- how many words a query has at most
abbrev pub most_words : ℕ
most_words = 13

-- the word at a place, 0 where it is missing
abbrev pub word : List ℕ → ℕ → ℕ
word ws place = slice_index ws place

-- what words say: a number of two words, the lower first, and then one number by each
abbrev pub query_of : List ℕ → Query
query_of ws = record {
  least_area = word ws 0 + word ws 1 * 2 ^ 32;
  rule = word ws 2;
  fill = word ws 3;
  depth = cast_signed w32 (word ws 4);
  strategy = word ws 5;
  precision = word ws 6;
  clockwise = word ws 7;
  keep_given_points = word ws 8;
  keep_points = word ws 9;
  part_contours = word ws 10;
  clip_outside = word ws 11;
  clip_border = word ws 12;
}

-- All words are known.
abbrev pub AreKnown : List ℕ → Type 0
AreKnown ws = length ws ≤ most_words

-- The words stand for this.
pub record Reads (ws : List ℕ) (r : Request) : Type 0 where
  pub known : AreKnown ws
  pub rule : named_rule (query_of ws).rule ≡ Some r.overlay_rule
  pub fill : named_fill (query_of ws).fill (query_of ws).depth ≡ Some (fill_rule_of r.fill_rule)
  pub strategy : named_strategy (query_of ws).strategy ≡ Some r.solver.strategy
  pub precision : named_precision (query_of ws).precision ≡ Some r.solver.precision
  pub options : r.options ≡ options_of (query_of ws)
  pub clip_rule : r.clip_rule ≡ clip_rule_of (query_of ws)

-- Numbers of the query name something: its rule, its fill rule too, its strategy too.
abbrev pub NamesRule : Query → Type 0
NamesRule q = IsSome (named_rule q.rule)

abbrev pub NamesFill : Query → Type 0
NamesFill q = NamesRule q × IsSome (named_fill q.fill q.depth)

abbrev pub NamesStrategy : Query → Type 0
NamesStrategy q = NamesFill q × IsSome (named_strategy q.strategy)

-- There are more words than are known; or the first number that stands for nothing, in this order.
abbrev pub IsUnread : List ℕ → Refusal → Type 0
IsUnread ws refusal.Size = most_words < length ws
IsUnread ws refusal.Rule = AreKnown ws × (named_rule (query_of ws).rule ≡ None)
IsUnread ws refusal.Fill = AreKnown ws × NamesRule (query_of ws) × (named_fill (query_of ws).fill (query_of ws).depth ≡ None)
IsUnread ws refusal.Strategy = AreKnown ws × NamesFill (query_of ws) × (named_strategy (query_of ws).strategy ≡ None)
IsUnread ws refusal.Precision = AreKnown ws × NamesStrategy (query_of ws) × (named_precision (query_of ws).precision ≡ None)
IsUnread ws refusal.Memory = ⊥
IsUnread ws refusal.Count = ⊥
IsUnread ws refusal.Edges = ⊥
IsUnread ws refusal.Lengths = ⊥
IsUnread ws refusal.Range = ⊥
IsUnread ws refusal.Room = ⊥
IsUnread ws refusal.Join = ⊥
IsUnread ws refusal.Slant = ⊥
