-- What two rules that fill alike have in common.
use Rattle.std.specs.Prelude.{◌≡◌, ℤ, pos, List}
use Rattle.plane_base.specs.Counts.{Count, Entry}
use Rattle.plane_base.specs.Regions.{FillRule, AtLeast, Positive, OverlayRule, is_filled}
use Rattle.segment_split.specs.Strings.{StringCount}
use Rattle.segment_arrangement.specs.EdgeSides.{boundary}
use Rattle.segment_arrangement.specs.Graphs.{all_links, boundary_links}
use Rattle.segment_arrangement.specs.Strings.{all_string_links}

-- They fill the same windings.
abbrev pub FillAlike : FillRule → FillRule → Type 0
FillAlike fill other = (w : ℤ) → is_filled fill w ≡ is_filled other w

-- At least once is above 0.
abbrev pub OnceIsPositive : Type 0
OnceIsPositive = FillAlike (AtLeast (pos 1)) Positive

-- Rules that fill alike give a map, and a string map, the same links, and each overlay rule the same boundary.
pub record AlikeRulesLinkAlike : Type 0 where
  pub bounds : (fill other : FillRule) (rule : OverlayRule) (es : List (Entry Count)) → FillAlike fill other
      → boundary fill rule es ≡ boundary other rule es
  pub all : (fill other : FillRule) (es : List (Entry Count)) → FillAlike fill other → all_links fill es ≡ all_links other es
  pub of_boundary : (fill other : FillRule) (rule : OverlayRule) (es : List (Entry Count)) → FillAlike fill other
      → boundary_links fill rule es ≡ boundary_links other rule es
  pub of_strings : (fill other : FillRule) (es : List (Entry StringCount)) → FillAlike fill other
      → all_string_links fill es ≡ all_string_links other es
